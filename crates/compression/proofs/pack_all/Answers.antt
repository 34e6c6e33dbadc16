use Rattle.compression.proofs.Packing.{packs_fits, packs_more, packs_count, packs_all}
use Rattle.compression.proofs.pack_all.Goals as goal

pub split_at-requires : goal.split_at-requires
split_at-requires c = packs_fits c.requires.0 c.requires.1 c.loop-length.invariant c.loop-length-test.true

pub loop-length-preserved : goal.loop-length-preserved
loop-length-preserved c =
    packs_more c.requires.0 c.requires.1 c.loop-length.invariant c.loop-length-test.true c.split_at.ensures.front c.split_at.ensures.back c.pack_one.ensures

pub returns : goal.returns
returns c =
    let s = c.loop-length.invariant in
    (packs_count c.requires.0 c.requires.1 s c.loop-length-test.false, packs_all c.requires.0 c.requires.1 s c.loop-length-test.false)
