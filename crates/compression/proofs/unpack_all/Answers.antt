use Rattle.std.proofs.Common.{length, ap, arith, List, ℕ, Bor}
use Rattle.compression.proofs.Unpacking.{unpacks_none, unpacks_fits, unpacks_room, unpacks_place, unpacks_turn, unpacks_bytes, unpacks_lengths, unpacks_ends}
use Rattle.compression.proofs.unpack_all.Goals as goal

pub loop-length-init : goal.loop-length-init
loop-length-init c =
    unpacks_none c.new-reader.result (ap (λ (b : Bor (List ℕ)). b.now) c.new-reader.ensures.0) c.new-reader.ensures.1 c.requires.0

pub returns : goal.returns
returns c =
    let s = c.loop-length.invariant in
    let none = unpacks_ends s c.next_record.result c.next_record.ensures c.in_default.not-Whole in
    (unpacks_bytes s none, unpacks_lengths s none)

pub body-body-requires : goal.body-body-requires
body-body-requires c = unpacks_fits c.loop-length.invariant c.in-Whole.length c.in-Whole.ensures

pub mask-requires : goal.mask-requires
mask-requires c =
    omega (arith, unpacks_room c.loop-length.invariant c.in-Whole.length c.in-Whole.ensures c.body-body.ensures c.requires.1 c.requires.2)

pub bounds-lengths-done : goal.bounds-lengths-done
bounds-lengths-done c =
    omega (arith, unpacks_place c.loop-length.invariant c.in-Whole.length c.in-Whole.ensures c.body-body.ensures c.requires.1 c.requires.2)

pub loop-length-smaller : goal.loop-length-smaller
loop-length-smaller c =
    omega (arith, unpacks_fits c.loop-length.invariant c.in-Whole.length c.in-Whole.ensures, ap length c.loop-length.invariant.held)

pub loop-length-preserved : goal.loop-length-preserved
loop-length-preserved c =
    let cut = c.split_at_mut-earlier.ensures in
    unpacks_turn c.loop-length.invariant c.in-Whole.length c.in-Whole.ensures c.body-body.ensures c.requires.1 c.requires.2 cut.front cut.back c.base_of.ensures c.mask.ensures
