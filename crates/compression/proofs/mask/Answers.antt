use Rattle.std.proofs.Common.{◌≡◌, arith, length-take}
use Rattle.compression.proofs.Runs.{masked_more, masked_laid, masked_all}
use Rattle.compression.proofs.mask.Goals as goal

pub loop-i-preserved : goal.loop-i-preserved
loop-i-preserved c =
    let a = c.args in
    masked_more a.out.now a.base.now a.bytes.now c.min-both.result c.loop-i.i c.min-both.ensures c.requires c.loop-i-test.true c.loop-i.invariant

pub returns-then-both-bytes : goal.returns-then-both-bytes
returns-then-both-bytes c =
    let a = c.args in
    let e : c.loop-i.i ≡ c.min-both.result = omega (arith, length-take c.min-both.result a.base.now) in
    masked_laid a.out.now a.base.now a.bytes.now c.min-both.result c.min-both.ensures (rw e at c.loop-i.invariant) c.copy_from_slice.ensures.after

pub returns-else-both-bytes : goal.returns-else-both-bytes
returns-else-both-bytes c =
    let a = c.args in
    let e : c.loop-i.i ≡ c.min-both.result = omega (arith, length-take c.min-both.result a.base.now) in
    masked_all a.out.now a.base.now a.bytes.now c.min-both.result c.min-both.ensures (rw e at c.loop-i.invariant) c.if-both-bytes.false
