use Rattle.std.proofs.Common.{◌≡◌, ◌+◌, drop}
use Rattle.compression.specs.Layout.{total}
use Rattle.compression.proofs.sums_to.Given as goal

abbrev pub invariant-loop-length : goal.invariant-loop-length
invariant-loop-length l = total l.lengths + l.rest ≡ l.n + total (drop l.length-index l.lengths)
