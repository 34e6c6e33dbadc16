use Rattle.std.proofs.Common.{◌≡◌}
use Rattle.time_sync.specs.Sums.{sum_to, wrapped}
use Rattle.time_sync.proofs.sum.Given as goal

abbrev pub invariant-loop-entry : goal.invariant-loop-entry
invariant-loop-entry l = l.total ≡ wrapped (sum_to l.entry-index l.window)
