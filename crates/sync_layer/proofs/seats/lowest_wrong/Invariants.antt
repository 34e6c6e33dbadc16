use Rattle.std.proofs.Common.{◌≡◌}
use Rattle.sync_layer.specs.Lists.{lowest_of}
use Rattle.sync_layer.specs.Seats.{seat_at}
use Rattle.sync_layer.proofs.seats.lowest_wrong.Given as goal

abbrev pub invariant-loop-i : goal.invariant-loop-i
invariant-loop-i l = l.lowest ≡ lowest_of l.i (λ j. (seat_at l.seats j).first_incorrect_count)
