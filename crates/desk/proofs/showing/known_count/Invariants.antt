use Rattle.desk.proofs.Loops.{Least}
use Rattle.sync_layer.specs.Seats.{seat_at}
use Rattle.desk.proofs.showing.known_count.Given as goal

abbrev pub invariant-loop-i : goal.invariant-loop-i
invariant-loop-i l = Least l.i-end (λ s. (seat_at l.seats s).last_added_count) l.least l.i
