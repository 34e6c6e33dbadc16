use Rattle.std.proofs.Common.{◌≡◌, get_or}
use Rattle.input_queue.specs.Queue.{fresh_state}
use Rattle.sync_layer.specs.Seats.{map_seats}
use Rattle.sync_layer.proofs.seats.fresh_seats.Given as goal

abbrev pub invariant-loop-i : goal.invariant-loop-i
invariant-loop-i l = l.seats ≡ map_seats l.i (λ j q. fresh_state (get_or l.delays j 0)) l.initial.seats
