use Rattle.std.proofs.Common.{◌≡◌}
use Rattle.input_queue.specs.declared.QueueState.{QueueState}
use Rattle.sync_layer.specs.Seats.{map_seats}
use Rattle.sync_layer.proofs.seats.change_seats.Given as goal

abbrev pub invariant-loop-i : goal.invariant-loop-i
invariant-loop-i g l = (h : QueueState → QueueState) → ((s r : QueueState) → goal.F-post g l.change s r → r ≡ h s) → l.seats ≡ map_seats l.i (λ i q. h q) l.initial.seats
