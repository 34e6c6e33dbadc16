use Rattle.std.proofs.Common.{refl}
use Rattle.sync_layer.specs.Seats.{map_seats}
use Rattle.sync_layer.proofs.Seating.{map_turn}
use Rattle.sync_layer.proofs.seats.change_seats.Goals as goal

pub loop-i-init : goal.loop-i-init
unfolding map_seats
loop-i-init g c = λ h k. refl

pub loop-i-preserved : goal.loop-i-preserved
loop-i-preserved g c =
    λ h k. map_turn (λ i q. h q) _ _ _ _ _ _ (c.loop-i.invariant h k) c.seat_at-s.ensures (k _ _ c.change.ensures) c.set_seat.ensures
