-- A delay change that is refused leaves the layer as it stands. Assumes nothing.
use Prim.Native.Nat.{ℕ}
use native.Mathlib.Omega.{arith}
use mathlib.Core.Path.{◌≡◌}
use Rattle.std.specs.Prelude.{Err}
use Rattle.frame_info.specs.declared.refusal.Refusal.{Refusal}
use Rattle.frame_info.proofs.Refusals.{number_some}
use Rattle.input_queue.specs.Calls as queue
use Rattle.sync_layer.specs.Calls as calls
use Rattle.sync_layer.specs.Said as lent
use Rattle.sync_layer.proofs.Seating.{seat_kept}
use Rattle.sync_layer_value.specs.declared.SyncLayer.{SyncLayer}
use Rattle.sync_layer_value.specs.Said.{announced_said}
use Rattle.sync_layer_value.specs.Value as held

pub delay_refused : (y : SyncLayer) (i d : ℕ) (e : Refusal) → lent.announced_said (Err e) ≡ calls.delayed_to y.state y.seats y.words i d → announced_said y (Err e) ≡ held.delayed_to y i d
unfolding held.delayed_to calls.delayed_to calls.delayed_seats queue.delayed_to
delay_refused y i d e h = grind (arith, seat_kept, number_some)
