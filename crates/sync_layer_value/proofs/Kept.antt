-- What a call presumes of a layer by value is given by a setup and kept by every call: each is the lent call. Assumes nothing.
use Prim.Native.Nat.{ℕ, suc, ◌*◌, ◌≤◌}
use native.Mathlib.Omega.{arith}
use mathlib.Core.Path.{◌≡◌, refl}
use mathlib.Core.List.{List, [], ◌∷◌}
use lib.ListN.{length, replicate, length-replicate}
use Rattle.input_queue.specs.Ring.{queue_length}
use Rattle.sync_layer.specs.Seats.{max_seats, seat_words}
use Rattle.sync_layer.specs.Slots.{max_limit, slot_words}
use Rattle.sync_layer.specs.Runs as runs
use Rattle.sync_layer.specs.Runs.{Layer, WholeLayer, Call, advance_call, save_call, load_call, local_call, remote_call, delay_call, reset_call, request_call, confirm_call}
use Rattle.sync_layer.proofs.Kept.{opened_whole, after_whole}
use Rattle.sync_layer_value.specs.declared.SyncLayer.{SyncLayer}
use Rattle.sync_layer_value.specs.Value as held

-- the same layer with its lists lent
abbrev lent : SyncLayer → Layer
lent y = record { state = y.state; seats = y.seats; words = y.words; slots = y.slots }

pub after_lent : (y : SyncLayer) (x : Call) → lent (held.after y x) ≡ runs.after (lent y) x
unfolding held.after runs.after held.advanced held.saved held.loaded held.local held.remote held.delayed_to held.served held.confirmed
after_lent y advance_call = refl
after_lent y (save_call c) = refl
after_lent y (load_call f) = refl
after_lent y (local_call i x) = refl
after_lent y (remote_call i x) = refl
after_lent y (delay_call i d) = refl
after_lent y reset_call = refl
after_lent y (request_call gone last) = refl
after_lent y (confirm_call f sparse) = refl

opened_lent : (limit p : ℕ) (delays : List ℕ)
    → lent (held.opened limit p delays).layer
    ≡ runs.opening limit p delays (replicate (max_seats * seat_words) 0) (replicate (max_seats * queue_length) 0) (replicate (suc max_limit * slot_words) 0)
unfolding held.opened runs.opening
opened_lent limit p delays = refl

zeros_room : (n : ℕ) → n ≤ length (replicate {A = ℕ} n 0)
zeros_room n = simp length-replicate (omega arith)

as_lent : (y : SyncLayer) (z : Layer) → lent y ≡ z → WholeLayer z → held.Whole y
as_lent y z e h = rw (← e) at h

pub held_opened_whole : (limit p : ℕ) (delays : List ℕ) → held.Whole (held.opened limit p delays).layer
held_opened_whole limit p delays =
    as_lent
    (held.opened limit p delays).layer
    (runs.opening limit p delays (replicate (max_seats * seat_words) 0) (replicate (max_seats * queue_length) 0) (replicate (suc max_limit * slot_words) 0))
    (opened_lent limit p delays)
    (opened_whole
    limit
    p
    delays
    (replicate (max_seats * seat_words) 0)
    (replicate (max_seats * queue_length) 0)
    (replicate (suc max_limit * slot_words) 0)
    (zeros_room (max_seats * seat_words))
    (zeros_room (max_seats * queue_length))
    (zeros_room (suc max_limit * slot_words)))

pub held_after_whole : (y : SyncLayer) (x : Call) → held.Whole y → held.Whole (held.after y x)
held_after_whole y x h = as_lent (held.after y x) (runs.after (lent y) x) (after_lent y x) (after_whole (lent y) x h)

held_run_whole : (y : SyncLayer) (l : List Call) → held.Whole y → held.Whole (held.run y l)
unfolding held.run
held_run_whole y [] h = h
held_run_whole y (x ∷ l) h = held_run_whole (held.after y x) l (held_after_whole y x h)

-- THE CLAIM: whatever a setup and any run of calls lead to is whole.
pub held_reached_whole : (limit p : ℕ) (delays : List ℕ) (l : List Call) → held.Whole (held.run (held.opened limit p delays).layer l)
held_reached_whole limit p delays l = held_run_whole (held.opened limit p delays).layer l (held_opened_whole limit p delays)
