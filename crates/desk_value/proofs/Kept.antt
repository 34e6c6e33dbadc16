-- What a call presumes of a desk by value is given by a setup and kept by every call: each is the lent call. Assumes nothing.
use Prim.Native.Nat.{ℕ, suc, ◌*◌, ◌≤◌}
use native.Mathlib.Omega.{arith}
use mathlib.Core.Path.{◌≡◌, refl}
use mathlib.Core.List.{List, [], ◌∷◌}
use lib.ListN.{length, replicate, length-replicate}
use Rattle.frame_info.specs.Word.{predicted}
use Rattle.console.specs.Step.{step_of}
use Rattle.input_queue.specs.Ring.{queue_length}
use Rattle.sync_layer.specs.Seats.{max_seats, seat_words}
use Rattle.sync_layer.specs.Slots.{max_limit, slot_words}
use Rattle.desk.specs.Desk as m
use Rattle.desk.specs.Whole as bounds
use Rattle.desk.specs.Runs as runs
use Rattle.desk.specs.Runs.{Call, take_call, settle_call, advance_call, show_call, log_call}
use Rattle.desk.proofs.Kept.{setup_whole, after_whole}
use Rattle.desk_value.specs.declared.Desk.{Desk}
use Rattle.desk_value.specs.Value as held

pub zeros_room : (n : ℕ) → n ≤ length (replicate {A = ℕ} n 0)
zeros_room n = simp length-replicate (omega arith)

-- the desk that a call hands back is the one that the lent call leaves, with our console's step and the desk's own predictor
pub after_lent : (y : Desk) (x : Call) → held.lent (held.after y x) ≡ runs.after step_of (predicted y.state.predictor) (held.lent y) x
unfolding held.after runs.after held.taken held.settled held.advanced
after_lent y (take_call s f w) = refl
after_lent y settle_call = refl
after_lent y advance_call = refl
after_lent y (show_call f) = refl
after_lent y (log_call f room) = refl

pub opened_lent : (limit p : ℕ) (delays : List ℕ) → held.lent (held.opened limit p delays).desk ≡ m.setup_of (held.cleared limit p delays)
unfolding held.opened
opened_lent limit p delays = refl

as_lent : (y : Desk) (d : m.Desk) → held.lent y ≡ d → bounds.Whole d → held.Whole y
as_lent y d e h = rw (← e) at h

pub held_opened_whole : (limit p : ℕ) (delays : List ℕ) → held.Whole (held.opened limit p delays).desk
held_opened_whole limit p delays =
    as_lent
    (held.opened limit p delays).desk
    (m.setup_of (held.cleared limit p delays))
    (opened_lent limit p delays)
    (setup_whole
    (held.cleared limit p delays)
    (zeros_room (max_seats * seat_words))
    (zeros_room (max_seats * queue_length))
    (zeros_room (suc max_limit * slot_words)))

pub held_after_whole : (y : Desk) (x : Call) → held.Whole y → held.Whole (held.after y x)
held_after_whole y x h =
    as_lent
    (held.after y x)
    (runs.after step_of (predicted y.state.predictor) (held.lent y) x)
    (after_lent y x)
    (after_whole step_of (predicted y.state.predictor) (held.lent y) x h)

held_run_whole : (y : Desk) (l : List Call) → held.Whole y → held.Whole (held.run y l)
unfolding held.run
held_run_whole y [] h = h
held_run_whole y (x ∷ l) h = held_run_whole (held.after y x) l (held_after_whole y x h)

-- THE CLAIM: whatever a setup and any run of calls lead to is whole.
pub held_reached_whole : (limit p : ℕ) (delays : List ℕ) (l : List Call) → held.Whole (held.run (held.opened limit p delays).desk l)
held_reached_whole limit p delays l = held_run_whole (held.opened limit p delays).desk l (held_opened_whole limit p delays)
