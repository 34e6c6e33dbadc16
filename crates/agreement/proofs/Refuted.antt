-- Bolder claims, each refuted by a run: what the claims leave out is left out for a reason.
use Prim.Native.Nat.{ℕ, ◌+◌, ◌<◌, ◌≤◌}
use native.Mathlib.Omega.{arith}
use mathlib.Core.Path.{◌≡◌, refl, ap, sym, ◌∙◌}
use mathlib.Core.List.{List, [], ◌∷◌}
use mathlib.Core.Logic.{inl, ◌≢◌}
use Prim.{absurd}
use lib.ListN.{length, get_or, replicate}
use lib.IntN.{pos, negsuc}
use Rattle.frame_info.specs.Word.{predicted}
use Rattle.frame_info.specs.Refusal.{frame_below_zero}
use Rattle.console.specs.Step.{step_of, moved, sealed}
use Rattle.input_queue.specs.Queue.{wrong_after, predicting_after, put, fill, add, asked, answer, reset, discard}
use Rattle.input_queue.specs.Ring.{fill_words, add_words}
use Rattle.sync_layer.specs.Lists.{write_row, lowest_of}
use Rattle.sync_layer.specs.Seats.{seat_at, set_seat, map_seats}
use Rattle.sync_layer.specs.Slots.{save_slot, clear_slots}
use Rattle.sync_layer.specs.Calls.{opened_seats, opened_slots}
use Rattle.sync_layer.specs.Calls as layer
use Rattle.desk.specs.Lists.{least_of, row_of}
use Rattle.desk.specs.Desk.{Setup, setup_state, setup_of, take_answer, taken, take, load, reset_all, discard_all, confirm, one_frame, replay, corrected, settle, advance_answer, advance}
use Rattle.desk.specs.Settled.{Settles, shown_words}
use Rattle.desk.specs.Calls.{setup_answer, show_answer}
use Rattle.desk.specs.Runs.{Call, take_call, advance_call, show_call, after, run_from, run, gained, accepted_from, accepted, EitherBegins, Fit}
use Rattle.agreement.specs.Statement.{run_of, accepted_of, Held, Same}
use Rattle.agreement.specs.Tried.{answer_of}
use Rattle.agreement.proofs.Reached.{done_fit}

-- one seat with delay 0
abbrev single : ℕ → Setup
single limit = record { limit = limit; predictor = 0; delays = 0 ∷ []; seats = replicate 32 7; words = replicate 512 7; slots = replicate 256 9 }

none_fit : Fit (single 0)
unfolding setup_answer layer.fits
none_fit = done_fit (single 0) refl (omega arith) (omega arith) (omega arith)

one_fit : Fit (single 1)
unfolding setup_answer layer.fits
one_fit = done_fit (single 1) refl (omega arith) (omega arith) (omega arith)

-- the word w for frame 0, and a frame
abbrev word_calls : ℕ → List Call
word_calls w = take_call 0 (pos 0) w ∷ advance_call ∷ []

-- That two desks agree though the last seat was given other words. With one seat, nothing is then asked of its words.
abbrev LastSeatFree : Type 0
LastSeatFree = (u v : Setup) → Fit u → Fit v → u.delays ≡ v.delays → (l m : List Call)
    → ((s : ℕ) → s + 1 < length u.delays → EitherBegins (accepted_of step_of predicted u l s) (accepted_of step_of predicted v m s))
    → (f : ℕ) → Settles (run_of step_of predicted u l) f → Settles (run_of step_of predicted v m) f → Same step_of predicted u v l m f

word_settles : (w : ℕ) → Settles (run_of step_of predicted (single 1) (word_calls w)) 0
unfolding wrong_after predicting_after put fill add asked answer reset discard fill_words add_words write_row lowest_of seat_at set_seat map_seats save_slot clear_slots opened_seats opened_slots layer.fits least_of row_of setup_state setup_of take_answer taken take load reset_all discard_all confirm one_frame replay corrected settle advance_answer advance after run_from run gained accepted_from accepted predicted step_of moved sealed
word_settles w = record { past = omega arith; slot = omega arith; known = omega arith; right = inl refl }

word_shows : (w : ℕ) → shown_words (run_of step_of predicted (single 1) (word_calls w)) 0 ≡ w ∷ []
unfolding wrong_after predicting_after put fill add asked answer reset discard fill_words add_words write_row lowest_of seat_at set_seat map_seats save_slot clear_slots opened_seats opened_slots layer.fits least_of row_of setup_state setup_of take_answer taken take load reset_all discard_all confirm one_frame replay corrected settle advance_answer advance after run_from run gained accepted_from accepted predicted step_of moved sealed
word_shows w = refl

pub last_seat_matters : LastSeatFree → ⊥
last_seat_matters claim =
    let s = claim (single 1) (single 1) one_fit one_fit refl (word_calls 5) (word_calls 6) (λ s x. absurd (omega arith)) 0 (word_settles 5) (word_settles 6) in
    let e : ◌≡◌ {A = List ℕ} (5 ∷ []) (6 ∷ []) = sym (word_shows 5) ∙ s.words ∙ word_shows 6 in
    let z : ◌≡◌ {A = ℕ} 5 6 = ap (λ (l : List ℕ). get_or l 0 0) e in
    omega arith

-- That a frame is held one frame longer than it has a slot.
abbrev HeldLonger : Type 0
HeldLonger = (u : Setup) → Fit u → (l : List Call) (f : ℕ) → f < (run_of step_of predicted u l).state.current
    → (run_of step_of predicted u l).state.current ≤ f + 2 + (run_of step_of predicted u l).state.limit → Held (run_of step_of predicted u l) f

abbrev two_frames : List Call
two_frames = take_call 0 (pos 0) 5 ∷ take_call 0 (pos 1) 6 ∷ advance_call ∷ advance_call ∷ []

pub not_held_longer : HeldLonger → ⊥
unfolding wrong_after predicting_after put fill add asked answer reset discard fill_words add_words write_row lowest_of seat_at set_seat map_seats save_slot clear_slots opened_seats opened_slots layer.fits least_of row_of setup_state setup_of take_answer taken take load reset_all discard_all confirm one_frame replay corrected settle advance_answer advance after run_from run gained accepted_from accepted predicted step_of moved sealed
not_held_longer claim =
    let z : ◌≡◌ {A = ℕ} 2 1 = (claim (single 0) none_fit two_frames 0 (omega arith) (omega arith)).holds in
    omega arith

-- That an advance goes on though it is refused: with no word, a desk of limit 0 stays at frame 0.
abbrev AlwaysGoes : Type 0
AlwaysGoes = (u : Setup) → Fit u → (l : List Call)
    → (advance step_of (predicted u.predictor) (run_of step_of predicted u l)).state.current ≡ (run_of step_of predicted u l).state.current + 1

pub refused_stays : AlwaysGoes → ⊥
unfolding wrong_after predicting_after put fill add asked answer reset discard fill_words add_words write_row lowest_of seat_at set_seat map_seats save_slot clear_slots opened_seats opened_slots layer.fits least_of row_of setup_state setup_of take_answer taken take load reset_all discard_all confirm one_frame replay corrected settle advance_answer advance after run_from run gained accepted_from accepted predicted step_of moved sealed
refused_stays claim =
    let z : ◌≡◌ {A = ℕ} 0 1 = claim (single 0) none_fit [] in
    omega arith

-- That a settle settles every frame of the window, those past K too: frame 1 was guessed.
abbrev WindowSettled : Type 0
WindowSettled = (u : Setup) → Fit u → (l : List Call) (f : ℕ) → f < (run_of step_of predicted u l).state.current
    → (run_of step_of predicted u l).state.current ≤ f + 1 + (run_of step_of predicted u l).state.limit
    → Settles (settle step_of (predicted u.predictor) (run_of step_of predicted u l)) f

pub guessed_not_settled : WindowSettled → ⊥
unfolding wrong_after predicting_after put fill add asked answer reset discard fill_words add_words write_row lowest_of seat_at set_seat map_seats save_slot clear_slots opened_seats opened_slots layer.fits least_of row_of setup_state setup_of take_answer taken take load reset_all discard_all confirm one_frame replay corrected settle advance_answer advance after run_from run gained accepted_from accepted predicted step_of moved sealed
guessed_not_settled claim =
    let z : 1 < 1 = (claim (single 1) one_fit (take_call 0 (pos 0) 5 ∷ advance_call ∷ advance_call ∷ []) 1 (omega arith) (omega arith)).known in
    omega arith

-- That 7 comes up in no call, either: a frame below 0 gives it.
abbrev NoSeven : Type 0
NoSeven = (u : Setup) → Fit u → (l : List Call) (x : Call) → answer_of (run_of step_of predicted u l) x ≢ frame_below_zero

pub seven_comes_up : NoSeven → ⊥
unfolding answer_of show_answer
seven_comes_up claim = claim (single 0) none_fit [] (show_call (negsuc 0)) refl
