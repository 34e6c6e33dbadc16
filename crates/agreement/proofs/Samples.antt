-- Worked examples, by computation: what the reference has, that the claims speak of something, and that they fail for a predictor
-- that halves.
use Prim.Native.Nat.{ℕ, zero, suc, ◌/◌, ◌<◌}
use native.Mathlib.Omega.{arith}
use mathlib.Core.Path.{◌≡◌, refl, ap, sym, ◌∙◌}
use mathlib.Core.List.{List, [], ◌∷◌, ◌++◌, append-nil}
use mathlib.Core.Logic.{inl, inr}
use Prim.{absurd}
use lib.ListN.{get_or, replicate}
use lib.IntN.{pos}
use Rattle.frame_info.specs.Word.{predicted}
use Rattle.console.specs.Step.{start, step_of, moved, sealed}
use Rattle.input_queue.specs.Queue.{wrong_after, predicting_after, put, fill, add, asked, answer, reset, discard}
use Rattle.input_queue.specs.Ring.{fill_words, add_words}
use Rattle.input_queue.specs.Calls.{input_refusal}
use Rattle.sync_layer.specs.Lists.{write_row, lowest_of, first_refusal}
use Rattle.sync_layer.specs.Seats.{seat_at, set_seat, map_seats}
use Rattle.sync_layer.specs.Slots.{save_slot, clear_slots}
use Rattle.sync_layer.specs.Calls.{opened_seats, opened_slots}
use Rattle.sync_layer.specs.Calls as layer
use Rattle.sync_layer.specs.Runs as layers
use Rattle.desk.specs.Lists.{least_of, row_of}
use Rattle.desk.specs.Desk.{Setup, setup_state, setup_of, mismatch_of, take_answer, taken, take, load, reset_all, discard_all, confirm, one_frame, replay, corrected, settle, advance_answer, advance}
use Rattle.desk.specs.Settled.{Settles, shown_words}
use Rattle.desk.specs.Calls.{setup_answer}
use Rattle.desk.specs.Runs.{Call, take_call, settle_call, advance_call, after, run_from, run, gained, accepted_from, accepted, EitherBegins, Fit}
use Rattle.agreement.specs.Reference.{ref_word, ref_row, state_before}
use Rattle.agreement.specs.Statement.{run_of, accepted_of, Same, Agree}
use Rattle.agreement.specs.Tried.{driven, tried_load, resetting, saving, tried_request, tried_count, tried_confirm, tried_frame, tried_replay, tried_corrected, tried_settle}
use Rattle.agreement.proofs.Claims.{our_agree}
use Rattle.agreement.proofs.Reached.{done_fit}

-- seat 1 has delay 1; the lists need not be cleared
abbrev setup_by : ℕ → ℕ → Setup
setup_by limit p = record { limit = limit; predictor = p; delays = 0 ∷ 1 ∷ []; seats = replicate 32 7; words = replicate 512 7; slots = replicate 256 9 }

abbrev near : Setup
near = setup_by 1 0

abbrev far : Setup
far = setup_by 3 2

-- near has its words in time; far serves two frames before seat 1's word comes, and is refused twice
abbrev near_calls : List Call
near_calls = take_call 1 (pos 0) 0x107 ∷ take_call 0 (pos 0) 5 ∷ take_call 0 (pos 1) 6 ∷ take_call 0 (pos 2) 9 ∷ advance_call ∷ advance_call ∷ []

abbrev far_calls : List Call
far_calls = take_call 0 (pos 0) 5 ∷ take_call 0 (pos 1) 6 ∷ advance_call ∷ advance_call ∷ take_call 1 (pos 2) 9 ∷ take_call 1 (pos 0) 0x107 ∷ take_call 5 (pos 0) 1 ∷ []

abbrev far_settled : List Call
far_settled = far_calls ++ (settle_call ∷ [])

-- far stood with a mismatch at frame 1, where it had served a guess,
far_before : (mismatch_of (run_of step_of predicted far far_calls) ≡ 2) × (shown_words (run_of step_of predicted far far_calls) 1 ≡ 6 ∷ 0 ∷ [])
unfolding wrong_after predicting_after put fill add asked answer reset discard fill_words add_words write_row lowest_of seat_at set_seat map_seats save_slot clear_slots opened_seats opened_slots layer.fits least_of row_of setup_state setup_of take_answer taken take load reset_all discard_all confirm one_frame replay corrected settle advance_answer advance after run_from run gained accepted_from accepted predicted step_of moved sealed
far_before = (refl, refl)

-- and its settle has put it right
far_after : (mismatch_of (run_of step_of predicted far far_settled) ≡ 0) × (shown_words (run_of step_of predicted far far_settled) 1 ≡ 6 ∷ 0x107 ∷ [])
unfolding wrong_after predicting_after put fill add asked answer reset discard fill_words add_words write_row lowest_of seat_at set_seat map_seats save_slot clear_slots opened_seats opened_slots layer.fits least_of row_of setup_state setup_of take_answer taken take load reset_all discard_all confirm one_frame replay corrected settle advance_answer advance after run_from run gained accepted_from accepted predicted step_of moved sealed
far_after = (refl, refl)

far_settles : Settles (run_of step_of predicted far far_settled) 1
unfolding wrong_after predicting_after put fill add asked answer reset discard fill_words add_words write_row lowest_of seat_at set_seat map_seats save_slot clear_slots opened_seats opened_slots layer.fits least_of row_of setup_state setup_of take_answer taken take load reset_all discard_all confirm one_frame replay corrected settle advance_answer advance after run_from run gained accepted_from accepted predicted step_of moved sealed
far_settles = record { past = omega arith; slot = omega arith; known = omega arith; right = inl refl }

near_settles : Settles (run_of step_of predicted near near_calls) 1
unfolding wrong_after predicting_after put fill add asked answer reset discard fill_words add_words write_row lowest_of seat_at set_seat map_seats save_slot clear_slots opened_seats opened_slots layer.fits least_of row_of setup_state setup_of take_answer taken take load reset_all discard_all confirm one_frame replay corrected settle advance_answer advance after run_from run gained accepted_from accepted predicted step_of moved sealed
near_settles = record { past = omega arith; slot = omega arith; known = omega arith; right = inl refl }

begins : (s : ℕ) → s < 2 → EitherBegins (accepted_of step_of predicted near near_calls s) (accepted_of step_of predicted far far_settled s)
unfolding wrong_after predicting_after put fill add asked answer reset discard fill_words add_words write_row lowest_of seat_at set_seat map_seats save_slot clear_slots opened_seats opened_slots layer.fits least_of row_of setup_state setup_of take_answer taken take load reset_all discard_all confirm one_frame replay corrected settle advance_answer advance after run_from run gained accepted_from accepted predicted step_of moved sealed EitherBegins
begins zero x = inr (9 ∷ [], refl)
begins (suc zero) x = inl ([], refl)
begins (suc (suc s)) x = absurd (omega arith)

near_fit : Fit near
unfolding setup_answer layer.fits
near_fit = done_fit near refl (omega arith) (omega arith) (omega arith)

far_fit : Fit far
unfolding setup_answer layer.fits
far_fit = done_fit far refl (omega arith) (omega arith) (omega arith)

-- so frame 1 is the same on both
pub sample_same : Same step_of predicted near far near_calls far_settled 1
sample_same = our_agree near far near_fit far_fit refl near_calls far_settled begins 1 near_settles far_settles

-- A run on which every test of the layers below is close: seat 1's late word sends the desk back to frame 2, which seat 0 must still
-- keep. Had the confirm before it discarded three frames further, 14 would come up here.
abbrev deep : Setup
deep = record { limit = 4; predictor = 0; delays = 0 ∷ 0 ∷ []; seats = replicate 32 7; words = replicate 512 7; slots = replicate 256 9 }

abbrev deep_calls : List Call
deep_calls = take_call 0 (pos 0) 1 ∷ take_call 0 (pos 1) 1 ∷ take_call 0 (pos 2) 1 ∷ take_call 0 (pos 3) 1 ∷ take_call 0 (pos 4) 1 ∷ take_call 1 (pos 0) 0 ∷ take_call 1 (pos 1) 0 ∷ advance_call ∷ advance_call ∷ advance_call ∷ advance_call ∷ settle_call ∷ take_call 1 (pos 2) 9 ∷ []

deep_tried : (mismatch_of (run_of step_of predicted deep deep_calls) ≡ 3) × ((tried_settle step_of (driven 0 0 (run_of step_of predicted deep deep_calls))).number ≡ 0)
unfolding wrong_after predicting_after put fill add asked answer reset discard fill_words add_words write_row lowest_of seat_at set_seat map_seats save_slot clear_slots opened_seats opened_slots layer.fits least_of row_of setup_state setup_of take_answer taken take load reset_all discard_all confirm one_frame replay corrected settle advance_answer advance after run_from run gained accepted_from accepted predicted step_of moved sealed tried_settle tried_corrected tried_replay tried_frame tried_confirm tried_count tried_request saving resetting tried_load layers.after layer.loaded layer.load_refusal layer.served_seats layer.served_words layer.request_refusal layer.advanced layer.confirmed layer.confirmed_seats layer.cap_refusal first_refusal input_refusal
deep_tried = (refl, refl)

-- The reference on document 01's first marked example: one seat, delay 1, two words; the rows, and the console after them.
abbrev two_words : ℕ → List ℕ
two_words s = 0x105 ∷ 0x1ff ∷ []

reference_rows : (ref_row (1 ∷ []) two_words 0 ≡ 0 ∷ []) × (ref_row (1 ∷ []) two_words 1 ≡ 0x105 ∷ []) × (ref_row (1 ∷ []) two_words 2 ≡ 0x1ff ∷ [])
unfolding ref_word row_of
reference_rows = (refl, refl, refl)

reference_state : (state_before start step_of (ref_row (1 ∷ []) two_words) 2 ≡ record { head = 5; kind = 1; seal = 0x105 })
    × (state_before start step_of (ref_row (1 ∷ []) two_words) 3 ≡ record { head = 4; kind = 1; seal = 0x215f })
unfolding ref_word row_of state_before step_of moved sealed
reference_state = (refl, refl)

-- A predictor that halves. Seat 0 has 4 at frame 0 and is guessed 2 from then on; its 2 for frame 1 matches; seat 1 sends the desk back to
-- frame 3, where seat 0 is guessed 1; its 1 for frame 2 now matches, yet frame 2 was served 2.
abbrev halving : ℕ → ℕ → ℕ
halving k w = w / 2

abbrev long : Setup
long = record { limit = 5; predictor = 0; delays = 0 ∷ 0 ∷ []; seats = replicate 32 7; words = replicate 512 7; slots = replicate 256 9 }

abbrev halving_calls : List Call
halving_calls = take_call 0 (pos 0) 4 ∷ advance_call ∷ advance_call ∷ advance_call ∷ advance_call ∷ take_call 0 (pos 1) 2 ∷ take_call 1 (pos 0) 0 ∷ take_call 1 (pos 1) 0 ∷ take_call 1 (pos 2) 0 ∷ take_call 1 (pos 3) 9 ∷ settle_call ∷ take_call 0 (pos 2) 1 ∷ []

halving_settles : Settles (run_of step_of halving long halving_calls) 2
unfolding wrong_after predicting_after put fill add asked answer reset discard fill_words add_words write_row lowest_of seat_at set_seat map_seats save_slot clear_slots opened_seats opened_slots layer.fits least_of row_of setup_state setup_of take_answer taken take load reset_all discard_all confirm one_frame replay corrected settle advance_answer advance after run_from run gained accepted_from accepted predicted step_of moved sealed
halving_settles = record { past = omega arith; slot = omega arith; known = omega arith; right = inl refl }

halving_shows : (shown_words (run_of step_of halving long halving_calls) 2 ≡ 2 ∷ 0 ∷ []) × (ref_row (0 ∷ 0 ∷ []) (accepted_of step_of halving long halving_calls) 2 ≡ 1 ∷ 0 ∷ [])
unfolding wrong_after predicting_after put fill add asked answer reset discard fill_words add_words write_row lowest_of seat_at set_seat map_seats save_slot clear_slots opened_seats opened_slots layer.fits least_of row_of setup_state setup_of take_answer taken take load reset_all discard_all confirm one_frame replay corrected settle advance_answer advance after run_from run gained accepted_from accepted predicted step_of moved sealed ref_word
halving_shows = (refl, refl)

long_fit : Fit long
unfolding setup_answer layer.fits
long_fit = done_fit long refl (omega arith) (omega arith) (omega arith)

-- So demand 3 does not hold for it: that a predictor is steady is not asked in vain.
pub halving_disagrees : Agree step_of halving → ⊥
halving_disagrees a =
    let s = a long long long_fit long_fit refl halving_calls halving_calls (λ s x. unfold EitherBegins in inl ([], sym (append-nil (accepted_of step_of halving long halving_calls s)))) 2 halving_settles halving_settles in
    let e : ◌≡◌ {A = List ℕ} (2 ∷ 0 ∷ []) (1 ∷ 0 ∷ []) = sym halving_shows.0 ∙ s.words_right ∙ halving_shows.1 in
    let z : ◌≡◌ {A = ℕ} 2 1 = ap (λ (l : List ℕ). get_or l 0 0) e in
    omega arith
