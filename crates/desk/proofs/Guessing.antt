-- No call changes the predictor, so each call of a run guesses as the first one does. Assumes nothing.
use Prim.Native.Nat.{ℕ, zero, suc, ◌-◌}
use mathlib.Core.Path.{◌≡◌, refl, ◌∙◌, ap}
use mathlib.Core.List.{List, [], ◌∷◌}
use mathlib.Core.Logic.{⊎_elim}
use Rattle.frame_info.proofs.Split.{split_eqb}
use Rattle.frame_info.specs.Frame.{count_of}
use Rattle.console.specs.declared.Console.{Console}
use Rattle.desk.specs.declared.DeskState.{DeskState}
use Rattle.desk.specs.Desk.{Desk, mismatch_of, take_answer, take, taken, load, reset_all, one_frame, replay, corrected, settle, advance_answer, advance}
use Rattle.desk.specs.Runs.{Call, take_call, settle_call, advance_call, show_call, log_call, after, run_from}
use Rattle.desk.proofs.Kept.{confirm_state}

module _ (step : Console → List ℕ → Console) (p : ℕ → ℕ) where
  replay_predictor : (k : ℕ) (d : Desk) → (replay step p k d).state.predictor ≡ d.state.predictor
  unfolding replay one_frame
  replay_predictor zero d = refl
  replay_predictor (suc k) d = replay_predictor k (one_frame step p d)

  corrected_predictor : (d : Desk) → (corrected step p d).state.predictor ≡ d.state.predictor
  unfolding corrected reset_all load
  corrected_predictor d =
      ⊎_elim
      (λ a. simp a.1)
      (λ a. simp a.1 (replay_predictor (d.state.current - (mismatch_of d - 1)) (reset_all (load d (mismatch_of d - 1)))))
      (split_eqb (mismatch_of d) 0)

  settle_predictor : (d : Desk) → (settle step p d).state.predictor ≡ d.state.predictor
  unfolding settle
  settle_predictor d = ap (λ (y : DeskState). y.predictor) (confirm_state (corrected step p d)) ∙ corrected_predictor d

  pub after_predictor : (d : Desk) (x : Call) → (after step p d x).state.predictor ≡ d.state.predictor
  unfolding after take taken advance one_frame
  after_predictor d (take_call s f w) = ⊎_elim (λ a. simp a.1) (λ a. simp a.1) (split_eqb (take_answer d s (count_of f)) 0)
  after_predictor d settle_call = settle_predictor d
  after_predictor d advance_call = ⊎_elim (λ a. simp a.1 (settle_predictor d)) (λ a. simp a.1) (split_eqb (advance_answer d) 0)
  after_predictor d (show_call f) = refl
  after_predictor d (log_call f room) = refl

  pub run_predictor : (l : List Call) (d : Desk) → (run_from step p d l).state.predictor ≡ d.state.predictor
  unfolding run_from
  run_predictor [] d = refl
  run_predictor (x ∷ l) d = run_predictor l (after step p d x) ∙ after_predictor d x
