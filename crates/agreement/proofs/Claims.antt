-- The claims: proved once over any rule of the console and any predictors that are steady, then of ours. Assumes nothing.
use Prim.Native.Nat.{ℕ}
use native.Mathlib.Omega.{arith}
use mathlib.Core.Path.{◌≡◌, refl, ap, sym, ◌∙◌, subst}
use mathlib.Core.List.{List}
use lib.ListN.{length, get_or}
use Rattle.frame_info.specs.Word.{predicted}
use Rattle.frame_info.proofs.Words.{predicted_blank, predicted_twice}
use Rattle.console.specs.declared.Console.{Console}
use Rattle.console.specs.Step.{start, step_of}
use Rattle.desk.specs.declared.DeskState.{DeskState}
use Rattle.desk.specs.Desk.{Setup, setup_of, advance_answer, settle, advance}
use Rattle.desk.specs.Runs.{Call, run, Fit}
use Rattle.desk.proofs.Kept.{run_whole}
use Rattle.desk.proofs.Guessing.{run_predictor}
use Rattle.agreement.specs.Reference.{ref_row, state_before}
use Rattle.agreement.specs.Statement.{Steady, run_of, accepted_of, Agree, Kept, Alive, Never}
use Rattle.agreement.specs.Tried.{driven, tried_settle, tried_advance, ComesTo}
use Rattle.agreement.proofs.Steps.{own_limit}
use Rattle.agreement.proofs.Stored.{stored_places}
use Rattle.agreement.proofs.Run.{Good, run_good, setup-state}
use Rattle.agreement.proofs.Demand.{shown_words_ref, shown_state_ref, agree_words, agree_state}
use Rattle.agreement.proofs.Overwrite.{keeps, settle_known, settle_quiet, settle_stays, window_settled, advance_goes}
use Rattle.agreement.proofs.Refusals.{take_never, settle_never, advance_never, call_other}

module _ (step : Console → List ℕ → Console) (guess : ℕ → ℕ → ℕ) (steady : (k : ℕ) → Steady (guess k)) where
  -- what is known of every run
  abbrev pub Known : Setup → List Call → Type 0
  Known u l = Good step (guess u.predictor) (length u.delays) u.limit (λ s. get_or u.delays s 0) (accepted_of step guess u l) (run_of step guess u l)

  pub known : (u : Setup) → Fit u → (l : List Call) → Known u l
  known u h l = run_good u h step (guess u.predictor) (steady u.predictor).blank_stays (steady u.predictor).twice_once l

  -- Demand 3. Two fresh desks have the same seats and the same fixed delays, each its own limit and its own predictor, and each is given
  -- any calls, refused ones among them. Where, seat by seat, the accepted words of one begin those of the other, whichever is the longer,
  -- a frame settled on both shows the same words and the same console state, and these are what a desk that never guesses works out
  -- from words and delays.
  pub agree : Agree step guess
  agree u v a b e l m same f t w =
      let g = known u a l in
      let h = known v b m in
      let h' = subst (λ (x : List ℕ). Good step (guess v.predictor) (length x) v.limit (λ s. get_or x s 0) (accepted_of step guess v m) (run_of step guess v m)) (sym e) h in
      record {
        words = agree_words g h' (λ s x. refl) (λ s x. same s (omega arith)) f t w;
        state = agree_state g h' (λ s x. refl) (λ s x. same s (omega arith)) f t w;
        words_right = shown_words_ref g f t;
        state_right = shown_state_ref g f t ∙ ap (state_before start step (ref_row u.delays (accepted_of step guess u l))) (omega arith);
      }

  -- Demand 3, its last sentence: every frame served is settled before another frame is given its slot.
  pub kept : Kept step guess
  kept u a l =
      let g = known u a l in
      let o = own_limit step (guess u.predictor) (run_of step guess u l) g.shape g.sound in
      keeps step (guess u.predictor) (length u.delays) (run_of step guess u l) o.0 o.1

  -- The desk lives: the claims above are not met by one that does nothing.
  pub alive : Alive step guess
  alive u a l =
      let g = known u a l in
      let p = guess u.predictor in
      let n = length u.delays in
      let d = run_of step guess u l in
      let o = own_limit step p d g.shape g.sound in
      record {
        goes = advance_goes step p n d o.0 o.1;
        stays = settle_stays step p n d o.0 o.1;
        known = settle_known step p n d o.0 o.1;
        quiet = settle_quiet step p n d o.0 o.1;
        places = λ s h. (g.counted s h).last_added_count ∙ stored_places (get_or u.delays s 0) (accepted_of step guess u l s);
        settled = window_settled step p n d o.0 o.1;
      }

-- no call changes the predictor
own_predictor : (step : Console → List ℕ → Console) (guess : ℕ → ℕ → ℕ) (u : Setup) → Fit u → (l : List Call) → (run_of step guess u l).state.predictor ≡ u.predictor
unfolding run
own_predictor step guess u h l = run_predictor step (guess u.predictor) l (setup_of u) ∙ ap (λ (y : DeskState). y.predictor) (setup-state u h)

-- Ours: document 01's step and its three predictors.
pub ours_steady : (k : ℕ) → Steady (predicted k)
ours_steady k = record { blank_stays = predicted_blank k; twice_once = predicted_twice k }

pub our_agree : Agree step_of predicted
our_agree = agree step_of predicted ours_steady

pub our_kept : Kept step_of predicted
our_kept = kept step_of predicted ours_steady

pub our_alive : Alive step_of predicted
our_alive = alive step_of predicted ours_steady

-- Document 01, on saying no: 8 to 15 never reach the desk's callers. Proved over any rule of the console.
pub never : (step : Console → List ℕ → Console) → Never step
never step u a l =
    let g = known step predicted ours_steady u a l in
    let d = run_of step predicted u l in
    let e = own_predictor step predicted u a l in
    let w = run_whole step (predicted u.predictor) u l a.seats_room a.words_room a.slots_room in
    record {
      takes = λ saved sure. take_never (driven saved sure d);
      settles = λ saved sure.
          subst (λ (k : ℕ). ComesTo 0 (settle step (predicted k) d) (tried_settle step (driven saved sure d))) (sym e)
          (settle_never step u.predictor (length u.delays) u.limit (driven saved sure d) e w g.shape g.sound);
      advances = λ saved sure.
          subst (λ (k : ℕ). ComesTo (advance_answer d) (advance step (predicted k) d) (tried_advance step (driven saved sure d))) (sym e)
          (advance_never step u.predictor (length u.delays) u.limit (driven saved sure d) e w g.shape g.sound);
      numbers = call_other d;
    }

pub our_never : Never step_of
our_never = never step_of
