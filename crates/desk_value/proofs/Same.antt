-- Any run of calls on a desk by value leads to what the same run leads to on lent lists. Assumes nothing.
use Prim.Native.Nat.{ℕ}
use mathlib.Core.Path.{◌≡◌, refl, ◌∙◌, ap}
use mathlib.Core.List.{List, [], ◌∷◌}
use Rattle.frame_info.specs.Word.{predicted}
use Rattle.console.specs.Step.{step_of}
use Rattle.desk.specs.Desk as m
use Rattle.desk.specs.Runs as runs
use Rattle.desk.specs.Runs.{Call}
use Rattle.desk.proofs.Guessing.{after_predictor}
use Rattle.desk_value.specs.declared.Desk.{Desk}
use Rattle.desk_value.specs.Value as held
use Rattle.desk_value.proofs.Kept.{after_lent, opened_lent}

-- each call of a run guesses as the first one does
held_guess : (y : Desk) (x : Call) → (held.after y x).state.predictor ≡ y.state.predictor
held_guess y x =
    ap (λ (d : m.Desk). d.state.predictor) (after_lent y x) ∙ after_predictor step_of (predicted y.state.predictor) (held.lent y) x

pub run_lent : (y : Desk) (l : List Call) → held.lent (held.run y l) ≡ runs.run_from step_of (predicted y.state.predictor) (held.lent y) l
unfolding held.run runs.run_from
run_lent y [] = refl
run_lent y (x ∷ l) =
    run_lent (held.after y x) l
    ∙ (ap (λ (k : ℕ). runs.run_from step_of (predicted k) (held.lent (held.after y x)) l) (held_guess y x)
    ∙ ap (λ (d : m.Desk). runs.run_from step_of (predicted y.state.predictor) d l) (after_lent y x))

-- THE CLAIM: from a setup on, it is the lent run with the predictor that the setup gave. What is proved of lent runs holds of these.
pub held_run : (limit p : ℕ) (delays : List ℕ) (l : List Call)
    → held.lent (held.run (held.opened limit p delays).desk l)
    ≡ runs.run step_of (predicted (held.opened limit p delays).desk.state.predictor) (held.cleared limit p delays) l
unfolding runs.run
held_run limit p delays l =
    run_lent (held.opened limit p delays).desk l
    ∙ ap (λ (d : m.Desk). runs.run_from step_of (predicted (held.opened limit p delays).desk.state.predictor) d l) (opened_lent limit p delays)
