-- A chain of calls on a desk by value is the run that the claims speak of, its lists lent. Assumes nothing.
use Prim.Native.Nat.{ℕ, suc, ◌*◌}
use mathlib.Core.Path.{◌≡◌, ap, sym, ◌∙◌, subst}
use mathlib.Core.List.{List, [], ◌∷◌}
use Rattle.frame_info.specs.Word.{predicted}
use Rattle.console.specs.Step.{step_of}
use Rattle.input_queue.specs.Ring.{queue_length}
use Rattle.sync_layer.specs.Seats.{max_seats, seat_words}
use Rattle.sync_layer.specs.Slots.{max_limit, slot_words}
use Rattle.desk.specs.declared.DeskState.{DeskState}
use Rattle.desk.specs.Answer.{Shown}
use Rattle.desk.specs.Desk as m
use Rattle.desk.specs.Calls.{show_says, show_words, log_says, log_bytes}
use Rattle.desk.specs.Runs.{Call, take_call, settle_call, advance_call, show_call, log_call, run_from, run, Fit}
use Rattle.desk_value.specs.declared.Desk.{Desk}
use Rattle.desk_value.specs.Answer.{OpenedDesk, TakenDesk, AdvancedDesk, ShownDesk}
use Rattle.desk_value.specs.declared.SettledDesk.{SettledDesk}
use Rattle.desk_value.specs.Value as held
use Rattle.desk_value.proofs.Kept.{zeros_room, opened_lent, held_opened_whole, held_after_whole}
use Rattle.desk_value.proofs.Same.{held_run}
use Rattle.agreement.specs.Statement.{run_of}
use Rattle.agreement.specs.Chain.{in_force, ShowRight, LogRight}
use Rattle.agreement.specs.ChainValue.{Made, Chain, Reached, ShownRight, LoggedRight}
use Rattle.agreement.proofs.Run.{setup-state}
use Rattle.agreement.proofs.Reached.{force_fit, force_same}
use Rattle.agreement.proofs.Seen.{show_right, log_right}

-- what is promised is the run's next desk
made_after : (y : Desk) (x : Call) (z : Desk) → Made y x z → z ≡ held.after y x
unfolding Made held.after
made_after y (take_call s f w) z k = k.desk ∙ ap (λ (r : TakenDesk). r.desk) k.promised
made_after y settle_call z k = k.desk ∙ ap (λ (r : SettledDesk). r.desk) k.promised
made_after y advance_call z k = k.desk ∙ ap (λ (r : AdvancedDesk). r.desk) k.promised
made_after y (show_call f) z k = k.desk
made_after y (log_call f room) z k = k.desk

record Ends (y : Desk) (l : List Call) (z : Desk) : Type 0 where
  run : z ≡ held.run y l
  whole : held.Whole z

chain_ends : (l : List Call) (y z : Desk) → held.Whole y → Chain y l z → Ends y l z
unfolding Chain held.run
chain_ends [] y z h k = record { run = k; whole = subst held.Whole (sym k) h }
chain_ends (x ∷ l) y z h k =
    let c = k.0 in
    let n : c ≡ held.after y x = made_after y x c (k.1 h) in
    let r = chain_ends l c z (subst held.Whole (sym n) (held_after_whole y x h)) k.2 in
    record { run = r.run ∙ ap (λ (v : Desk). held.run v l) n; whole = r.whole }

module _ (limit p : ℕ) (delays : List ℕ) where
  abbrev u : m.Setup
  u = held.cleared limit p delays

  abbrev o : Desk
  o = (held.opened limit p delays).desk

  fit : Fit (in_force u)
  fit = force_fit u (zeros_room (max_seats * seat_words)) (zeros_room (max_seats * queue_length)) (zeros_room (suc max_limit * slot_words))

  guesses : o.state.predictor ≡ (in_force u).predictor
  guesses =
      ap (λ (d : m.Desk). d.state.predictor) (opened_lent limit p delays ∙ force_same u)
      ∙ ap (λ (y : DeskState). y.predictor) (setup-state (in_force u) fit)

  held_force : (l : List Call) → held.lent (held.run o l) ≡ run_of step_of predicted (in_force u) l
  unfolding run
  held_force l =
      held_run limit p delays l
      ∙ ap (λ (k : ℕ). run_from step_of (predicted k) (m.setup_of u) l) guesses
      ∙ ap (λ (d : m.Desk). run_from step_of (predicted (in_force u).predictor) d l) (force_same u)

pub held_reached : Reached
held_reached limit p delays l z came =
    let y = came.first in
    let s = came.set_up in
    let n : y ≡ (held.opened limit p delays).desk = s.desk ∙ ap (λ (r : OpenedDesk). r.desk) s.promised in
    let r = chain_ends l y z (subst held.Whole (sym n) (held_opened_whole limit p delays)) came.chain in
    record {
      fit = fit limit p delays;
      run = ap held.lent (r.run ∙ ap (λ (v : Desk). held.run v l) n) ∙ held_force limit p delays l;
      presumed = r.whole;
    }

pub held_shown_right : ShownRight
unfolding held.shown
held_shown_right limit p delays l y came f z k =
    let r = held_reached limit p delays l y came in
    let v = in_force (held.cleared limit p delays) in
    let a : Shown = record { no = k.answer.no; console = k.answer.console } in
    subst (λ (x : m.Desk). ShowRight v l x f a held.blanks k.answer.words) (sym r.run)
    (show_right v r.fit l f a held.blanks k.answer.words
    (ap (λ (x : ShownDesk). record { no = x.no; console = x.console }) k.promised ∙ ap (λ (x : m.Desk). show_says x f) r.run)
    (ap (λ (x : ShownDesk). x.words) k.promised ∙ ap (λ (x : m.Desk). show_words x f held.blanks) r.run))

pub held_logged_right : LoggedRight
held_logged_right limit p delays l y came f room z k =
    let r = held_reached limit p delays l y came in
    let v = in_force (held.cleared limit p delays) in
    subst (λ (x : m.Desk). LogRight v l x f k.answer k.out k.out_after) (sym r.run)
    (log_right v r.fit l f k.answer k.out k.out_after
    (k.says ∙ ap (λ (x : m.Desk). log_says x f k.out) r.run)
    (k.writes ∙ ap (λ (x : m.Desk). log_bytes x f k.out) r.run))
