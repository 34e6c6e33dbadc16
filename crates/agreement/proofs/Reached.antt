-- From the code to the claims: a chain of calls that keep their contracts is the run that the claims speak of. Assumes nothing.
use Prim.Native.Nat.{ℕ}
use native.Mathlib.Omega.{arith}
use mathlib.Core.Path.{◌≡◌, refl, ap, sym, ◌∙◌, subst}
use mathlib.Core.Bool.{true, false}
use mathlib.Core.Logic.{⊎_elim, ◌≢◌}
use mathlib.Core.List.{List, [], ◌∷◌}
use Prim.{absurd}
use lib.IntN.{ℤ}
use Rattle.frame_info.specs.Frame.{count_of}
use Rattle.frame_info.specs.Word.{predicted}
use Rattle.frame_info.proofs.Split.{split_eqb, split_bool}
use Rattle.console.specs.Step.{step_of}
use Rattle.sync_layer.specs.Whole.{SeatRoom, WordRoom, SlotRoom}
use Rattle.sync_layer.specs.Calls.{opened_seats, opened_slots}
use Rattle.sync_layer.specs.Calls as layer
use Rattle.desk.specs.declared.DeskState.{DeskState}
use Rattle.desk.specs.Desk.{Desk, Setup, setup_state, setup_of, take}
use Rattle.desk.specs.Calls.{setup_answer}
use Rattle.desk.specs.Runs.{Call, take_call, settle_call, advance_call, show_call, log_call, after, run_from, run, Fit}
use Rattle.desk.specs.Whole.{Whole}
use Rattle.desk.proofs.Kept.{fits_fit, setup_whole, after_whole}
use Rattle.desk.proofs.Guessing.{after_predictor}
use Rattle.desk.proofs.Reading.{take_slots}
use Rattle.agreement.specs.Chain.{SetupMade, TakeMade, Presumes, Made, Chain, one_seat, in_force, Reached}
use Rattle.agreement.proofs.Run.{setup-state}

-- Setups ------------------------------------------------------------------------------------------------------------------------

-- with room in the lists, a setup that is not refused is fit
pub done_fit : (u : Setup) → setup_answer u.limit u.predictor u.delays ≡ 0 → SeatRoom u.seats → WordRoom u.words → SlotRoom u.slots → Fit u
unfolding setup_answer
done_fit u e a b c =
    ⊎_elim
    (fits_fit u a b c)
    (λ y. absurd (omega (arith, simp y at e)))
    (split_bool (layer.fits u.limit u.predictor u.delays))

one_accepted : layer.fits 0 0 (0 ∷ []) ≡ true
unfolding layer.fits
one_accepted = refl

-- and one that is refused is the setup of one seat
refused_setup : (u : Setup) → setup_answer u.limit u.predictor u.delays ≢ 0 → setup_of u ≡ setup_of (one_seat u)
unfolding setup_answer setup_of setup_state opened_seats opened_slots
refused_setup u e = ⊎_elim accepts refuses (split_bool (layer.fits u.limit u.predictor u.delays))
  where
    accepts : layer.fits u.limit u.predictor u.delays ≡ true → setup_of u ≡ setup_of (one_seat u)
    accepts a = absurd (e (simp a))

    refuses : layer.fits u.limit u.predictor u.delays ≡ false → setup_of u ≡ setup_of (one_seat u)
    refuses a = simp (a, one_accepted)

module _ (u : Setup) (a : SeatRoom u.seats) (b : WordRoom u.words) (c : SlotRoom u.slots) where
  pub force_fit : Fit (in_force u)
  unfolding in_force
  force_fit =
      ⊎_elim
      (λ e. simp e.1 (done_fit u e.0 a b c))
      (λ e. simp e.1 (fits_fit (one_seat u) a b c one_accepted))
      (split_eqb (setup_answer u.limit u.predictor u.delays) 0)

pub force_same : (u : Setup) → setup_of u ≡ setup_of (in_force u)
unfolding in_force
force_same u =
    ⊎_elim
    (λ e. simp e.1)
    (λ e. simp e.1 (refused_setup u e.0))
    (split_eqb (setup_answer u.limit u.predictor u.delays) 0)

-- One call ----------------------------------------------------------------------------------------------------------------------

setup_made : (u : Setup) (d : Desk) → SetupMade u d → d ≡ setup_of u
unfolding setup_of
setup_made u d m =
    λ i. record {
      state = (m.state ∙ ap (λ (x : Desk). x.state) m.promised) i;
      seats = (m.promised i).seats;
      words = m.words i;
      slots = (m.promised i).slots;
    }

take_made : (d : Desk) (s : ℕ) (f : ℤ) (w : ℕ) (e : Desk) → TakeMade d s f w e → e ≡ take d s (count_of f) w
take_made d s f w e m =
    (λ i. record { state = m.state i; seats = (m.promised i).seats; words = (m.promised i).words; slots = m.slots i })
    ∙ sym (take_slots d.state d.seats d.words d.slots s (count_of f) w)

-- what is promised is the run's next desk
pub made_after : (d : Desk) (x : Call) (e : Desk) → Made d x e → e ≡ after step_of (predicted d.state.predictor) d x
unfolding Made after
made_after d (take_call s f w) e m = take_made d s f w e m
made_after d settle_call e m =
    λ i. record {
      state = (m.state ∙ ap (λ (x : Desk). x.state) m.promised) i;
      seats = (m.promised i).seats;
      words = (m.words ∙ ap (λ (x : Desk). x.words) m.promised) i;
      slots = (m.promised i).slots;
    }
made_after d advance_call e m =
    λ i. record {
      state = (m.state ∙ ap (λ (x : Desk). x.state) m.promised) i;
      seats = (m.promised i).seats;
      words = (m.words ∙ ap (λ (x : Desk). x.words) m.promised) i;
      slots = (m.promised i).slots;
    }
made_after d (show_call f) e m = m.desk
made_after d (log_call f room) e m = m.desk

-- a whole desk is what any call presumes
pub whole_presumed : (d : Desk) → Whole d → (x : Call) → Presumes d x
unfolding Presumes
whole_presumed d h (take_call s f w) = (h.seated, h.wide)
whole_presumed d h settle_call = h
whole_presumed d h advance_call = h
whole_presumed d h (show_call f) = (h.seated, h.deep)
whole_presumed d h (log_call f room) = (h.seated, h.deep)

-- Chains ------------------------------------------------------------------------------------------------------------------------

record Ends (k : ℕ) (d : Desk) (l : List Call) (e : Desk) : Type 0 where
  run : e ≡ run_from step_of (predicted k) d l
  whole : Whole e

chain_ends : (k : ℕ) (l : List Call) (d e : Desk) → d.state.predictor ≡ k → Whole d → Chain d l e → Ends k d l e
unfolding Chain run_from
chain_ends k [] d e g h m = record { run = m; whole = subst Whole (sym m) h }
chain_ends k (x ∷ l) d e g h m =
    let c = m.0 in
    let n : c ≡ after step_of (predicted k) d x = made_after d x c (m.1 (whole_presumed d h x)) ∙ ap (λ (j : ℕ). after step_of (predicted j) d x) g in
    let p : c.state.predictor ≡ k = ap (λ (z : Desk). z.state.predictor) n ∙ after_predictor step_of (predicted k) d x ∙ g in
    let w : Whole c = subst Whole (sym n) (after_whole step_of (predicted k) d x h) in
    let r = chain_ends k l c e p w m.2 in
    record { run = r.run ∙ ap (λ (z : Desk). run_from step_of (predicted k) z l) n; whole = r.whole }

pub reached : Reached
unfolding run
reached u l e m =
    let d = m.first in
    let v = in_force u in
    let fit = force_fit u m.seats_room m.words_room m.slots_room in
    let o : d ≡ setup_of v = setup_made u d (m.set_up (m.seats_room, m.slots_room)) ∙ force_same u in
    let p : d.state.predictor ≡ v.predictor = ap (λ (z : Desk). z.state.predictor) o ∙ ap (λ (y : DeskState). y.predictor) (setup-state v fit) in
    let w : Whole d = subst Whole (sym o) (setup_whole v fit.seats_room fit.words_room fit.slots_room) in
    let r = chain_ends v.predictor l d e p w m.chain in
    record {
      fit = fit;
      run = r.run ∙ ap (λ (z : Desk). run_from step_of (predicted v.predictor) z l) o;
      presumed = whole_presumed e r.whole;
    }
