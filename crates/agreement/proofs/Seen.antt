-- What a caller sees: show and log answer by whether the frame is settled, and hand out what the desk that never guesses has. Assumes
-- nothing.
use Prim.Native.Nat.{ℕ, ◌+◌, ◌-◌, ◌<◌, ◌≤◌}
use native.Mathlib.Omega.{arith}
use mathlib.Core.Path.{◌≡◌, refl, ap, ap₂, sym, ◌∙◌, subst}
use mathlib.Core.Bool.{false}
use mathlib.Core.Logic.{⊎_elim, ◌≢◌}
use mathlib.Core.List.{List, []}
use Prim.{absurd}
use lib.ListN.{length}
use lib.Seq.{sets}
use lib.IntN.{ℤ, pos, negsuc}
use borrow.Author.Tests.{eq-eqb, ne_eqb, lt-ltb, le-ltb}
use Rattle.frame_info.specs.Frame.{count_of}
use Rattle.frame_info.specs.Word.{predicted}
use Rattle.frame_info.specs.Refusal.{done, frame_below_zero, no_room_for_bytes, not_settled}
use Rattle.frame_info.proofs.Split.{split_eqb, split_bool}
use Rattle.console.specs.declared.Console.{Console}
use Rattle.console.specs.Step.{start, step_of}
use Rattle.sync_layer.specs.Lists.{write_row}
use Rattle.desk.specs.Answer.{Shown, Logged}
use Rattle.desk.specs.Desk.{Desk, Setup, desk_of}
use Rattle.desk.specs.Settled.{Settles, is_settled, shown_word, shown_state}
use Rattle.desk.specs.Line.{line_of, line_length}
use Rattle.desk.specs.Calls.{show_answer, show_says, show_words, log_answer, log_says, log_bytes, log_line}
use Rattle.desk.specs.Runs.{Call, Fit}
use Rattle.desk.proofs.Reading.{settled_settles, settles_settled}
use Rattle.agreement.specs.Reference.{state_before}
use Rattle.agreement.specs.Statement.{run_of}
use Rattle.agreement.specs.Chain.{in_force, word_for, row_for, console_after, ShowRight, LogRight, ShownRight, LoggedRight}
use Rattle.agreement.proofs.Flat.{row_agree}
use Rattle.agreement.proofs.Demand.{shown_word_ref, shown_words_ref, shown_state_ref}
use Rattle.agreement.proofs.Claims.{Known, known, ours_steady}
use Rattle.agreement.proofs.Reached.{reached}

-- What show and log answer ------------------------------------------------------------------------------------------------------

module _ (d : Desk) where
  answer_below : (n : ℕ) → show_answer d (count_of (negsuc n)) ≡ frame_below_zero
  unfolding show_answer
  answer_below n = refl

  answer_settled : (n : ℕ) → Settles d n → show_answer d (count_of (pos n)) ≡ 0
  unfolding show_answer
  answer_settled n t =
      let z : n + 1 ≢ 0 = λ e. omega arith in
      let e : n + 1 - 1 ≡ n = omega arith in
      simp (ne_eqb (n + 1) 0 z, e, settles_settled d n t)

  not-true : (n : ℕ) → (Settles d n → ⊥) → is_settled d n ≡ false
  not-true n t = ⊎_elim (λ b. absurd (t (settled_settles d n b))) (λ b. b) (split_bool (is_settled d n))

  answer_not : (n : ℕ) → (Settles d n → ⊥) → show_answer d (count_of (pos n)) ≡ not_settled
  unfolding show_answer
  answer_not n t =
      let z : n + 1 ≢ 0 = λ e. omega arith in
      let e : n + 1 - 1 ≡ n = omega arith in
      simp (ne_eqb (n + 1) 0 z, e, not-true n t)

  show_number : (f : ℤ) → (show_says d f).no ≡ show_answer d (count_of f)
  unfolding show_says
  show_number f = ⊎_elim (λ a. simp a.1 (sym a.0)) (λ a. simp a.1) (split_eqb (show_answer d (count_of f)) 0)

  log_number : (f : ℤ) (l : List ℕ) → (log_says d f l).no ≡ log_answer d (count_of f) (length l)
  unfolding log_says
  log_number f l = ⊎_elim (λ a. simp a.1 (sym a.0)) (λ a. simp a.1) (split_eqb (log_answer d (count_of f) (length l)) 0)

  log_refused : (n room : ℕ) → show_answer d n ≢ 0 → log_answer d n room ≡ show_answer d n
  unfolding log_answer
  log_refused n room z = simp (ne_eqb (show_answer d n) 0 z)

  log_narrow : (n room : ℕ) → show_answer d n ≡ 0 → room < line_length d.state.seats → log_answer d n room ≡ no_room_for_bytes
  unfolding log_answer
  log_narrow n room z x = simp (eq-eqb _ _ z, lt-ltb _ _ x)

  log_room : (n room : ℕ) → show_answer d n ≡ 0 → line_length d.state.seats ≤ room → log_answer d n room ≡ done
  unfolding log_answer
  log_room n room z x = simp (eq-eqb _ _ z, le-ltb _ _ x)

  -- what they hand out
  module _ (n : ℕ) (t : Settles d n) where
    shown_console : (show_says d (pos n)).console ≡ shown_state step_of d n
    unfolding show_says
    shown_console =
        let e : n + 1 - 1 ≡ n = omega arith in
        simp (eq-eqb _ _ (answer_settled n t)) (ap (shown_state step_of d) e)

    shown_out : (l : List ℕ) → show_words d (pos n) l ≡ write_row d.state.seats l 0 (shown_word d n)
    unfolding show_words
    shown_out l =
        let e : n + 1 - 1 ≡ n = omega arith in
        simp (eq-eqb _ _ (answer_settled n t)) (ap (λ (k : ℕ). write_row d.state.seats l 0 (shown_word d k)) e)

    logged_out : (l : List ℕ) → line_length d.state.seats ≤ length l → log_bytes d (pos n) l ≡ sets l 0 (log_line d n)
    unfolding log_bytes
    logged_out l x =
        let e : n + 1 - 1 ≡ n = omega arith in
        simp (eq-eqb _ _ (log_room (count_of (pos n)) (length l) (answer_settled n t) x)) (ap (λ (k : ℕ). sets l 0 (log_line d k)) e)

-- neither looks at the words
module _ (d : Desk) where
  show_lent : (f : ℤ) → show_says (desk_of d.state d.seats [] d.slots) f ≡ show_says d f
  unfolding show_says show_answer is_settled
  show_lent f = refl

  words_lent : (f : ℤ) (l : List ℕ) → show_words (desk_of d.state d.seats [] d.slots) f l ≡ show_words d f l
  unfolding show_words show_answer is_settled
  words_lent f l = refl

  log_lent : (f : ℤ) (l : List ℕ) → log_says (desk_of d.state d.seats [] d.slots) f l ≡ log_says d f l
  unfolding log_says log_answer show_answer is_settled
  log_lent f l = refl

  bytes_lent : (f : ℤ) (l : List ℕ) → log_bytes (desk_of d.state d.seats [] d.slots) f l ≡ log_bytes d f l
  unfolding log_bytes log_answer show_answer is_settled
  bytes_lent f l = refl

-- After a run -------------------------------------------------------------------------------------------------------------------

module _ (u : Setup) (h : Fit u) (l : List Call) where
  abbrev d : Desk
  d = run_of step_of predicted u l

  g : Known step_of predicted ours_steady u l
  g = known step_of predicted ours_steady u h l

  state_right : (n : ℕ) → Settles d n → shown_state step_of d n ≡ console_after u l n
  state_right n t = shown_state_ref g n t ∙ ap (state_before start step_of (row_for u l)) (omega arith)

  line_right : (n : ℕ) → Settles d n → log_line d n ≡ line_of n (row_for u l n) (console_after u l n).seal
  line_right n t = ap₂ (λ (x : List ℕ) (c : Console). line_of n x c.seal) (shown_words_ref g n t) (state_right n t)

  pub show_right : (f : ℤ) (a : Shown) (out out' : List ℕ) → a ≡ show_says d f → out' ≡ show_words d f out → ShowRight u l d f a out out'
  show_right f a out out' e o =
      record {
        below = λ n z. number z ∙ answer_below d n;
        not-settled = λ n z t. number z ∙ answer_not d n t;
        settled = λ n z t. number z ∙ answer_settled d n t;
        words = λ n z t.
            o ∙ ap (λ (x : ℤ). show_words d x out) z ∙ shown_out d n t out
            ∙ ap (λ (k : ℕ). write_row k out 0 (shown_word d n)) g.shape.seats
            ∙ row_agree (length u.delays) out 0 (shown_word d n) (word_for u l n) (shown_word_ref g n t);
        console = λ n z t. ap (λ (x : Shown). x.console) e ∙ ap (λ (x : ℤ). (show_says d x).console) z ∙ shown_console d n t ∙ state_right n t;
      }
    where
      number : {f' : ℤ} → f ≡ f' → a.no ≡ show_answer d (count_of f')
      number z = ap (λ (x : Shown). x.no) e ∙ show_number d f ∙ ap (λ (x : ℤ). show_answer d (count_of x)) z

  pub log_right : (f : ℤ) (a : Logged) (out out' : List ℕ) → a ≡ log_says d f out → out' ≡ log_bytes d f out → LogRight u l d f a out out'
  log_right f a out out' e o =
      record {
        below = λ n z. number z ∙ refused (count_of (negsuc n)) frame_below_zero (λ k. omega arith) (answer_below d n);
        not-settled = λ n z t. number z ∙ refused (count_of (pos n)) not_settled (λ k. omega arith) (answer_not d n t);
        narrow = λ n z t x. number z ∙ log_narrow d (count_of (pos n)) (length out) (answer_settled d n t) (omega (arith, g.shape.seats));
        settled = λ n z t x. number z ∙ log_room d (count_of (pos n)) (length out) (answer_settled d n t) (omega (arith, g.shape.seats));
        line = λ n z t x.
            o ∙ ap (λ (y : ℤ). log_bytes d y out) z ∙ logged_out d n t out (omega (arith, g.shape.seats)) ∙ ap (sets out 0) (line_right n t);
      }
    where
      number : {f' : ℤ} → f ≡ f' → a.no ≡ log_answer d (count_of f') (length out)
      number z = ap (λ (x : Logged). x.no) e ∙ log_number d f out ∙ ap (λ (x : ℤ). log_answer d (count_of x) (length out)) z

      refused : (n k : ℕ) → k ≢ 0 → show_answer d n ≡ k → log_answer d n (length out) ≡ k
      refused n k z y = log_refused d n (length out) (λ q. z (sym y ∙ q)) ∙ y

-- After a chain of calls --------------------------------------------------------------------------------------------------------

pub shown_right : ShownRight
shown_right u l d came f e m =
    let r = reached u l d came in
    subst (λ (x : Desk). ShowRight (in_force u) l x f m.answer m.out m.out_after) (sym r.run)
    (show_right (in_force u) r.fit l f m.answer m.out m.out_after
    (m.says ∙ show_lent d f ∙ ap (λ (x : Desk). show_says x f) r.run)
    (m.writes ∙ words_lent d f m.out ∙ ap (λ (x : Desk). show_words x f m.out) r.run))

pub logged_right : LoggedRight
logged_right u l d came f room e m =
    let r = reached u l d came in
    subst (λ (x : Desk). LogRight (in_force u) l x f m.answer m.out m.out_after) (sym r.run)
    (log_right (in_force u) r.fit l f m.answer m.out m.out_after
    (m.says ∙ log_lent d f m.out ∙ ap (λ (x : Desk). log_says x f m.out) r.run)
    (m.writes ∙ bytes_lent d f m.out ∙ ap (λ (x : Desk). log_bytes x f m.out) r.run))
