-- A take, a show and a log look at no list that they are not lent: on a desk's own lists they answer as on all of them. A frame that crosses the
-- edge comes back from its bits as f'. Assumes nothing.
use Prim.Native.Nat.{ℕ}
use mathlib.Core.Path.{◌≡◌, refl, sym, ap, ◌∙◌}
use mathlib.Core.Logic.{⊎_elim}
use mathlib.Core.List.{List, []}
use lib.IntN.{ℤ}
use borrow.Author.Tests.{ne_eqb}
use Rattle.frame_info.specs.Frame.{null_frame, count_of}
use Rattle.frame_info.specs.Refusal.{number_of}
use Rattle.frame_info.specs.declared.refusal.Refusal.{Refusal}
use Rattle.frame_info.proofs.Refusals.{number_some}
use Rattle.frame_info.proofs.Split.{split_eqb}
use Rattle.desk.specs.Answer.{Taken}
use Rattle.desk.specs.Desk.{Desk, desk_of, take_answer, take}
use Rattle.desk.specs.Calls as calls
use Rattle.desk.specs.Settled.{is_settled}
use Rattle.desk_value.specs.declared.Desk as own
use Rattle.desk_value.specs.Value as held

take-number : (d : Desk) (s : ℕ) (f : ℤ) → (calls.take_says d s f).no ≡ take_answer d s (count_of f)
unfolding calls.take_says
take-number d s f = ⊎_elim (λ a. simp a.1 (sym a.0)) (λ a. simp a.1) (split_eqb (take_answer d s (count_of f)) 0)

module _ (y : own.Desk) where
  take-says : (s : ℕ) (f : ℤ) → calls.take_says (desk_of y.state y.seats y.words []) s f ≡ calls.take_says (held.lent y) s f
  unfolding calls.take_says take_answer
  take-says s f = refl

  pub take_refused : (s : ℕ) (f f' : ℤ) (w : ℕ) (r : Refusal) → f' ≡ f
      → record { no = number_of r; place = null_frame } ≡ calls.take_says (desk_of y.state y.seats y.words []) s f'
      → record { no = number_of r; place = null_frame; desk = y } ≡ held.taken y s f w
  unfolding held.taken take
  take_refused s f f' w r e g =
      let a = g ∙ take-says s f' ∙ ap (calls.take_says (held.lent y) s) e in
      let z : take_answer (held.lent y) s (count_of f) ≡ 0 → ⊥
      = λ h. number_some r (ap (λ (x : Taken). x.no) a ∙ take-number (held.lent y) s f ∙ h) in
      simp (ne_eqb _ _ z) (λ i. record { no = (a i).no; place = (a i).place; desk = y })

  pub show-answer : (n : ℕ) → calls.show_answer (desk_of y.state y.seats [] y.slots) n ≡ calls.show_answer (held.lent y) n
  unfolding calls.show_answer is_settled
  show-answer n = refl

  pub log-says : (f : ℤ) (l : List ℕ) → calls.log_says (desk_of y.state y.seats [] y.slots) f l ≡ calls.log_says (held.lent y) f l
  unfolding calls.log_says calls.log_answer calls.show_answer is_settled
  log-says f l = refl

  pub log-bytes : (f : ℤ) (l : List ℕ) → calls.log_bytes (desk_of y.state y.seats [] y.slots) f l ≡ calls.log_bytes (held.lent y) f l
  unfolding calls.log_bytes calls.log_answer calls.show_answer is_settled
  log-bytes f l = refl

pub ruleset shows = (number_some, show-answer)

pub ruleset logs = (log-says, log-bytes)
