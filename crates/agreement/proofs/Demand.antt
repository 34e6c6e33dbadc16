-- Demand 3. Assumes nothing.
use Prim.Native.Nat.{ℕ, suc, ◌-◌, ◌<◌}
use native.Mathlib.Omega.{arith}
use mathlib.Core.Path.{◌≡◌, ap, ap₂, sym, ◌∙◌, subst}
use mathlib.Core.Logic.{inl, inr, ⊎_elim}
use mathlib.Core.List.{List}
use Prim.{absurd}
use lib.ListN.{length}
use Rattle.frame_info.proofs.Split.{split_eqb}
use Rattle.console.specs.declared.Console.{Console}
use Rattle.desk.specs.Lists.{row_of}
use Rattle.desk.specs.Desk.{Desk, queue_of}
use Rattle.desk.specs.Settled.{Settles, shown_word, shown_words, shown_state}
use Rattle.desk.specs.Runs.{EitherBegins}
use Rattle.agreement.specs.Reference.{ref_word}
use Rattle.agreement.proofs.Sound.{row_same, ref_same, SeatsSettled, settled_word, settled_row, settled_state, stepping, ref_state}
use Rattle.agreement.proofs.Flat.{least_le, lowest_none, lowest_le}
use Rattle.agreement.proofs.Steps.{view_of, Shape, state_saved}
use Rattle.agreement.proofs.Take.{read_at}
use Rattle.agreement.proofs.Stored.{Grown, grown_append, stored, stored_word}
use Rattle.agreement.proofs.Run.{Good}

-- a settled frame is settled seat by seat
pub settles_seats : {n L : ℕ} {d : Desk} {f : ℕ} → Shape n L d → Settles d f → SeatsSettled n L (view_of d) f
settles_seats {n} {L} {d} {f} s t = record {
  past = t.past;
  slot = omega (arith, t.slot, s.limit);
  known = λ x h. omega (arith, t.known, least_le (d.state.seats - 1) (λ y. (queue_of d y).last_added_count) x (omega (arith, s.seats)));
  right = λ x h. ⊎_elim
      (λ a. inl a.0)
      (λ a. inr (⊎_elim
      (λ o. absurd (a.0 (lowest_none d.state.seats (λ y. (queue_of d y).first_incorrect_count) o x (omega (arith, s.seats)))))
      (λ o. omega (arith, o, lowest_le d.state.seats (λ y. (queue_of d y).first_incorrect_count) x (omega (arith, s.seats)) a.0))
      t.right))
      (split_eqb (queue_of d x).first_incorrect_count 0);
}

-- What a settled frame shows is what the desk that never guesses has.
module _ {step : Console → List ℕ → Console} {p : ℕ → ℕ} {n L : ℕ} {delay : ℕ → ℕ} {A : ℕ → List ℕ} {d : Desk} where
  -- from the words stored
  pub shown-words : Good step p n L delay A d → (f : ℕ) → Settles d f → shown_words d f ≡ row_of n (λ s. read_at (stored (delay s) (A s)) f)
  shown-words g f t =
      ap (λ (m : ℕ). row_of m (shown_word d f)) g.shape.seats
      ∙ settled_row g.sound f (settles_seats g.shape t)

  pub shown-state : Good step p n L delay A d → (f : ℕ) → Settles d f → shown_state step d f ≡ ref_state n (stepping step) (λ s. read_at (stored (delay s) (A s))) (suc f)
  shown-state g f t =
      ap₂ step (sym (state_saved d f t.past)) (ap (λ (m : ℕ). row_of m (shown_word d f)) g.shape.seats)
      ∙ settled_state g.sound f (settles_seats g.shape t)

  -- the frame's place is within the words stored
  pub known_words : Good step p n L delay A d → (f : ℕ) → Settles d f → (s : ℕ) → s < n → f < length (stored (delay s) (A s))
  known_words g f t s h = omega (arith, (settles_seats g.shape t).known s h, (g.counted s h).last_added_count)

  -- and from the words accepted and the delays
  pub shown_words_ref : Good step p n L delay A d → (f : ℕ) → Settles d f → shown_words d f ≡ row_of n (λ s. ref_word (delay s) (A s) f)
  shown_words_ref g f t =
      shown-words g f t
      ∙ row_same n (λ s. read_at (stored (delay s) (A s)) f) (λ s. ref_word (delay s) (A s) f) (λ s x. stored_word (delay s) (A s) f (known_words g f t s x))

  -- seat by seat
  pub shown_word_ref : Good step p n L delay A d → (f : ℕ) → Settles d f → (s : ℕ) → s < n → shown_word d f s ≡ ref_word (delay s) (A s) f
  shown_word_ref g f t s x =
      let v = settles_seats g.shape t in
      settled_word g.sound f v f s x (omega (arith, v.slot)) (omega arith) ∙ stored_word (delay s) (A s) f (known_words g f t s x)

  pub shown_state_ref : Good step p n L delay A d → (f : ℕ) → Settles d f → shown_state step d f ≡ ref_state n (stepping step) (λ s. ref_word (delay s) (A s)) (suc f)
  shown_state_ref g f t =
      shown-state g f t
      ∙ ref_same n (stepping step) (λ s. read_at (stored (delay s) (A s))) (λ s. ref_word (delay s) (A s)) (suc f)
      (λ s k x y. stored_word (delay s) (A s) k (omega (arith, known_words g f t s x)))

-- the words stored of two lists, one of which begins the other
pub stored_begins : (d : ℕ) (a b : List ℕ) (f : ℕ) → EitherBegins a b → f < length (stored d a) → f < length (stored d b) → read_at (stored d a) f ≡ read_at (stored d b) f
unfolding EitherBegins
stored_begins d a b f (inl k) x y = sym ((subst (λ (c : List ℕ). Grown (stored d a) (stored d c)) (sym k.1) (grown_append d a k.0)).same f x)
stored_begins d a b f (inr k) x y = (subst (λ (c : List ℕ). Grown (stored d b) (stored d c)) (sym k.1) (grown_append d b k.0)).same f y

stored_begins_at : (d e : ℕ) (a b : List ℕ) (f : ℕ) → d ≡ e → EitherBegins a b → f < length (stored d a) → f < length (stored e b) → read_at (stored d a) f ≡ read_at (stored e b) f
stored_begins_at d e a b f k h x y =
    let z : f < length (stored d b) = rw k y in
    stored_begins d a b f h x z ∙ ap (λ (n : ℕ). read_at (stored n b) f) k

-- Two desks with the same seats and delays, each with its own limit and predictor.
module _ {step : Console → List ℕ → Console} {p q : ℕ → ℕ} {n L M : ℕ} {delay delay' : ℕ → ℕ} {A B : ℕ → List ℕ} {d e : Desk}
    (g : Good step p n L delay A d) (h : Good step q n M delay' B e) (late : (s : ℕ) → s < n → delay s ≡ delay' s) (same : (s : ℕ) → s < n → EitherBegins (A s) (B s)) where
  pub agree_words : (f : ℕ) → Settles d f → Settles e f → shown_words d f ≡ shown_words e f
  agree_words f t v =
      shown-words g f t
      ∙ row_same n (λ s. read_at (stored (delay s) (A s)) f) (λ s. read_at (stored (delay' s) (B s)) f) (λ s x. stored_begins_at (delay s) (delay' s) (A s) (B s) f (late s x) (same s x) (known_words g f t s x) (known_words h f v s x))
      ∙ sym (shown-words h f v)

  pub agree_state : (f : ℕ) → Settles d f → Settles e f → shown_state step d f ≡ shown_state step e f
  agree_state f t v =
      shown-state g f t
      ∙ ref_same n (stepping step) (λ s. read_at (stored (delay s) (A s))) (λ s. read_at (stored (delay' s) (B s))) (suc f)
      (λ s k x y. stored_begins_at (delay s) (delay' s) (A s) (B s) k (late s x) (same s x) (omega (arith, known_words g f t s x)) (omega (arith, known_words h f v s x)))
      ∙ sym (shown-state h f v)
