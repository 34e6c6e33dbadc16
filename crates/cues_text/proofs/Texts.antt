-- One text put after another. Assumes nothing.
use Prim.Native.Nat.{ℕ, suc, ◌+◌, ◌≤◌}
use native.Mathlib.Omega.{arith}
use native.Mathlib.Nat.{add-zero, add-suc, suc-add}
use mathlib.Core.Path.{◌≡◌, ◌∙◌}
use mathlib.Core.List.{List, [], ◌∷◌, ◌++◌, append-nil}
use mathlib.Core.Logic.{⊎_elim}
use lib.ListN.{length, set, length-append}
use lib.Seq.{sets}
use lib.IntN.{ℤ}
use mir.Syntax.{w32}
use mir.Val.{Fits, SFits}
use borrow.Author.Tests.{ne_eqb}
use Rattle.frame_info.specs.Refusal.{number_of}
use Rattle.frame_info.specs.declared.refusal.Refusal.{Refusal}
use Rattle.frame_info.proofs.Refusals.{number_some}
use Rattle.frame_info.proofs.Split.{split_eqb}
use Rattle.digits.specs.Digits.{decimal_text, signed_text, word_text}
use Rattle.digits.proofs.Bounds.{decimal_short, signed_short, word_eight}
use Rattle.cues_text.specs.Text.{answer_text, Puts}

pub sets_then : (s l t : List ℕ) (at : ℕ) → sets (sets l at s) (at + length s) t ≡ sets l at (s ++ t)
sets_then [] l t at = rw add-zero
sets_then (a ∷ s) l t at = rw (add-suc, ← suc-add at (length s)) (sets_then s (set l at a) t (suc at))

-- two texts
pub joined : {s t l m r : List ℕ} {j k at e last : ℕ} → Puts s j at l m e → Puts t k e m r last → Puts (s ++ t) (j + k) at l r last
joined {s = s} {t = t} {l = l} {at = at} p q =
    record {
      ends = simp length-append (omega (arith, p.ends, q.ends));
      holds = q.holds ∙ rw (p.holds, p.ends) (sets_then s l t at);
      within = omega (arith, p.within, q.within);
    }

-- a byte, and a text
pub put_one : {l m : List ℕ} {b at e : ℕ} → e ≡ at + 1 → m ≡ set l at b → Puts (b ∷ []) 1 at l m e
put_one a d = record { ends = a; holds = d; within = omega (arith, a) }

pub put_decimal_text : (n : ℕ) {l m : List ℕ} {at e : ℕ} → Fits w32 n → e ≡ at + length (decimal_text n) → m ≡ sets l at (decimal_text n) → Puts (decimal_text n) 10 at l m e
put_decimal_text n f a d = record { ends = a; holds = d; within = omega (arith, a, decimal_short n f.fits) }

pub put_signed_text : (z : ℤ) {l m : List ℕ} {at e : ℕ} → SFits w32 z → e ≡ at + length (signed_text z) → m ≡ sets l at (signed_text z) → Puts (signed_text z) 11 at l m e
put_signed_text z f a d = record { ends = a; holds = d; within = omega (arith, a, signed_short z f) }

pub put_word_text : (w : ℕ) {l m : List ℕ} {at e : ℕ} → e ≡ at + 8 → m ≡ sets l at (word_text w) → Puts (word_text w) 8 at l m e
put_word_text w a d = record { ends = omega (arith, a, word_eight w); holds = d; within = omega (arith, a) }

-- nothing after the number, and the values after a number that is 0
pub number_alone : (n : ℕ) → decimal_text n ≡ answer_text n []
unfolding answer_text
number_alone n = ⊎_elim (λ a. simp (a.1, append-nil)) (λ a. simp a.1) (split_eqb n 0)

pub told_alone : (n : ℕ) {l m : List ℕ} {k at e : ℕ} → Puts (decimal_text n) k at l m e → k ≤ 63 → Puts (answer_text n []) 63 at l m e
told_alone n p h = rw (← number_alone n) (record { ends = p.ends; holds = p.holds; within = omega (arith, p.within, h) })

pub told_done : {v l m r : List ℕ} {j k at e last : ℕ} → Puts (decimal_text 0) j at l m e → Puts v k e m r last → j + k ≤ 63 → Puts (answer_text 0 v) 63 at l r last
unfolding answer_text
told_done p q h = let p' = joined p q in record { ends = p'.ends; holds = p'.holds; within = omega (arith, p'.within, h) }

-- a call that is refused tells its number, whatever it would have told
pub told_refused : (e : Refusal) (v : List ℕ) → answer_text (number_of e) v ≡ answer_text (number_of e) []
unfolding answer_text
told_refused e v = ⊎_elim (λ a. absurd (number_some e a.0)) (λ a. simp a.1) (split_eqb (number_of e) 0)

-- so is a number that is not 0
pub told_other : (n : ℕ) (v : List ℕ) → (n ≡ 0 → ⊥) → answer_text n v ≡ answer_text n []
unfolding answer_text
told_other n v h = simp (ne_eqb n 0 h)
