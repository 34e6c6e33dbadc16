-- Two texts are the same where each byte is. Assumes nothing.
use Prim.Native.Nat.{ℕ, suc}
use native.Mathlib.Omega.{arith}
use mathlib.Core.Path.{◌≡◌, refl, ap, ◌∙◌}
use mathlib.Core.Bool.{Bool, true, false, ◌&&◌}
use mathlib.Core.List.{List, [], ◌∷◌}
use lib.ListN.{length, get_or}
use lib.Dec.{eqb}
use borrow.Author.Tests.{ne_eqb}
use lib.Pointwise.{pointwise}
use Rattle.sheet.specs.Calls.{same_text}

pub same_bytes : (s t : List ℕ) → pointwise eqb s t ≡ same_text s t
unfolding same_text
same_bytes [] [] = refl
same_bytes [] (b ∷ t) = refl
same_bytes (a ∷ s) [] = refl
same_bytes (a ∷ s) (b ∷ t) = ap (λ (x : Bool). eqb a b && x) (same_bytes s t)

pub and_true : (t : Bool) → (t && true) ≡ t
and_true true = refl
and_true false = refl

and_false : (t : Bool) → (t && false) ≡ false
and_false true = refl
and_false false = refl

pub same_one : (s : List ℕ) (a : ℕ) → same_text s (a ∷ []) ≡ (eqb (length s) 1 && eqb (get_or s 0 0) a)
unfolding same_text
same_one [] a = refl
same_one (x ∷ []) a = and_true (eqb x a)
same_one (x ∷ y ∷ s) a = rw (ne_eqb (suc (suc (length s))) 1 (λ e. omega arith)) (and_false (eqb x a))

pub same_two : (s : List ℕ) (a b : ℕ) → same_text s (a ∷ b ∷ []) ≡ (eqb (length s) 2 && (eqb (get_or s 0 0) a && eqb (get_or s 1 0) b))
unfolding same_text
same_two [] a b = refl
same_two (x ∷ []) a b = and_false (eqb x a)
same_two (x ∷ y ∷ []) a b = ap (λ (t : Bool). eqb x a && t) (and_true (eqb y b))
same_two (x ∷ y ∷ z ∷ s) a b = rw (ne_eqb (suc (suc (suc (length s)))) 2 (λ e. omega arith)) (ap (λ (t : Bool). eqb x a && t) (and_false (eqb y b)) ∙ and_false (eqb x a))

pub ruleset texts = (same_bytes, same_one, same_two)
