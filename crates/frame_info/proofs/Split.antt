-- A test is true or false, and the numbers are so. Assumes nothing.
use Prim.Native.Nat.{ℕ, ◌<◌, ◌≤◌}
use mathlib.Core.Path.{◌≡◌, refl}
use mathlib.Core.Bool.{Bool, true, false}
use mathlib.Core.Logic.{◌⊎◌, inl, inr}
use lib.Dec.{ltb, leb, eqb}
use borrow.Author.Tests.{ltb-true, ltb-false, leb-true, leb-false, eqb-true, eqb-false}

abbrev pub Split : Bool → Type 0 → Type 0 → Type 0
Split t P Q = (P × (t ≡ true)) ⊎ (Q × (t ≡ false))

split_by : (t : Bool) {P Q : Type 0} → (t ≡ true → P) → (t ≡ false → Q) → Split t P Q
split_by true p q = inl (p refl, refl)
split_by false p q = inr (q refl, refl)

pub split_eqb : (a b : ℕ) → Split (eqb a b) (a ≡ b) (a ≡ b → ⊥)
split_eqb a b = split_by (eqb a b) (eqb-true a b) (eqb-false a b)

pub split_ltb : (a b : ℕ) → Split (ltb a b) (a < b) (b ≤ a)
split_ltb a b = split_by (ltb a b) (ltb-true a b) (ltb-false a b)

pub split_leb : (a b : ℕ) → Split (leb a b) (a ≤ b) (b < a)
split_leb a b = split_by (leb a b) (leb-true a b) (leb-false a b)

pub split_bool : (t : Bool) → (t ≡ true) ⊎ (t ≡ false)
split_bool true = inl refl
split_bool false = inr refl
