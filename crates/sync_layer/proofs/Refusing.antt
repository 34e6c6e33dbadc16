-- The refusal of the lowest seat that refuses, as the loop over the seats finds it. Assumes nothing.
use Prim.Native.Nat.{ℕ, zero, suc, ◌+◌, ◌-◌, ◌<◌}
use native.Mathlib.Omega.{arith}
use native.Mathlib.Nat.{add-zero, add-suc}
use native.Mathlib.Numerals.{add-one}
use mathlib.Core.Path.{◌≡◌, sym}
use borrow.Author.Tests.{eq-eqb, ne_eqb}
use Rattle.sync_layer.specs.Lists.{first_refusal}

module _ (g : ℕ → ℕ) where
  first_stays : (i k r : ℕ) → first_refusal i g ≡ r → (r ≡ 0 → ⊥) → first_refusal (i + k) g ≡ r
  unfolding first_refusal
  first_stays i zero r e z = rw add-zero e
  first_stays i (suc k) r e z =
      let d = first_stays i k r e z in
      rw (add-suc, d) (simp (ne_eqb _ _ z))

  -- where none so far refuses, the next one's number
  pub first_next : (i r : ℕ) → first_refusal i g ≡ 0 → r ≡ g i → first_refusal (i + 1) g ≡ r
  unfolding first_refusal
  first_next i r u e = rw add-one (simp (eq-eqb _ _ u) (sym e))

  pub first_here : (i n r : ℕ) → i < n → first_refusal i g ≡ 0 → r ≡ g i → (r ≡ 0 → ⊥) → r ≡ first_refusal n g
  first_here i n r p u e z =
      let d : i + 1 + (n - (i + 1)) ≡ n = omega arith in
      sym (rw d at (first_stays (i + 1) (n - (i + 1)) r (first_next i r u e) z))
