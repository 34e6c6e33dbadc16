-- The whole part of a number that is near d / 60. Assumes nothing.
use Rattle.std.proofs.Common.{◌≡◌, ℕ, zero, suc, ◌+◌, ◌-◌, ◌*◌, ◌/◌, ◌%◌, ◌<◌, ◌≤◌, Bool, true, false, ◌⊎◌, ℤ, pos, negsuc, neg_ℤ, sym, refl, ap, ◌∙◌, inl, inr, ⊎_elim, lt_irrefl, mul-le-mul_right, zero-lt-suc, mul_assoc, mul_comm, add-mul, one-mul, div-add-mod', zero-mul, add-one, arith}
use native.Mathlib.Nat.{div-eq_of_lt-le, div-eq_of_lt}
use Prim.{absurd}
use lib.IntN.{sub_ℕ}
use lib.Signed.{quot_z, rem_z}
use Rattle.frame_info.proofs.Split.{split_eqb, split_ltb}
use Rattle.time_sync.specs.Answer.{nearer}
use Rattle.time_sync.specs.Bits.{signed}
use Rattle.time_sync.proofs.Meeting.{over, under}

-- u makes one, and e is so small that 8192 of it make one
module _ (u e : ℕ) (U : u ≡ 8192 * e) (E : 0 < e) where
  -- d is 60 q and a rest
  split : (d : ℕ) → d * u ≡ 60 * (d / 60 * u) + d % 60 * u
  split d =
      ap (λ (x : ℕ). x * u) (sym (div-add-mod' d 60)) ∙ add-mul (d / 60 * 60) (d % 60) u
      ∙ ap (λ (x : ℕ). x + d % 60 * u) (ap (λ (x : ℕ). x * u) (mul_comm (d / 60) 60) ∙ mul_assoc 60 (d / 60) u)

  more : (q : ℕ) → (q + 1) * u ≡ q * u + u
  more q = add-mul q 1 u ∙ ap (λ (x : ℕ). q * u + x) (one-mul u)

  module _ (g d : ℕ) (hi : 60 * g ≤ d * u + 300 * e) (lo : d * u ≤ 60 * g + 300 * e) where
    -- with a rest, the whole part is q
    some : 0 < d % 60 → g / u ≡ d / 60
    some h =
        let a : 1 * u ≤ d % 60 * u = mul-le-mul_right u h in
        let b : d % 60 * u ≤ 59 * u = mul-le-mul_right u (let k : d % 60 ≤ 59 = omega arith in k) in
        div-eq_of_lt-le {k = d / 60} u {m = g} (omega (arith, split d)) (rw (more (d / 60)) (omega (arith, split d)))

    -- with none, it is q, or one less where the number lies below q
    none : d % 60 ≡ 0 → (g / u ≡ d / 60) ⊎ ((0 < d / 60) × (g / u ≡ d / 60 - 1))
    none h =
        let z : d % 60 * u ≡ 0 = ap (λ (x : ℕ). x * u) h ∙ zero-mul u in
        let s = split d in
        ⊎_elim
        (λ w. inr (below (d / 60) w.0 (omega (arith, w.0))))
        (λ w. inl (div-eq_of_lt-le {k = d / 60} u {m = g} w.0 (rw (more (d / 60)) (omega (arith, w.0)))))
        (split_ltb g (d / 60 * u))
      where
        below : (q : ℕ) → g < q * u → q * u ≤ g + 5 * e → (0 < q) × (g / u ≡ q - 1)
        below zero a b = absurd (omega (arith, zero-mul u))
        below (suc q) a b =
            let m : suc q * u ≡ q * u + u = ap (λ (x : ℕ). x * u) (sym (add-one q)) ∙ more q in
            let k : suc q - 1 ≡ q = omega arith in
            (zero-lt-suc q, rw k (div-eq_of_lt-le {k = q} u {m = g} (omega arith) (rw (more q) (omega arith))))

    either : (g / u ≡ d / 60) ⊎ ((d % 60 ≡ 0) × (0 < d / 60) × (g / u ≡ d / 60 - 1))
    either =
        ⊎_elim
        (λ w. ⊎_elim (λ x. inl x) (λ x. inr (w.0, x.0, x.1)) (none w.0))
        (λ w. inl (some (let k : 0 < d % 60 = omega (arith, w.0) in k)))
        (split_eqb (d % 60) 0)

  -- a number that is no more than 300 e is below one
  tiny : (d : ℕ) → d * u ≤ 300 * e → d ≡ 0
  tiny zero h = refl
  tiny (suc d) h = absurd (omega (arith, mul-le-mul_right u (let k : 1 ≤ suc d = omega arith in k)))

  -- the distance of two numbers, counted in the same way
  moved : (p m d : ℕ) → m ≡ p + d → m * u ≡ p * u + d * u
  moved p m d k = ap (λ (x : ℕ). x * u) k ∙ add-mul p d u

  -- z is the difference. The answer a is z / 60 without its fraction, or one nearer zero where 60 divides z and `differ` holds
  abbrev Answer : ℤ → ℤ → Type 0 → Type 0
  Answer a z differ = (a ≡ quot_z z (pos 60)) ⊎ ((rem_z z (pos 60) ≡ pos 0) × differ × (a ≡ nearer (quot_z z (pos 60))))

  nearer_minus : (q : ℕ) → 0 < q → neg_ℤ (pos (q - 1)) ≡ nearer (neg_ℤ (pos q))
  nearer_minus zero h = absurd (lt_irrefl 0 h)
  nearer_minus (suc q) h = ap (λ (x : ℕ). neg_ℤ (pos x)) (let k : suc q - 1 ≡ q = omega arith in k)

  -- below 0
  minus : (s : Bool) (g p m : ℕ) → p < m → 60 * over s g + m * u ≤ 60 * under s g + p * u + 300 * e → 60 * under s g + p * u ≤ 60 * over s g + m * u + 300 * e
      → Answer (signed s (g / u)) (negsuc (m - suc p)) (p ≡ m → ⊥)
  minus true g p m l hi lo =
      let k = moved p m (suc (m - suc p)) (omega arith) in
      ⊎_elim
      (λ x. inl (ap (λ (n : ℕ). neg_ℤ (pos n)) x))
      (λ x. inr (ap (λ (n : ℕ). neg_ℤ (pos n)) x.0, (λ y. omega arith), ap (λ (n : ℕ). neg_ℤ (pos n)) x.2 ∙ nearer_minus (suc (m - suc p) / 60) x.1))
      (either g (suc (m - suc p)) (omega arith) (omega arith))
  minus false g p m l hi lo =
      let k = moved p m (suc (m - suc p)) (omega arith) in
      let z = tiny (suc (m - suc p)) (omega arith) in
      absurd (omega arith)

  -- from 0 on
  plus : (s : Bool) (g p m : ℕ) → m ≤ p → 60 * over s g + m * u ≤ 60 * under s g + p * u + 300 * e → 60 * under s g + p * u ≤ 60 * over s g + m * u + 300 * e
      → Answer (signed s (g / u)) (pos (p - m)) (p ≡ m → ⊥)
  plus false g p m l hi lo =
      let k = moved m p (p - m) (omega arith) in
      ⊎_elim
      (λ x. inl (ap pos x))
      (λ x. inr (ap pos x.0, (λ y. omega (arith, x.1)), ap pos x.2))
      (either g (p - m) (omega arith) (omega arith))
  plus true g p m l hi lo =
      let k = moved m p (p - m) (omega arith) in
      let z = tiny (p - m) (omega arith) in
      let q : g / u ≡ 0 = div-eq_of_lt (omega arith) in
      inl (rw (z, q))

  pub sixtieth : (s : Bool) (g p m : ℕ) → 60 * over s g + m * u ≤ 60 * under s g + p * u + 300 * e → 60 * under s g + p * u ≤ 60 * over s g + m * u + 300 * e
      → (signed s (g / u) ≡ quot_z (sub_ℕ p m) (pos 60)) ⊎ ((rem_z (sub_ℕ p m) (pos 60) ≡ pos 0) × (p ≡ m → ⊥) × (signed s (g / u) ≡ nearer (quot_z (sub_ℕ p m) (pos 60))))
  sixtieth s g p m hi lo =
      ⊎_elim
      (λ w. rw w.1 (minus s g p m w.0 hi lo))
      (λ w. rw w.1 (plus s g p m w.0 hi lo))
      (split_ltb p m)
