-- The whole part of a binary32 from its bits is its whole part by IEEE. Assumes nothing.
use Rattle.std.proofs.Common.{◌≡◌, ℕ, zero, suc, ◌+◌, ◌-◌, ◌*◌, ◌/◌, ◌%◌, ◌^◌, ◌<◌, ◌≤◌, Bool, true, false, cond, not, T, eqb, leb, sym, ap, ◌∙◌, subst, le_trans, le_of_eq, lt_of_lt_of_le, lt_of_le_of_lt, mul-le-mul_right, mod-eq_of_lt, mul_assoc, mul_comm, lt_of_not-le, not-le_of_lt, mul-div_cancel, mul_left_comm, add-one, arith, lit<, lit≤, pow_pos, pow_mono, pow-add, shl_lt, shr_lt}
use native.Mathlib.Nat.{div-eq_of_lt}
use Prim.{absurd}
use lib.Ieee.{Float, nan, inf, fin, binary32, odd, of_fields, of_bits, to_bits, to_signed, fits, is_nan}
use lib.Ieee.Bits.{of_bits-to_bits}
use lib.Ieee.Exact.{HasValue, odd_sign}
use lib.Ieee.Nearest.{div_same}
use Rattle.time_sync.specs.Bits.{Under31, whole_of, cut_of, signed}
use Rattle.time_sync.proofs.Values.{value_of_under, value_cut}

-- digits d with the exponent's field x, by how far they are shifted
whole_below : (d x : ℕ) → d < 2 ^ 24 → x < 127 → d * 2 ^ x / 2 ^ 150 ≡ 0
whole_below d x h l = div-eq_of_lt (lt_of_lt_of_le (shl_lt 24 x h) (pow_mono {i = 24 + x} {j = 150} (omega arith)))

whole_right : (d x : ℕ) → x ≤ 150 → d / 2 ^ (150 - x) ≡ d * 2 ^ x / 2 ^ 150
whole_right d x h =
    let k : x + (150 - x) ≡ 150 = omega arith in
    let e : 2 ^ x * 2 ^ (150 - x) ≡ 2 ^ 150 = sym (pow-add 2 x (150 - x)) ∙ ap (λ (n : ℕ). 2 ^ n) k in
    div_same d (2 ^ (150 - x)) (d * 2 ^ x) (2 ^ 150) (pow_pos (150 - x)) (pow_pos 150) (ap (λ (k : ℕ). d * k) (sym e) ∙ sym (mul_assoc d (2 ^ x) (2 ^ (150 - x))))

whole_left : (d x : ℕ) → d < 2 ^ 24 → 150 < x → x < 158 → d * 2 ^ (x - 150) % 2 ^ 32 ≡ d * 2 ^ x / 2 ^ 150
whole_left d x h l u =
    let e : 2 ^ (x - 150) * 2 ^ 150 ≡ 2 ^ x = sym (pow-add 2 (x - 150) 150) ∙ ap (λ (k : ℕ). 2 ^ k) (omega arith) in
    mod-eq_of_lt (lt_of_lt_of_le (shl_lt 24 (x - 150) h) (pow_mono {i = 24 + (x - 150)} {j = 32} (omega arith)))
    ∙ sym (ap (λ (k : ℕ). k / 2 ^ 150) (ap (λ (k : ℕ). d * k) (sym e) ∙ sym (mul_assoc d (2 ^ (x - 150)) (2 ^ 150))) ∙ mul-div_cancel (d * 2 ^ (x - 150)) (pow_pos 150))

-- the same of the bits without the sign's
module _ (b : ℕ) where
  few : 8388608 + b % 8388608 < 2 ^ 24
  few = omega arith

  pub whole_of_below : b / 8388608 < 127 → 0 ≡ whole_of b
  unfolding whole_of
  whole_of_below h = sym (whole_below (8388608 + b % 8388608) (b / 8388608) few h)

  pub whole_of_right : b / 8388608 ≤ 150 → (8388608 + b % 8388608) / 2 ^ (150 - b / 8388608) ≡ whole_of b
  unfolding whole_of
  whole_of_right h = whole_right (8388608 + b % 8388608) (b / 8388608) h

  pub whole_of_left : b < 158 * 2 ^ 23 → 150 < b / 8388608 → (8388608 + b % 8388608) * 2 ^ (b / 8388608 - 150) % 2 ^ 32 ≡ whole_of b
  unfolding whole_of
  whole_of_left u h = whole_left (8388608 + b % 8388608) (b / 8388608) few h (omega arith)

  pub whole_of_lt : b < 158 * 2 ^ 23 → whole_of b < 2 ^ 31
  unfolding whole_of
  whole_of_lt u =
      let x = b / 8388608 in
      let k : 24 + x ≤ 181 = omega arith in
      shr_lt 31 150 (lt_of_lt_of_le (shl_lt 24 x few) (pow_mono {i = 24 + x} {j = 181} k))

-- the fields of a number less than 2^31 in size
near : (x : ℕ) → 2 ^ (23 + x) < 2 ^ 180 → x < 157
near x h = let k : 23 + x < 180 = lt_of_not-le (λ (g : 180 ≤ 23 + x). not-le_of_lt h (pow_mono {i = 180} {j = 23 + x} g)) in omega arith

doubled : (q x p : ℕ) → q * x * (2 * p) ≡ q * (x * 2) * p
doubled q x p = simp (mul_assoc, mul_comm, mul_left_comm)

raised : (q x : ℕ) → q * 2 ^ x / 2 ^ 149 ≡ q * 2 ^ suc x / 2 ^ 150
raised q x =
    let e : 2 ^ suc x ≡ 2 ^ x * 2 = ap (λ (k : ℕ). 2 ^ k) (sym (add-one x)) ∙ pow-add 2 x 1 in
    div_same (q * 2 ^ x) (2 ^ 149) (q * 2 ^ suc x) (2 ^ 150) (pow_pos 149) (pow_pos 150)
    (rw e (doubled q (2 ^ x) (2 ^ 149)))

abbrev Cut : Float → Bool → ℕ → ℕ → Type 0
Cut v s x t = (x < 158) × (to_signed 31 v ≡ signed s ((2 ^ 23 + t) * 2 ^ x / 2 ^ 150))

fields_cut : (s : Bool) (x t : ℕ) → t < 2 ^ 23 → Under31 (of_fields binary32 s x t) → Cut (of_fields binary32 s x t) s x t
unfolding of_fields
fields_cut s zero t h u =
    let l : t * 2 ^ 0 < 2 ^ 24 = omega arith in
    let k : (2 ^ 23 + t) * 2 ^ 0 < 2 ^ 24 = omega arith in
    let e : t * 2 ^ 0 / 2 ^ 149 ≡ (2 ^ 23 + t) * 2 ^ 0 / 2 ^ 150 = div-eq_of_lt (lt_of_lt_of_le l (lit≤ tt)) ∙ sym (div-eq_of_lt (lt_of_lt_of_le k (lit≤ tt))) in (
      lit< tt,
      value_cut (odd 24 s t 0 149) s (t * 2 ^ 0) (2 ^ 149) (pow_pos 149) (odd_sign 24 s t 0 149) (lt_of_lt_of_le l (lit≤ tt)) ∙ ap (λ (n : ℕ). signed s n) e,
    )
fields_cut s (suc x) t h u = go (eqb (suc x) 255) (eqb t 0) u
  where
    go : (p q : Bool) → Under31 (cond p (cond q (inf s) nan) (odd 24 s (2 ^ 23 + t) x 149)) → Cut (cond p (cond q (inf s) nan) (odd 24 s (2 ^ 23 + t) x 149)) s (suc x) t
    go true true w = absurd w
    go true false w = absurd w
    go false q w =
        let v = odd 24 s (2 ^ 23 + t) x 149 in
        let g : HasValue v s ((2 ^ 23 + t) * 2 ^ x) (2 ^ 149) = odd_sign 24 s (2 ^ 23 + t) x 149 in
        let l : (2 ^ 23 + t) * 2 ^ x < 2 ^ 31 * 2 ^ 149 = value_of_under v s ((2 ^ 23 + t) * 2 ^ x) (2 ^ 149) (pow_pos 149) g w in
        let k : 2 ^ (23 + x) ≤ (2 ^ 23 + t) * 2 ^ x = le_trans (le_of_eq (pow-add 2 23 x)) (mul-le-mul_right (2 ^ x) (let j : 2 ^ 23 ≤ 2 ^ 23 + t = omega arith in j)) in
        (omega (arith, near x (lt_of_le_of_lt k l)), value_cut v s ((2 ^ 23 + t) * 2 ^ x) (2 ^ 149) (pow_pos 149) g l ∙ ap (λ (n : ℕ). signed s n) (raised (2 ^ 23 + t) x))

pub bits_cut : (b : ℕ) → Under31 (of_bits binary32 b) → (b % 2147483648 < 158 * 2 ^ 23) × (to_signed 31 (of_bits binary32 b) ≡ signed (leb 2147483648 b) (whole_of (b % 2147483648)))
unfolding of_bits whole_of
bits_cut b u =
    let w = fields_cut (leb 2147483648 b) (b % 2147483648 / 8388608) (b % 8388608) (omega arith) u in
    let e : b % 8388608 ≡ b % 2147483648 % 8388608 = omega arith in
    (omega (arith, w.0), w.1 ∙ ap (λ (t : ℕ). signed (leb 2147483648 b) ((2 ^ 23 + t) * 2 ^ (b % 2147483648 / 8388608) / 2 ^ 150)) e)

-- the same of a number that binary32 holds: what its bits say is what IEEE says
module _ (x : Float) (f : T (fits binary32 x)) (u : Under31 x) where
  cut : (to_bits binary32 x % 2147483648 < 158 * 2 ^ 23) × (to_signed 31 x ≡ signed (leb 2147483648 (to_bits binary32 x)) (whole_of (to_bits binary32 x % 2147483648)))
  cut =
      subst
      (λ (v : Float). (to_bits binary32 x % 2147483648 < 158 * 2 ^ 23) × (to_signed 31 v ≡ signed (leb 2147483648 (to_bits binary32 x)) (whole_of (to_bits binary32 x % 2147483648))))
      (of_bits-to_bits binary32 x f)
      (bits_cut (to_bits binary32 x) (subst Under31 (sym (of_bits-to_bits binary32 x f)) u))

  pub cut_right : to_signed 31 x ≡ cut_of x
  unfolding cut_of
  cut_right = cut.1

  pub rest_lt : to_bits binary32 x % 2147483648 < 158 * 2 ^ 23
  rest_lt = cut.0

  module _ (n : ℕ) (e : n ≡ whole_of (to_bits binary32 x % 2147483648)) where
    pub whole_lt : n < 2 ^ 31
    whole_lt = rw e (whole_of_lt (to_bits binary32 x % 2147483648) rest_lt)

-- a number within a bound is no NaN
pub under_no_nan : (x : Float) → Under31 x → T (not (is_nan x))
unfolding is_nan
under_no_nan nan u = absurd u
under_no_nan (inf s) u = absurd u
under_no_nan (fin s m e) u = tt
