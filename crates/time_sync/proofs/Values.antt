-- A binary32 as a signed fraction: its bounds, and its whole part. Assumes nothing.
use Rattle.std.proofs.Common.{◌≡◌, ℕ, ◌-◌, ◌*◌, ◌/◌, ◌^◌, ◌<◌, min, Bool, true, false, cond, pos, neg_ℤ, sym, refl, ap, le_of_eq, lt_of_lt_of_le, lt_of_le_of_lt, div-lt_iff_lt-mul, lt_of_mul-lt-mul_right, mul-lt-mul_of_pos_right, mul_right_comm, arith}
use Prim.{absurd}
use lib.Ieee.{Float, nan, inf, fin, up, down, to_signed}
use lib.Ieee.Fits.{down_pos}
use lib.Ieee.Exact.{HasValue}
use lib.Ieee.Nearest.{div_same}
use Rattle.time_sync.specs.Bits.{Under31, signed, IsWholePart}

-- a bound on the one fraction is one on the other
carried : (x d a c n : ℕ) → 0 < c → x * c ≡ a * d → x < n * d → a < n * c
carried x d a c n C e h =
    lt_of_mul-lt-mul_right d
    (lt_of_lt_of_le (lt_of_le_of_lt (le_of_eq (sym e)) (mul-lt-mul_of_pos_right h C)) (le_of_eq (mul_right_comm n d c)))

pub under_of_value : (v : Float) (s : Bool) (a c : ℕ) → HasValue v s a c → a < 2 ^ 31 * c → Under31 v
under_of_value nan s a c h l = h
under_of_value (inf t) s a c h l = h
under_of_value (fin t m e) s a c h l = carried a c (m * up e) (down e) (2 ^ 31) (down_pos e) (sym h.1) l

pub value_of_under : (v : Float) (s : Bool) (a c : ℕ) → 0 < c → HasValue v s a c → Under31 v → a < 2 ^ 31 * c
value_of_under nan s a c C h u = absurd u
value_of_under (inf t) s a c C h u = absurd u
value_of_under (fin t m e) s a c C h u = carried (m * up e) (down e) a c (2 ^ 31) C h.1 u

-- truncation towards zero drops the fraction of the size, and keeps the sign
in_range : (s : Bool) (n : ℕ) → n < 2 ^ 31 → cond s (neg_ℤ (pos (min n (2 ^ 31)))) (pos (min n (2 ^ 31 - 1))) ≡ signed s n
in_range true n h = ap (λ (k : ℕ). neg_ℤ (pos k)) (let e : min n (2 ^ 31) ≡ n = omega arith in e)
in_range false n h = ap pos (let e : min n (2 ^ 31 - 1) ≡ n = omega arith in e)

pub value_cut : (v : Float) (s : Bool) (a c : ℕ) → 0 < c → HasValue v s a c → a < 2 ^ 31 * c → to_signed 31 v ≡ signed s (a / c)
unfolding to_signed
value_cut nan s a c C h l = absurd h
value_cut (inf t) s a c C h l = absurd h
value_cut (fin t m e) s a c C h l =
    let q : m * up e / down e ≡ a / c = div_same (m * up e) (down e) a c (down_pos e) C h.1 in
    rw (h.0, q) (in_range s (a / c) ((div-lt_iff_lt-mul C).1 l))

-- the same of a number's own fraction
pub whole_part : (v : Float) → Under31 v → IsWholePart v (to_signed 31 v)
whole_part nan u = u
whole_part (inf t) u = u
whole_part (fin t m e) u = value_cut (fin t m e) t (m * up e) (down e) (down_pos e) (refl, refl) u
