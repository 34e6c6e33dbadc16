-- With all entries in -1000..1000 the answer is the truncation of (R - L) / 60; where 60 divides R - L and R differs from L it may be one nearer zero.
-- The sums are exact in binary32. Each quotient, the difference and the half are rounded with a small error, together less than 1 / 60. Assumes nothing.
use Rattle.std.proofs.Common.{◌≡◌, ℕ, zero, suc, ◌+◌, ◌-◌, ◌*◌, ◌/◌, ◌%◌, ◌^◌, ◌<◌, ◌≤◌, Bool, true, false, not, List, get_or, ℤ, pos, negsuc, ◌+ℤ◌, ◌-ℤ◌, nat_abs, sym, ap, ◌∙◌, subst, inl, inr, ⊎_elim, zero-le, le_refl, add-zero, zero-lt-suc, add-mul, zero-add, zero-mul, arith, lit<, lit≤, w32, le-ltb, lt-ltb}
use lib.IntN.{sub_ℕ}
use mir.Facts.{to_z_pos, to_z-neg}
use lib.Ieee.{Float, fin, binary32, div, sub}
use lib.Ieee.Exact.{HasValue}
use lib.Ieee.Back.{round_whole}
use Rattle.frame_info.proofs.Split.{split_ltb}
use Rattle.time_sync.specs.Sums.{sum_to, wrapped, window_sum}
use Rattle.time_sync.specs.Averages.{in_binary32, average, half}
use Rattle.time_sync.specs.Answer.{frame_advantage, Small, ExactCase}
use Rattle.time_sync.specs.Bits.{signed}
use Rattle.time_sync.specs.declared.TimeSync.{TimeSync}
use Rattle.time_sync.proofs.Constants.{two}
use Rattle.time_sync.proofs.Values.{value_of_under, value_cut}
use Rattle.time_sync.proofs.Rounding.{unit, grain, unit_grain, unit_pos, grain_pos, Near, rounded, near_le}
use Rattle.time_sync.proofs.Steps.{below, of-int}
use Rattle.time_sync.proofs.Meeting.{over, under, Halved, halved}
use Rattle.time_sync.proofs.Bounds.{average_at, half_under}
use Rattle.time_sync.proofs.Sixtieth.{sixtieth}

-- the size of a sum is at most the sum of the sizes
mixed : (a b : ℕ) → nat_abs (sub_ℕ a (suc b)) ≤ a + suc b
mixed a b = ⊎_elim (λ w. rw w.1 (omega (arith, w.0))) (λ w. rw w.1 (omega (arith, w.0))) (split_ltb a (suc b))

abs_add : (a b : ℤ) → nat_abs (a +ℤ b) ≤ nat_abs a + nat_abs b
abs_add (pos a) (pos b) = le_refl (a + b)
abs_add (pos a) (negsuc b) = mixed a b
abs_add (negsuc a) (pos b) = omega (arith, mixed b a)
abs_add (negsuc a) (negsuc b) = omega arith

module _ (w : List ℤ) (h : Small w) where
  sum_le : (n : ℕ) → n ≤ 30 → nat_abs (sum_to n w) ≤ 1000 * n
  unfolding sum_to
  sum_le zero k = lit≤ tt
  sum_le (suc n) k = omega (arith, sum_le n (let l : n ≤ 30 = omega arith in l), h n (let l : n < 30 = omega arith in l), abs_add (sum_to n w) (get_or w n (pos 0)))

  pub small_sum : nat_abs (sum_to 30 w) ≤ 30000
  small_sum = sum_le 30 (le_refl 30)

-- a number that is an i32 already stays as it is
pub wrapped_plain : (z : ℤ) → nat_abs z ≤ 30000 → wrapped z ≡ z
wrapped_plain (pos n) h =
    let e : n % 4294967296 ≡ n = omega arith in
    rw e (to_z_pos w32 {n = n} (omega arith))
wrapped_plain (negsuc n) h =
    let e : n % 4294967296 ≡ n = omega arith in
    rw e (to_z-neg w32 n (omega arith))

-- an average of small entries: the sum is exact, and only the quotient is rounded
module _ (w : List ℤ) (h : Small w) where
  abbrev z : ℤ
  z = sum_to 30 w

  plain : window_sum w ≡ z
  unfolding window_sum
  plain = wrapped_plain z (small_sum w h)

  exact : HasValue (in_binary32 (window_sum w)) (below z) (nat_abs z) 1
  exact =
      subst (λ (x : Float). HasValue x (below z) (nat_abs z) 1) (sym (ap in_binary32 plain ∙ of-int z))
      (round_whole binary32 (below z) (nat_abs z) (omega (arith, small_sum w h)))

  mean : Near (average w) (below z) (nat_abs z) 30 (2 ^ 10 * grain)
  mean =
      subst (λ (x : Float). Near x (below z) (nat_abs z) 30 (2 ^ 10 * grain)) (sym (average_at w (below z) (nat_abs z) 1 (lit< tt) exact))
      (rounded (below z) (nat_abs z) 30 10 (lit< tt) (lit≤ tt) (omega (arith, small_sum w h)))

  mean_le : mean.count ≤ 1000 * unit + 2 ^ 10 * grain
  mean_le = near_le (average w) (below z) (nat_abs z) 30 (2 ^ 10 * grain) 1000 mean (lit< tt) (omega (arith, small_sum w h))

-- a bound on a size is one on what is above zero and on what is below
module _ (v : Float) (s : Bool) (n e : ℕ) (m : Near v s n 30 e) where
  part_hi : (t : Bool) → 30 * over t m.count ≤ over t n * unit + 30 * e
  part_hi true = omega (arith, zero-mul unit)
  part_hi false = omega (arith, m.hi)

  part_lo : (t : Bool) → over t n * unit ≤ 30 * over t m.count + 30 * e
  part_lo true = omega (arith, zero-mul unit)
  part_lo false = omega (arith, m.lo)

-- R - L as the difference of what is above zero and what is below
abbrev above : ℤ → ℤ → ℕ
above r l = over (below r) (nat_abs r) + under (below l) (nat_abs l)

none_off : (n : ℕ) → sub_ℕ n 0 ≡ pos n
none_off n = rw (le-ltb n 0 zero-le) (ap pos (let e : n - 0 ≡ n = omega arith in e))

all_off : (n : ℕ) → sub_ℕ 0 (suc n) ≡ negsuc n
all_off n = rw (lt-ltb 0 (suc n) (zero-lt-suc n)) (ap negsuc (let e : suc n - 1 ≡ n = omega arith in e))

minus_is : (r l : ℤ) → r -ℤ l ≡ sub_ℕ (above r l) (above l r)
minus_is (pos a) (pos zero) = sym (none_off (a + 0))
minus_is (pos a) (pos (suc b)) = rw (add-zero a, add-zero (suc b))
minus_is (pos a) (negsuc b) = sym (none_off (a + suc b))
minus_is (negsuc a) (pos zero) = rw (zero-add (suc a))
minus_is (negsuc a) (pos (suc b)) = let e : suc b + suc a ≡ suc (suc (a + b)) = omega arith in rw e (sym (all_off (suc (a + b))))
minus_is (negsuc a) (negsuc b) = rw (zero-add (suc a), zero-add (suc b))

module _ (s : TimeSync) (hl : Small s.local) (hr : Small s.remote) where
  abbrev r : ℤ
  r = sum_to 30 s.remote

  abbrev l : ℤ
  l = sum_to 30 s.local

  x : Near (average s.remote) (below r) (nat_abs r) 30 (2 ^ 10 * grain)
  x = mean s.remote hr

  y : Near (average s.local) (below l) (nat_abs l) 30 (2 ^ 10 * grain)
  y = mean s.local hl

  room : x.count + y.count ≤ 2 ^ 11 * unit
  unfolding x y
  room = omega (arith, mean_le s.remote hr, mean_le s.local hl, unit_grain)

  h : Halved (div binary32 (sub binary32 (average s.remote) (average s.local)) (fin false 1 (pos 1))) (below r) x.count (below l) y.count (2 ^ 11 * grain)
  h = halved (average s.remote) (average s.local) (below r) (below l) x.count y.count 11 (lit≤ tt) x.value y.value room

  half_value : HasValue (half s) h.sign h.count unit
  unfolding half
  half_value = rw two h.value

  answer : frame_advantage s ≡ signed h.sign (h.count / unit)
  unfolding frame_advantage
  answer = value_cut (half s) h.sign h.count unit unit_pos half_value (value_of_under (half s) h.sign h.count unit unit_pos half_value (half_under s))

  -- 60 times the half is R - L, with an error of at most 300 * 2^10 grains
  xs : (t : Bool) → (30 * over t x.count ≤ over t (nat_abs r) * unit + 30 * (2 ^ 10 * grain)) × (over t (nat_abs r) * unit ≤ 30 * over t x.count + 30 * (2 ^ 10 * grain))
  xs t = (part_hi (average s.remote) (below r) (nat_abs r) (2 ^ 10 * grain) x t, part_lo (average s.remote) (below r) (nat_abs r) (2 ^ 10 * grain) x t)

  ys : (t : Bool) → (30 * over t y.count ≤ over t (nat_abs l) * unit + 30 * (2 ^ 10 * grain)) × (over t (nat_abs l) * unit ≤ 30 * over t y.count + 30 * (2 ^ 10 * grain))
  ys t = (part_hi (average s.local) (below l) (nat_abs l) (2 ^ 10 * grain) y t, part_lo (average s.local) (below l) (nat_abs l) (2 ^ 10 * grain) y t)

  near : (60 * over h.sign h.count + above l r * unit ≤ 60 * under h.sign h.count + above r l * unit + 300 * (1024 * grain))
      × (60 * under h.sign h.count + above r l * unit ≤ 60 * over h.sign h.count + above l r * unit + 300 * (1024 * grain))
  near =
      let a = add-mul (over (below l) (nat_abs l)) (under (below r) (nat_abs r)) unit in
      let b = add-mul (over (below r) (nat_abs r)) (under (below l) (nat_abs l)) unit in
      let x₁ = xs (below r) in
      let x₂ = xs (not (below r)) in
      let y₁ = ys (below l) in
      let y₂ = ys (not (below l)) in
      (omega (arith, h.hi), omega (arith, h.lo))

  pub exact_case : ExactCase s
  exact_case =
      let d = minus_is r l in
      let e : unit ≡ 8192 * (1024 * grain) = omega (arith, unit_grain) in
      let w = sixtieth unit (1024 * grain) e (omega (arith, grain_pos)) h.sign h.count (above r l) (above l r) near.0 near.1 in
      rw (d, answer) (⊎_elim (λ v. inl v) (λ v. inr (v.0, (λ q. v.1 (ap (λ (k : ℤ). above k l) q ∙ sym (ap (λ (k : ℤ). above l k) q))), v.2)) w)
