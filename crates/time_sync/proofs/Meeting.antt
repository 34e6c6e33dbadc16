-- Half of a difference of two binary32 values, with a bound on the error. Assumes nothing.
use Rattle.std.proofs.Common.{◌≡◌, ℕ, ◌+◌, ◌-◌, ◌*◌, ◌^◌, ◌<◌, ◌≤◌, Bool, true, false, not, pos, sym, refl, ap, ◌∙◌, subst, ⊎_elim, le_trans, le_of_eq, le_refl, mul_assoc, add-mul, mul-le-mul_left, one-mul, mul_right_comm, le_of_mul-le-mul_right, mul_left_comm, arith}
use lib.Ieee.{Float, fin, binary32, round, div, sub, sum}
use lib.Ieee.Exact.{HasValue}
use Rattle.frame_info.proofs.Split.{split_ltb}
use Rattle.time_sync.proofs.Rounding.{unit, grain, unit_grain, unit_pos, Near, rounded, near_le}
use Rattle.time_sync.proofs.Steps.{div_by, sub_at}

-- a size with a sign is the difference of two numbers, one of which is 0
abbrev pub over : Bool → ℕ → ℕ
over true n = 0
over false n = n

abbrev pub under : Bool → ℕ → ℕ
under s n = over (not s) n

-- ±a - ±b is one size with a sign, and the sum rounds that
record Apart (s : Bool) (a : ℕ) (t : Bool) (b c : ℕ) : Type 0 where
  sign : Bool
  gap : ℕ
  is : sum binary32 s a (not t) b c ≡ round binary32 sign gap c
  few : gap ≤ a + b
  even : over sign gap + (under s a + over t b) ≡ under sign gap + (over s a + under t b)

apart : (s : Bool) (a : ℕ) (t : Bool) (b c : ℕ) → Apart s a t b c
unfolding sum
apart true a false b c = record { sign = true; gap = a + b; is = refl; few = le_refl (a + b); even = omega arith }
apart false a true b c = record { sign = false; gap = a + b; is = refl; few = le_refl (a + b); even = omega arith }
apart false a false b c =
    ⊎_elim
    (λ w. record { sign = true; gap = b - a; is = rw w.1; few = omega (arith, w.0); even = omega (arith, w.0) })
    (λ w. record { sign = false; gap = a - b; is = rw w.1; few = omega (arith, w.0); even = omega (arith, w.0) })
    (split_ltb a b)
apart true a true b c =
    ⊎_elim
    (λ w. record { sign = false; gap = b - a; is = rw w.1; few = omega (arith, w.0); even = omega (arith, w.0) })
    (λ w.
    ⊎_elim
    (λ v. record { sign = true; gap = a - b; is = rw (w.1, v.1); few = omega (arith, w.0); even = omega (arith, w.0) })
    (λ v. record { sign = false; gap = a - b; is = rw (w.1, v.1); few = omega (arith, w.0); even = omega (arith, w.0, v.0) })
    (split_ltb b a))
    (split_ltb a b)

-- the unit is divided out of a bound
module _ (v : Float) (s : Bool) (a k e : ℕ) (m : Near v s a (k * unit) e) where
  pub out_hi : k * m.count ≤ a + k * e
  out_hi =
      le_of_mul-le-mul_right {m = k * m.count} {n = a + k * e} {k = unit}
      (le_trans (le_of_eq (mul_assoc k m.count unit ∙ mul_left_comm k m.count unit))
      (le_trans m.hi (le_of_eq (ap (λ (x : ℕ). a * unit + x) (mul_right_comm k unit e) ∙ sym (add-mul a (k * e) unit)))))
      unit_pos

  pub out_lo : a ≤ k * m.count + k * e
  out_lo =
      le_of_mul-le-mul_right {m = a} {n = k * m.count + k * e} {k = unit}
      (le_trans m.lo
      (le_of_eq
      (ap (λ (x : ℕ). x + k * unit * e) (mul_left_comm m.count k unit ∙ sym (mul_assoc k m.count unit))
      ∙ ap (λ (x : ℕ). k * m.count * unit + x) (mul_right_comm k unit e)
      ∙ sym (add-mul (k * m.count) (k * e) unit))))
      unit_pos

-- half of ±a - ±b, with an error of at most 3 / 2 of e
pub record Halved (v : Float) (s : Bool) (a : ℕ) (t : Bool) (b e : ℕ) : Type 0 where
  pub sign : Bool
  pub count : ℕ
  pub value : HasValue v sign count unit
  pub hi : 2 * over sign count + (under s a + over t b) ≤ 2 * under sign count + (over s a + under t b) + 3 * e
  pub lo : 2 * under sign count + (over s a + under t b) ≤ 2 * over sign count + (under s a + over t b) + 3 * e

steady : (u : Bool) (g h e x y : ℕ) → 2 * h ≤ g + 3 * e → g ≤ 2 * h + 3 * e → over u g + x ≡ under u g + y
    → (2 * over u h + x ≤ 2 * under u h + y + 3 * e) × (2 * under u h + y ≤ 2 * over u h + x + 3 * e)
steady true g h e x y p q r = (omega arith, omega arith)
steady false g h e x y p q r = (omega arith, omega arith)

module _ (x y : Float) (s t : Bool) (a b j : ℕ) (r : j ≤ 100) (p : HasValue x s a unit) (q : HasValue y t b unit) (h : a + b ≤ 2 ^ j * unit) where
  gap : Apart s a t b (1 * unit)
  gap = apart s a t b (1 * unit)

  one : 0 < 1 * unit
  one = omega (arith, unit_pos)

  difference : Near (round binary32 gap.sign gap.gap (1 * unit)) gap.sign gap.gap (1 * unit) (2 ^ j * grain)
  difference = rounded gap.sign gap.gap (1 * unit) j one r (le_trans gap.few (le_trans h (le_of_eq (ap (λ (n : ℕ). 2 ^ j * n) (sym (one-mul unit))))))

  sub_is : sub binary32 x y ≡ round binary32 gap.sign gap.gap (1 * unit)
  sub_is =
      sub_at x y s t a b (1 * unit) one (subst (λ (n : ℕ). HasValue x s a n) (sym (one-mul unit)) p) (subst (λ (n : ℕ). HasValue y t b n) (sym (one-mul unit)) q)
      ∙ gap.is

  wide : difference.count ≤ 2 ^ j * (2 * unit)
  wide =
      let l = near_le _ gap.sign gap.gap (1 * unit) (2 ^ j * grain) (2 ^ j) difference one (le_trans gap.few (le_trans h (le_of_eq (ap (λ (n : ℕ). 2 ^ j * n) (sym (one-mul unit)))))) in
      let g : 2 ^ j * grain ≤ 2 ^ j * unit = mul-le-mul_left (2 ^ j) (let k : grain ≤ unit = omega (arith, unit_grain) in k) in
      let e : 2 ^ j * (2 * unit) ≡ 2 * (2 ^ j * unit) = mul_left_comm (2 ^ j) 2 unit in
      omega arith

  halving : Near (round binary32 gap.sign difference.count (2 * unit)) gap.sign difference.count (2 * unit) (2 ^ j * grain)
  halving = rounded gap.sign difference.count (2 * unit) j (omega (arith, unit_pos)) r wide

  half_is : div binary32 (sub binary32 x y) (fin false 1 (pos 1)) ≡ round binary32 gap.sign difference.count (2 * unit)
  half_is = div_by 0 (sub binary32 x y) gap.sign difference.count unit unit_pos (subst (λ (z : Float). HasValue z gap.sign difference.count unit) (sym sub_is) difference.value)

  close_hi : 2 * halving.count ≤ gap.gap + 3 * (2 ^ j * grain)
  close_hi =
      let u = out_hi _ gap.sign gap.gap 1 (2 ^ j * grain) difference in
      let v = out_hi _ gap.sign difference.count 2 (2 ^ j * grain) halving in
      omega arith

  close_lo : gap.gap ≤ 2 * halving.count + 3 * (2 ^ j * grain)
  close_lo =
      let u = out_lo _ gap.sign gap.gap 1 (2 ^ j * grain) difference in
      let v = out_lo _ gap.sign difference.count 2 (2 ^ j * grain) halving in
      omega arith

  pub halved : Halved (div binary32 (sub binary32 x y) (fin false 1 (pos 1))) s a t b (2 ^ j * grain)
  halved =
      let w = steady gap.sign gap.gap halving.count (2 ^ j * grain) (under s a + over t b) (over s a + under t b) close_hi close_lo gap.even in
      record {
        sign = gap.sign;
        count = halving.count;
        value = subst (λ (z : Float). HasValue z gap.sign halving.count unit) (sym half_is) halving.value;
        hi = w.0;
        lo = w.1;
      }

-- a half is no more than the two sizes and the error
pub parts : (s : Bool) (a : ℕ) → over s a + under s a ≡ a
parts true a = omega arith
parts false a = omega arith

larger : (u : Bool) (c x y e : ℕ) → 2 * over u c + x ≤ 2 * under u c + y + e → 2 * under u c + y ≤ 2 * over u c + x + e → 2 * c ≤ x + y + e
larger true c x y e p q = omega arith
larger false c x y e p q = omega arith

pub halved_le : (v : Float) (s : Bool) (a : ℕ) (t : Bool) (b e : ℕ) (m : Halved v s a t b e) → 2 * m.count ≤ a + b + 3 * e
halved_le v s a t b e m =
    omega (arith, larger m.sign m.count (under s a + over t b) (over s a + under t b) (3 * e) m.hi m.lo, parts s a, parts t b)
