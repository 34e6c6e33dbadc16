-- Rounding to binary32, with a bound on the error. Sizes are counted in the format's smallest values, of which 2^149 make one.
-- A fraction of at most 2^j is rounded with an error of at most 2^j grains, and 2^23 grains make one. Assumes nothing.
use Rattle.std.proofs.Common.{◌≡◌, ℕ, ◌+◌, ◌-◌, ◌*◌, ◌/◌, ◌%◌, ◌^◌, ◌<◌, ◌≤◌, Bool, sym, refl, ap, ◌∙◌, subst, le_trans, le_of_eq, le_refl, lt_of_le_of_lt, add-le-add, mul-le-mul_right, mod-lt, mul_assoc, mul_comm, add-mul, mul-le-mul_left, mul-pos, one-mul, div-add-mod', mul-add, div-mul-le_self, add-one, arith, lit<, pow_pos, pow_mono, pow-add}
use Prim.Native.Nat.{compare}
use native.Mathlib.Nat.{le_of_mul-le-mul_left, div-le_of_le-mul}
use lib.Pow.{pow-lt}
use lib.Ieee.{Float, binary32, round, size}
use lib.Ieee.Digits.{size-le}
use lib.Ieee.Fits.{round_is, nearest-le}
use lib.Ieee.Exact.{HasValue, units_val}
use lib.Ieee.Nearest.{closest, nearest-ge}

-- the smallest values in one, and a grain
unfoldable pub unit : ℕ
unit = 2 ^ 149

unfoldable pub grain : ℕ
grain = 2 ^ 126

pub unit_grain : unit ≡ 8388608 * grain
unfolding unit grain
unit_grain = refl

pub unit_pos : 0 < unit
unfolding unit
unit_pos = pow_pos 149

pub grain_pos : 0 < grain
unfolding grain
grain_pos = pow_pos 126

-- to the nearest multiple: less than one step away
closest_hi : (n u : ℕ) → closest n u * u ≤ n + u
closest_hi n u =
    let a : closest n u ≤ n / u + 1 = le_trans (nearest-le (n / u) (compare (n % u * 2) u)) (le_of_eq (sym (add-one (n / u)))) in
    let b : (n / u + 1) * u ≡ n / u * u + u = add-mul (n / u) 1 u ∙ ap (λ (x : ℕ). n / u * u + x) (one-mul u) in
    omega (arith, le_trans (mul-le-mul_right u a) (le_of_eq b), div-mul-le_self n u)

closest_lo : (n u : ℕ) → 0 < u → n ≤ closest n u * u + u
closest_lo n u U = omega (arith, mul-le-mul_right u (nearest-ge (n / u) (compare (n % u * 2) u)), div-add-mod' n u, mod-lt n U)

-- the same with k binary digits dropped
module _ (n c k : ℕ) (C : 0 < c) where
  shifted : closest n (c * 2 ^ k) * 2 ^ k * c ≡ closest n (c * 2 ^ k) * (c * 2 ^ k)
  shifted = mul_assoc (closest n (c * 2 ^ k)) (2 ^ k) c ∙ ap (λ (x : ℕ). closest n (c * 2 ^ k) * x) (mul_comm (2 ^ k) c)

  dropped_hi : closest n (c * 2 ^ k) * 2 ^ k * c ≤ n + c * 2 ^ k
  dropped_hi = le_trans (le_of_eq shifted) (closest_hi n (c * 2 ^ k))

  dropped_lo : n ≤ closest n (c * 2 ^ k) * 2 ^ k * c + c * 2 ^ k
  dropped_lo = le_trans (closest_lo n (c * 2 ^ k) (mul-pos C (pow_pos k))) (le_of_eq (ap (λ (x : ℕ). x + c * 2 ^ k) (sym shifted)))

-- what rounding a / c leaves, with an error of at most e
pub record Near (v : Float) (s : Bool) (a c e : ℕ) : Type 0 where
  pub count : ℕ
  pub value : HasValue v s count unit
  pub hi : count * c ≤ a * unit + c * e
  pub lo : a * unit ≤ count * c + c * e

-- how many digits are dropped of a fraction that is at most 2^j
drops : (n c j : ℕ) → n ≤ c * 2 ^ (j + 149) → size (n / c) - 24 ≤ j + 126
drops n c j h =
    let a : j + 149 < j + 150 = omega arith in
    let b : size (n / c) ≤ j + 150 = size-le (n / c) (j + 150) (lt_of_le_of_lt (div-le_of_le-mul c h) (pow-lt {i = j + 149} {j = j + 150} a)) in
    omega arith

loose_hi : (x n d e : ℕ) → x ≤ n + d → d ≤ e → x ≤ n + e
loose_hi x n d e a b = omega arith

loose_lo : (x n d e : ℕ) → n ≤ x + d → d ≤ e → n ≤ x + e
loose_lo x n d e a b = omega arith

both : (x n d e f : ℕ) → x ≤ n + d → n ≤ e → d ≤ f → x ≤ e + f
both x n d e f a b c = omega arith

module _ (s : Bool) (a c j : ℕ) (C : 0 < c) (r : j ≤ 100) (h : a ≤ 2 ^ j * c) where
  abbrev n : ℕ
  n = a * 2 ^ 149

  abbrev k : ℕ
  k = size (n / c) - 24

  abbrev g : ℕ
  g = closest n (c * 2 ^ k) * 2 ^ k

  within : n ≤ c * 2 ^ (j + 149)
  within =
      le_trans (mul-le-mul_right (2 ^ 149) h)
      (le_of_eq (ap (λ (x : ℕ). x * 2 ^ 149) (mul_comm (2 ^ j) c) ∙ mul_assoc c (2 ^ j) (2 ^ 149) ∙ ap (λ (x : ℕ). c * x) (sym (pow-add 2 j 149))))

  step : c * 2 ^ k ≤ c * 2 ^ (j + 126)
  step = mul-le-mul_left c (pow_mono {i = k} {j = j + 126} (drops n c j within))

  g_hi : g * c ≤ n + c * 2 ^ (j + 126)
  g_hi = loose_hi (g * c) n (c * 2 ^ k) (c * 2 ^ (j + 126)) (dropped_hi n c k C) step

  g_lo : n ≤ g * c + c * 2 ^ (j + 126)
  g_lo = loose_lo (g * c) n (c * 2 ^ k) (c * 2 ^ (j + 126)) (dropped_lo n c k C) step

  g_le : g ≤ 2 ^ (j + 149) + 2 ^ (j + 126)
  g_le =
      le_of_mul-le-mul_left
      (le_trans (le_of_eq (mul_comm c g)) (le_trans (both (g * c) n (c * 2 ^ (j + 126)) (c * 2 ^ (j + 149)) (c * 2 ^ (j + 126)) g_hi within (le_refl (c * 2 ^ (j + 126))))
      (le_of_eq (sym (mul-add c (2 ^ (j + 149)) (2 ^ (j + 126)))))))
      C

  g_lt : g < 2 ^ 277
  g_lt =
      let x : j + 149 ≤ 249 = omega arith in
      let y : j + 126 ≤ 249 = omega arith in
      lt_of_le_of_lt (le_trans g_le (add-le-add (pow_mono {i = j + 149} {j = 249} x) (pow_mono {i = j + 126} {j = 249} y))) (lit< tt)

  error : c * 2 ^ (j + 126) ≡ c * (2 ^ j * grain)
  unfolding grain
  error = ap (λ (x : ℕ). c * x) (pow-add 2 j 126)

  pub rounded : Near (round binary32 s a c) s a c (2 ^ j * grain)
  unfolding unit
  rounded = record {
    count = g;
    value = subst (λ (z : Float). HasValue z s g (2 ^ 149)) (sym (round_is binary32 s a c)) (units_val binary32 s (closest n (c * 2 ^ k)) k g_lt);
    hi = rw (← error) g_hi;
    lo = rw (← error) g_lo;
  }

-- a fraction of at most b is rounded to at most b and the error
pub near_le : (v : Float) (s : Bool) (a c e b : ℕ) (m : Near v s a c e) → 0 < c → a ≤ b * c → m.count ≤ b * unit + e
near_le v s a c e b m C h =
    let x : a * unit ≤ c * (b * unit) = le_trans (mul-le-mul_right unit h) (le_of_eq (ap (λ (y : ℕ). y * unit) (mul_comm b c) ∙ mul_assoc c b unit)) in
    le_of_mul-le-mul_left
    (le_trans (le_of_eq (mul_comm c m.count))
    (le_trans (both (m.count * c) (a * unit) (c * e) (c * (b * unit)) (c * e) m.hi x (le_refl (c * e))) (le_of_eq (sym (mul-add c (b * unit) e)))))
    C
