-- A number that is printed and read back is the number: one law over the base, and its three uses. Assumes nothing.
use Prim.Native.Nat.{ℕ, zero, suc, ◌+◌, ◌-◌, ◌*◌, ◌/◌, ◌%◌, ◌^◌, ◌<◌, ◌≤◌}
use native.Mathlib.Omega.{arith}
use native.Mathlib.Nat.{pow-suc, pow-zero, mod-lt, div-add-mod', div-lt_iff_lt-mul}
use Prim.{absurd}
use mathlib.Core.Path.{◌≡◌, refl, ap, sym, ◌∙◌}
use mathlib.Core.Bool.{Bool, true, false, ◌&&◌}
use mathlib.Core.Logic.{⊎_elim}
use mathlib.Core.List.{List, [], ◌∷◌, ◌++◌}
use lib.Dec.{ltb}
use lib.IntN.{ℤ, pos, negsuc}
use mir.Syntax.{w32}
use mir.Val.{SFits, to_z, of_z}
use mir.Facts.{to_z-of_z}
use borrow.Author.Tests.{lt-ltb, le-leb}
use Rattle.std.specs.Prelude.{Some}
use Rattle.digits.specs.Digits.{digit_of, only_digits, value_after, value_of, number_of, decimal_of, word_of, pattern_of, and_then, signed_of, digit_byte, last_digits, width_of, decimal_text, signed_text, word_text, pair_text}
use Rattle.frame_info.proofs.Split.{split_ltb, split_eqb}
use Rattle.digits.proofs.Reading.{digit_low, digit_decimal, digit_lower, pattern_pos, number_none, number_some, number_other}
use Rattle.digits.proofs.Writing.{byte_decimal, byte_letter, length_digits, width_one, width_more, width_some}

-- a digit's byte is that digit
digit_back : (d : ℕ) → d < 16 → digit_of (digit_byte d) ≡ d
digit_back d h =
    ⊎_elim
    (λ w. let e : d + 48 - 48 ≡ d = omega arith in rw (← byte_decimal d w.0, ← digit_decimal (d + 48) (omega arith) (omega (arith, w.0))) e)
    (λ w. let e : d + 87 - 87 ≡ d = omega arith in rw (← byte_letter d w.0, ← digit_lower (d + 87) (omega (arith, w.0)) (omega arith)) e)
    (split_ltb d 10)

-- a digit at the end makes what stands before it base times as much
value_last : (base v b : ℕ) (s : List ℕ) → value_after base v (s ++ (b ∷ [])) ≡ value_after base v s * base + digit_of b
unfolding value_after
value_last base v b [] = refl
value_last base v b (a ∷ s) = value_last base (v * base + digit_of a) b s

all_last : (base b : ℕ) (s : List ℕ) → only_digits base s ≡ true → digit_of b < base → only_digits base (s ++ (b ∷ [])) ≡ true
unfolding only_digits
all_last base b [] h d = simp (lt-ltb _ _ d)
all_last base b (a ∷ s) h d = both (ltb (digit_of a) base) (only_digits base s) h (λ k. all_last base b s k d)
  where
    both : {z : Bool} (x y : Bool) → (x && y) ≡ true → (y ≡ true → z ≡ true) → (x && z) ≡ true
    both true y k f = f k
    both false y k f = k

module _ (base : ℕ) (o : 0 < base) (m : base ≤ 16) where
  rem_back : (n : ℕ) → digit_of (digit_byte (n % base)) ≡ n % base
  rem_back n = digit_back (n % base) (omega (arith, mod-lt n o))

  value_digits : (k n : ℕ) → n < base ^ k → value_of base (last_digits base k n) ≡ n
  unfolding value_of value_after last_digits
  value_digits zero n h = omega (arith, pow-zero base)
  value_digits (suc k) n h =
      let q : n / base < base ^ k = (div-lt_iff_lt-mul {k = base} {x = n} {y = base ^ k} o).1 (rw (pow-suc base k) at h) in
      value_last base 0 (digit_byte (n % base)) (last_digits base k (n / base))
      ∙ rw (rem_back n, value_digits k (n / base) q) (div-add-mod' n base)

  all_digits : (k n : ℕ) → only_digits base (last_digits base k n) ≡ true
  unfolding only_digits last_digits
  all_digits zero n = refl
  all_digits (suc k) n =
      all_last base (digit_byte (n % base)) (last_digits base k (n / base)) (all_digits k (n / base))
      (omega (arith, rem_back n, mod-lt n o))

  -- the law over the base: enough digits, and at least one, are read back
  pub number_back : (k n : ℕ) → 0 < k → n < base ^ k → n < 2 ^ 32 → number_of base (last_digits base k n) ≡ Some n
  unfolding number_of
  number_back k n p h f = simp (length_digits base k n, lt-ltb 0 k p, all_digits k n, value_digits k n h, lt-ltb n (2 ^ 32) f)

-- the decimal digits of a number are enough for it
width_enough : (f n : ℕ) → n ≤ f → n < 10 ^ width_of n
width_enough zero n h = rw (width_one n (omega arith)) (omega arith)
width_enough (suc f) n h =
    ⊎_elim
    (λ w. rw (width_one n w.0) w.0)
    (λ w. let e : width_of n ≡ suc (width_of (n / 10)) = omega (arith, width_more n w.0) in
    rw (e, pow-suc 10 (width_of (n / 10))) (omega (arith, width_enough f (n / 10) (omega (arith, w.0)))))
    (split_ltb n 10)

digits_back : (n : ℕ) → n < 2 ^ 32 → number_of 10 (decimal_text n) ≡ Some n
unfolding decimal_text
digits_back n f = number_back 10 (omega arith) (omega arith) (width_of n) n (width_some n) (width_enough n n (omega arith)) f

pub decimal_back : (n : ℕ) → n < 2 ^ 32 → decimal_of (decimal_text n) ≡ Some n
unfolding decimal_of
decimal_back n f = digits_back n f

pub word_back : (w : ℕ) → w < 2 ^ 32 → word_of (word_text w) ≡ Some w
unfolding word_of word_text
word_back w f = simp (length_digits 16 8 w) (number_back 16 (omega arith) (omega arith) 8 w (omega arith) f f)

pub pair_back : (b : ℕ) → b < 256 → number_of 16 (pair_text b) ≡ Some b
unfolding pair_text
pair_back b f = number_back 16 (omega arith) (omega arith) 2 b (omega arith) (omega arith) (omega arith)

-- a run of digits begins with no `-`
plain_back : (s : List ℕ) (n : ℕ) → number_of 10 s ≡ Some n → signed_of s ≡ pattern_of (pos n)
unfolding signed_of and_then
plain_back [] n e = let k = number_none 10 [] refl in absurd (cc)
plain_back (b ∷ s) n e =
    ⊎_elim
    (λ w. let k = number_some 10 (b ∷ s) (omega arith) ∙ number_other 10 0 0 (b ∷ s) (omega arith) (omega (arith, ap digit_of w.0, digit_low 45 (omega arith))) in absurd (cc))
    (λ w. simp w.1 (rw e))
    (split_eqb b 45)

-- an i32 that is printed and read back is its pattern
pub signed_back : (z : ℤ) → SFits w32 z → signed_of (signed_text z) ≡ Some (of_z w32 z)
unfolding signed_of signed_text and_then pattern_of
signed_back (pos n) f = plain_back (decimal_text n) n (digits_back n (omega (arith, f.sfits))) ∙ sym (pattern_pos n (omega (arith, f.sfits)))
signed_back (negsuc n) f = rw (digits_back (suc n) (omega (arith, f.sfits))) (simp (le-leb n 2147483647 (omega (arith, f.sfits))))

-- and `signed_of` gives the i32 of a pattern back
pub pattern_back : (z : ℤ) → SFits w32 z → to_z w32 (of_z w32 z) ≡ z
pattern_back z f = to_z-of_z f
