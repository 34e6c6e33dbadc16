-- Laws of reading: a byte by its range, and a run of digits one at a time. Assumes nothing.
use Prim.Native.Nat.{ℕ, ◌+◌, ◌-◌, ◌*◌, ◌^◌, ◌<◌, ◌≤◌}
use native.Mathlib.Omega.{arith}
use native.Mathlib.Nat.{le-mul_of_pos_right}
use native.Mathlib.Numerals.{add-one}
use Prim.{absurd}
use mathlib.Core.Path.{◌≡◌, refl, ap, sym, ◌∙◌}
use mathlib.Core.Bool.{Bool, true, false, ◌&&◌, true≢false}
use mathlib.Core.List.{List, [], ◌∷◌}
use lib.ListN.{length, get_or, take, drop, drop_of_length-le}
use lib.Seq.{drop-cons}
use lib.Dec.{eqb, ltb}
use lib.Pointwise.{pointwise}
use lib.IntN.{pos, neg_ℤ}
use borrow.Author.Tests.{lt-ltb, le-ltb, le-leb, lt-leb}
use Rattle.std.specs.Prelude.{Option, Some, None}
use Rattle.frame_info.specs.Choice.{pick}
use Rattle.digits.specs.Digits.{digit_of, only_digits, value_after, value_of, number_of, pattern_of, and_then, signed_of}

-- a byte, by its range
pub digit_low : (b : ℕ) → b < 48 → 16 ≡ digit_of b
unfolding digit_of
digit_low b h = simp (lt-leb 48 b h, lt-leb 97 b (omega arith), lt-leb 65 b (omega arith))

pub digit_decimal : (b : ℕ) → 48 ≤ b → b ≤ 57 → b - 48 ≡ digit_of b
unfolding digit_of
digit_decimal b h g = simp (le-leb 48 b h, le-leb b 57 g)

pub digit_lower : (b : ℕ) → 97 ≤ b → b ≤ 102 → b - 87 ≡ digit_of b
unfolding digit_of
digit_lower b h g = simp (lt-leb b 57 (omega arith), le-leb 48 b (omega arith), le-leb 97 b h, le-leb b 102 g)

-- the number that the digits of t make after digits that are worth v
unfoldable pub number_after : ℕ → ℕ → List ℕ → Option ℕ
number_after base v t = pick (only_digits base t && ltb (value_after base v t) (2 ^ 32)) (Some (value_after base v t)) None

pub number_none : (base : ℕ) (s : List ℕ) → length s ≡ 0 → number_of base s ≡ None
unfolding number_of
number_none base s h = simp (le-ltb 0 (length s) (omega arith))

pub number_some : (base : ℕ) (s : List ℕ) → 1 ≤ length s → number_of base s ≡ number_after base 0 s
unfolding number_of number_after value_of
number_some base s h = simp (lt-ltb 0 (length s) h)

module _ (base v i : ℕ) (s : List ℕ) where
  pub number_turn : i < length s → digit_of (get_or s i 0) < base → number_after base v (drop i s) ≡ number_after base (v * base + digit_of (get_or s i 0)) (drop (i + 1) s)
  unfolding number_after only_digits value_after
  number_turn h d = rw (add-one, drop-cons s i 0 h) (simp (lt-ltb _ _ d))

  pub number_other : i < length s → base ≤ digit_of (get_or s i 0) → number_after base v (drop i s) ≡ None
  unfolding number_after only_digits value_after
  number_other h d = rw (drop-cons s i 0 h) (simp (le-ltb _ _ d))

  pub number_done : length s ≤ i → v < 2 ^ 32 → number_after base v (drop i s) ≡ Some v
  unfolding number_after only_digits value_after
  number_done h g = rw (drop_of_length-le s h) (simp (lt-ltb _ _ g))

-- more digits can't make a number smaller
pub value_grows : (base v : ℕ) (t : List ℕ) → 0 < base → v ≤ value_after base v t
unfolding value_after
value_grows base v [] h = omega arith
value_grows base v (b ∷ t) h = omega (arith, value_grows base (v * base + digit_of b) t h, le-mul_of_pos_right v h)

and_false : (t : _) → (t && false) ≡ false
and_false true = refl
and_false false = refl

pub number_large : (base v : ℕ) (t : List ℕ) → 0 < base → 2 ^ 32 ≤ v → number_after base v t ≡ None
unfolding number_after
number_large base v t h g = simp (le-ltb (value_after base v t) (2 ^ 32) (omega (arith, value_grows base v t h)), and_false)

pub number_full : (base v i : ℕ) (s : List ℕ) → i < length s → digit_of (get_or s i 0) < base → 2 ^ 32 ≤ v * base + digit_of (get_or s i 0)
    → number_after base v (drop i s) ≡ None
number_full base v i s h d k = number_turn base v i s h d ∙ number_large base (v * base + digit_of (get_or s i 0)) (drop (i + 1) s) (omega arith) k

pub ruleset numbers = (number_none, number_some, number_turn, number_other, number_done, number_full)

-- the pattern of a number, by its sign and size
pub pattern_pos : (v : ℕ) → v ≤ 2147483647 → Some v ≡ pattern_of (pos v)
unfolding pattern_of
pattern_pos v h = simp (le-leb v 2147483647 h)

and_true : (t : Bool) → (t && true) ≡ t
and_true true = refl
and_true false = refl

-- a number of either sign: of the bytes after a `-`, or of all
module _ (n r : Option ℕ) where
  pub signed_minus : (s t : List ℕ) → pointwise eqb (take 1 s) (45 ∷ []) ≡ true → t ≡ drop 1 s → n ≡ number_of 10 t
      → r ≡ and_then n (λ k. pattern_of (neg_ℤ (pos k)))
      → r ≡ signed_of s
  unfolding signed_of
  signed_minus [] t b d e q = absurd (true≢false (sym b))
  signed_minus (a ∷ s) t b d e q = simp (sym (and_true (eqb a 45)) ∙ b) (q ∙ ap (λ (m : Option ℕ). and_then m (λ k. pattern_of (neg_ℤ (pos k)))) (e ∙ ap (number_of 10) d))

  pub signed_plain : (s : List ℕ) → pointwise eqb (take 1 s) (45 ∷ []) ≡ false → n ≡ number_of 10 s
      → r ≡ and_then n (λ k. pattern_of (pos k))
      → r ≡ signed_of s
  unfolding signed_of and_then
  signed_plain [] b e q = q ∙ ap (λ (m : Option ℕ). and_then m (λ k. pattern_of (pos k))) (e ∙ number_none 10 [] refl)
  signed_plain (a ∷ s) b e q = simp (sym (and_true (eqb a 45)) ∙ b) (q ∙ ap (λ (m : Option ℕ). and_then m (λ k. pattern_of (pos k))) e)

pub ruleset fields = (signed_minus, signed_plain)
