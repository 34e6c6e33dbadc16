-- What a caller may know of a number that was read or printed: its size, and the room of its text. Assumes nothing.
use Prim.Native.Nat.{ℕ, suc, ◌-◌, ◌^◌, ◌<◌, ◌≤◌}
use native.Mathlib.Omega.{arith}
use Prim.{absurd}
use mathlib.Core.Path.{◌≡◌, sym}
use mathlib.Core.Bool.{Bool, true, false, ◌&&◌, true≢false}
use mathlib.Core.List.{List, [], ◌∷◌}
use lib.ListN.{length}
use lib.Dec.{eqb, ltb, leb}
use lib.IntN.{ℤ, pos, negsuc, neg_ℤ}
use mir.Syntax.{w32}
use mir.Val.{SFits}
use borrow.Author.Tests.{ltb-true, leb-true}
use Rattle.std.specs.Prelude.{Option, Some, None}
use Rattle.frame_info.proofs.Picked.{picked_if}
use Rattle.digits.specs.Digits.{only_digits, value_of, number_of, decimal_of, word_of, pattern_of, and_then, signed_of, decimal_text, signed_text, word_text}
use Rattle.digits.proofs.Writing.{length_digits, length_decimal, width_ten}

-- ---- a number that is read fits 32 bits

abbrev pub Small : Option ℕ → Type 0
Small (Some n) = n < 2 ^ 32
Small None = 0 < 1

last_true : (s t u : Bool) → (s && (t && u)) ≡ true → u ≡ true
last_true true true u h = h
last_true true false u h = absurd (true≢false (sym h))
last_true false t u h = absurd (true≢false (sym h))

number_small : (base : ℕ) (s : List ℕ) → Small (number_of base s)
unfolding number_of
number_small base s =
    picked_if Small (ltb 0 (length s) && (only_digits base s && ltb (value_of base s) (2 ^ 32))) (Some (value_of base s)) None
    (λ h. ltb-true (value_of base s) (2 ^ 32) (last_true (ltb 0 (length s)) (only_digits base s) (ltb (value_of base s) (2 ^ 32)) h))
    (omega arith)

pub decimal_small : (s : List ℕ) → Small (decimal_of s)
unfolding decimal_of
decimal_small s = number_small 10 s

pub word_small : (s : List ℕ) → Small (word_of s)
unfolding word_of
word_small s = picked_if Small (leb (length s) 8) (number_of 16 s) None (λ h. number_small 16 s) (omega arith)

pattern_small : (z : ℤ) → Small (pattern_of z)
unfolding pattern_of
pattern_small (pos n) = picked_if Small (leb n 2147483647) (Some n) None (λ h. omega (arith, leb-true n 2147483647 h)) (omega arith)
pattern_small (negsuc n) = picked_if Small (leb n 2147483647 && true) (Some (2 ^ 32 - suc n)) None (λ h. omega arith) (omega arith)

then_small : (m : Option ℕ) (f : ℕ → Option ℕ) → ((n : ℕ) → Small (f n)) → Small (and_then m f)
unfolding and_then
then_small (Some n) f s = s n
then_small None f s = omega arith

pub signed_small : (s : List ℕ) → Small (signed_of s)
unfolding signed_of
signed_small [] = omega arith
signed_small (b ∷ s) =
    picked_if Small (eqb b 45) (and_then (number_of 10 s) (λ n. pattern_of (neg_ℤ (pos n)))) (and_then (number_of 10 (b ∷ s)) (λ n. pattern_of (pos n)))
    (λ h. then_small (number_of 10 s) (λ n. pattern_of (neg_ℤ (pos n))) (λ n. pattern_small (neg_ℤ (pos n))))
    (then_small (number_of 10 (b ∷ s)) (λ n. pattern_of (pos n)) (λ n. pattern_small (pos n)))

-- ---- the room that a number's text takes

pub decimal_short : (n : ℕ) → n < 2 ^ 32 → length (decimal_text n) ≤ 10
decimal_short n f = omega (arith, length_decimal n, width_ten n f)

pub signed_short : (z : ℤ) → SFits w32 z → length (signed_text z) ≤ 11
unfolding signed_text
signed_short (pos n) f = omega (arith, decimal_short n (omega (arith, f.sfits)))
signed_short (negsuc n) f = omega (arith, decimal_short (suc n) (omega (arith, f.sfits)))

pub word_eight : (w : ℕ) → length (word_text w) ≡ 8
unfolding word_text
word_eight w = length_digits 16 8 w
