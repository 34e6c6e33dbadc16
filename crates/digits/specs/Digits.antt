-- Numbers as text: which bytes are digits, what a run of digits is worth, and how a number is written.
use Rattle.std.specs.Prelude.{ℕ, zero, suc, ◌+◌, ◌-◌, ◌*◌, ◌/◌, ◌%◌, ◌^◌, ℤ, pos, negsuc, neg_ℤ}
use Rattle.std.specs.Prelude.{Bool, true, ◌&&◌, List, [], ◌∷◌, ◌++◌, length, ltb, leb, eqb, Option, Some, None}
use Rattle.std.specs.Int.Signed.{le_z}
use Rattle.std.specs.Int.{w32}
use Rattle.std.proofs.Common.{of_z}
use Rattle.frame_info.specs.Choice.{pick}

-- ---- reading

-- a byte's worth as a digit: `0` to `9`, then `a` to `f` and `A` to `F` from ten on; 16, which no base here has, for any other byte
unfoldable pub digit_of : ℕ → ℕ
digit_of b =
    pick (leb 48 b && leb b 57) (b - 48)
    (pick (leb 97 b && leb b 102) (b - 87)
    (pick (leb 65 b && leb b 70) (b - 55)
    16))

-- its worth where it is a digit of the base
unfoldable pub digit_in : ℕ → ℕ → Option ℕ
digit_in base b = pick (ltb (digit_of b) base) (Some (digit_of b)) None

-- every byte is a digit of the base
unfoldable pub only_digits : ℕ → List ℕ → Bool
only_digits base [] = true
only_digits base (b ∷ s) = ltb (digit_of b) base && only_digits base s

-- what the digits of s are worth after digits that are worth n: each digit makes what stands before it base times as much
unfoldable pub value_after : ℕ → ℕ → List ℕ → ℕ
value_after base n [] = n
value_after base n (b ∷ s) = value_after base (n * base + digit_of b) s

unfoldable pub value_of : ℕ → List ℕ → ℕ
value_of base s = value_after base 0 s

-- a number in the base: one or more digits, worth less than 2 ^ 32; leading zeros are allowed
unfoldable pub number_of : ℕ → List ℕ → Option ℕ
number_of base s =
    pick (ltb 0 (length s) && (only_digits base s && ltb (value_of base s) (2 ^ 32)))
    (Some (value_of base s))
    None

-- a decimal u32, with no sign
unfoldable pub decimal_of : List ℕ → Option ℕ
decimal_of s = number_of 10 s

-- 1 to 8 hex digits, of either case
unfoldable pub word_of : List ℕ → Option ℕ
word_of s = pick (leb (length s) 8) (number_of 16 s) None

-- the 32-bit pattern of a number of either sign, where it is an i32
unfoldable pub pattern_of : ℤ → Option ℕ
pattern_of z = pick (le_z (negsuc 2147483647) z && le_z z (pos 2147483647)) (Some (of_z w32 z)) None

-- a number goes on, and what is not one stays so
unfoldable pub and_then : Option ℕ → (ℕ → Option ℕ) → Option ℕ
and_then (Some n) f = f n
and_then None f = None

-- a decimal i32, as its pattern: digits, with `-` before them where it is negative
unfoldable pub signed_of : List ℕ → Option ℕ
signed_of [] = None
signed_of (b ∷ s) =
    pick (eqb b 45)
    (and_then (number_of 10 s) (λ n. pattern_of (neg_ℤ (pos n))))
    (and_then (number_of 10 (b ∷ s)) (λ n. pattern_of (pos n)))

-- ---- writing

-- the byte of a digit: `0` to `9`, then `a` to `f`
unfoldable pub digit_byte : ℕ → ℕ
digit_byte d = pick (ltb d 10) (d + 48) (d + 87)

-- the last k digits of n in the base, the one worth most first
unfoldable pub last_digits : ℕ → ℕ → ℕ → List ℕ
last_digits base zero n = []
last_digits base (suc k) n = last_digits base k (n / base) ++ (digit_byte (n % base) ∷ [])

-- how many decimal digits n has, looked for as far as `most` digits after the first: one, and one more for each time that it can be divided by ten
unfoldable pub width_within : ℕ → ℕ → ℕ
width_within zero n = 1
width_within (suc most) n = pick (ltb n 10) 1 (width_within most (n / 10) + 1)

-- a number n has at most n digits after the first
unfoldable pub width_of : ℕ → ℕ
width_of n = width_within n n

-- with no leading zeros; `0` for 0
unfoldable pub decimal_text : ℕ → List ℕ
decimal_text n = last_digits 10 (width_of n) n

-- the digits, with `-` before them where the number is negative
unfoldable pub signed_text : ℤ → List ℕ
signed_text (pos n) = decimal_text n
signed_text (negsuc n) = 45 ∷ decimal_text (suc n)

-- 8 lower-case hex digits
unfoldable pub word_text : ℕ → List ℕ
word_text w = last_digits 16 8 w

-- a byte as 2 lower-case hex digits
unfoldable pub pair_text : ℕ → List ℕ
pair_text b = last_digits 16 2 b
