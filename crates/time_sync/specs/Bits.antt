-- A binary32 without its fraction, from its bits.
use Rattle.std.specs.Prelude.{◌≡◌, ℕ, ◌+◌, ◌*◌, ◌/◌, ◌%◌, ◌^◌, ◌<◌, Bool, cond, ℤ, pos, neg_ℤ, leb, to_bits, Float}
use Rattle.std.specs.Float.{nan, inf, fin, binary32}
use Rattle.std.specs.Float.Ieee.{up, down}

-- a finite number, less than 2^31 in size
abbrev pub Under31 : Float → Type 0
Under31 nan = ⊥
Under31 (inf s) = ⊥
Under31 (fin s m e) = m * up e < 2 ^ 31 * down e

-- the bits of 2^31, without the sign's: the exponent's field is 158, and the digits are 0
abbrev pub bits_of31 : ℕ
bits_of31 = 158 * 2 ^ 23

-- the exponent's field x and the digits t stand for (2^23 + t) * 2^x / 2^150, for an x above 0; at 0 the whole part is 0 either way
unfoldable pub whole_of : ℕ → ℕ
whole_of b = (2 ^ 23 + b % 2 ^ 23) * 2 ^ (b / 2 ^ 23) / 2 ^ 150

-- n with the sign s
abbrev pub signed : Bool → ℕ → ℤ
signed s n = cond s (neg_ℤ (pos n)) (pos n)

-- the whole part of a binary32 by its bits alone: the bit of 2^31 is its sign, and the bits below it are its size
unfoldable pub cut_of : Float → ℤ
cut_of x = signed (leb (2 ^ 31) (to_bits binary32 x)) (whole_of (to_bits binary32 x % 2 ^ 31))

-- z is all of the number's whole part, with its sign: nothing is cut at an end of a range
abbrev pub IsWholePart : Float → ℤ → Type 0
IsWholePart nan z = ⊥
IsWholePart (inf s) z = ⊥
IsWholePart (fin s m e) z = z ≡ signed s (m * up e / down e)
