-- The fields' values, as a line's reading hands them out: one number for each field.
use Rattle.std.specs.Prelude.{ℕ, ◌%◌, List, get_or, map, take, drop, ℤ}
use Rattle.std.specs.Int.{w32}
use Rattle.std.proofs.Common.{to_z}

-- field k as a number or a word, and as a frame
abbrev pub low_of : ℕ → ℕ
low_of v = v % 4294967296

abbrev pub number_arg : List ℕ → ℕ → ℕ
number_arg a k = low_of (get_or a k 0)

abbrev pub frame_arg : List ℕ → ℕ → ℤ
frame_arg a k = to_z w32 (number_arg a k)

-- n fields from one on, as numbers
abbrev pub numbers_from : List ℕ → ℕ → ℕ → List ℕ
numbers_from a from n = map low_of (take n (drop from a))
