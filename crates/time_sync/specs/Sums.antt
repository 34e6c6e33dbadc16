-- The sum of a window, which wraps in 32 bits.
use Rattle.std.specs.Prelude.{ℕ, zero, suc, ◌-◌, ◌%◌, ◌^◌, List, ℤ, pos, negsuc, ◌+ℤ◌, slice_index_or}
use Rattle.std.specs.Int.{w32}
use Rattle.std.proofs.Common.{to_z}
use Rattle.time_sync.specs.Windows.{window_size}

-- the sum of the first n entries, as a whole number
unfoldable pub sum_to : ℕ → List ℤ → ℤ
sum_to zero w = pos 0
sum_to (suc n) w = sum_to n w +ℤ slice_index_or w n (pos 0)

-- a whole number modulo 2^32, from 0 to 2^32 - 1
abbrev pub residue : ℤ → ℕ
residue (pos n) = n % 2 ^ 32
residue (negsuc n) = 2 ^ 32 - suc (n % 2 ^ 32)

-- modulo 2^32 into the range of an i32: the residue's 32 bits, read as a signed number
abbrev pub wrapped : ℤ → ℤ
wrapped z = to_z w32 (residue z)

-- the sum of a window's thirty entries, which wraps in 32 bits
unfoldable pub window_sum : List ℤ → ℤ
unfolding sum_to
window_sum w = wrapped (sum_to window_size w)
