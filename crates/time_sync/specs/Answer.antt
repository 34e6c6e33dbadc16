-- The answer, and what it is where every entry is small.
use Rattle.std.specs.Prelude.{◌≡◌, ℕ, ◌-◌, ◌<◌, ◌≤◌, ◌⊎◌, List, ℤ, pos, negsuc, ◌-ℤ◌, neg_ℤ, ◌≢◌, int_div, int_rem, slice_index_or, unsigned_abs}
use Rattle.std.specs.Float.Ieee as Ieee
use Rattle.time_sync.specs.Windows.{window_size}
use Rattle.time_sync.specs.Sums.{sum_to}
use Rattle.time_sync.specs.Averages.{half}
use Rattle.time_sync.specs.declared.TimeSync.{TimeSync}

-- the half, truncated towards zero to a number of 31 bits and a sign
unfoldable pub frame_advantage : TimeSync → ℤ
frame_advantage s = Ieee.to_signed 31 (half s)

-- all entries of a window are in -1000..1000
abbrev pub Small : List ℤ → Type 0
Small w = (i : ℕ) → i < window_size → unsigned_abs (slice_index_or w i (pos 0)) ≤ 1000

-- one nearer zero
abbrev pub nearer : ℤ → ℤ
nearer (pos n) = pos (n - 1)
nearer (negsuc n) = neg_ℤ (pos n)

-- With R and L the sums, the answer a is the truncation of (R - L) / 60,
-- except that where 60 divides R - L and R differs from L it may be one nearer zero.
abbrev pub Sixtieth : ℤ → ℤ → ℤ → Type 0
Sixtieth r l a =
    (a ≡ int_div (r -ℤ l) (pos 60))
    ⊎ ((int_rem (r -ℤ l) (pos 60) ≡ pos 0) × (r ≢ l) × (a ≡ nearer (int_div (r -ℤ l) (pos 60))))

abbrev pub ExactCase : TimeSync → Type 0
ExactCase s = Sixtieth (sum_to window_size s.remote) (sum_to window_size s.local) (frame_advantage s)
