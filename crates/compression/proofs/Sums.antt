-- Sums of lengths. Assumes nothing.
use Prim.Native.Nat.{ℕ, ◌+◌, ◌<◌, ◌≤◌}
use native.Mathlib.Numerals.{add-one}
use mathlib.Core.Path.{◌≡◌}
use mathlib.Core.List.{List}
use lib.ListN.{length, drop, get_or, drop_of_length-le}
use lib.Seq.{drop-cons}
use Rattle.compression.specs.Layout.{total}

pub total_at : (l : List ℕ) (i : ℕ) → i < length l → total (drop i l) ≡ get_or l i 0 + total (drop (i + 1) l)
unfolding total
total_at l i h = rw (add-one, drop-cons l i 0 h)

pub total_end : (l : List ℕ) (i : ℕ) → length l ≤ i → total (drop i l) ≡ 0
unfolding total
total_end l i h = rw (drop_of_length-le l h)

pub ruleset totals = (total_at, total_end)
