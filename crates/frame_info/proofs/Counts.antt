-- Between frames and counts: the two undo each other. Assumes nothing.
use Rattle.std.proofs.Common.{ℕ, ◌≡◌, ◌≤◌, ◌<◌, arith, pos}
use Rattle.std.proofs.lemmas.Bool.Decides.{nat_tests}
use Rattle.frame_info.specs.Frame.{count_of, frame_of}

pub count_frame : (n : ℕ) → n ≤ 2147483648 → count_of (frame_of n) ≡ n
count_frame n h = grind (arith, nat_tests)

pub frame_count : (n : ℕ) → n < 2147483648 → frame_of (count_of (pos n)) ≡ pos n
frame_count n h = grind (arith, nat_tests)
