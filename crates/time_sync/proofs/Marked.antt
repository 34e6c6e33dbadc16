-- The marked examples M10 and M11, computed from the definitions. Assumes nothing.
use Rattle.std.proofs.Common.{◌≡◌, ℤ, pos, negsuc, refl}
use Rattle.time_sync.specs.Windows.{fresh, written, advanced}
use Rattle.time_sync.specs.Sums.{window_sum}
use lib.Ieee.{of_int, div, sub, to_signed}
use Rattle.time_sync.specs.Averages.{average, half}
use Rattle.time_sync.specs.Answer.{frame_advantage}
use Rattle.time_sync.specs.declared.TimeSync.{TimeSync}

-- fresh windows, advanced at frame 0 with a local and a remote entry
abbrev pub first : ℤ → ℤ → TimeSync
first l r = (advanced fresh (pos 0) l r).sync

-- one remote entry 62 and one local 2: 0, though (62 - 2) / 60 is 1
pub m10_both : frame_advantage (first (pos 2) (pos 62)) ≡ pos 0
unfolding frame_advantage half average window_sum advanced written fresh of_int div sub to_signed
m10_both = refl

-- remote 60 alone
pub m10_remote : frame_advantage (first (pos 0) (pos 60)) ≡ pos 1
unfolding frame_advantage half average window_sum advanced written fresh of_int div sub to_signed
m10_remote = refl

-- local 90 alone
pub m10_local : frame_advantage (first (pos 90) (pos 0)) ≡ negsuc 0
unfolding frame_advantage half average window_sum advanced written fresh of_int div sub to_signed
m10_local = refl

-- two remote entries 2147483647: the sum is -2, and the answer 0
abbrev pub twice : TimeSync
twice = (advanced (first (pos 0) (pos 2147483647)) (pos 1) (pos 0) (pos 2147483647)).sync

pub m11_sum : window_sum twice.remote ≡ negsuc 1
unfolding window_sum advanced written fresh
m11_sum = refl

pub m11_answer : frame_advantage twice ≡ pos 0
unfolding frame_advantage half average window_sum advanced written fresh of_int div sub to_signed
m11_answer = refl
