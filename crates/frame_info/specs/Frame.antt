-- Frames and their counts.
use Rattle.std.specs.Prelude.{ℕ, ◌+◌, ◌-◌, ltb, eqb, ℤ, pos, negsuc}
use Rattle.frame_info.specs.Choice.{pick}

-- -1 is no frame
abbrev pub null_frame : ℤ
null_frame = negsuc 0

-- the count of the last frame, 1,000,000,000
abbrev pub last_count : ℕ
last_count = 1000000001

-- a delay is 0 to 60, and there are three predictors
abbrev pub max_delay : ℕ
max_delay = 60

abbrev pub predictors : ℕ
predictors = 3

-- a frame as a count: 0 for one below 0, else one more than it
abbrev pub count_of : ℤ → ℕ
count_of (pos n) = n + 1
count_of (negsuc n) = 0

-- and back: no frame for 0, and for a count that is past every i32
abbrev pub frame_of : ℕ → ℤ
frame_of n = pick (eqb n 0) null_frame (pick (ltb 2147483648 n) null_frame (pos (n - 1)))
