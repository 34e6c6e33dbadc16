-- The reading: even, over by or under by.
use Rattle.std.specs.Prelude.{ℕ, pos, Float}
use Rattle.std.specs.Float.Ieee as Ieee
use Rattle.frame_info.specs.Choice.{pick}
use Rattle.time_sync.specs.Averages.{in_binary32, half}
use Rattle.time_sync.specs.declared.TimeSync.{TimeSync}
use Rattle.time_sync.specs.declared.Reading.{Reading}
use Rattle.time_sync.specs.declared.Reading.TheVariants.{Even, Over, Under}

-- what a reading shows: its case's number and its size
pub record Shown : Type 0 where
  pub number : ℕ
  pub size : Float

abbrev pub even : Shown
even = record { number = 0; size = in_binary32 (pos 0) }

abbrev pub over_by : Float → Shown
over_by x = record { number = 1; size = x }

abbrev pub under_by : Float → Shown
under_by x = record { number = 2; size = x }

-- 0 is even, with no size; 1 is over and 2 is under, with the size that the case carries
abbrev pub shown : Reading → Shown
shown Even = even
shown (Over x) = over_by x
shown (Under x) = under_by x

-- even where the half is zero, over where it is above zero, else under;
-- the size is that of the half, before truncation and without its sign
unfoldable pub reading_of : TimeSync → Shown
reading_of s =
    pick (Ieee.eq (half s) (in_binary32 (pos 0))) even
    (pick (Ieee.lt (in_binary32 (pos 0)) (half s)) (over_by (half s)) (under_by (Ieee.neg (half s))))
