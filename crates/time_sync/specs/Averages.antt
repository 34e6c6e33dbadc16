-- The averages and half of their difference, in binary32.
use Rattle.std.specs.Prelude.{List, ℤ, pos, Float}
use Rattle.std.specs.Float.Ieee as Ieee
use Rattle.std.specs.Float.{binary32}
use Rattle.time_sync.specs.Windows.{window_size}
use Rattle.time_sync.specs.Sums.{window_sum}
use Rattle.time_sync.specs.declared.TimeSync.{TimeSync}
use Rattle.time_sync.specs.declared.Averages.{Averages}

-- a whole number, rounded to binary32
abbrev pub in_binary32 : ℤ → Float
in_binary32 z = Ieee.of_int binary32 z

-- an average: the window's sum is rounded to binary32, and divided by 30, the number of entries
unfoldable pub average : List ℤ → Float
average w = Ieee.div binary32 (in_binary32 (window_sum w)) (in_binary32 (pos window_size))

-- both averages together
unfoldable pub averages_of : TimeSync → Averages
averages_of s = record { local = average s.local; remote = average s.remote }

-- half of (remote minus local)
unfoldable pub half : TimeSync → Float
half s = Ieee.div binary32 (Ieee.sub binary32 (average s.remote) (average s.local)) (in_binary32 (pos 2))
