-- The two windows, and what an advance makes of them.
use Rattle.std.specs.Prelude.{ℕ, ◌%◌, replicate, ℤ, pos, negsuc, slice_set}
use Rattle.frame_info.specs.Refusal.{done, frame_below_zero}
use Rattle.time_sync.specs.declared.TimeSync.{TimeSync}
use Rattle.time_sync.specs.Advanced.{Advanced}

-- a window has thirty entries
abbrev pub window_size : ℕ
window_size = 30

-- the windows start as zeros
unfoldable pub fresh : TimeSync
fresh = record { local = replicate window_size (pos 0); remote = replicate window_size (pos 0) }

-- the slot of a frame is the frame mod 30; 30, which is no slot, stands for that of a frame below 0
abbrev pub slot_of : ℤ → ℕ
slot_of (pos n) = n % window_size
slot_of (negsuc n) = window_size

-- frame n has slot n mod 30 of each window, where the local and the remote entry are written
unfoldable pub written : TimeSync → ℕ → ℤ → ℤ → TimeSync
written s n l r = record { local = slice_set s.local (n % window_size) l; remote = slice_set s.remote (n % window_size) r }

-- an advance: a frame below 0 is refused, and the windows stay as they are
unfoldable pub advanced : TimeSync → ℤ → ℤ → ℤ → Advanced
unfolding written
advanced s (pos n) l r = record { no = done; sync = written s n l r }
advanced s (negsuc n) l r = record { no = frame_below_zero; sync = s }
