-- What the code answers, read as the definitions give it. No two answers read alike, so each is determined.
use Rattle.std.specs.Prelude.{ℕ, Option, Some, None, Result, Ok, Err, nat_lt}
use Rattle.frame_info.specs.Choice.{pick}
use Rattle.frame_info.specs.Refusal.{done, number_of}
use Rattle.frame_info.specs.declared.refusal.Refusal.{Refusal}
use Rattle.time_sync.specs.Windows.{window_size}
use Rattle.time_sync.specs.Advanced.{Advanced}
use Rattle.time_sync.specs.declared.TimeSync.{TimeSync}

-- a slot, or none for 30, which is no slot
abbrev pub slot_in : ℕ → Option ℕ
slot_in i = pick (nat_lt i window_size) (Some i) None

-- an advance that is refused leaves the windows as they were given
abbrev pub advanced_said : TimeSync → Result TimeSync Refusal → Advanced
advanced_said s (Ok t) = record { no = done; sync = t }
advanced_said s (Err e) = record { no = number_of e; sync = s }
