-- The windows in force: what a call leaves. The fields' values are in a, one each.
use Rattle.std.specs.Prelude.{ℕ, List, eqb}
use Rattle.frame_info.specs.Choice.{pick}
use Rattle.time_sync.specs.declared.TimeSync.{TimeSync}
use Rattle.time_sync.specs.Windows.{fresh, advanced}
use Rattle.cues_text.specs.Args.{frame_arg}

-- s.advance FRAME ADV ADV
abbrev pub advanced_by : List ℕ → TimeSync → TimeSync
advanced_by a t = (advanced t (frame_arg a 0) (frame_arg a 1) (frame_arg a 2)).sync

-- a fresh pair of windows, one slot of each written, or as they were: the other calls only look
unfoldable pub after : ℕ → List ℕ → TimeSync → TimeSync
after call a t = pick (eqb call 0) fresh (pick (eqb call 1) (advanced_by a t) t)
