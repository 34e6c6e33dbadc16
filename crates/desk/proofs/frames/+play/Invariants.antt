use Rattle.desk.proofs.frames.+play.Given as goal
use Rattle.std.proofs.Common.{◌-◌}

abbrev pub decreases-play : goal.decreases-play
decreases-play l = l.end - l.desk.current
