use Rattle.time_sync.proofs.Bounds.{half_under}
use Rattle.time_sync.proofs.TimeSync.average_frame_advantage.Goals as goal

pub truncated-requires : goal.truncated-requires
truncated-requires c = rw c.meeting_point.ensures (half_under c.args.self)
