use Rattle.std.proofs.Common.{rules, to_z-of_z}
use Rattle.std.proofs.lemmas.Result.{err_from_is_err_and}
use Rattle.time_sync.proofs.Windows.{refused_is}
use Rattle.time_sync.proofs.TimeSync.advance_frame.Goals as goal

pub returns-in_err-advance : goal.returns-in_err-advance
returns-in_err-advance c = let p = err_from_is_err_and c.from_residual.result c.from_residual.ensures.1 in rw (p.1, p.2) (search (rules, refused_is, to_z-of_z))
