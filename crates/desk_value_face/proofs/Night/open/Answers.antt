use Rattle.desk_value_face.proofs.Keeping.{open_kept}
use Rattle.desk_value_face.proofs.Night.open.Goals as goal

pub invariant_of-result : goal.invariant_of-result
invariant_of-result c = record { whole = open_kept _ _ _ _ _ c.setup-opened.ensures }
