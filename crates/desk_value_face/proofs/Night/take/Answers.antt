use borrow.Author.Rules.{rules}
use Rattle.desk_value_face.proofs.Keeping.{take_kept}
use Rattle.desk_value_face.proofs.Night.take.Goals as goal

pub invariant_of-self : goal.invariant_of-self
invariant_of-self c = record { whole = take_kept _ _ (search rules) _ _ _ _ _ c.in-Ok.ensures }
