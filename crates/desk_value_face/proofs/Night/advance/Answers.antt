use borrow.Author.Rules.{rules}
use Rattle.desk_value_face.proofs.Keeping.{advance_kept}
use Rattle.desk_value_face.proofs.Night.advance.Goals as goal

pub invariant_of-self : goal.invariant_of-self
invariant_of-self c = record { whole = advance_kept _ _ (search rules) _ _ _ _ c.in-Ok.ensures }
