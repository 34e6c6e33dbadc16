use Rattle.cues_desk.proofs.Keeping.{line_some, line_few}
use borrow.Author.Rules.{rules}
use Rattle.cues_desk.proofs.log_into.Goals as goal

pub overflow_sub-result : goal.overflow_sub-result
overflow_sub-result c = line_some _ c.requires _ _ _ c.log.ensures.0 _ (search rules)

pub returns : goal.returns
returns c = line_few _ c.requires _ _ _ c.log.ensures.0 _ (search rules)
