use Rattle.sheet.proofs.Fielding.{fielding}
use borrow.Author.Rules.{rules}
use Rattle.sheet.proofs.FieldsIterator.next.Goals as goal

pub returns-then-is_empty-clause-steps : goal.returns-then-is_empty-clause-steps
returns-then-is_empty-clause-steps c = search (rules, fielding)
