use Rattle.sheet.proofs.Calling.{calling}
use borrow.Author.Rules.{rules}
use Rattle.sheet.proofs.read_fields.Goals as goal

pub returns-then-count-row : goal.returns-then-count-row
returns-then-count-row c = let next = c.in-Some.ensures in search (rules, calling)

pub returns-in_default : goal.returns-in_default
returns-in_default c = let next = c.in-Some.ensures in search (rules, calling)

pub loop-field-preserved : goal.loop-field-preserved
loop-field-preserved c = let next = c.in-Some.ensures in search (rules, calling)

pub returns-then-count-row-2 : goal.returns-then-count-row-2
returns-then-count-row-2 c = let next = c.in-None.ensures in search (rules, calling)

pub returns : goal.returns
returns c = let next = c.in-None.ensures in search (rules, calling)
