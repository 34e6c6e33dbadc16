use Rattle.sheet.proofs.Fielding.{run_within}
use Rattle.sheet.proofs.Calling.{lines, named_few}
use borrow.Author.Rules.{rules}
use Rattle.sheet.proofs.read_line.Goals as goal

pub returns-then-line-gt-LONGEST : goal.returns-then-line-gt-LONGEST
returns-then-line-gt-LONGEST c = search (rules, lines)

pub split_at-requires : goal.split_at-requires
split_at-requires c = search (rules, run_within)

pub returns-in_default : goal.returns-in_default
returns-in_default c = search (rules, lines)

pub returns-then-starts_with : goal.returns-then-starts_with
returns-then-starts_with c = search (rules, lines)

pub returns-in_default-find_row : goal.returns-in_default-find_row
returns-in_default-find_row c = search (rules, lines)

pub read_fields-requires : goal.read_fields-requires
read_fields-requires c = named_few c.in-Some.name.now _ c.in-Some-find_row.ensures _ c.requires

pub returns : goal.returns
returns c = search (rules, lines)
