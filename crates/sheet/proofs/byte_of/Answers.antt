use borrow.Author.Rules.{rules}
use Rattle.sheet.proofs.Decoding.{pair}
use Rattle.sheet.proofs.byte_of.Goals as goal

pub unwrap-requires : goal.unwrap-requires
unwrap-requires c = search (rules, pair)

pub overflow_cast-result : goal.overflow_cast-result
overflow_cast-result c = search (rules, pair)

pub returns : goal.returns
returns c = search (rules, pair)
