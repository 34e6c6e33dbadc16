use Rattle.desk.proofs.Served.{corrects}
use borrow.Author.Rules.{rules}
use Rattle.desk.proofs.frames.correct.Goals as goal

pub replay-requires : goal.replay-requires
replay-requires c = search (rules, corrects)

pub returns : goal.returns
returns c = search (rules, corrects)
