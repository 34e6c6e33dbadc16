use Rattle.desk.proofs.Served.{servings}
use Rattle.desk.proofs.Loops.{writing}
use borrow.Author.Rules.{rules}
use Rattle.desk.proofs.frames.serve_row.Goals as goal

pub loop-i-init : goal.loop-i-init
loop-i-init c = search (rules, servings, writing)

pub ask_seat-asked-requires : goal.ask_seat-asked-requires
ask_seat-asked-requires c = search (rules, servings, writing)

pub loop-i-preserved : goal.loop-i-preserved
loop-i-preserved c = (search (rules, servings), search (rules, servings, writing), search (rules, servings, writing))
