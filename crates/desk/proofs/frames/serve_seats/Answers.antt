use borrow.Author.Rules.{rules}
use Rattle.desk.proofs.Served.{servings}
use Rattle.desk.proofs.frames.serve_seats.Goals as goal

pub loop-i-init : goal.loop-i-init
loop-i-init c = search (rules, servings)

pub ask_seat-asked-requires : goal.ask_seat-asked-requires
ask_seat-asked-requires c = search (rules, servings)

pub loop-i-preserved : goal.loop-i-preserved
loop-i-preserved c = search (rules, servings)
