use Rattle.desk.specs.Desk as m
use Rattle.desk.specs.Calls as calls
use Rattle.desk_value.specs.Value as held
use borrow.Author.Rules.{rules}
use Rattle.desk_value.proofs.Desk.take.Goals as goal

pub returns : goal.returns
unfolding held.taken m.take m.taken m.take_answer calls.take_says
returns c = search (rules, c.in_ok-place.ensures)
