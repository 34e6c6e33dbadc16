use Rattle.std.proofs.Common.{arith}
use Rattle.std.proofs.lemmas.Bool.Decides.{nat_tests}
use Rattle.input_queue.proofs.Fills.{fill_added}
use Rattle.input_queue.specs.Queue.{add, place_count}
use Rattle.input_queue.specs.Ring.{add_words}
use Rattle.input_queue.proofs.steps.store.Goals as goal

pub returns : goal.returns
unfolding add place_count add_words
returns c = (grind (arith, nat_tests), grind (arith, nat_tests), grind (arith, nat_tests, fill_added))
