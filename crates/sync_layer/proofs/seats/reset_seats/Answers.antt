use Rattle.std.proofs.Common.{rules}
use Rattle.input_queue.specs.Queue.{reset}
use Rattle.sync_layer.proofs.seats.reset_seats.Goals as goal

pub returns : goal.returns
returns c = c.change_seats.ensures reset (λ s r k. search rules)
