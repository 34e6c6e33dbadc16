use Rattle.std.proofs.Common.{rules}
use Rattle.input_queue.specs.Queue.{discard}
use Rattle.sync_layer.proofs.seats.discard_seats.Goals as goal

pub returns : goal.returns
returns c = c.change_seats.ensures (λ s. discard s c.args.frame) (λ s r k. search rules)
