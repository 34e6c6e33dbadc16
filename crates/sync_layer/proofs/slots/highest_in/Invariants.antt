use Rattle.std.proofs.Common.{◌≡◌}
use Rattle.sync_layer.specs.Slots.{highest_in}
use Rattle.sync_layer.proofs.slots.highest_in.Given as goal

abbrev pub invariant-loop-i : goal.invariant-loop-i
invariant-loop-i l = l.highest ≡ highest_in l.i l.slots l.low l.high
