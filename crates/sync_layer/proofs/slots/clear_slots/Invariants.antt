use Rattle.std.proofs.Common.{◌≡◌}
use Rattle.sync_layer.specs.Slots.{clear_slots}
use Rattle.sync_layer.proofs.slots.clear_slots.Given as goal

abbrev pub invariant-loop-i : goal.invariant-loop-i
invariant-loop-i l = l.slots ≡ clear_slots l.i l.initial.slots
