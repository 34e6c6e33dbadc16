use Rattle.std.proofs.Common.{◌≡◌}
use Rattle.sync_layer.specs.Calls as calls
use Rattle.sync_layer.specs.Lists.{write_row}
use Rattle.sync_layer.proofs.serving.find_seats.Given as goal

abbrev pub invariant-loop-i : goal.invariant-loop-i
invariant-loop-i l =
    (l.frames ≡ write_row l.i l.initial.frames 0 (calls.confirmed_frame l.disconnected l.last_frame l.count))
    × (l.inputs ≡ write_row l.i l.initial.inputs 0 (calls.confirmed_word l.words l.disconnected l.last_frame l.count))
