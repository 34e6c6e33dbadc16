use Rattle.std.proofs.Common.{◌≡◌}
use Rattle.sync_layer.specs.Calls as calls
use Rattle.sync_layer.specs.Lists.{write_row}
use Rattle.sync_layer.specs.Seats.{map_seats}
use Rattle.sync_layer.proofs.serving.serve_seats.Given as goal

abbrev pub invariant-loop-i : goal.invariant-loop-i
invariant-loop-i l =
    (l.seats ≡ map_seats l.i (calls.asked_seat l.layer l.initial.seats l.words l.disconnected l.last_frame) l.initial.seats)
    × (l.inputs ≡ write_row l.i l.initial.inputs 0 (calls.served_word l.layer l.initial.seats l.words l.disconnected l.last_frame))
    × (l.statuses ≡ write_row l.i l.initial.statuses 0 (calls.status l.layer l.initial.seats l.words l.disconnected l.last_frame))
