use Rattle.desk.proofs.Served.{Serving, answer_at}
use Rattle.desk.proofs.Loops.{Written}
use Rattle.sync_layer.specs.Calls.{status_of}
use Rattle.sync_layer.specs.Seats.{seat_at}
use Rattle.input_queue.specs.Queue.{confirms}
use Rattle.desk.proofs.frames.serve_row.Given as goal

abbrev pub invariant-loop-i : goal.invariant-loop-i
invariant-loop-i l = Serving l.n l.predictor l.current l.initial.seats l.words l.initial.slots l.from l.seats l.slots l.i
    × Written l.n (answer_at l.predictor l.current l.initial.seats l.words) l.initial.served l.served l.i
    × Written l.n (λ s. status_of (confirms (seat_at l.initial.seats s) l.current)) l.initial.statuses l.statuses l.i
