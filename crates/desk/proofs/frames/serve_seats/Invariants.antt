use Rattle.desk.proofs.Served.{Serving}
use Rattle.desk.proofs.frames.serve_seats.Given as goal

abbrev pub invariant-loop-i : goal.invariant-loop-i
invariant-loop-i l = Serving l.n l.predictor l.current l.initial.seats l.words l.initial.slots l.from l.seats l.slots l.i
