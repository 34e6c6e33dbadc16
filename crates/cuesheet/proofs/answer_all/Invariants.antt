use Rattle.cuesheet.proofs.Keeping.{Fed}
use Rattle.cuesheet.proofs.answer_all.Given as goal

abbrev pub invariant-loop : goal.invariant-loop
invariant-loop l = Fed l.initial.bytes l.initial.line l.initial.args l.initial.out l.bytes l.line l.args l.out l.w l.reader
