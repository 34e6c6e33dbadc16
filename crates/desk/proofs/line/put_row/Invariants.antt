use Rattle.desk.proofs.Lines.{Spaced}
use Rattle.desk.proofs.line.put_row.Given as goal

abbrev pub invariant-loop-word : goal.invariant-loop-word
invariant-loop-word l = Spaced l.at l.initial.out l.row l.out l.next l.word-index
