use native.Mathlib.Omega.{arith}
use Rattle.cues_text.proofs.Texts.{told_done}
use Rattle.cues_text.proofs.tell_fills.Goals as goal

pub returns : goal.returns
returns c = told_done c.put_number-end.ensures c.put_fills_value.ensures (omega arith)
