use native.Mathlib.Omega.{arith}
use Rattle.cues_text.proofs.Texts.{told_alone}
use Rattle.cues_text.proofs.tell_number.Goals as goal

pub returns : goal.returns
returns c = told_alone c.args.number c.put_number.ensures (omega arith)
