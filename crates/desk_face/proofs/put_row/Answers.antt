use Rattle.desk_face.proofs.Face.{row_copied}
use native.Mathlib.Omega.{arith}
use Rattle.desk_face.proofs.put_row.Goals as goal

pub returns : goal.returns
returns c = row_copied _ _ _ _ c.copy_from_slice.ensures.after (omega (arith, c.requires.0, c.told-row)) c.requires.1
