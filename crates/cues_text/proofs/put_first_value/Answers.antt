use mir.Facts.{to_z-of_z}
use Rattle.cues_text.proofs.Texts.{joined}
use Rattle.cues_text.proofs.put_first_value.Goals as goal

pub returns : goal.returns
returns c =
    let z = to_z-of_z c.ranges.first in
    joined (rw z at c.put_frame_value-next.ensures) c.put_number_value.ensures
