use mir.Facts.{to_z-of_z}
use Rattle.cues_text.proofs.Texts.{joined, put_one, put_signed_text}
use Rattle.cues_text.proofs.put_frame_value.Goals as goal

pub returns : goal.returns
returns c =
    let z = to_z-of_z c.ranges.frame in
    joined (put_one c.put_byte-next.ensures.0 c.put_byte-next.ensures.1) (put_signed_text c.args.frame c.ranges.frame (rw z at c.put_signed.ensures.0) (rw z at c.put_signed.ensures.1))
