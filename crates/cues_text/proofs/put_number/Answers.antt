use Rattle.cues_text.proofs.Texts.{put_decimal_text}
use Rattle.cues_text.proofs.put_number.Goals as goal

pub returns : goal.returns
returns c = put_decimal_text c.args.number c.ranges.number c.put_decimal.ensures.0 c.put_decimal.ensures.1
