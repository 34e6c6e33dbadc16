use Rattle.cues_text.proofs.Texts.{joined, put_one, put_decimal_text}
use Rattle.cues_text.proofs.put_number_value.Goals as goal

pub returns : goal.returns
returns c = joined (put_one c.put_byte-next.ensures.0 c.put_byte-next.ensures.1) (put_decimal_text c.args.number c.ranges.number c.put_decimal.ensures.0 c.put_decimal.ensures.1)
