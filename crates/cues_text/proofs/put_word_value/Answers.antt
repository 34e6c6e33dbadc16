use Rattle.cues_text.proofs.Texts.{joined, put_one, put_word_text}
use Rattle.cues_text.proofs.put_word_value.Goals as goal

pub returns : goal.returns
returns c = joined (put_one c.put_byte-next.ensures.0 c.put_byte-next.ensures.1) (put_word_text c.args.word c.put_word.ensures.0 c.put_word.ensures.1)
