use Rattle.cues_text.proofs.Texts.{joined}
use Rattle.cues_text.proofs.put_served_value.Goals as goal

pub returns : goal.returns
returns c = joined c.put_word_value-next.ensures c.put_standing_value.ensures
