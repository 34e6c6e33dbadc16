use Rattle.cues_text.proofs.Texts.{joined}
use Rattle.cues_text.proofs.put_state_value.Goals as goal

pub returns : goal.returns
returns c = joined c.put_head_value-next.ensures c.put_word_value.ensures
