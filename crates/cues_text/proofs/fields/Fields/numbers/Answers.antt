use Rattle.cues_text.proofs.Filling.{filled_more}
use Rattle.cues_text.proofs.fields.Fields.numbers.Goals as goal

pub loop-i-preserved : goal.loop-i-preserved
loop-i-preserved c = filled_more _ _ _ _ _ c.loop-i-test.true c.loop-i.invariant c.low.ensures
