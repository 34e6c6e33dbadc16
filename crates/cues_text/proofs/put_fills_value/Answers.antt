use borrow.Author.Rules.{rules}
use mir.Facts.{to_z-of_z}
use mir.Syntax.{w32}
use mir.Val.{SFits}
use Rattle.cues_text.proofs.Texts.{joined}
use Rattle.cues_text.proofs.put_fills_value.Goals as goal

pub returns : goal.returns
returns c =
    let f : SFits w32 c.args.fills.first = search rules in
    let z = to_z-of_z f in
    joined (rw z at c.put_first_value-next.ensures) c.put_word_value.ensures
