use native.Mathlib.Omega.{arith}
use borrow.Author.Rules.{rules}
use Rattle.cues_world.proofs.Keeping.{passed_told, bad_told}
use Rattle.cues_world.proofs.answer.Goals as goal

pub returns-in-Passed : goal.returns-in-Passed
returns-in-Passed c = (c.requires.1, omega arith, λ p. passed_told _ _ c.read_line.ensures.0 _ _ (search rules))

pub returns-in-Bad : goal.returns-in-Bad
returns-in-Bad c =
    let w = c.requires.1 in
    let t = c.put_text.ensures in
    (record { queue = w.queue; layer = w.layer; desk = w.desk }, omega (arith, t.0), λ p. bad_told _ _ c.read_line.ensures.0 _ _ (search rules) _ _ t.0 t.1)
