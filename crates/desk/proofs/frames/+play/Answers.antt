use native.Mathlib.Omega.{arith}
use Rattle.desk.proofs.Served.{plays, next_current, play_whole, play_rest}
use borrow.Author.Rules.{rules}
use Rattle.desk.proofs.frames.+play.Goals as goal

pub returns-then-next-end : goal.returns-then-next-end
returns-then-next-end t c = search (rules, plays)

pub play-requires : goal.play-requires
play-requires t c =
    let e = c.one_frame-next.ensures in
    let h = c.requires in
    (omega (arith, next_current _ _ _ _ _ _ _ e), (play_whole _ _ _ _ _ _ _ _ e h.1 h.0 (search rules) h.2, search rules, search rules))

pub returns : goal.returns
returns t c = play_rest _ _ _ _ _ _ _ _ c.one_frame-next.ensures c.requires.1 _ _ _ c.play.ensures
