use Rattle.desk.proofs.Served.{advancing, advance_done, advance-report, advance_desk, advance-served, advance-statuses}
use borrow.Author.Rules.{rules}
use mathlib.Core.Path.{◌≡◌, refl}
use Rattle.desk.proofs.advance_into.Goals as goal

pub serve_frame-next-requires : goal.serve_frame-next-requires
serve_frame-next-requires c = search (rules, advancing, c.in_ok-advance_refusal.ensures)

pub returns : goal.returns
returns c =
    let n = c.in_ok-advance_refusal.ensures in
    let z : 0 ≡ 0 = refl in
    let h = c.requires.0 in
    let e = c.settle-settled.ensures.1 in
    let f = c.serve_frame-next.ensures in (
      advance_done _ _ _ _ _ n z,
      advance-report _ _ _ _ _ n z _ c.settle-settled.ensures.0,
      advance_desk _ _ _ _ _ n z h _ _ _ e _ _ _ f.0,
      advance-served _ _ _ _ _ n z h _ _ _ e _ _ f.1,
      advance-statuses _ _ _ _ _ n z h _ _ _ e _ _ f.2,
    )
