-- Each call of a desk by value hands back a whole desk. Assumes nothing.
use Rattle.std.proofs.Common.{◌≡◌, ℕ, List, ℤ, sym, ap, subst}
use Rattle.desk.specs.declared.Report.{Report}
use Rattle.desk.specs.Runs.{take_call, advance_call}
use Rattle.desk_value.specs.declared.Desk.{Desk}
use Rattle.desk_value.specs.Answer.{OpenedDesk, TakenDesk, AdvancedDesk}
use Rattle.desk_value.specs.Value as held
use Rattle.desk_value.proofs.Kept.{held_opened_whole, held_after_whole}

module _ (d : Desk) where
  is_whole : (d' : Desk) → d ≡ d' → held.Whole d' → held.Whole d
  is_whole d' e h = subst held.Whole (sym e) h

  pub open_kept : (n limit p : ℕ) (delays : List ℕ) → record { no = n; desk = d } ≡ held.opened limit p delays → held.Whole d
  open_kept n limit p delays e = is_whole _ (ap (λ (x : OpenedDesk). x.desk) e) (held_opened_whole limit p delays)

  module _ (y : Desk) (h : held.Whole y) where
    pub take_kept : (n : ℕ) (z : ℤ) (s : ℕ) (f : ℤ) (w : ℕ) → record { no = n; place = z; desk = d } ≡ held.taken y s f w → held.Whole d
    unfolding held.after
    take_kept n z s f w e = is_whole _ (ap (λ (x : TakenDesk). x.desk) e) (held_after_whole y (take_call s f w) h)

    pub advance_kept : (n : ℕ) (r : Report) (l k : List ℕ) → record { no = n; report = r; served = l; statuses = k; desk = d } ≡ held.advanced y → held.Whole d
    unfolding held.after
    advance_kept n r l k e = is_whole _ (ap (λ (x : AdvancedDesk). x.desk) e) (held_after_whole y advance_call h)
