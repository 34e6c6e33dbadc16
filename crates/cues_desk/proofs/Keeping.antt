-- Every call keeps a desk by value whole. Assumes nothing.
use Prim.Native.Nat.{ℕ, ◌+◌, ◌-◌, ◌*◌, ◌≤◌}
use Prim.{absurd}
use native.Mathlib.Omega.{arith}
use mathlib.Core.Path.{◌≡◌, sym, ap, ◌∙◌}
use mathlib.Core.Logic.{⊎_elim}
use mathlib.Core.List.{List}
use lib.IntN.{ℤ}
use lib.ListN.{length}
use Rattle.std.specs.Prelude.{Result, Ok}
use Rattle.frame_info.specs.declared.refusal.Refusal.{Refusal}
use Rattle.frame_info.proofs.Split.{split_eqb}
use Rattle.frame_info.specs.Frame.{count_of}
use Rattle.sync_layer.specs.Seats.{max_seats}
use Rattle.desk.specs.Answer.{Logged}
use Rattle.desk.specs.Said.{logged_said}
use Rattle.desk.specs.Desk as m
use Rattle.desk.specs.Calls.{log_answer, log_says}
use Rattle.desk.specs.Runs.{take_call, settle_call, advance_call}
use Rattle.desk_value.specs.declared.Desk.{Desk}
use Rattle.desk_value.specs.Value as held
use Rattle.desk_value.proofs.Kept.{held_opened_whole, held_after_whole}

module _ (y : Desk) (h : held.Whole y) where
  pub take_kept : (s : ℕ) (f : ℤ) (w : ℕ) → held.Whole (held.taken y s f w).desk
  unfolding held.after
  take_kept s f w = held_after_whole y (take_call s f w) h

  pub settle_kept : held.Whole (held.settled y).desk
  unfolding held.after
  settle_kept = held_after_whole y settle_call h

  pub advance_kept : held.Whole (held.advanced y).desk
  unfolding held.after
  advance_kept = held_after_whole y advance_call h

  -- what is told of every seat is told of no more than there can be
  pub few_seats : y.state.seats ≤ max_seats
  few_seats = h.seated.ready.few

-- a line that is logged is as long as the seats make it
log_length : (d : m.Desk) (f : ℤ) (l : List ℕ) (n : ℕ) → record { no = 0; count = n } ≡ log_says d f l → n ≡ 9 * (d.state.seats + 2)
unfolding log_says
log_length d f l n e =
    ⊎_elim
    (λ a. ap (λ (g : Logged). g.count) e ∙ simp a.1)
    (λ a. absurd (a.0 (sym (ap (λ (g : Logged). g.no) e ∙ simp a.1))))
    (split_eqb (log_answer d (count_of f) (length l)) 0)

module _ (y : Desk) (h : held.Whole y) (f : ℤ) (l : List ℕ) (r : Result ℕ Refusal) (e : logged_said r ≡ log_says (held.lent y) f l) (n : ℕ) (d : r ≡ Ok n) where
  line_is : n ≡ 9 * (y.state.seats + 2)
  line_is = log_length (held.lent y) f l n (rw d at e)

  pub line_some : 1 ≤ n
  line_some = omega (arith, line_is)

  pub line_few : n - 1 ≤ 53
  line_few = let s : y.state.seats ≤ 4 = h.seated.ready.few in omega (arith, line_is)

pub ruleset keeping = (held_opened_whole, take_kept, settle_kept, advance_kept, few_seats)
