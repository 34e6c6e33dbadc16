-- Whichever call is made, the queue stays whole. Assumes nothing.
use Prim.Native.Nat.{ℕ}
use native.Mathlib.Omega.{arith}
use mathlib.Core.Path.{◌≡◌}
use mathlib.Core.Logic.{⊎_elim}
use mathlib.Core.List.{List}
use lib.IntN.{ℤ}
use lib.ListN.{length-replicate}
use Rattle.frame_info.proofs.Split.{split_eqb}
use Rattle.frame_info.specs.declared.PlayerInput.{PlayerInput}
use Rattle.input_queue.proofs.Kept.{opened_sane, add_whole, served_whole, discarded_whole, reset_whole, delayed_whole}
use Rattle.input_queue_value.specs.declared.InputQueue.{InputQueue}
use Rattle.input_queue_value.specs.Value as held
use Rattle.cues_text.specs.Args.{number_arg, frame_arg}
use Rattle.cues_queue.specs.Queue.{input_arg, queue_after}

-- ---- laws of the queue by value

pub held_opened_whole : (p d : ℕ) → held.Whole (held.opened p d).queue
unfolding held.opened
held_opened_whole p d = record { room = simp length-replicate (omega arith); numbers = opened_sane p d }

module _ (q : InputQueue) (w : held.Whole q) where
  held_add_whole : (i : PlayerInput) → held.Whole (held.add_input q i).queue
  unfolding held.add_input
  held_add_whole i = add_whole q.inputs 0 q.state w i

  held_served_whole : (f : ℤ) → held.Whole (held.served q f).queue
  unfolding held.served
  held_served_whole f = served_whole q.inputs 0 q.state w q.predictor f

  held_discarded_whole : (f : ℤ) → held.Whole (held.discarded q f).queue
  unfolding held.discarded
  held_discarded_whole f = discarded_whole q.inputs 0 q.state w f

  held_reset_whole : held.Whole (held.reset q)
  held_reset_whole = reset_whole q.inputs 0 q.state w

  held_delayed_whole : (d : ℕ) → held.Whole (held.delayed_to q d).queue
  unfolding held.delayed_to
  held_delayed_whole d = delayed_whole q.inputs 0 q.state w d

  pub made_whole : (call : ℕ) (a : List ℕ) → held.Whole (queue_after call a q)
  unfolding queue_after
  made_whole call a =
      ⊎_elim
      (λ e. rw e.0 (held_opened_whole (number_arg a 0) (number_arg a 1)))
      (λ e₀. ⊎_elim
      (λ e. rw e.0 (held_add_whole (input_arg a)))
      (λ e₁. ⊎_elim
      (λ e. rw e.0 (held_served_whole (frame_arg a 0)))
      (λ e₂. ⊎_elim
      (λ e. rw e.0 w)
      (λ e₃. ⊎_elim
      (λ e. rw e.0 (held_discarded_whole (frame_arg a 0)))
      (λ e₄. ⊎_elim
      (λ e. rw e.0 held_reset_whole)
      (λ e₅. ⊎_elim
      (λ e. rw e.0 (held_delayed_whole (number_arg a 0)))
      (λ e₆. simp (e₀.1, e₁.1, e₂.1, e₃.1, e₄.1, e₅.1, e₆.1) w)
      (split_eqb call 6))
      (split_eqb call 5))
      (split_eqb call 4))
      (split_eqb call 3))
      (split_eqb call 2))
      (split_eqb call 1))
      (split_eqb call 0)

-- as a caller meets it
pub make_whole : (call : ℕ) (a : List ℕ) (q r : InputQueue) → held.Whole q → r ≡ queue_after call a q → held.Whole r
make_whole call a q r w e = rw e (made_whole q w call a)
