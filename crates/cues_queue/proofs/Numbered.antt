-- A number past the last call's leaves and tells what the last call does. Assumes nothing.
use Prim.Native.Nat.{ℕ, min}
use native.Mathlib.Omega.{arith}
use mathlib.Core.Path.{◌≡◌}
use mathlib.Core.List.{List}
use Rattle.input_queue_value.specs.declared.InputQueue.{InputQueue}
use Rattle.sheet.proofs.Numbered.{same_test}
use Rattle.cues_queue.specs.Queue.{queue_after, text_after}

module _ (n : ℕ) (a : List ℕ) (q : InputQueue) where
  pub queue_same : queue_after (min n 7) a q ≡ queue_after n a q
  unfolding queue_after
  queue_same = grind (arith, same_test n 7)

  pub text_same : text_after (min n 7) a q ≡ text_after n a q
  unfolding text_after
  text_same = grind (arith, same_test n 7)

pub ruleset numbered = (queue_same, text_same)
