-- What an answer says of the frame that was asked for. Assumes nothing.
use Prim.Native.Nat.{ℕ, ◌-◌, ◌<◌}
use native.Mathlib.Omega.{arith}
use mathlib.Core.Path.{◌≡◌, sym, ◌∙◌}
use Rattle.std.proofs.lemmas.Bool.Decides.{nat_tests}
use Rattle.frame_info.specs.Frame.{last_count}
use Rattle.input_queue.specs.declared.QueueState.{QueueState}
use Rattle.input_queue.specs.Calls as calls

-- What is not refused has a frame within its range.
module _ (s : QueueState) (c n : ℕ) where
  pub add_low : n ≡ calls.add_refusal s c → n ≡ 0 → c - 1 < last_count
  unfolding calls.add_refusal
  add_low e z = let r : calls.add_refusal s c ≡ 0 = sym e ∙ z in grind (arith, nat_tests)
