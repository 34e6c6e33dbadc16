-- The cases of what a queue answers, for the proofs above it. Assumes nothing.
use Rattle.std.proofs.Common.{ℕ, ◌+◌, ◌≤◌, ◌<◌, ◌≡◌, arith}
use Rattle.std.proofs.lemmas.Bool.Decides.{nat_tests}
use Rattle.input_queue.specs.declared.QueueState.{QueueState}
use Rattle.input_queue.specs.Queue as queue
use Rattle.input_queue.specs.Calls as calls

module _ (s : QueueState) (w : ℕ) where
  pub wrong_idle : s.prediction_count ≡ 0 → s.first_incorrect_count ≡ queue.wrong_after s w
  unfolding queue.wrong_after
  wrong_idle a = grind (arith, nat_tests)

  pub wrong_stands : (s.prediction_count ≡ 0 → ⊥) → (s.first_incorrect_count ≡ 0 → ⊥) → s.first_incorrect_count ≡ queue.wrong_after s w
  unfolding queue.wrong_after
  wrong_stands a b = grind (arith, nat_tests)

  pub wrong_matched : (s.prediction_count ≡ 0 → ⊥) → s.first_incorrect_count ≡ 0 → s.prediction ≡ w → 0 ≡ queue.wrong_after s w
  unfolding queue.wrong_after
  wrong_matched a b d = grind (arith, nat_tests)

  pub wrong_begins : (s.prediction_count ≡ 0 → ⊥) → s.first_incorrect_count ≡ 0 → (s.prediction ≡ w → ⊥) → s.last_added_count + 1 ≡ queue.wrong_after s w
  unfolding queue.wrong_after
  wrong_begins a b d = grind (arith, nat_tests)

  pub predicting_idle : s.prediction_count ≡ 0 → 0 ≡ queue.predicting_after s w
  unfolding queue.predicting_after
  predicting_idle a = grind (arith, nat_tests)

  pub predicting_on : (s.prediction_count ≡ 0 → ⊥) → (s.prediction_count ≡ s.last_requested_count → ⊥) → s.prediction_count + 1 ≡ queue.predicting_after s w
  unfolding queue.predicting_after
  predicting_on a b = grind (arith, nat_tests)

  pub predicting_ends : (s.prediction_count ≡ 0 → ⊥) → s.prediction_count ≡ s.last_requested_count → w ≡ 0 → 0 ≡ queue.predicting_after s w
  unfolding queue.predicting_after
  predicting_ends a b d = grind (arith, nat_tests)

pub cap_le : (s : QueueState) (f : ℕ) → queue.capped s f ≤ f
cap_le s f = grind (arith, nat_tests)

pub input_done : (s : QueueState) (c : ℕ) → (c ≡ 0 → ⊥) → s.first_incorrect_count ≡ 0 → s.oldest < c → 0 ≡ calls.input_refusal s c
unfolding calls.input_refusal
input_done s c a b d = grind (arith, nat_tests)
