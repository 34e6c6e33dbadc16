use Rattle.std.proofs.Common.{ℕ, ◌≡◌, ◌<◌}
use Rattle.frame_info.specs.Refusal.{number_in}
use Rattle.sync_layer.specs.Lists.{first_refusal}
use Rattle.sync_layer.proofs.serving.first_refusal.Given as goal

abbrev pub invariant-loop-i : goal.invariant-loop-i
invariant-loop-i g l = (number : ℕ → ℕ) → ((i : ℕ) (r : _) → i < l.n → goal.F-post g l.refusal i r → number_in r ≡ number i) → first_refusal l.i number ≡ 0
