-- The predictors, all three at once. Assumes nothing.
use Rattle.std.proofs.Common.{ℕ, ◌≡◌, arith}
use Rattle.std.proofs.lemmas.Bool.Decides.{nat_tests}
use Rattle.frame_info.specs.Word.{predicted, blank}

-- each gives blank from blank
pub predicted_blank : (p : ℕ) → predicted p blank ≡ blank
unfolding predicted
predicted_blank p = grind (arith, nat_tests)

-- and changes nothing when applied twice
pub predicted_twice : (p w : ℕ) → predicted p (predicted p w) ≡ predicted p w
unfolding predicted
predicted_twice p w = grind (arith, nat_tests)
