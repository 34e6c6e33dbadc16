-- A refusal's number is never 0. Assumes nothing.
use Rattle.std.proofs.Common.{◌≡◌, arith}
use Rattle.std.specs.Prelude.{Result, Ok}
use Rattle.frame_info.specs.Refusal.{number_of, number_in}
use Rattle.frame_info.specs.declared.refusal.Refusal.{Refusal}

pub number_some : (e : Refusal) → number_of e ≡ 0 → ⊥
number_some e h = grind arith

-- so a call is done exactly where its number is 0
pub done_of : {A : Type 0} (r : Result A Refusal) (a : A) → r ≡ Ok a → number_in r ≡ 0
done_of r a h = simp h
