-- A number that is no call's is taken for the last call's: no test for an earlier call tells the two apart. Assumes nothing.
use Prim.Native.Nat.{ℕ, ◌<◌, min}
use native.Mathlib.Omega.{arith}
use mathlib.Core.Path.{◌≡◌, sym, ◌∙◌}
use mathlib.Core.Logic.{⊎_elim}
use lib.Dec.{eqb}
use borrow.Author.Tests.{eq-eqb, ne_eqb}
use Rattle.frame_info.proofs.Split.{split_eqb}

pub same_test : (n last k : ℕ) → k < last → eqb (min n last) k ≡ eqb n k
same_test n last k h =
    ⊎_elim
    (λ w. eq-eqb (min n last) k (omega (arith, w.0)) ∙ sym w.1)
    (λ w. ne_eqb (min n last) k (λ e. w.0 (omega (arith, e))) ∙ sym w.1)
    (split_eqb n k)
