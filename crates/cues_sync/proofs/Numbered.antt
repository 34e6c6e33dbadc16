-- A number past the last call's leaves the windows as the last call does, which only looks. Assumes nothing.
use Prim.Native.Nat.{ℕ, ◌<◌, min}
use native.Mathlib.Omega.{arith}
use mathlib.Core.Path.{◌≡◌}
use mathlib.Core.List.{List}
use Rattle.time_sync.specs.declared.TimeSync.{TimeSync}
use Rattle.sheet.proofs.Numbered.{same_test}
use Rattle.cues_sync.specs.Sync.{after}

pub after_same : (n last : ℕ) (a : List ℕ) (t : TimeSync) → 1 < last → after (min n last) a t ≡ after n a t
unfolding after
after_same n last a t h = grind (arith, same_test n last)
