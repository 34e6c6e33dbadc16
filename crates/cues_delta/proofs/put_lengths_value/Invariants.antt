use lib.ListN.{length}
use mathlib.Core.Path.{◌≡◌}
use Prim.Native.Nat.{◌+◌, ◌*◌, ◌≤◌}
use Rattle.cues_delta.proofs.put_lengths_value.Given as goal

abbrev pub invariant-loop-length : goal.invariant-loop-length
invariant-loop-length l = (l.end ≤ l.at + 11 * l.length-index) × (length l.out ≡ length l.initial.out)
