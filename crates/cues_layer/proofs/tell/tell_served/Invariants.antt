use lib.ListN.{length}
use mathlib.Core.Path.{◌≡◌}
use Prim.Native.Nat.{◌+◌, ◌*◌, ◌≤◌}
use Rattle.cues_layer.proofs.tell.tell_served.Given as goal

abbrev pub invariant-loop-word : goal.invariant-loop-word
invariant-loop-word l = (l.end ≤ l.at + 10 + 11 * length l.yielded) × (length l.out ≡ length l.initial.out)
