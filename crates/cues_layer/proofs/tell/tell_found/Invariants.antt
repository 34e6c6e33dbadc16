use lib.ListN.{length}
use mathlib.Core.Path.{◌≡◌}
use Prim.Native.Nat.{◌+◌, ◌*◌, ◌≤◌}
use Rattle.cues_layer.proofs.tell.tell_found.Given as goal

abbrev pub invariant-loop-frame : goal.invariant-loop-frame
invariant-loop-frame l = (l.end ≤ l.at + 10 + 21 * length l.yielded) × (length l.out ≡ length l.initial.out)
