use lib.ListN.{length}
use mathlib.Core.Path.{◌≡◌}
use Prim.Native.Nat.{◌+◌, ◌*◌, ◌≤◌}
use Rattle.cues_desk.proofs.rows.put_served.Given as goal

abbrev pub invariant-loop-word : goal.invariant-loop-word
invariant-loop-word l = (l.next ≤ l.at + 11 * length l.yielded) × (length l.out ≡ length l.initial.out)
