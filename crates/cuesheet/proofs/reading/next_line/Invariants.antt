use lib.ListN.{length}
use mathlib.Core.Path.{◌≡◌}
use Prim.Native.Nat.{◌≤◌}
use Rattle.cuesheet.proofs.reading.next_line.Given as goal

abbrev pub invariant-loop : goal.invariant-loop
invariant-loop l = (l.s.len ≤ length l.initial.bytes) × (length l.bytes ≡ length l.initial.bytes) × (l.s.used ≤ 4097) × (length l.line ≡ length l.initial.line) × (l.s.filled ≤ l.initial.s.filled)
