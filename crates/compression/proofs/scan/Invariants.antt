use Prim.Native.Nat.{◌-◌}
use lib.ListN.{length}
use Rattle.compression.proofs.Reading.{Scanned}
use Rattle.compression.proofs.scan.Given as goal

abbrev pub invariant-loop-length : goal.invariant-loop-length
invariant-loop-length l = Scanned l.packet l.reader l.seen

abbrev pub decreases-loop-length : goal.decreases-loop-length
decreases-loop-length l = length l.packet - l.reader.at
