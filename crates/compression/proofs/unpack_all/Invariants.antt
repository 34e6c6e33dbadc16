use Prim.Native.Nat.{◌-◌}
use lib.ListN.{length}
use Rattle.compression.proofs.Unpacking.{Unpacks}
use Rattle.compression.proofs.unpack_all.Given as goal

abbrev pub invariant-loop-length : goal.invariant-loop-length
invariant-loop-length l = Unpacks l.reference l.packet l.initial.out l.initial.lengths l.reader l.done.lengths l.from l.done.bytes l.out l.lengths

abbrev pub decreases-loop-length : goal.decreases-loop-length
decreases-loop-length l = length l.packet - l.reader.at
