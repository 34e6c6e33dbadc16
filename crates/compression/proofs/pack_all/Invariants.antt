use Rattle.compression.proofs.Packing.{Packs}
use Rattle.compression.proofs.pack_all.Given as goal

abbrev pub invariant-loop-length : goal.invariant-loop-length
invariant-loop-length l = Packs l.reference l.pending l.lengths l.initial.out l.base l.rest l.at l.length-index l.out
