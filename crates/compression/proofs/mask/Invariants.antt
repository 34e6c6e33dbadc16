use Rattle.std.proofs.Common.{◌≡◌}
use Rattle.compression.specs.Layout.{masked}
use Rattle.compression.proofs.Lists.{front}
use Rattle.compression.proofs.mask.Given as goal

abbrev pub invariant-loop-i : goal.invariant-loop-i
invariant-loop-i l = l.out ≡ front l.initial.out (masked l.base l.bytes) l.i
