use Rattle.digits.specs.Digits.{number_of}
use lib.ListN.{drop}
use mathlib.Core.Path.{◌≡◌}
use Prim.Native.Nat.{◌<◌, ◌^◌}
use Rattle.digits.proofs.Reading.{number_after}
use Rattle.digits.proofs.read_number.Given as goal

abbrev pub invariant-loop-b : goal.invariant-loop-b
invariant-loop-b l = (l.value < 2 ^ 32) × (number_after l.base l.value (drop l.b-index l.s) ≡ number_of l.base l.s)
