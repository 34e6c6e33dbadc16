use Rattle.digits.specs.Digits.{last_digits}
use lib.Seq.{sets}
use mathlib.Core.Path.{◌≡◌}
use Rattle.digits.proofs.put_digits.Given as goal

abbrev pub invariant-loop-left : goal.invariant-loop-left
invariant-loop-left l = (sets l.out l.at (last_digits l.base l.left l.rest) ≡ sets l.initial.out l.at (last_digits l.base l.count l.n))
