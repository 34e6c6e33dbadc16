use Rattle.std.proofs.Common.{◌≡◌, map, take}
use Rattle.std.proofs.lemmas.List.Edits.{sets}
use Rattle.cues_text.specs.Args.{low_of}
use Rattle.cues_text.proofs.fields.Fields.numbers.Given as goal

abbrev pub invariant-loop-i : goal.invariant-loop-i
invariant-loop-i l = l.numbers ≡ sets l.initial.numbers 0 (map low_of (take l.i l.values))
