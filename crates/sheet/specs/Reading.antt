-- What a line asks for: which call, how many fields, and what they hold.
use Rattle.std.specs.Prelude.{ℕ, ◌+◌, List, [], ◌∷◌, length, get_or, eqb, ltb, leb, Option, Some, None}
use Rattle.std.proofs.lemmas.List.Edits.{sets}
use Rattle.frame_info.specs.Choice.{pick}
use Rattle.sheet.specs.Answer.{Line, Call}
use Rattle.sheet.specs.Fields.{fields_of}
use Rattle.sheet.specs.Calls.{calls, row_count, place_of, no_row, kind_at, value_of, BAD, PASSED}

-- the answer, and the values that are handed out, one for each field
pub record Reading : Type 0 where
  pub line : Line
  pub values : List ℕ

-- no call is made, and nothing is handed out
unfoldable pub alone : ℕ → Reading
alone call = record { line = record { call = call; count = 0 }; values = [] }

-- a field is of its kind: its value comes first; else the line is bad
unfoldable pub before : Option ℕ → Reading → Reading
before (Some v) r = record { line = r.line; values = v ∷ r.values }
before None r = alone BAD

-- the fields of a call from field i on. A missing field, an extra one and one that is not of its kind make the line bad;
-- the values are those of the fields before the first that is extra or not of its kind
unfoldable pub fields_from : Call → ℕ → List (List ℕ) → Reading
fields_from c i [] = pick (leb c.least i) (record { line = record { call = c.number; count = i }; values = [] }) (alone BAD)
fields_from c i (f ∷ fs) = pick (ltb i c.most) (before (value_of (kind_at c i) f) (fields_from c (i + 1) fs)) (alone BAD)

-- a name that no row has makes the line bad
unfoldable pub called : ℕ → List (List ℕ) → Reading
called k fs = pick (ltb k row_count) (fields_from (get_or calls k no_row).call 0 fs) (alone BAD)

-- a line with no field, or with `#` as its first byte that is not a space, is passed over
unfoldable pub fields_read : List (List ℕ) → Reading
fields_read [] = alone PASSED
fields_read (f ∷ fs) = pick (eqb (get_or f 0 0) 35) (alone PASSED) (called (place_of f calls) fs)

-- a line of more than 4,096 bytes is bad, whatever stands in it
unfoldable pub reading_of : List ℕ → Reading
reading_of line = pick (ltb 4096 (length line)) (alone BAD) (fields_read (fields_of line))

-- the values stand at the front of the lent numbers, and the rest is as it was
unfoldable pub args_after : List ℕ → List ℕ → List ℕ
args_after line args = sets args 0 (reading_of line).values
