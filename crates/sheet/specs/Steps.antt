-- What the steps of the reading do: how far a run of spaces, or of other bytes, reaches, and which row a name has.
use Rattle.std.specs.Prelude.{ℕ, suc, Bool, not, List, [], ◌∷◌, get_or, eqb, ltb, Option, Some, None}
use Rattle.frame_info.specs.Choice.{pick}
use Rattle.sheet.specs.Answer.{Call}
use Rattle.sheet.specs.Calls.{calls, row_count, place_of, no_row}

-- whether a byte ends a run: of spaces, or of other bytes
unfoldable pub ends_run : ℕ → Bool → Bool
ends_run b spaces = pick (eqb b 32) (not spaces) spaces

-- how many bytes at the front make the run
unfoldable pub run_of : Bool → List ℕ → ℕ
run_of spaces [] = 0
run_of spaces (b ∷ s) = pick (ends_run b spaces) 0 (suc (run_of spaces s))

-- the call of a name's row, where one has it
unfoldable pub call_named : List ℕ → Option Call
call_named name = pick (ltb (place_of name calls) row_count) (Some (get_or calls (place_of name calls) no_row).call) None
