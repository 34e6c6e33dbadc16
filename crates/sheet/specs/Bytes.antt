-- The bytes of a BYTES field.
use Rattle.std.specs.Prelude.{ℕ, ◌+◌, ◌*◌, List, [], ◌∷◌, length, get_or, leb}
use Rattle.frame_info.specs.Choice.{pick}
use Rattle.digits.specs.Digits.{digit_of}
use Rattle.sheet.specs.Fields.{fields_of}
use Rattle.sheet.specs.Calls.{is_hex}

-- two hex digits make a byte, and the first is worth sixteen times as much
unfoldable pub pairs_of : List ℕ → List ℕ
pairs_of [] = []
pairs_of (a ∷ []) = []
pairs_of (a ∷ b ∷ s) = (digit_of a * 16 + digit_of b) ∷ pairs_of s

-- a field's bytes: `-` has none, and what is not BYTES has none
unfoldable pub bytes_in : List ℕ → List ℕ
bytes_in s = pick (is_hex s) (pairs_of s) []

-- bytes that need more than the room are not handed out
unfoldable pub fitting : ℕ → List ℕ → List ℕ
fitting room bs = pick (leb (length bs) room) bs []

-- what is handed out for a field of a line, the name being field 0; a field that is missing has no bytes
unfoldable pub bytes_at : ℕ → List ℕ → ℕ → List ℕ
bytes_at room line field = fitting room (bytes_in (get_or (fields_of line) field []))
