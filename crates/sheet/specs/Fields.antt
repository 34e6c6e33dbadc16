-- A line's fields.
use Rattle.std.specs.Prelude.{ℕ, List, [], ◌∷◌, eqb}
use Rattle.frame_info.specs.Choice.{pick}

-- a byte before the first of the pieces
unfoldable pub longer : ℕ → List (List ℕ) → List (List ℕ)
longer b [] = (b ∷ []) ∷ []
longer b (p ∷ ps) = (b ∷ p) ∷ ps

-- the pieces of a line between its spaces, the byte 0x20 alone; any other byte belongs to a piece
unfoldable pub pieces : List ℕ → List (List ℕ)
pieces [] = [] ∷ []
pieces (b ∷ s) = pick (eqb b 32) ([] ∷ pieces s) (longer b (pieces s))

-- those that have a byte
unfoldable pub filled : List (List ℕ) → List (List ℕ)
filled [] = []
filled ([] ∷ ps) = filled ps
filled ((b ∷ p) ∷ ps) = (b ∷ p) ∷ filled ps

-- one or more spaces part two fields, and those at both ends do not count: the fields are the pieces that have a byte
unfoldable pub fields_of : List ℕ → List (List ℕ)
fields_of line = filled (pieces line)
