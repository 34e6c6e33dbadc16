-- The desk that never guesses. It knows no queue, no slot and no guess.
use Rattle.std.specs.Prelude.{ℕ, zero, suc, ◌+◌, ◌-◌, List, [], ◌∷◌, length, get_or, ltb}
use Rattle.frame_info.specs.Choice.{pick}
use Rattle.frame_info.specs.Word.{blank}
use Rattle.desk.specs.Lists.{row_of}

-- At frame f a seat with delay d has blank while f is below d, and from there on its word number f - d.
unfoldable pub ref_word : ℕ → List ℕ → ℕ → ℕ
ref_word d l f = pick (ltb f d) blank (get_or l (f - d) blank)

-- the row of frame f, from every seat's delay and words
abbrev pub ref_row : List ℕ → (ℕ → List ℕ) → ℕ → List ℕ
ref_row delays words f = row_of (length delays) (λ s. ref_word (get_or delays s 0) (words s) f)

-- How many places that gives a seat: none before its first word, and from then on its delay's blanks and its words.
unfoldable pub places_of : ℕ → List ℕ → ℕ
places_of d [] = 0
places_of d (w ∷ l) = d + length (w ∷ l)

-- The console steps through the rows: its state before frame f, and so after frame f - 1.
unfoldable pub state_before : {C : Type 0} → C → (C → List ℕ → C) → (ℕ → List ℕ) → ℕ → C
state_before c step rows zero = c
state_before c step rows (suc f) = step (state_before c step rows f) (rows f)
