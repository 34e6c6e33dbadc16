-- The shapes of answers: the number of document 01, and the values after it where that is 0.
use Rattle.std.specs.Prelude.{ℕ, ◌+◌, ◌≤◌, ◌≡◌, Bool, List, [], ◌∷◌, ◌++◌, length, eqb, ℤ}
use Rattle.std.proofs.lemmas.List.Edits.{sets}
use Rattle.frame_info.specs.Choice.{pick}
use Rattle.console.specs.declared.Console.{Console}
use Rattle.digits.specs.Digits.{decimal_text, signed_text, word_text}

-- one space between two fields
abbrev pub space : ℕ
space = 32

-- the number, and values where nothing is refused
unfoldable pub answer_text : ℕ → List ℕ → List ℕ
answer_text n values = pick (eqb n 0) (decimal_text n ++ values) (decimal_text n)

-- a value comes after one space: a place or a frame, a number, a word, a standing (`c` for confirmed, `p` for predicted)
abbrev pub frame_value : ℤ → List ℕ
frame_value z = (space ∷ []) ++ signed_text z

abbrev pub number_value : ℕ → List ℕ
number_value n = (space ∷ []) ++ decimal_text n

abbrev pub word_value : ℕ → List ℕ
word_value w = (space ∷ []) ++ word_text w

abbrev pub standing_byte : Bool → ℕ
standing_byte c = pick c 99 112

abbrev pub standing_value : Bool → List ℕ
standing_value c = (space ∷ []) ++ (standing_byte c ∷ [])

abbrev pub letter_value : ℕ → List ℕ
letter_value b = (space ∷ []) ++ (b ∷ [])

abbrev pub served_value : ℕ → Bool → List ℕ
served_value w c = word_value w ++ standing_value c

-- the fills that are announced: the first place, how many, and the word
abbrev pub first_value : ℤ → ℕ → List ℕ
first_value z count = frame_value z ++ number_value count

abbrev pub fills_value : ℤ → ℕ → ℕ → List ℕ
fills_value z count w = first_value z count ++ word_value w

-- a console's state: head, kind and seal, each as a word
abbrev pub head_value : Console → List ℕ
head_value c = word_value c.head ++ word_value c.kind

abbrev pub state_value : Console → List ℕ
state_value c = head_value c ++ word_value c.seal

-- A text is put into a list from a place on: where it ends, what the list holds then, and how far it reaches at most.
pub record Puts (text : List ℕ) (most at : ℕ) (old new : List ℕ) (last : ℕ) : Type 0 where
  pub ends : last ≡ at + length text
  pub holds : new ≡ sets old at text
  pub within : last ≤ at + most
