-- The log line of a frame: the frame, each seat's word, the seal after it, each as 8 lower-case hex digits, one space between, a newline.
use Rattle.std.specs.Prelude.{ℕ, ◌+◌, ◌*◌, List, [], ◌∷◌, ◌++◌}
use Rattle.digits.specs.Digits.{word_text}

abbrev pub space : ℕ
space = 32

abbrev pub newline : ℕ
newline = 10

-- each number with a space before it
unfoldable pub spaced : List ℕ → List ℕ
spaced [] = []
spaced (w ∷ l) = (space ∷ word_text w) ++ spaced l

unfoldable pub line_of : ℕ → List ℕ → ℕ → List ℕ
line_of f row seal = word_text f ++ (spaced row ++ (spaced (seal ∷ []) ++ (newline ∷ [])))

-- a number's bytes: eight digits, and the space or the newline beside them
abbrev pub field_length : ℕ
field_length = 9

-- how many bytes a line has, for n seats
abbrev pub line_length : ℕ → ℕ
line_length n = field_length * (n + 2)
