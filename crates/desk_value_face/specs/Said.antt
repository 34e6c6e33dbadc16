-- What the night says.
use Rattle.std.specs.Prelude.{ℕ}

-- the console's three numbers, the corrections, the frames played again, the words drawn together, and the refused calls
abbrev pub said_words : ℕ
said_words = 7
