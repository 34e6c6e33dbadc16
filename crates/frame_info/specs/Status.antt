-- How a word that is served stands, as the promises cite it. src/input_status.rt has each number's sentence.
use Rattle.std.specs.Prelude.{ℕ}

abbrev pub status_confirmed : ℕ
status_confirmed = 0

abbrev pub status_predicted : ℕ
status_predicted = 1

abbrev pub status_disconnected : ℕ
status_disconnected = 2
