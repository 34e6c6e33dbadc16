-- What the parts of the two calls answer.
use Rattle.std.specs.Prelude.{ℕ, ◌-◌, List, length, take, drop, eqb}
use Rattle.frame_info.specs.Choice.{pick}
use Rattle.frame_info.specs.Refusal.{done, half_length, fewer_bytes}
use Rattle.compression.specs.Layout.{Reading, whole, half, short, joined}
use Rattle.compression.specs.Promise.{unpack_refused}
use Rattle.compression.specs.Answer.{Unpacked}

-- the base in force: the reference for the first input, afterwards the input before, as a part of the bytes so far
abbrev pub base_at : List ℕ → List ℕ → ℕ → ℕ → ℕ → List ℕ
base_at reference earlier inputs from upto = pick (eqb inputs 0) reference (take (upto - from) (drop from earlier))

-- what a first look at a packet counts: its number, and the bytes and lengths that it holds
unfoldable pub counted : Reading → Unpacked
counted half = unpack_refused half_length
counted short = unpack_refused fewer_bytes
counted (whole bodies) = record { no = done; bytes = length (joined bodies); lengths = length bodies }
