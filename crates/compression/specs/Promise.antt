-- What the public calls answer, and what they leave in the lent lists.
use Rattle.std.specs.Prelude.{ℕ, List, [], ◌∷◌, ◌++◌, length, drop, leb, eqb}
use Rattle.frame_info.specs.Choice.{pick}
use Rattle.frame_info.specs.Refusal.{done, half_length, fewer_bytes, lengths_differ, no_room_for_lengths, no_room_for_bytes}
use Rattle.compression.specs.Layout.{Reading, whole, half, short, packed, joined, lengths_of, split, total, size_of}
use Rattle.compression.specs.Answer.{Packed, Unpacked}
use Rattle.compression.specs.declared.Record.{Record}
use Rattle.compression.specs.declared.Record.TheVariants.{End, Half, Short, Whole}

-- what is written stands in front of a lent list, and the rest of it stays
abbrev pub over : List ℕ → List ℕ → List ℕ
over written lent = written ++ drop (length written) lent

-- a refusal writes nothing
unfoldable pub left : ℕ → List ℕ → List ℕ → List ℕ
left number written lent = pick (eqb number done) (over written lent) lent

-- a refusal carries its number alone
abbrev pub pack_refused : ℕ → Packed
pack_refused number = record { no = number; bytes = 0 }

abbrev pub unpack_refused : ℕ → Unpacked
unpack_refused number = record { no = number; bytes = 0; lengths = 0 }

-- packing: 18 where the lengths don't sum to the pending bytes, then 20 where there is no room
unfoldable pub pack_answer : List ℕ → List ℕ → List ℕ → ℕ → Packed
pack_answer reference pending lengths room =
    pick (eqb (total lengths) (length pending))
    (pick (leb (length (packed reference (split lengths pending))) room)
    (record { no = done; bytes = length (packed reference (split lengths pending)) })
    (pack_refused no_room_for_bytes))
    (pack_refused lengths_differ)

unfoldable pub pack_out : List ℕ → List ℕ → List ℕ → List ℕ → List ℕ
pack_out reference pending lengths out =
    left (pack_answer reference pending lengths (length out)).no (packed reference (split lengths pending)) out

-- unpacking: 16 or 17, whichever the packet has first, then 19 where there is no room for the lengths, then 20 where
-- there is none for the bytes
unfoldable pub unpack_answer : Reading → ℕ → ℕ → Unpacked
unpack_answer half room places = unpack_refused half_length
unpack_answer short room places = unpack_refused fewer_bytes
unpack_answer (whole inputs) room places =
    pick (leb (length inputs) places)
    (pick (leb (length (joined inputs)) room)
    (record { no = done; bytes = length (joined inputs); lengths = length inputs })
    (unpack_refused no_room_for_bytes))
    (unpack_refused no_room_for_lengths)

-- what was read, where the packet is whole
unfoldable pub inputs_of : Reading → List (List ℕ)
inputs_of (whole inputs) = inputs
inputs_of half = []
inputs_of short = []

unfoldable pub unpack_out : Reading → List ℕ → ℕ → List ℕ
unpack_out reading out places = left (unpack_answer reading (length out) places).no (joined (inputs_of reading)) out

unfoldable pub unpack_lengths : Reading → ℕ → List ℕ → List ℕ
unpack_lengths reading room lengths =
    left (unpack_answer reading room (length lengths)).no (lengths_of (inputs_of reading)) lengths

-- what a reader finds at the front of the bytes that are left
unfoldable pub first_of : List ℕ → Record
first_of [] = End
first_of (low ∷ []) = Half
first_of (low ∷ high ∷ bytes) = pick (leb (size_of low high) (length bytes)) (Whole (size_of low high)) Short

-- the number that each case stands for; a whole record carries its length
abbrev pub number_of : Record → ℕ
number_of End = done
number_of Half = half_length
number_of Short = fewer_bytes
number_of (Whole n) = done
