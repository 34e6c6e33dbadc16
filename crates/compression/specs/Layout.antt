-- What the packet of a list of inputs is, and what list a packet is of. A byte is a number, an input a list of bytes.
use Rattle.std.specs.Prelude.{ℕ, zero, suc, ◌+◌, ◌*◌, ◌%◌, ◌/◌, List, [], ◌∷◌, ◌++◌, length, take, drop, leb}
use Rattle.std.specs.Int.Bits.{bit_xor}
use Rattle.frame_info.specs.Choice.{pick}

-- bytes XORed with the base as far as both reach, the rest as is
unfoldable pub masked : List ℕ → List ℕ → List ℕ
masked [] bytes = bytes
masked (b ∷ base) [] = []
masked (b ∷ base) (x ∷ bytes) = bit_xor b x ∷ masked base bytes

-- a length is a u16, so below this
abbrev pub length_limit : ℕ
length_limit = 65536

-- its low byte first
abbrev pub sized : ℕ → List ℕ
sized n = n % 256 ∷ n / 256 ∷ []

abbrev pub size_of : ℕ → ℕ → ℕ
size_of low high = low + 256 * high

-- one input in a packet: its length, then its bytes masked by the base in force
unfoldable pub record_of : List ℕ → List ℕ → List ℕ
record_of base input = sized (length input) ++ masked base input

-- the packet of a list of inputs. The first base is the reference, each later one the input before, so an empty
-- input makes the next base empty
unfoldable pub packed : List ℕ → List (List ℕ) → List ℕ
packed base [] = []
packed base (input ∷ inputs) = record_of base input ++ packed input inputs

-- what a packet may be: whole, with a list of what it holds; or broken, by one byte where a length should be, or by
-- fewer bytes than the length says
pub data Reading : Type 0 where
  whole : List (List ℕ) → Reading
  half : Reading
  short : Reading

-- one more in front of what was read
unfoldable pub after : List ℕ → Reading → Reading
after body (whole bodies) = whole (body ∷ bodies)
after body half = half
after body short = short

-- the records of a packet, each without its length and still masked; what breaks first in the packet is what it is
-- broken by. A record takes two bytes at least, so there are no more records than bytes
unfoldable pub records_in : ℕ → List ℕ → Reading
records_in zero bytes = whole []
records_in (suc most) [] = whole []
records_in (suc most) (low ∷ []) = half
records_in (suc most) (low ∷ high ∷ bytes) =
    pick (leb (size_of low high) (length bytes))
    (after (take (size_of low high) bytes) (records_in most (drop (size_of low high) bytes)))
    short

unfoldable pub records : List ℕ → Reading
records packet = records_in (length packet) packet

-- masked once more by the base in force, a record's bytes are the input
unfoldable pub restored : List ℕ → List (List ℕ) → List (List ℕ)
restored base [] = []
restored base (body ∷ bodies) = masked base body ∷ restored (masked base body) bodies

-- the list of inputs that a packet is of
unfoldable pub unpacked_by : List ℕ → Reading → Reading
unpacked_by reference (whole bodies) = whole (restored reference bodies)
unpacked_by reference half = half
unpacked_by reference short = short

unfoldable pub unpacked : List ℕ → List ℕ → Reading
unpacked reference packet = unpacked_by reference (records packet)

-- a list of inputs is lent as their bytes, one after the other, and the list of their lengths
unfoldable pub joined : List (List ℕ) → List ℕ
joined [] = []
joined (input ∷ inputs) = input ++ joined inputs

unfoldable pub lengths_of : List (List ℕ) → List ℕ
lengths_of [] = []
lengths_of (input ∷ inputs) = length input ∷ lengths_of inputs

-- and such bytes and lengths stand for the inputs
unfoldable pub split : List ℕ → List ℕ → List (List ℕ)
split [] bytes = []
split (n ∷ lengths) bytes = take n bytes ∷ split lengths (drop n bytes)

unfoldable pub total : List ℕ → ℕ
total [] = 0
total (n ∷ lengths) = n + total lengths
