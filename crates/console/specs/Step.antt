-- What one frame does to the console.
use Rattle.std.specs.Prelude.{ℕ, ◌+◌, ◌-◌, ◌*◌, ◌/◌, ◌%◌, ◌^◌, List, [], ◌∷◌, ℤ, pos, negsuc, ◌+ℤ◌, bit_xor, nat_lt, slice_index_or}
use Rattle.frame_info.specs.Choice.{pick}
use Rattle.frame_info.specs.Word.{jog_of, box_of, blank}
use Rattle.console.specs.declared.Console.{Console}

-- head, kind and seal are 0 at the start
abbrev pub start : Console
start = record { head = 0; kind = 0; seal = 0 }

-- a whole number modulo 2^32
abbrev pub wrapped : ℤ → ℕ
wrapped (pos n) = n % 2 ^ 32
wrapped (negsuc n) = 2 ^ 32 - 1 - n % 2 ^ 32

-- a word's jog is added to head, modulo 2^32
unfoldable pub moved : ℕ → ℕ → ℕ
moved head w = wrapped (pos head +ℤ jog_of w)

-- the jog as 32 bits, its sign carried to the top
abbrev pub extended : ℕ → ℕ
extended w = pick (nat_lt (w % 256) 128) (w % 256) (4294967040 + w % 256)

-- rotated left by 5 in 32 bits: the upper 5 bits come in below
abbrev pub rotated : ℕ → ℕ
rotated x = x * 2 ^ 5 % 2 ^ 32 + x / 2 ^ 27

-- the seal, rotated, XOR the word
unfoldable pub sealed : ℕ → ℕ → ℕ
sealed seal w = bit_xor (rotated seal) w

-- seat by seat
abbrev pub head_after : ℕ → List ℕ → ℕ
head_after h [] = h
head_after h (w ∷ l) = head_after (moved h w) l

abbrev pub seal_after : ℕ → List ℕ → ℕ
seal_after x [] = x
seal_after x (w ∷ l) = seal_after (sealed x w) l

-- kind becomes seat 0's box
abbrev pub kind_of : List ℕ → ℕ
kind_of l = box_of (slice_index_or l 0 blank)

-- one frame, by the words of the seats in order
unfoldable pub step_of : Console → List ℕ → Console
step_of c l = record { head = head_after c.head l; kind = kind_of l; seal = seal_after c.seal l }
