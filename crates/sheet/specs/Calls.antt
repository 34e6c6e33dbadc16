-- The calls of a cue sheet: their numbers, names and fields. A call more is a row more.
use Rattle.std.specs.Prelude.{ℕ, ◌+◌, ◌/◌, ◌%◌, Bool, true, false, ◌&&◌, List, [], ◌∷◌, length, get_or, take, drop, eqb, ltb, leb, Option, Some, None}
use Prim.Native.String.{String}
use Prim.Native.String as text
use Prim.Native.Char.{code}
use Rattle.frame_info.specs.Choice.{pick}
use Rattle.digits.specs.Digits.{only_digits, decimal_of, signed_of, word_of}
use Rattle.sheet.specs.Answer.{Call}

-- the bytes of a text of ASCII
unfoldable pub bytes_of : String → List ℕ
bytes_of text.[] = []
bytes_of (text.◌∷◌ c s) = code c ∷ bytes_of s

-- equal in length and in every byte
unfoldable pub same_text : List ℕ → List ℕ → Bool
same_text [] [] = true
same_text [] (b ∷ t) = false
same_text (a ∷ s) [] = false
same_text (a ∷ s) (b ∷ t) = eqb a b && same_text s t

-- ---- kinds of fields, each a letter

-- no field: a dot
abbrev pub NONE : ℕ
NONE = 46

-- SEAT, LIMIT, PREDICTOR, DELAY: `n`, a decimal u32
abbrev pub NUMBER : ℕ
NUMBER = 110

-- FRAME, START, END, ADV: `f`, a decimal i32, held as its pattern
abbrev pub FRAME : ℕ
FRAME = 102

-- WORD, HEAD, KIND, SEAL: `w`, 1 to 8 hex digits
abbrev pub WORD : ℕ
WORD = 119

-- ROOM: `r`, a decimal u32 of at most 4,096
abbrev pub ROOM : ℕ
ROOM = 114

-- LENS: `k`, how many lengths are lent, at most 512
abbrev pub LENS : ℕ
LENS = 107

-- LEN: `l`, a length of at most 65,535
abbrev pub LEN : ℕ
LEN = 108

-- FLAG: `x`
abbrev pub FLAG : ℕ
FLAG = 120

-- STATUS: `s`
abbrev pub STATUS : ℕ
STATUS = 115

-- BYTES: `b`, held as the number of bytes
abbrev pub BYTES : ℕ
BYTES = 98

-- a number is held as it is
unfoldable pub held : Option ℕ → Option ℕ
held (Some n) = Some n
held None = None

-- a number of at most so much is held as it is
unfoldable pub up_to : ℕ → Option ℕ → Option ℕ
up_to most (Some n) = pick (leb n most) (Some n) None
up_to most None = None

-- one character, `0` or `1`
unfoldable pub flag_of : List ℕ → Option ℕ
flag_of s = pick (same_text s (bytes_of "0")) (Some 0) (pick (same_text s (bytes_of "1")) (Some 1) None)

-- a seat that is on: above every frame's pattern
abbrev pub ON : ℕ
ON = 4294967296

-- `on`, or `gone:` and then any i32, held as its pattern
unfoldable pub status_of : List ℕ → Option ℕ
status_of s =
    pick (same_text s (bytes_of "on")) (Some ON)
    (pick (same_text (take 5 s) (bytes_of "gone:")) (held (signed_of (drop 5 s)))
    None)

-- an even number of hex digits, two at least
unfoldable pub is_hex : List ℕ → Bool
is_hex s = ltb 0 (length s) && (eqb (length s % 2) 0 && only_digits 16 s)

-- `-` for no byte, or two hex digits for each
unfoldable pub counted_of : List ℕ → Option ℕ
counted_of s = pick (same_text s (bytes_of "-")) (Some 0) (pick (is_hex s) (Some (length s / 2)) None)

-- what a field holds, by its kind
unfoldable pub value_of : ℕ → List ℕ → Option ℕ
value_of kind s =
    pick (eqb kind NUMBER) (held (decimal_of s))
    (pick (eqb kind FRAME) (held (signed_of s))
    (pick (eqb kind WORD) (held (word_of s))
    (pick (eqb kind ROOM) (up_to 4096 (decimal_of s))
    (pick (eqb kind LENS) (up_to 512 (decimal_of s))
    (pick (eqb kind LEN) (up_to 65535 (decimal_of s))
    (pick (eqb kind FLAG) (flag_of s)
    (pick (eqb kind STATUS) (status_of s)
    (pick (eqb kind BYTES) (counted_of s)
    None))))))))

-- ---- the table

-- a call and its name
pub record Row : Type 0 where
  pub name : List ℕ
  pub call : Call

-- a call's number, its name, the least and the most number of fields after the name, and their kinds; the fourth kind is that of every later field too
unfoldable pub row : ℕ → String → ℕ → ℕ → List ℕ → Row
row number name least most kinds =
    record { name = bytes_of name; call = record { number = number; least = least; most = most; kinds = kinds } }

-- as many fields as a line can hold after a name
abbrev pub MANY : ℕ
MANY = 2047

unfoldable pub calls : List Row
calls =
    row 0 "queue" 2 2 (NUMBER ∷ NUMBER ∷ NONE ∷ NONE ∷ [])
    ∷ row 1 "q.add" 2 2 (FRAME ∷ WORD ∷ NONE ∷ NONE ∷ [])
    ∷ row 2 "q.request" 1 1 (FRAME ∷ NONE ∷ NONE ∷ NONE ∷ [])
    ∷ row 3 "q.confirmed" 1 1 (FRAME ∷ NONE ∷ NONE ∷ NONE ∷ [])
    ∷ row 4 "q.discard" 1 1 (FRAME ∷ NONE ∷ NONE ∷ NONE ∷ [])
    ∷ row 5 "q.reset" 0 0 (NONE ∷ NONE ∷ NONE ∷ NONE ∷ [])
    ∷ row 6 "q.delay" 1 1 (NUMBER ∷ NONE ∷ NONE ∷ NONE ∷ [])
    ∷ row 7 "q.wrong" 0 0 (NONE ∷ NONE ∷ NONE ∷ NONE ∷ [])
    ∷ row 64 "layer" 2 MANY (NUMBER ∷ NUMBER ∷ NUMBER ∷ NUMBER ∷ [])
    ∷ row 65 "l.local" 3 3 (NUMBER ∷ FRAME ∷ WORD ∷ NONE ∷ [])
    ∷ row 66 "l.remote" 3 3 (NUMBER ∷ FRAME ∷ WORD ∷ NONE ∷ [])
    ∷ row 67 "l.save" 3 3 (WORD ∷ WORD ∷ WORD ∷ NONE ∷ [])
    ∷ row 68 "l.load" 1 1 (FRAME ∷ NONE ∷ NONE ∷ NONE ∷ [])
    ∷ row 69 "l.advance" 0 0 (NONE ∷ NONE ∷ NONE ∷ NONE ∷ [])
    ∷ row 70 "l.request" 0 MANY (STATUS ∷ STATUS ∷ STATUS ∷ STATUS ∷ [])
    ∷ row 71 "l.confirmed" 1 MANY (FRAME ∷ STATUS ∷ STATUS ∷ STATUS ∷ [])
    ∷ row 72 "l.confirm" 2 2 (FRAME ∷ FLAG ∷ NONE ∷ NONE ∷ [])
    ∷ row 73 "l.consistent" 0 0 (NONE ∷ NONE ∷ NONE ∷ NONE ∷ [])
    ∷ row 74 "l.saved" 1 1 (FRAME ∷ NONE ∷ NONE ∷ NONE ∷ [])
    ∷ row 75 "l.latest" 2 2 (FRAME ∷ FRAME ∷ NONE ∷ NONE ∷ [])
    ∷ row 76 "l.delay" 2 2 (NUMBER ∷ NUMBER ∷ NONE ∷ NONE ∷ [])
    ∷ row 77 "l.reset" 0 0 (NONE ∷ NONE ∷ NONE ∷ NONE ∷ [])
    ∷ row 78 "l.now" 0 0 (NONE ∷ NONE ∷ NONE ∷ NONE ∷ [])
    ∷ row 128 "sync" 0 0 (NONE ∷ NONE ∷ NONE ∷ NONE ∷ [])
    ∷ row 129 "s.advance" 3 3 (FRAME ∷ FRAME ∷ FRAME ∷ NONE ∷ [])
    ∷ row 130 "s.average" 0 0 (NONE ∷ NONE ∷ NONE ∷ NONE ∷ [])
    ∷ row 131 "s.averages" 0 0 (NONE ∷ NONE ∷ NONE ∷ NONE ∷ [])
    ∷ row 132 "s.reading" 0 0 (NONE ∷ NONE ∷ NONE ∷ NONE ∷ [])
    ∷ row 192 "pack" 3 MANY (ROOM ∷ BYTES ∷ BYTES ∷ LEN ∷ [])
    ∷ row 193 "unpack" 4 4 (ROOM ∷ LENS ∷ BYTES ∷ BYTES ∷ [])
    ∷ row 256 "desk" 2 MANY (NUMBER ∷ NUMBER ∷ NUMBER ∷ NUMBER ∷ [])
    ∷ row 257 "take" 3 3 (NUMBER ∷ FRAME ∷ WORD ∷ NONE ∷ [])
    ∷ row 258 "settle" 0 0 (NONE ∷ NONE ∷ NONE ∷ NONE ∷ [])
    ∷ row 259 "advance" 0 0 (NONE ∷ NONE ∷ NONE ∷ NONE ∷ [])
    ∷ row 260 "show" 1 1 (FRAME ∷ NONE ∷ NONE ∷ NONE ∷ [])
    ∷ row 261 "log" 2 2 (FRAME ∷ ROOM ∷ NONE ∷ NONE ∷ [])
    ∷ row 262 "now" 0 0 (NONE ∷ NONE ∷ NONE ∷ NONE ∷ [])
    ∷ []

abbrev pub row_count : ℕ
row_count = 37

-- ---- finding a call

abbrev pub BAD : ℕ
BAD = 4294967295

abbrev pub PASSED : ℕ
PASSED = 4294967294

-- where a name stands in the table: one past the last row where it has none
unfoldable pub place_of : List ℕ → List Row → ℕ
place_of name [] = 0
place_of name (r ∷ rs) = pick (same_text r.name name) 0 (place_of name rs + 1)

-- stands for no row
abbrev pub no_row : Row
no_row = record { name = []; call = record { number = BAD; least = 0; most = 0; kinds = [] } }

-- the kind of field i after the name
unfoldable pub kind_at : Call → ℕ → ℕ
kind_at c i = get_or c.kinds (pick (ltb i 4) i 3) 0
