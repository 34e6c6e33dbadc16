-- Some lines, and what they ask for: the definitions on examples. Assumes nothing.
use Prim.Native.Nat.{ℕ}
use mathlib.Core.Path.{◌≡◌, refl}
use mathlib.Core.List.{List, [], ◌∷◌, map}
use Rattle.digits.specs.Digits.{digit_of, only_digits, value_after, value_of, number_of, decimal_of, word_of, pattern_of, and_then, signed_of}
use Rattle.sheet.specs.Fields.{longer, pieces, filled, fields_of}
use Rattle.sheet.specs.Calls.{bytes_of, held, up_to, flag_of, status_of, is_hex, counted_of, row, calls, same_text, place_of, kind_at, BAD, PASSED}
use Rattle.sheet.specs.Calls as calls
use Rattle.sheet.specs.Bytes.{pairs_of, bytes_in, fitting, bytes_at}
use Rattle.sheet.specs.Reading.{Reading, alone, before, fields_from, called, fields_read, reading_of}

abbrev pub reading : ℕ → ℕ → List ℕ → Reading
reading call count values = record { line = record { call = call; count = count }; values = values }

-- what each line asks for: a call's number, how many fields it has, and the values that are handed out
pub samples : map (λ s. reading_of (bytes_of s)) ("queue 1 2" ∷ "  q.add   -1  fF " ∷ "q.add 0 0 0" ∷ "q.add 7" ∷ "q.request 0002147483647" ∷ "q.request 2147483648" ∷ "q.request -0" ∷ "q.wrong" ∷ "q.wrong 1" ∷ "q.wron" ∷ "Q.wrong" ∷ "  # 1" ∷ "q.reset #" ∷ "   " ∷ [])
    ≡ reading 0 2 (1 ∷ 2 ∷ [])
    ∷ reading 1 2 (4294967295 ∷ 255 ∷ [])
    ∷ reading BAD 0 (0 ∷ 0 ∷ [])
    ∷ reading BAD 0 (7 ∷ [])
    ∷ reading 2 1 (2147483647 ∷ [])
    ∷ reading BAD 0 []
    ∷ reading 2 1 (0 ∷ [])
    ∷ reading 7 0 []
    ∷ reading BAD 0 []
    ∷ reading BAD 0 []
    ∷ reading BAD 0 []
    ∷ reading PASSED 0 []
    ∷ reading BAD 0 []
    ∷ reading PASSED 0 []
    ∷ []
unfolding digit_of only_digits value_after value_of number_of decimal_of word_of pattern_of and_then signed_of longer pieces filled fields_of bytes_of held calls.value_of row calls same_text place_of kind_at alone before fields_from called fields_read reading_of
samples = refl

-- the kinds of the other calls' fields
pub kind_samples : map (λ s. reading_of (bytes_of s)) ("layer 2 0" ∷ "layer 2" ∷ "desk 2 0 1 2 3" ∷ "l.request" ∷ "l.request on gone:-1 gone:7" ∷ "l.request gone:" ∷ "l.confirmed 3 On" ∷ "l.confirm 3 1" ∷ "l.confirm 3 2" ∷ "l.confirm 3 01" ∷ "log 0 4096" ∷ "log 0 4097" ∷ "unpack 64 512 0aF1 -" ∷ "unpack 64 513 00 00" ∷ "pack 8 - 0" ∷ "pack 8 - 00ff 65535 2" ∷ "pack 8 - 00 65536" ∷ "now" ∷ [])
    ≡ reading 64 2 (2 ∷ 0 ∷ [])
    ∷ reading BAD 0 (2 ∷ [])
    ∷ reading 256 5 (2 ∷ 0 ∷ 1 ∷ 2 ∷ 3 ∷ [])
    ∷ reading 70 0 []
    ∷ reading 70 3 (4294967296 ∷ 4294967295 ∷ 7 ∷ [])
    ∷ reading BAD 0 []
    ∷ reading BAD 0 (3 ∷ [])
    ∷ reading 72 2 (3 ∷ 1 ∷ [])
    ∷ reading BAD 0 (3 ∷ [])
    ∷ reading BAD 0 (3 ∷ [])
    ∷ reading 261 2 (0 ∷ 4096 ∷ [])
    ∷ reading BAD 0 (0 ∷ [])
    ∷ reading 193 4 (64 ∷ 512 ∷ 2 ∷ 0 ∷ [])
    ∷ reading BAD 0 (64 ∷ [])
    ∷ reading BAD 0 (8 ∷ 0 ∷ [])
    ∷ reading 192 5 (8 ∷ 0 ∷ 2 ∷ 65535 ∷ 2 ∷ [])
    ∷ reading BAD 0 (8 ∷ 0 ∷ 1 ∷ [])
    ∷ reading 262 0 []
    ∷ []
unfolding digit_of only_digits value_after value_of number_of decimal_of word_of pattern_of and_then signed_of longer pieces filled fields_of bytes_of held up_to flag_of status_of is_hex counted_of calls.value_of row calls same_text place_of kind_at alone before fields_from called fields_read reading_of
kind_samples = refl

-- the bytes of a field, by the room and the field's number
pub byte_samples : map (λ s. bytes_at 2 (bytes_of s) 3) ("unpack 64 512 0aF1 -" ∷ "unpack 64 512 - 00" ∷ "unpack 64 512" ∷ "unpack 64 512 0aF" ∷ "unpack 64 512 0a0b0c" ∷ " unpack  64 512  7F  00" ∷ [])
    ≡ (10 ∷ 241 ∷ [])
    ∷ []
    ∷ []
    ∷ []
    ∷ []
    ∷ (127 ∷ [])
    ∷ []
unfolding digit_of only_digits longer pieces filled fields_of bytes_of is_hex pairs_of bytes_in fitting bytes_at
byte_samples = refl
