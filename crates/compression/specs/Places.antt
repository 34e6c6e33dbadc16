-- Where a packet breaks, said without reading it: the words in which the theorems on refusals are put.
use Rattle.std.specs.Prelude.{ℕ, ◌<◌, ◌≡◌, List, [], ◌∷◌, ◌++◌, length}
use Rattle.compression.specs.Layout.{length_limit, packed, size_of}

-- bytes are numbers below 256
unfoldable pub Bytes : List ℕ → Type 0
Bytes [] = Unit
Bytes (x ∷ bytes) = (x < 256) × Bytes bytes

-- inputs that can be lent: bytes, and lengths that a u16 holds
unfoldable pub Lendable : List (List ℕ) → Type 0
Lendable [] = Unit
Lendable (input ∷ inputs) = (length input < length_limit) × Bytes input × Lendable inputs

-- one byte where a length should be: after some whole records, one byte is left
pub record HalfAt (reference packet : List ℕ) : Type 0 where
  pub inputs : List (List ℕ)
  pub byte : ℕ
  pub splits : packet ≡ packed reference inputs ++ (byte ∷ [])

-- fewer bytes than the length says: after some whole records, a length stands with too few bytes after it
pub record ShortAt (reference packet : List ℕ) : Type 0 where
  pub inputs : List (List ℕ)
  pub low : ℕ
  pub high : ℕ
  pub bytes : List ℕ
  pub splits : packet ≡ packed reference inputs ++ (low ∷ high ∷ bytes)
  pub fewer : length bytes < size_of low high
