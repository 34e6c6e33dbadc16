-- Laws of a BYTES field: its hex digits, and the bytes of its pairs. Assumes nothing.
use Prim.Native.Nat.{ℕ, zero, suc, ◌+◌, ◌*◌, ◌/◌, ◌%◌, ◌^◌, ◌<◌, ◌≤◌}
use native.Mathlib.Omega.{arith}
use native.Mathlib.Numerals.{add-one}
use Prim.{absurd}
use mathlib.Core.Path.{◌≡◌, refl, ap, sym, ◌∙◌}
use mathlib.Core.Bool.{Bool, true, false, ◌&&◌, true≢false}
use mathlib.Core.List.{List, [], ◌∷◌, ◌++◌}
use Rattle.std.proofs.lemmas.Option.{get_or_from_slice_get}
use lib.ListN.{length, get_or, set, length-append, length-set}
use lib.Seq.{sets}
use lib.Dec.{ltb, eqb}
use borrow.Author.Tests.{lt-ltb, le-leb, lt-leb, ltb-true}
use Rattle.std.proofs.lemmas.Bool.Decides.{nat_tests}
use Rattle.std.specs.Char.{is_ascii_hexdigit}
use Rattle.std.specs.List.{list_all}
use Rattle.std.specs.Prelude.{Option, Some, None, IsSome, slice_get, option_map}
use denote.Ref.{Bor}
use Rattle.digits.specs.Digits as digits
use Rattle.digits.specs.Digits.{digit_of, only_digits, number_of, word_of, value_after}
use Rattle.sheet.specs.Bytes.{pairs_of, bytes_in, fitting, bytes_at}
use Rattle.sheet.specs.Fields.{fields_of}
use Rattle.sheet.specs.Calls.{is_hex}

digit_is : (b : ℕ) → is_ascii_hexdigit b ≡ ltb (digit_of b) 16
unfolding digit_of
digit_is b = grind (arith, nat_tests)

pub all_digits : (s : List ℕ) → list_all is_ascii_hexdigit s ≡ only_digits 16 s
unfolding only_digits
all_digits [] = refl
all_digits (b ∷ s) = rw (digit_is b, all_digits s)

-- ---- two digits

pair_worth : (a b : ℕ) → digits.value_of 16 (a ∷ b ∷ []) ≡ digit_of a * 16 + digit_of b
unfolding digits.value_of value_after
pair_worth a b = omega arith

pair_is : (a b : ℕ) → digit_of a < 16 → digit_of b < 16 → word_of (a ∷ b ∷ []) ≡ Some (digit_of a * 16 + digit_of b)
unfolding word_of number_of only_digits
pair_is a b h k =
    let z : digit_of a * 16 + digit_of b < 2 ^ 32 = omega arith in
    simp (lt-ltb (digit_of a) 16 h, lt-ltb (digit_of b) 16 k, pair_worth a b, lt-ltb (digit_of a * 16 + digit_of b) (2 ^ 32) z)

pub both : (s t : Bool) → (s && t) ≡ true → (s ≡ true) × (t ≡ true)
both true t h = (refl, h)
both false t h = absurd (true≢false (sym h))

pair_read : (p : List ℕ) → length p ≡ 2 → only_digits 16 p ≡ true → (v : ℕ) × (word_of p ≡ Some v) × (v < 2 ^ 8) × (pairs_of p ≡ v ∷ [])
unfolding only_digits pairs_of
pair_read [] l d = absurd (omega arith)
pair_read (a ∷ []) l d = absurd (omega arith)
pair_read (a ∷ b ∷ []) l d =
    let h = both (ltb (digit_of a) 16) (ltb (digit_of b) 16 && true) d in
    let k = both (ltb (digit_of b) 16) true h.1 in
    let x = ltb-true (digit_of a) 16 h.0 in
    let y = ltb-true (digit_of b) 16 k.0 in
    (digit_of a * 16 + digit_of b, pair_is a b x y, omega (arith, x, y), refl)
pair_read (a ∷ b ∷ c ∷ p) l d = absurd (omega arith)

module _ (p : List ℕ) (l : length p ≡ 2) (d : only_digits 16 p ≡ true) (n : Option ℕ) (e : n ≡ word_of p) where
  pub pair_some : IsSome n
  pair_some = rw (e ∙ (pair_read p l d).1)

  module _ (v : ℕ) (k : n ≡ Some v) where
    same_value : v ≡ (pair_read p l d).0
    same_value = let z = sym k ∙ e ∙ (pair_read p l d).1 in cc

    pub pair_small : v < 2 ^ 8
    pair_small = rw same_value (pair_read p l d).2

    pub pair_of : pairs_of p ≡ v ∷ []
    pair_of = rw same_value (pair_read p l d).3

pub ruleset pair = (pair_some, pair_small, pair_of)

-- ---- a chunk of two at the front of what is left

digits_apart : (x y : List ℕ) → only_digits 16 (x ++ y) ≡ true → (only_digits 16 x ≡ true) × (only_digits 16 y ≡ true)
unfolding only_digits
digits_apart [] y d = (refl, d)
digits_apart (b ∷ x) y d =
    let h = both (ltb (digit_of b) 16) (only_digits 16 (x ++ y)) d in
    let k = digits_apart x y h.1 in
    (rw (h.0, k.0) refl, k.1)

pairs_apart : (x y : List ℕ) (v : ℕ) → length x ≡ 2 → pairs_of x ≡ v ∷ [] → pairs_of (x ++ y) ≡ v ∷ pairs_of y
unfolding pairs_of
pairs_apart [] y v l e = absurd (omega arith)
pairs_apart (a ∷ []) y v l e = absurd (omega arith)
pairs_apart (a ∷ b ∷ []) y v l e = cc
pairs_apart (a ∷ b ∷ c ∷ x) y v l e = absurd (omega arith)

pairs_few : (s : List ℕ) → length s < 2 → pairs_of s ≡ []
unfolding pairs_of
pairs_few [] h = refl
pairs_few (a ∷ []) h = refl
pairs_few (a ∷ b ∷ s) h = absurd (omega arith)

module _ (size : ℕ) (two : size ≡ 2) (left : List ℕ) where
  module _ (x rest : List ℕ) (e : left ≡ x ++ rest) (l : length x ≡ size) where
    pub chunk_two : length x ≡ 2
    chunk_two = l ∙ two

    module _ (d : only_digits 16 left ≡ true) where
      pub chunk_digits : only_digits 16 x ≡ true
      chunk_digits = (digits_apart x rest (rw e at d)).0

      pub rest_digits : only_digits 16 rest ≡ true
      rest_digits = (digits_apart x rest (rw e at d)).1

    module _ (place next : ℕ) (p : next ≡ place + 1) where
      pub rest_room : (out : List ℕ) (i v : ℕ) → place + length left / 2 ≤ length out → next + length rest / 2 ≤ length (set out i v)
      rest_room out i v h =
          let k : length left ≡ 2 + length rest = rw (e, length-append x rest, l, two) in
          simp length-set (omega arith)

      pub chunk_stored : (out r : List ℕ) (i v : ℕ) → i ≡ place → pairs_of x ≡ v ∷ [] → sets out place (pairs_of left) ≡ r → sets (set out i v) next (pairs_of rest) ≡ r
      chunk_stored out r i v a b q = rw (p, a, add-one) (rw (e, pairs_apart x rest v (l ∙ two) b) at q)

  pub all_stored : (place : ℕ) (out r : List ℕ) → length left < size → sets out place (pairs_of left) ≡ r → out ≡ r
  all_stored place out r h q = rw (pairs_few left (omega arith)) at q

pub ruleset chunks = (chunk_two, chunk_digits, rest_digits, rest_room, chunk_stored, all_stored)

-- ---- a field's bytes

pub pairs_length : (s : List ℕ) → length (pairs_of s) ≡ length s / 2
unfolding pairs_of
pairs_length [] = refl
pairs_length (a ∷ []) = refl
pairs_length (a ∷ b ∷ s) = omega (arith, pairs_length s)

module _ (s : List ℕ) (h : is_hex s ≡ true) where
  hex_true : (ltb 0 (length s) && (eqb (length s % 2) 0 && only_digits 16 s)) ≡ true
  unfolding is_hex
  hex_true = h

  pub hex_digits : only_digits 16 s ≡ true
  hex_digits = (both (eqb (length s % 2) 0) (only_digits 16 s) (both (ltb 0 (length s)) (eqb (length s % 2) 0 && only_digits 16 s) hex_true).1).1

hex_none : is_hex [] ≡ false
unfolding is_hex
hex_none = refl

module _ (room : ℕ) (s : List ℕ) where
  pub fits_none : is_hex s ≡ false → fitting room (bytes_in s) ≡ []
  unfolding bytes_in fitting
  fits_none h = rw h (simp (le-leb 0 room (omega arith)))

  pub fits_over : is_hex s ≡ true → room < length s / 2 → fitting room (bytes_in s) ≡ []
  unfolding bytes_in fitting
  fits_over h k = rw h (simp (lt-leb (length (pairs_of s)) room (omega (arith, pairs_length s))))

  pub fits_all : is_hex s ≡ true → length s / 2 ≤ room → fitting room (bytes_in s) ≡ pairs_of s
  unfolding bytes_in fitting
  fits_all h k = rw h (simp (le-leb (length (pairs_of s)) room (omega (arith, pairs_length s))))

pub ruleset bytes = (pairs_length, hex_digits, fits_none, fits_over, fits_all)

module _ (room : ℕ) (s : List ℕ) (t : Bool) (e : t ≡ is_hex s) (y : t ≡ true) (k : length s / 2 ≤ room) where
  pub all_count : length s / 2 ≡ length (fitting room (bytes_in s))
  all_count = rw (fits_all room s (sym e ∙ y) k) (sym (pairs_length s))

  pub all_out : (out out' : List ℕ) → out' ≡ sets out 0 (pairs_of s) → out' ≡ sets out 0 (fitting room (bytes_in s))
  all_out out out' q = rw (fits_all room s (sym e ∙ y) k) q

-- ---- the field of a line, or none

none_at : (fs : List (List ℕ)) (n : ℕ) → slice_get fs n ≡ None → get_or fs n [] ≡ []
none_at [] n e = refl
none_at (f ∷ fs) zero e = absurd (cc)
none_at (f ∷ fs) (suc n) e = none_at fs n e

module _ (room : ℕ) (line : List ℕ) (field : ℕ) (o : Option (Bor (List ℕ))) (e : option_map (λ f. f.now) o ≡ slice_get (fields_of line) field) where
  pub some_bytes : (f : Bor (List ℕ)) → o ≡ Some f → bytes_at room line field ≡ fitting room (bytes_in f.now)
  unfolding bytes_at
  some_bytes f k = rw (get_or_from_slice_get (fields_of line) field f.now [] (sym e ∙ ap (option_map (λ g. g.now)) k))

  pub none_bytes : o ≡ None → bytes_at room line field ≡ []
  unfolding bytes_at
  none_bytes k = rw (none_at (fields_of line) field (sym e ∙ ap (option_map (λ g. g.now)) k)) (fits_none room [] hex_none)
