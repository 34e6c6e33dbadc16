-- Each value that a call is handed is that of its own field, and a BYTES field's is the number of its bytes. Assumes nothing.
use Prim.Native.Nat.{ℕ, zero, suc, ◌+◌, ◌/◌, ◌<◌, ◌≤◌}
use native.Mathlib.Omega.{arith}
use native.Mathlib.Numerals.{add-one}
use Prim.{absurd}
use mathlib.Core.Path.{◌≡◌, refl, ap, sym, ◌∙◌}
use mathlib.Core.Bool.{Bool, true, false}
use mathlib.Core.List.{List, [], ◌∷◌}
use lib.ListN.{length, get_or}
use lib.Dec.{eqb, ltb, leb}
use borrow.Author.Tests.{le-leb}
use Rattle.frame_info.specs.Choice.{pick}
use Rattle.sheet.specs.Answer.{Call}
use Rattle.std.specs.Prelude.{Option, Some, None}
use Rattle.sheet.specs.Fields.{fields_of}
use Rattle.sheet.specs.Calls.{bytes_of, calls, row_count, place_of, same_text, kind_at, is_hex, counted_of, value_of, BAD, PASSED, BYTES}
use Rattle.sheet.specs.Reading.{Reading, alone, before, fields_from, called, fields_read, reading_of, args_after}
use Rattle.sheet.specs.Bytes.{pairs_of, bytes_in, fitting, bytes_at}
use Rattle.sheet.proofs.Decoding.{pairs_length}
use Rattle.sheet.proofs.Handed.{named, arg_is, same_equal, field_short}

none : {P : Type 0} (n : ℕ) → n < 0 → P
none n h = absurd (never h)
  where
    never : n < 0 → ⊥
    never p = omega arith

-- ---- a value and its field

alone_none : {P : Type 0} (n call : ℕ) → n < (alone call).line.count → P
unfolding alone
alone_none n call h = none n h

one_value : (c : Call) (i : ℕ) (f : List ℕ) (fs : List (List ℕ)) (r : Reading) (t : Bool) (u : Option ℕ) (k : ℕ) → value_of (kind_at c i) f ≡ u
    → ((j : ℕ) → i + 1 + j < r.line.count → value_of (kind_at c (i + 1 + j)) (get_or fs j []) ≡ Some (get_or r.values j 0))
    → i + k < (pick t (before u r) (alone BAD)).line.count
    → value_of (kind_at c (i + k)) (get_or (f ∷ fs) k []) ≡ Some (get_or (pick t (before u r) (alone BAD)).values k 0)
unfolding before
one_value c i f fs r false u k e g h = alone_none (i + k) BAD h
one_value c i f fs r true None k e g h = alone_none (i + k) BAD h
one_value c i f fs r true (Some v) zero e g h = let z : i + 0 ≡ i = omega arith in rw z e
one_value c i f fs r true (Some v) (suc k) e g h = let z : i + suc k ≡ i + 1 + k = omega arith in rw z (g k (rw z at h))

fields_values : (c : Call) (i : ℕ) (fs : List (List ℕ)) (k : ℕ) → i + k < (fields_from c i fs).line.count → value_of (kind_at c (i + k)) (get_or fs k []) ≡ Some (get_or (fields_from c i fs).values k 0)
unfolding fields_from
fields_values c i [] k h = by (leb c.least i) h
  where
    by : {P : Type 0} (t : Bool) → i + k < (pick t (record { line = record { call = c.number; count = i }; values = [] }) (alone BAD)).line.count → P
    by true p = none 0 (omega arith)
    by false p = alone_none (i + k) BAD p
fields_values c i (f ∷ fs) k h = one_value c i f fs (fields_from c (i + 1) fs) (ltb i c.most) (value_of (kind_at c i) f) k refl (λ j p. fields_values c (i + 1) fs j p) h

module _ (k : ℕ) (Q : List ℕ → Type 0) where
  unless : (t : Bool) (n : ℕ) (r : Reading) → (k < r.line.count → Q r.values) → k < (pick t (alone n) r).line.count → Q (pick t (alone n) r).values
  unless true n r g h = alone_none k n h
  unless false n r g h = g h

  only : (t : Bool) (n : ℕ) (r : Reading) → (k < r.line.count → Q r.values) → k < (pick t r (alone n)).line.count → Q (pick t r (alone n)).values
  only true n r g h = g h
  only false n r g h = alone_none k n h

read_values : (fs : List (List ℕ)) (k : ℕ) → k < (fields_read fs).line.count → value_of (kind_at (named fs) k) (get_or fs (suc k) []) ≡ Some (get_or (fields_read fs).values k 0)
unfolding fields_read called named
read_values [] k h = alone_none k PASSED h
read_values (f ∷ fs) k h =
    unless k (λ vs. value_of (kind_at (named (f ∷ fs)) k) (get_or fs k []) ≡ Some (get_or vs k 0)) (eqb (get_or f 0 0) 35) PASSED (called (place_of f calls) fs)
    (only k (λ vs. value_of (kind_at (named (f ∷ fs)) k) (get_or fs k []) ≡ Some (get_or vs k 0)) (ltb (place_of f calls) row_count) BAD (fields_from (named (f ∷ fs)) 0 fs)
    (λ p. let z : 0 + k ≡ k = omega arith in rw z at (fields_values (named (f ∷ fs)) 0 fs k (rw z p))))
    h

pub value_at : (line : List ℕ) (k : ℕ) → k < (reading_of line).line.count → value_of (kind_at (named (fields_of line)) k) (get_or (fields_of line) (k + 1) []) ≡ Some (get_or (reading_of line).values k 0)
unfolding reading_of
value_at line k h =
    rw (add-one k)
    (unless k (λ vs. value_of (kind_at (named (fields_of line)) k) (get_or (fields_of line) (suc k) []) ≡ Some (get_or vs k 0)) (ltb 4096 (length line)) BAD (fields_read (fields_of line)) (read_values (fields_of line) k) h)

-- ---- a BYTES field

-- `-` is no hex
dash_none : (s : List ℕ) → same_text s (45 ∷ []) ≡ true → bytes_in s ≡ []
unfolding bytes_in is_hex
dash_none s e = rw (same_equal s (45 ∷ []) e)

either_count : (s : List ℕ) (t u : Bool) (n : ℕ) → (t ≡ true → bytes_in s ≡ []) → is_hex s ≡ u → pick t (Some 0) (pick u (Some (length s / 2)) None) ≡ Some n → n ≡ length (bytes_in s)
unfolding bytes_in
either_count s true u n d x e = let z : 0 ≡ n = cc in sym z ∙ ap length (sym (d refl))
either_count s false true n d x e = let z : length s / 2 ≡ n = cc in rw x (sym z ∙ sym (pairs_length s))
either_count s false false n d x e = absurd (cc)

pub counted_bytes : (s : List ℕ) (n : ℕ) → counted_of s ≡ Some n → n ≡ length (bytes_in s)
unfolding counted_of bytes_of
counted_bytes s n e = either_count s (same_text s (45 ∷ [])) (is_hex s) n (dash_none s) refl e

value_bytes : (kind : ℕ) (s : List ℕ) → kind ≡ BYTES → counted_of s ≡ value_of kind s
unfolding value_of
value_bytes kind s k = rw k

-- two digits a byte
bytes_few : (s : List ℕ) → length (bytes_in s) ≤ length s / 2
unfolding bytes_in
bytes_few s = by (is_hex s)
  where
    by : (t : Bool) → length (pick t (pairs_of s) []) ≤ length s / 2
    by true = omega (arith, pairs_length s)
    by false = omega arith

-- in a room of 2,048 every field's bytes are handed out
pub bytes_whole : (line : List ℕ) (field room : ℕ) → length line ≤ 4096 → 2048 ≤ room → bytes_at room line field ≡ bytes_in (get_or (fields_of line) field [])
unfolding bytes_at fitting
bytes_whole line field room h g =
    let k : length (bytes_in (get_or (fields_of line) field [])) ≤ room = omega (arith, bytes_few (get_or (fields_of line) field []), field_short line field) in
    simp (le-leb (length (bytes_in (get_or (fields_of line) field []))) room k)

-- the number handed out for a BYTES field is how many bytes it has
pub arg_bytes : (line args : List ℕ) (k : ℕ) → k < (reading_of line).line.count → k < length args → kind_at (named (fields_of line)) k ≡ BYTES
    → get_or (args_after line args) k 0 ≡ length (bytes_in (get_or (fields_of line) (k + 1) []))
arg_bytes line args k h g b =
    arg_is line args k h g
    ∙ counted_bytes (get_or (fields_of line) (k + 1) []) _ (value_bytes (kind_at (named (fields_of line)) k) (get_or (fields_of line) (k + 1) []) b ∙ value_at line k h)
