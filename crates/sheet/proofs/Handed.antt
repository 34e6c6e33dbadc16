-- What a caller may know of the values that a line hands out, and that a name matches exactly. Assumes nothing.
use Prim.Native.Nat.{ℕ, zero, suc, ◌+◌, ◌/◌, ◌^◌, ◌<◌, ◌≤◌}
use native.Mathlib.Omega.{arith}
use Prim.{absurd}
use mathlib.Core.Path.{◌≡◌, refl, sym, ◌∙◌}
use mathlib.Core.Bool.{Bool, true, false, ◌&&◌, true≢false}
use mathlib.Core.Logic.{⊎_elim}
use mathlib.Core.List.{List, [], ◌∷◌}
use lib.ListN.{length, get_or, set, take, drop, length-set}
use lib.Seq.{sets, get_or-set_same, get_or-set_other}
use lib.Dec.{eqb, ltb, leb}
use borrow.Author.Tests.{eqb-true, eq-eqb}
use Rattle.frame_info.specs.Choice.{pick}
use Rattle.frame_info.proofs.Picked.{picked, picked_if}
use Rattle.frame_info.proofs.Split.{split_ltb}
use Rattle.digits.specs.Digits.{decimal_of, signed_of, word_of}
use Rattle.digits.proofs.Bounds.{Small, decimal_small, signed_small, word_small}
use Rattle.sheet.specs.Answer.{Call}
use Rattle.std.specs.Prelude.{Option, Some, None}
use Rattle.sheet.specs.Fields.{longer, pieces, filled, fields_of}
use Rattle.sheet.specs.Calls.{bytes_of, calls, row_count, place_of, no_row, same_text, kind_at, held, up_to, flag_of, status_of, is_hex, counted_of, value_of, BAD, PASSED, ON, NUMBER, FRAME, WORD, ROOM, LENS, LEN, FLAG, STATUS, BYTES}
use Rattle.sheet.specs.Reading.{Reading, alone, before, fields_from, called, fields_read, reading_of, args_after}

-- ---- a name matches where it is the same text, and nowhere else

pub same_refl : (s : List ℕ) → same_text s s ≡ true
unfolding same_text
same_refl [] = refl
same_refl (a ∷ s) = simp (eq-eqb a a refl) (same_refl s)

pub same_equal : (s t : List ℕ) → same_text s t ≡ true → s ≡ t
unfolding same_text
same_equal [] [] h = refl
same_equal [] (b ∷ t) h = absurd (true≢false (sym h))
same_equal (a ∷ s) [] h = absurd (true≢false (sym h))
same_equal (a ∷ s) (b ∷ t) h = both (eqb a b) (same_text s t) (eqb-true a b) (same_equal s t) h
  where
    both : (x y : Bool) → (x ≡ true → a ≡ b) → (y ≡ true → s ≡ t) → (x && y) ≡ true → (a ∷ s) ≡ (b ∷ t)
    both true y p q k = let e = p refl in let f = q k in cc
    both false y p q k = absurd (true≢false (sym k))

-- ---- a value is at most 2 ^ 32, and below it where the field is no STATUS

-- the fields are of so many bytes at most
Short : ℕ → List (List ℕ) → Type 0
Short n [] = 0 < 1
Short n (f ∷ fs) = (length f ≤ n) × Short n fs

shorter : (m n : ℕ) (fs : List (List ℕ)) → m ≤ n → Short m fs → Short n fs
unfolding Short
shorter m n [] h s = s
shorter m n (f ∷ fs) h s = (omega (arith, s.0), shorter m n fs h s.1)

longer_short : (n b : ℕ) (ps : List (List ℕ)) → Short n ps → Short (suc n) (longer b ps)
unfolding Short longer
longer_short n b [] s = (omega arith, s)
longer_short n b (p ∷ ps) s = (omega (arith, s.0), shorter n (suc n) ps (omega arith) s.1)

pieces_short : (l : List ℕ) → Short (length l) (pieces l)
unfolding Short pieces
pieces_short [] = (omega arith, omega arith)
pieces_short (b ∷ l) = by (eqb b 32) (shorter (length l) (suc (length l)) (pieces l) (omega arith) (pieces_short l)) (longer_short (length l) b (pieces l) (pieces_short l))
  where
    by : (t : Bool) → Short (suc (length l)) (pieces l) → Short (suc (length l)) (longer b (pieces l)) → Short (suc (length l)) (pick t ([] ∷ pieces l) (longer b (pieces l)))
    by true p q = (omega arith, p)
    by false p q = q

filled_short : (n : ℕ) (ps : List (List ℕ)) → Short n ps → Short n (filled ps)
unfolding Short filled
filled_short n [] s = s
filled_short n ([] ∷ ps) s = filled_short n ps s.1
filled_short n ((b ∷ p) ∷ ps) s = (s.0, filled_short n ps s.1)

fields_short : (l : List ℕ) → Short (length l) (fields_of l)
unfolding fields_of
fields_short l = filled_short (length l) (pieces l) (pieces_short l)

one_short : (n : ℕ) (fs : List (List ℕ)) (k : ℕ) → Short n fs → length (get_or fs k []) ≤ n
unfolding Short
one_short n [] k s = omega arith
one_short n (f ∷ fs) zero s = s.0
one_short n (f ∷ fs) (suc k) s = one_short n fs k s.1

-- a field is no longer than its line
pub field_short : (l : List ℕ) (k : ℕ) → length (get_or (fields_of l) k []) ≤ length l
field_short l k = one_short (length l) (fields_of l) k (fields_short l)

-- the call that the first field names
unfoldable pub named : List (List ℕ) → Call
named [] = no_row.call
named (f ∷ fs) = (get_or calls (place_of f calls) no_row).call

Below : ℕ → Option ℕ → Type 0
Below n (Some v) = v < n
Below n None = 0 < 1

module _ (n : ℕ) where
  wrong_below : Below n None
  unfolding Below
  wrong_below = omega arith

  is_below : (v : ℕ) → v < n → Below n (Some v)
  unfolding Below
  is_below v h = h

  held_below : (m : Option ℕ) → 2 ^ 32 ≤ n → Small m → Below n (held m)
  unfolding held Below
  held_below (Some v) h s = omega arith
  held_below None h s = omega arith

  up_below : (most : ℕ) (m : Option ℕ) → 2 ^ 32 ≤ n → Small m → Below n (up_to most m)
  unfolding up_to Below
  up_below most (Some v) h s = picked (Below n) (leb v most) (Some v) None (omega arith) (omega arith)
  up_below most None h s = omega arith

  flag_below : (s : List ℕ) → 2 ^ 32 ≤ n → Below n (flag_of s)
  unfolding flag_of
  flag_below s h = picked (Below n) (same_text s (bytes_of "0")) (Some 0) _ (is_below 0 (omega arith)) (picked (Below n) (same_text s (bytes_of "1")) (Some 1) None (is_below 1 (omega arith)) wrong_below)

  counted_below : (s : List ℕ) → 2 ^ 32 ≤ n → length s ≤ 4096 → Below n (counted_of s)
  unfolding counted_of
  counted_below s h k =
      picked (Below n) (same_text s (bytes_of "-")) (Some 0) _ (is_below 0 (omega arith)) (picked (Below n) (is_hex s) (Some (length s / 2)) None (is_below (length s / 2) (omega arith)) wrong_below)

status_below : (s : List ℕ) → Below (2 ^ 32 + 1) (status_of s)
unfolding status_of
status_below s =
    picked (Below (2 ^ 32 + 1)) (same_text s (bytes_of "on")) (Some ON) _ (is_below (2 ^ 32 + 1) ON (omega arith))
    (picked (Below (2 ^ 32 + 1)) (same_text (take 5 s) (bytes_of "gone:")) (held (signed_of (drop 5 s))) None (held_below (2 ^ 32 + 1) (signed_of (drop 5 s)) (omega arith) (signed_small (drop 5 s)))
    (wrong_below (2 ^ 32 + 1)))

module _ (n : ℕ) (h : 2 ^ 32 ≤ n) where
  value_below : (kind : ℕ) (s : List ℕ) → length s ≤ 4096 → (kind ≡ STATUS → Below n (status_of s)) → Below n (value_of kind s)
  unfolding value_of
  value_below kind s k g =
      picked (Below n) (eqb kind NUMBER) (held (decimal_of s)) _ (held_below n (decimal_of s) h (decimal_small s))
      (picked (Below n) (eqb kind FRAME) (held (signed_of s)) _ (held_below n (signed_of s) h (signed_small s))
      (picked (Below n) (eqb kind WORD) (held (word_of s)) _ (held_below n (word_of s) h (word_small s))
      (picked (Below n) (eqb kind ROOM) (up_to 4096 (decimal_of s)) _ (up_below n 4096 (decimal_of s) h (decimal_small s))
      (picked (Below n) (eqb kind LENS) (up_to 512 (decimal_of s)) _ (up_below n 512 (decimal_of s) h (decimal_small s))
      (picked (Below n) (eqb kind LEN) (up_to 65535 (decimal_of s)) _ (up_below n 65535 (decimal_of s) h (decimal_small s))
      (picked (Below n) (eqb kind FLAG) (flag_of s) _ (flag_below n s h)
      (picked_if (Below n) (eqb kind STATUS) (status_of s) _ (λ e. g (eqb-true kind STATUS e))
      (picked (Below n) (eqb kind BYTES) (counted_of s) None (counted_below n s h k) (wrong_below n)))))))))

  none_below : (k : ℕ) → get_or {A = ℕ} [] k 0 < n
  none_below k = omega arith

  before_below : (u : Option ℕ) (r : Reading) (k : ℕ) → Below n u → ((j : ℕ) → get_or r.values j 0 < n) → get_or (before u r).values k 0 < n
  unfolding before Below alone
  before_below (Some v) r zero f g = f
  before_below (Some v) r (suc k) f g = g k
  before_below None r k f g = none_below k

  module _ (k : ℕ) where
    alone_below : (call : ℕ) → get_or (alone call).values k 0 < n
    unfolding alone
    alone_below call = none_below k

    abbrev Lower : Reading → Type 0
    Lower r = get_or r.values k 0 < n

  fields_below : (c : Call) → ((i : ℕ) (s : List ℕ) → kind_at c i ≡ STATUS → Below n (status_of s)) → (i : ℕ) (fs : List (List ℕ)) → Short 4096 fs → (k : ℕ)
      → get_or (fields_from c i fs).values k 0 < n
  unfolding fields_from Short
  fields_below c g i [] s k = picked (Lower k) (leb c.least i) (record { line = record { call = c.number; count = i }; values = [] }) (alone BAD) (none_below k) (alone_below k BAD)
  fields_below c g i (f ∷ fs) s k =
      picked (Lower k) (ltb i c.most) (before (value_of (kind_at c i) f) (fields_from c (i + 1) fs)) (alone BAD)
      (before_below (value_of (kind_at c i) f) (fields_from c (i + 1) fs) k (value_below (kind_at c i) f s.0 (g i f)) (λ j. fields_below c g (i + 1) fs s.1 j))
      (alone_below k BAD)

  read_below : (fs : List (List ℕ)) → Short 4096 fs → ((i : ℕ) (s : List ℕ) → kind_at (named fs) i ≡ STATUS → Below n (status_of s)) → (k : ℕ) → get_or (fields_read fs).values k 0 < n
  unfolding fields_read called Short named
  read_below [] s g k = alone_below k PASSED
  read_below (f ∷ fs) s g k =
      picked (Lower k) (eqb (get_or f 0 0) 35) (alone PASSED) (called (place_of f calls) fs) (alone_below k PASSED)
      (picked (Lower k) (ltb (place_of f calls) row_count) (fields_from (named (f ∷ fs)) 0 fs) (alone BAD) (fields_below (named (f ∷ fs)) g 0 fs s.1 k) (alone_below k BAD))

  line_below : (line : List ℕ) → ((i : ℕ) (s : List ℕ) → kind_at (named (fields_of line)) i ≡ STATUS → Below n (status_of s)) → (k : ℕ) → get_or (reading_of line).values k 0 < n
  unfolding reading_of
  line_below line g k =
      ⊎_elim
      (λ w. simp w.1 (alone_below k BAD))
      (λ w. simp w.1 (read_below (fields_of line) (shorter (length line) 4096 (fields_of line) w.0 (fields_short line)) g k))
      (split_ltb 4096 (length line))

-- no value is above that of a seat that is on
pub values_fit : (line : List ℕ) (k : ℕ) → get_or (reading_of line).values k 0 ≤ 2 ^ 32
values_fit line k = omega (arith, line_below (2 ^ 32 + 1) (omega arith) line (λ i s e. status_below s) k)

-- where the call has no STATUS, every value fits 32 bits
pub values_low : (line : List ℕ) → ((i : ℕ) → kind_at (named (fields_of line)) i ≡ STATUS → ⊥) → (k : ℕ) → get_or (reading_of line).values k 0 < 2 ^ 32
values_low line g k = line_below (2 ^ 32) (omega arith) line (λ i s e. absurd (g i e)) k

-- ---- where the values stand

module _ (d : ℕ) where
  stays : (vs l : List ℕ) (i j : ℕ) → j < i → get_or (sets l i vs) j d ≡ get_or l j d
  stays [] l i j h = refl
  stays (v ∷ vs) l i j h = stays vs (set l i v) (suc i) j (omega arith) ∙ get_or-set_other l i j v d (λ (e : j ≡ i). omega arith)

  stored : (vs l : List ℕ) (i k : ℕ) → k < length vs → i + k < length l → get_or (sets l i vs) (i + k) d ≡ get_or vs k d
  stored [] l i k h g = absurd (never h)
    where
      never : k < 0 → ⊥
      never p = omega arith
  stored (v ∷ vs) l i zero h g =
      let e : i + 0 ≡ i = omega arith in
      rw e (stays vs (set l i v) (suc i) i (omega arith) ∙ get_or-set_same l i v d (omega arith))
  stored (v ∷ vs) l i (suc k) h g =
      let e : i + suc k ≡ suc i + k = omega arith in
      rw e (stored vs (set l i v) (suc i) k (omega arith) (simp length-set (omega arith)))

-- the line counts no more fields than there are values
module _ (n : ℕ) where
  abbrev Fewer : Reading → Type 0
  Fewer r = r.line.count ≤ n + length r.values

  few_alone : (call : ℕ) → (alone call).line.count ≤ n + length (alone call).values
  unfolding alone
  few_alone call = omega arith

few_before : (n : ℕ) (u : Option ℕ) (r : Reading) → r.line.count ≤ n + 1 + length r.values → (before u r).line.count ≤ n + length (before u r).values
unfolding before alone
few_before n (Some v) r h = omega arith
few_before n None r h = omega arith

fields_few : (c : Call) (i : ℕ) (fs : List (List ℕ)) → (fields_from c i fs).line.count ≤ i + length (fields_from c i fs).values
unfolding fields_from
fields_few c i [] = picked (Fewer i) (leb c.least i) (record { line = record { call = c.number; count = i }; values = [] }) (alone BAD) (omega arith) (few_alone i BAD)
fields_few c i (f ∷ fs) =
    picked (Fewer i) (ltb i c.most) (before (value_of (kind_at c i) f) (fields_from c (i + 1) fs)) (alone BAD)
    (few_before i (value_of (kind_at c i) f) (fields_from c (i + 1) fs) (fields_few c (i + 1) fs))
    (few_alone i BAD)

read_few : (fs : List (List ℕ)) → (fields_read fs).line.count ≤ 0 + length (fields_read fs).values
unfolding fields_read called
read_few [] = few_alone 0 PASSED
read_few (f ∷ fs) =
    picked (Fewer 0) (eqb (get_or f 0 0) 35) (alone PASSED) (called (place_of f calls) fs) (few_alone 0 PASSED)
    (picked (Fewer 0) (ltb (place_of f calls) row_count) (fields_from (get_or calls (place_of f calls) no_row).call 0 fs) (alone BAD) (fields_few (get_or calls (place_of f calls) no_row).call 0 fs) (few_alone 0 BAD))

line_few : (line : List ℕ) → (reading_of line).line.count ≤ 0 + length (reading_of line).values
unfolding reading_of
line_few line = picked (Fewer 0) (ltb 4096 (length line)) (alone BAD) (fields_read (fields_of line)) (few_alone 0 BAD) (read_few (fields_of line))

-- each number handed out for a field of the call is that field's value
pub arg_is : (line args : List ℕ) (k : ℕ) → k < (reading_of line).line.count → k < length args → get_or (args_after line args) k 0 ≡ get_or (reading_of line).values k 0
unfolding args_after
arg_is line args k h g =
    let e : 0 + k ≡ k = omega arith in
    rw e at (stored 0 (reading_of line).values args 0 k (omega (arith, line_few line)) (omega arith))

pub arg_fits : (line args : List ℕ) (k : ℕ) → k < (reading_of line).line.count → k < length args → get_or (args_after line args) k 0 ≤ 2 ^ 32
arg_fits line args k h g = rw (arg_is line args k h g) (values_fit line k)

pub arg_low : (line args : List ℕ) (k : ℕ) → ((i : ℕ) → kind_at (named (fields_of line)) i ≡ STATUS → ⊥) → k < (reading_of line).line.count → k < length args
    → get_or (args_after line args) k 0 < 2 ^ 32
arg_low line args k f h g = rw (arg_is line args k h g) (values_low line f k)
