-- A line has fewer than 2,048 fields after its name. Assumes nothing.
use Prim.Native.Nat.{ℕ, zero, suc, ◌+◌, ◌≤◌, ◌<◌}
use native.Mathlib.Omega.{arith}
use mathlib.Core.Path.{◌≡◌, refl, sym}
use Prim.{absurd}
use mathlib.Core.Bool.{Bool, true, false, ◌&&◌, true≢false}
use mathlib.Core.List.{List, [], ◌∷◌}
use lib.ListN.{length, get_or}
use lib.Dec.{ltb, leb, eqb}
use borrow.Author.Tests.{ltb-true, leb-true}
use Rattle.frame_info.proofs.Picked.{picked_if}
use Rattle.sheet.specs.Answer.{Line, Call}
use Rattle.std.specs.Prelude.{Option, Some, None}
use Rattle.sheet.specs.Fields.{fields_of}
use Rattle.sheet.specs.Calls.{Row, row, calls, row_count, place_of, no_row, kind_at, value_of, BAD}
use Rattle.sheet.specs.Reading.{Reading, alone, before, fields_from, called, fields_read, reading_of}

abbrev Few : ℕ → Reading → Type 0
Few n r = r.line.count ≤ n

kept : (v : Option ℕ) (r : Reading) (n : ℕ) → r.line.count ≤ n → (before v r).line.count ≤ n
unfolding before alone
kept (Some v) r n h = h
kept None r n h = omega arith

fields_few : (c : Call) (fs : List (List ℕ)) (i : ℕ) → i ≤ c.most → (fields_from c i fs).line.count ≤ c.most
unfolding fields_from alone
fields_few c [] i h = picked_if (Few c.most) (leb c.least i) _ _ (λ e. h) (omega arith)
fields_few c (f ∷ fs) i h =
    picked_if (Few c.most) (ltb i c.most) _ _
    (λ e. kept (value_of (kind_at c i) f) (fields_from c (i + 1) fs) c.most (fields_few c fs (i + 1) (omega (arith, ltb-true i c.most e))))
    (omega arith)

-- every row of a table has at most n fields
all_few : ℕ → List Row → Bool
all_few n [] = true
all_few n (r ∷ rs) = leb r.call.most n && all_few n rs

both : (s t : Bool) → (s && t) ≡ true → (s ≡ true) × (t ≡ true)
both true t h = (refl, h)
both false t h = absurd (true≢false (sym h))

row_few : (n : ℕ) (rs : List Row) (k : ℕ) → all_few n rs ≡ true → (get_or rs k no_row).call.most ≤ n
unfolding all_few
row_few n [] k h = omega arith
row_few n (r ∷ rs) zero h = leb-true r.call.most n (both (leb r.call.most n) (all_few n rs) h).0
row_few n (r ∷ rs) (suc k) h = row_few n rs k (both (leb r.call.most n) (all_few n rs) h).1

calls_few : all_few 2047 calls ≡ true
unfolding calls row all_few
calls_few = refl

called_few : (k : ℕ) (fs : List (List ℕ)) → (called k fs).line.count ≤ 2047
unfolding called alone
called_few k fs =
    picked_if (Few 2047) (ltb k row_count) _ _
    (λ e. omega (arith, fields_few (get_or calls k no_row).call fs 0 (omega arith), row_few 2047 calls k calls_few))
    (omega arith)

read_few : (fs : List (List ℕ)) → (fields_read fs).line.count ≤ 2047
unfolding fields_read alone
read_few [] = omega arith
read_few (f ∷ fs) = picked_if (Few 2047) (eqb (get_or f 0 0) 35) _ _ (λ e. omega arith) (called_few (place_of f calls) fs)

pub count_few : (line : List ℕ) (r : Line) → r ≡ (reading_of line).line → r.count < 2048
unfolding reading_of alone
count_few line r e =
    let h : (reading_of line).line.count ≤ 2047 = picked_if (Few 2047) (ltb 4096 (length line)) (alone BAD) (fields_read (fields_of line)) (λ d. omega arith) (read_few (fields_of line)) in
    rw e (omega (arith, h))
