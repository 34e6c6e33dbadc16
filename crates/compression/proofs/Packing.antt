-- A list of inputs, packed record by record. Assumes nothing.
use Prim.Native.Nat.{ℕ, ◌+◌, ◌-◌, ◌*◌, ◌<◌, ◌≤◌, min}
use native.Mathlib.Omega.{arith}
use native.Mathlib.Numerals.{add-one}
use mathlib.Core.Path.{◌≡◌, refl, ap, ap₂, sym, ◌∙◌}
use mathlib.Core.List.{List, [], ◌∷◌, ◌++◌, append-nil}
use lib.ListN.{length, take, drop, get_or, length-append, length-drop, length-take, drop_of_length-le}
use lib.Seq.{drop-cons, take_all, length-take-le}
use Rattle.compression.specs.Layout.{record_of, packed, split, total}
use Rattle.compression.specs.Promise.{over}
use Rattle.compression.proofs.Lists.{front, front_all, front_grown, front_rest}
use Rattle.compression.proofs.Masking.{length_masked}
use Rattle.compression.proofs.Sums.{total_at, total_end}

pub length_record : (base input : List ℕ) → length (record_of base input) ≡ 2 + length input
unfolding record_of
length_record base input = omega (arith, length_masked base input)

-- the length of a packet
pub length_packed : (base ls bytes : List ℕ) → total ls ≤ length bytes → length (packed base (split ls bytes)) ≡ total ls + 2 * length ls
unfolding packed split total
length_packed base [] bytes h = refl
length_packed base (n ∷ ls) bytes h =
    let d : length (drop n bytes) ≡ length bytes - n = length-drop n bytes in
    let t : length (take n bytes) ≡ min n (length bytes) = length-take n bytes in
    let more : length (packed (take n bytes) (split ls (drop n bytes))) ≡ total ls + 2 * length ls =
    length_packed (take n bytes) ls (drop n bytes) (omega arith) in
    omega (
      arith,
      length-append (record_of base (take n bytes)) (packed (take n bytes) (split ls (drop n bytes))),
      length_record base (take n bytes),
    )

-- the next input
split_next : (ls bytes : List ℕ) (k : ℕ) → k < length ls
    → split (drop k ls) bytes ≡ take (get_or ls k 0) bytes ∷ split (drop (k + 1) ls) (drop (get_or ls k 0) bytes)
unfolding split
split_next ls bytes k h = rw (drop-cons ls k 0 h, add-one)

-- a part that reaches to the end of a list, written
written_part : (out x part : List ℕ) (at : ℕ) → part ≡ over x (take (length out - at) (drop at out))
    → take at out ++ (part ++ drop (length out - at) (drop at out)) ≡ take at out ++ (x ++ drop (length x) (drop at out))
written_part out x part at e =
    let n : length (drop at out) ≡ length out - at = length-drop at out in
    ap₂ (λ (l m : List ℕ). take at out ++ (l ++ m))
    (e ∙ ap (over x) (take_all (length out - at) (drop at out) (omega arith)))
    (drop_of_length-le (drop at out) {i = length out - at} (omega arith))
    ∙ ap (λ (l : List ℕ). take at out ++ l) (append-nil (over x (drop at out)))

-- the packet of what is pending
abbrev pub whole_packet : List ℕ → List ℕ → List ℕ → List ℕ
whole_packet reference pending lengths = packed reference (split lengths pending)

-- k inputs have been packed, and `rest` are the bytes of the others; the next record starts at `at`
pub record Packs (reference pending lengths d base rest : List ℕ) (at k : ℕ) (out : List ℕ) : Type 0 where
  pub sum : total (drop k lengths) ≡ length rest
  pub size : at + length rest + 2 * (length lengths - k) ≡ length pending + 2 * length lengths
  pub laid : out ≡ front d (whole_packet reference pending lengths) at
  pub more : drop at (whole_packet reference pending lengths) ≡ packed base (split (drop k lengths) rest)

whole_long : (reference pending lengths : List ℕ) → total lengths ≡ length pending
    → length (whole_packet reference pending lengths) ≡ length pending + 2 * length lengths
whole_long reference pending lengths sums = omega (arith, length_packed reference lengths pending (omega arith))

module _ {reference pending lengths d base rest : List ℕ} {at k : ℕ} {out : List ℕ} (sums : total lengths ≡ length pending)
    (room : length pending + 2 * length lengths ≤ length d) (s : Packs reference pending lengths d base rest at k out) where
  pub packs_fits : k < length lengths → get_or lengths k 0 ≤ length rest
  packs_fits h = omega (arith, total_at lengths k h, s.sum)

  pub packs_more : (h : k < length lengths) {input later part : List ℕ} → input ≡ take (get_or lengths k 0) rest → later ≡ drop (get_or lengths k 0) rest
      → part ≡ over (record_of base input) (take (length out - at) (drop at out))
      → Packs reference pending lengths d input later (at + (2 + length input)) (k + 1) (take at out ++ (part ++ drop (length out - at) (drop at out)))
  unfolding packed
  packs_more h {input} {later} {part} i l e =
      let w : List ℕ = whole_packet reference pending lengths in
      let all : length w ≡ length pending + 2 * length lengths = whole_long reference pending lengths sums in
      let n : ℕ = get_or lengths k 0 in
      let x : List ℕ = record_of base input in
      let y : List ℕ = packed input (split (drop (k + 1) lengths) later) in
      let next : drop at w ≡ x ++ y =
      s.more ∙ ap (packed base) (split_next lengths rest k h)
      ∙ ap₂ (λ (a b : List ℕ). packed base (a ∷ split (drop (k + 1) lengths) b)) (sym i) (sym l) in
      let size : length input ≡ n = ap length i ∙ length-take-le n rest (packs_fits h) in
      let left : length later ≡ length rest - n = ap length l ∙ length-drop n rest in
      let long : at + length x ≡ at + (2 + length input) = omega (arith, length_record base input) in
      record {
        sum = omega (arith, total_at lengths k h, s.sum);
        size = omega (arith, s.size, packs_fits h);
        laid =
            written_part out x part at e
            ∙ ap (λ (o : List ℕ). take at o ++ (x ++ drop (length x) (drop at o))) s.laid
            ∙ front_grown d w x y at (omega (arith, s.size)) next
            ∙ ap (front d w) long;
        more = ap (λ (m : ℕ). drop m w) (sym long) ∙ front_rest w x y at next;
      }

  module _ (h : length lengths ≤ k) where
    pub packs_count : at ≡ length (whole_packet reference pending lengths)
    packs_count = omega (arith, total_end lengths k h, s.sum, s.size, whole_long reference pending lengths sums)

    pub packs_all : out ≡ over (whole_packet reference pending lengths) d
    packs_all =
        s.laid ∙ ap (front d (whole_packet reference pending lengths)) packs_count ∙ front_all d (whole_packet reference pending lengths)
