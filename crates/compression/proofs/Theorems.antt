-- What holds of packing and unpacking, about the definitions alone. Assumes nothing.
use Prim.Native.Nat.{ℕ, zero, suc, ◌+◌, ◌*◌, ◌/◌, ◌%◌, ◌<◌, ◌≤◌}
use native.Mathlib.Nat.{div-add-mod', mod-lt, div-lt_iff_lt-mul}
use native.Mathlib.Omega.{arith}
use mathlib.Core.Path.{◌≡◌, refl, ap, ap₂, sym, ◌∙◌}
use mathlib.Core.Logic.{⊎_elim}
use mathlib.Core.List.{List, [], ◌∷◌, ◌++◌, append-nil, append_assoc}
use Prim.{absurd}
use lib.ListN.{length, take, drop, length-append, length-drop, take-append-drop}
use lib.Seq.{take-append_seam, drop-append_seam, take_at, drop_at, length-take-le}
use lib.Arith.{digits_div, digits_mod}
use lib.Bits.{xor_lt}
use Rattle.frame_info.proofs.Split.{split_leb}
use Rattle.compression.specs.Layout.{masked, sized, size_of, record_of, packed, Reading, whole, half, short, after, records, restored, unpacked_by, unpacked, joined, lengths_of, split, total}
use Rattle.compression.specs.Places.{Bytes, Lendable, HalfAt, ShortAt}
use Rattle.compression.proofs.Masking.{mask_twice, length_masked}
use Rattle.compression.proofs.Reading.{records_more, records_short, records_half, records_none}

-- ---- a length and its two bytes

size_back : (n : ℕ) → size_of (n % 256) (n / 256) ≡ n
size_back n = omega (arith, div-add-mod' n 256)

low_back : (x y : ℕ) → x < 256 → size_of x y % 256 ≡ x
low_back x y h = ap (λ (n : ℕ). n % 256) e ∙ digits_mod y h
  where
    e : x + 256 * y ≡ y * 256 + x
    e = omega arith

high_back : (x y : ℕ) → x < 256 → size_of x y / 256 ≡ y
high_back x y h = ap (λ (n : ℕ). n / 256) e ∙ digits_div y h
  where
    e : x + 256 * y ≡ y * 256 + x
    e = omega arith

-- ---- records in front of other bytes

-- the inputs' bytes as they stand in the packet
unfoldable masked_all : List ℕ → List (List ℕ) → List (List ℕ)
masked_all base [] = []
masked_all base (input ∷ inputs) = masked base input ∷ masked_all input inputs

unfoldable after_all : List (List ℕ) → Reading → Reading
after_all [] r = r
after_all (body ∷ bodies) r = after body (after_all bodies r)

restored_masked : (base : List ℕ) (inputs : List (List ℕ)) → restored base (masked_all base inputs) ≡ inputs
unfolding restored masked_all
restored_masked base [] = refl
restored_masked base (input ∷ inputs) =
    rw (mask_twice base input) (ap (λ (l : List (List ℕ)). input ∷ l) (restored_masked input inputs))

after_half : (bodies : List (List ℕ)) → after_all bodies half ≡ half
unfolding after_all after
after_half [] = refl
after_half (body ∷ bodies) = rw (after_half bodies)

after_short : (bodies : List (List ℕ)) → after_all bodies short ≡ short
unfolding after_all after
after_short [] = refl
after_short (body ∷ bodies) = rw (after_short bodies)

after_none : (bodies : List (List ℕ)) → after_all bodies (whole []) ≡ whole bodies
unfolding after_all after
after_none [] = refl
after_none (body ∷ bodies) = rw (after_none bodies)

record_front : (base input t : List ℕ) → records (record_of base input ++ t) ≡ after (masked base input) (records t)
unfolding record_of
record_front base input t =
    let n : ℕ = length input in
    let m : List ℕ = masked base input in
    let e : size_of (n % 256) (n / 256) ≡ n = size_back n in
    let k : length m ≡ n = length_masked base input in
    records_more (n % 256) (n / 256) (m ++ t) (omega (arith, length-append m t))
    ∙ ap₂ (λ (a b : List ℕ). after a (records b)) (take_at m t (size_of (n % 256) (n / 256)) (k ∙ sym e)) (drop_at m t (size_of (n % 256) (n / 256)) (k ∙ sym e))

front : (base : List ℕ) (inputs : List (List ℕ)) (t : List ℕ) → records (packed base inputs ++ t) ≡ after_all (masked_all base inputs) (records t)
unfolding packed masked_all after_all
front base [] t = refl
front base (input ∷ inputs) t =
    ap records (append_assoc (record_of base input) (packed input inputs) t)
    ∙ record_front base input (packed input inputs ++ t) ∙ ap (after (masked base input)) (front input inputs t)

-- ---- unpacking what was packed gives the inputs back

pub unpack_packed : (reference : List ℕ) (inputs : List (List ℕ)) → unpacked reference (packed reference inputs) ≡ whole inputs
unfolding unpacked unpacked_by
unpack_packed reference inputs =
    let e : records (packed reference inputs) ≡ whole (masked_all reference inputs) =
    ap records (sym (append-nil (packed reference inputs))) ∙ front reference inputs []
    ∙ ap (after_all (masked_all reference inputs)) records_none ∙ after_none (masked_all reference inputs) in
    rw e (ap whole (restored_masked reference inputs))

-- ---- a packet that breaks

pub half_refused : {reference packet : List ℕ} → HalfAt reference packet → unpacked reference packet ≡ half
unfolding unpacked unpacked_by
half_refused {reference} {packet} h =
    let e : records packet ≡ half =
    ap records h.splits ∙ front reference h.inputs (h.byte ∷ [])
    ∙ ap (after_all (masked_all reference h.inputs)) (records_half h.byte) ∙ after_half (masked_all reference h.inputs) in
    rw e

pub short_refused : {reference packet : List ℕ} → ShortAt reference packet → unpacked reference packet ≡ short
unfolding unpacked unpacked_by
short_refused {reference} {packet} h =
    let e : records packet ≡ short =
    ap records h.splits ∙ front reference h.inputs (h.low ∷ h.high ∷ h.bytes)
    ∙ ap (after_all (masked_all reference h.inputs)) (records_short h.low h.high h.bytes h.fewer)
    ∙ after_short (masked_all reference h.inputs) in
    rw e

-- ---- any bytes are one of three: a packet, or one that breaks in one of the two ways

pub data Way (reference bytes : List ℕ) : Type 0 where
  wholly : (inputs : List (List ℕ)) → packed reference inputs ≡ bytes → Way reference bytes
  halved : HalfAt reference bytes → Way reference bytes
  shortened : ShortAt reference bytes → Way reference bytes

bytes_drop : (n : ℕ) (l : List ℕ) → Bytes l → Bytes (drop n l)
unfolding Bytes
bytes_drop zero l h = h
bytes_drop (suc n) [] h = h
bytes_drop (suc n) (x ∷ l) h = bytes_drop n l h.1

-- a whole record in front of bytes that go one of the three ways
record_back : (base : List ℕ) (x y : ℕ) (q : List ℕ) → x < 256 → size_of x y ≤ length q
    → record_of base (masked base (take (size_of x y) q)) ≡ x ∷ y ∷ take (size_of x y) q
unfolding record_of
record_back base x y q h k =
    let m : List ℕ = take (size_of x y) q in
    let long : length (masked base m) ≡ size_of x y = length_masked base m ∙ length-take-le (size_of x y) q k in
    ap (λ (n : ℕ). n % 256 ∷ n / 256 ∷ masked base (masked base m)) long
    ∙ ap₂ (λ (a b : ℕ). a ∷ b ∷ masked base (masked base m)) (low_back x y h) (high_back x y h)
    ∙ ap (λ (l : List ℕ). x ∷ y ∷ l) (mask_twice base m)

front_back : (base : List ℕ) (x y : ℕ) (q : List ℕ) → x < 256 → size_of x y ≤ length q
    → (inputs : List (List ℕ)) (t : List ℕ) → drop (size_of x y) q ≡ packed (masked base (take (size_of x y) q)) inputs ++ t
    → x ∷ y ∷ q ≡ packed base (masked base (take (size_of x y) q) ∷ inputs) ++ t
unfolding packed
front_back base x y q h k inputs t e =
    let n : ℕ = size_of x y in
    let input : List ℕ = masked base (take n q) in
    sym
    (append_assoc (record_of base input) (packed input inputs) t
    ∙ ap₂ (λ (a b : List ℕ). a ++ b) (record_back base x y q h k) (sym e)
    ∙ ap (λ (l : List ℕ). x ∷ y ∷ l) (take-append-drop n q))

way_on : (base : List ℕ) (x y : ℕ) (q : List ℕ) → x < 256 → size_of x y ≤ length q
    → Way (masked base (take (size_of x y) q)) (drop (size_of x y) q) → Way base (x ∷ y ∷ q)
way_on base x y q h k (wholly inputs e) =
    let input : List ℕ = masked base (take (size_of x y) q) in
    wholly (input ∷ inputs)
    (sym
    (front_back base x y q h k inputs [] (sym e ∙ sym (append-nil (packed input inputs)))
    ∙ append-nil (packed base (input ∷ inputs))))
way_on base x y q h k (halved r) =
    halved
    (record {
      inputs = masked base (take (size_of x y) q) ∷ r.inputs;
      byte = r.byte;
      splits = front_back base x y q h k r.inputs (r.byte ∷ []) r.splits;
    })
way_on base x y q h k (shortened r) =
    shortened
    (record {
      inputs = masked base (take (size_of x y) q) ∷ r.inputs;
      low = r.low;
      high = r.high;
      bytes = r.bytes;
      splits = front_back base x y q h k r.inputs (r.low ∷ r.high ∷ r.bytes) r.splits;
      fewer = r.fewer;
    })

way_in : (most : ℕ) (bytes : List ℕ) → length bytes ≤ most → Bytes bytes → (base : List ℕ) → Way base bytes
unfolding Bytes packed
way_in zero [] h b base = wholly [] refl
way_in zero (x ∷ bytes) h b base = absurd (omega arith)
way_in (suc most) [] h b base = wholly [] refl
way_in (suc most) (x ∷ []) h b base = halved (record { inputs = []; byte = x; splits = refl })
way_in (suc most) (x ∷ y ∷ q) h b base =
    ⊎_elim
    (λ w.
    way_on base x y q b.0 w.0
    (way_in most (drop (size_of x y) q) (omega (arith, length-drop (size_of x y) q)) (bytes_drop (size_of x y) q b.1.1) (masked base (take (size_of x y) q))))
    (λ w. shortened (record { inputs = []; low = x; high = y; bytes = q; splits = refl; fewer = w.0 }))
    (split_leb (size_of x y) (length q))

pub way : (reference bytes : List ℕ) → Bytes bytes → Way reference bytes
way reference bytes b = way_in (length bytes) bytes (omega arith) b reference

-- ---- any bytes accepted, packed again with the same reference, give the same bytes

unpack_wholly : {bytes : List ℕ} (reference : List ℕ) (inputs : List (List ℕ)) → packed reference inputs ≡ bytes → unpacked reference bytes ≡ whole inputs
unpack_wholly {bytes} reference inputs e = rw (← e) (unpack_packed reference inputs)

accepted : {reference bytes : List ℕ} (inputs : List (List ℕ)) → Way reference bytes → unpacked reference bytes ≡ whole inputs → packed reference inputs ≡ bytes
accepted {reference} {bytes} inputs (wholly others e) a =
    let d : unpacked reference bytes ≡ whole others = unpack_wholly reference others e in
    let same : inputs ≡ others = cc in
    ap (packed reference) same ∙ e
accepted inputs (halved h) a = let d = half_refused h in absurd (let z : ◌≡◌ {A = ℕ} 0 1 = cc in omega arith)
accepted inputs (shortened h) a = let d = short_refused h in absurd (let z : ◌≡◌ {A = ℕ} 0 1 = cc in omega arith)

pub pack_unpacked : (reference bytes : List ℕ) (inputs : List (List ℕ)) → Bytes bytes → unpacked reference bytes ≡ whole inputs
    → packed reference inputs ≡ bytes
pack_unpacked reference bytes inputs b = accepted inputs (way reference bytes b)

-- ---- 16 and 17 are given exactly where the packet breaks so

halved_only : {reference bytes : List ℕ} → Way reference bytes → unpacked reference bytes ≡ half → HalfAt reference bytes
halved_only {reference} (wholly inputs e) a = let d = unpack_wholly reference inputs e in absurd (let z : ◌≡◌ {A = ℕ} 0 1 = cc in omega arith)
halved_only (halved h) a = h
halved_only (shortened h) a = let d = short_refused h in absurd (let z : ◌≡◌ {A = ℕ} 0 1 = cc in omega arith)

shortened_only : {reference bytes : List ℕ} → Way reference bytes → unpacked reference bytes ≡ short → ShortAt reference bytes
shortened_only {reference} (wholly inputs e) a = let d = unpack_wholly reference inputs e in absurd (let z : ◌≡◌ {A = ℕ} 0 1 = cc in omega arith)
shortened_only (halved h) a = let d = half_refused h in absurd (let z : ◌≡◌ {A = ℕ} 0 1 = cc in omega arith)
shortened_only (shortened h) a = h

pub half_only : (reference bytes : List ℕ) → Bytes bytes → unpacked reference bytes ≡ half → HalfAt reference bytes
half_only reference bytes b = halved_only (way reference bytes b)

pub short_only : (reference bytes : List ℕ) → Bytes bytes → unpacked reference bytes ≡ short → ShortAt reference bytes
short_only reference bytes b = shortened_only (way reference bytes b)

-- ---- the packet of inputs that can be lent is bytes

bytes_append : (a b : List ℕ) → Bytes a → Bytes b → Bytes (a ++ b)
unfolding Bytes
bytes_append [] b h k = k
bytes_append (x ∷ a) b h k = (h.0, bytes_append a b h.1 k)

bytes_masked : (base bytes : List ℕ) → Bytes base → Bytes bytes → Bytes (masked base bytes)
unfolding Bytes masked
bytes_masked [] bytes h k = k
bytes_masked (b ∷ base) [] h k = k
bytes_masked (b ∷ base) (x ∷ bytes) h k = (xor_lt 8 b x h.0 k.0, bytes_masked base bytes h.1 k.1)

pub packed_bytes : (reference : List ℕ) (inputs : List (List ℕ)) → Bytes reference → Lendable inputs → Bytes (packed reference inputs)
unfolding Lendable packed record_of Bytes
packed_bytes reference [] h k = tt
packed_bytes reference (input ∷ inputs) h k =
    let n : ℕ = length input in
    bytes_append (sized n ++ masked reference input) (packed input inputs)
    (mod-lt n (omega arith), ((div-lt_iff_lt-mul (omega arith)).1 k.0, bytes_masked reference input h k.1))
    (packed_bytes input inputs k.1 k.2)

-- ---- lent bytes and lengths, and the inputs that they stand for

pub split_joined : (inputs : List (List ℕ)) → split (lengths_of inputs) (joined inputs) ≡ inputs
unfolding split lengths_of joined
split_joined [] = refl
split_joined (input ∷ inputs) =
    ap₂ (λ (a b : List ℕ). a ∷ split (lengths_of inputs) b) (take-append_seam input (joined inputs)) (drop-append_seam input (joined inputs))
    ∙ ap (λ (l : List (List ℕ)). input ∷ l) (split_joined inputs)

pub total_joined : (inputs : List (List ℕ)) → total (lengths_of inputs) ≡ length (joined inputs)
unfolding total lengths_of joined
total_joined [] = refl
total_joined (input ∷ inputs) = omega (arith, total_joined inputs, length-append input (joined inputs))

pub joined_split : (lengths bytes : List ℕ) → total lengths ≡ length bytes → joined (split lengths bytes) ≡ bytes
unfolding split total joined
joined_split [] [] h = refl
joined_split [] (x ∷ bytes) h = absurd (omega arith)
joined_split (n ∷ lengths) bytes h =
    ap (λ (l : List ℕ). take n bytes ++ l) (joined_split lengths (drop n bytes) (omega (arith, length-drop n bytes))) ∙ take-append-drop n bytes

pub lengths_split : (lengths bytes : List ℕ) → total lengths ≤ length bytes → lengths_of (split lengths bytes) ≡ lengths
unfolding split total lengths_of
lengths_split [] bytes h = refl
lengths_split (n ∷ lengths) bytes h =
    ap₂ (λ (a : ℕ) (l : List ℕ). a ∷ l) (length-take-le n bytes (omega arith)) (lengths_split lengths (drop n bytes) (omega (arith, length-drop n bytes)))
