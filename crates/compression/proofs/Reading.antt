-- What stands at a place of a packet, and how the records go on from there. Assumes nothing.
use Prim.Native.Nat.{ℕ, zero, suc, ◌+◌, ◌-◌, ◌*◌, ◌<◌, ◌≤◌}
use native.Mathlib.Omega.{arith}
use native.Mathlib.Nat.{zero-add, add-zero}
use mathlib.Core.Path.{◌≡◌, refl, ap, sym, ◌∙◌}
use mathlib.Core.List.{List, [], ◌∷◌, ◌++◌}
use Prim.{absurd}
use mathlib.Core.Logic.{⊎_elim}
use lib.ListN.{length, take, drop, get_or, length-drop, length-take, length-append}
use lib.Seq.{take_all, drop-drop}
use borrow.Author.Tests.{le-leb, lt-leb}
use Rattle.frame_info.proofs.Split.{split_leb}
use Rattle.compression.specs.Layout.{size_of, Reading, whole, half, short, after, records_in, records, joined}
use Rattle.frame_info.specs.Refusal.{done, half_length, fewer_bytes, number_of}
use Rattle.frame_info.specs.declared.refusal.Refusal.{Refusal}
use Rattle.frame_info.specs.declared.refusal.Refusal.TheVariants.{HalfLength, FewerBytes}
use Rattle.std.specs.Prelude.{Some, None, Ok, Err}
use Rattle.compression.specs.Promise.{first_of, unpack_refused}
use Rattle.compression.specs.Inside.{counted}
use Rattle.compression.specs.Answer.{Unpacked}
use Rattle.compression.specs.Said.{unpacked_said, length_of}
use Rattle.compression.specs.declared.Unpacked as declared_unpacked
use Rattle.compression.specs.declared.Reader.{Reader}
use Rattle.compression.specs.declared.Record.{Record}
use Rattle.compression.specs.declared.Record.TheVariants.{End, Half, Short, Whole}

-- the four answers of a look at what is left of a packet
pub first_end : (q : List ℕ) → length q < 1 → End ≡ first_of q
unfolding first_of
first_end [] h = refl
first_end (x ∷ q) h = absurd (omega arith)

pub first_half : (q : List ℕ) → 1 ≤ length q → length q < 2 → Half ≡ first_of q
unfolding first_of
first_half [] h k = absurd (omega arith)
first_half (x ∷ []) h k = refl
first_half (x ∷ y ∷ q) h k = absurd (omega arith)

pub first_short : (q : List ℕ) (n : ℕ) → 2 ≤ length q → n ≡ get_or q 0 0 + get_or q 1 0 * 256 → length (take (length q - 2) (drop 2 q)) < n → Short ≡ first_of q
unfolding first_of
first_short [] n h e k = absurd (omega arith)
first_short (x ∷ []) n h e k = absurd (omega arith)
first_short (x ∷ y ∷ q) n h e k = rw (lt-leb (size_of x y) (length q) (omega (arith, length-take (suc (suc (length q)) - 2) q)))

pub first_whole : (q : List ℕ) (n : ℕ) → 2 ≤ length q → n ≡ get_or q 0 0 + get_or q 1 0 * 256 → n ≤ length (take (length q - 2) (drop 2 q)) → Whole n ≡ first_of q
unfolding first_of
first_whole [] n h e k = absurd (omega arith)
first_whole (x ∷ []) n h e k = absurd (omega arith)
first_whole (x ∷ y ∷ q) n h e k =
    let s : n ≡ size_of x y = omega arith in
    rw (le-leb (size_of x y) (length q) (omega (arith, length-take (suc (suc (length q)) - 2) q))) (ap Whole s)

-- what is left of a packet, as a slice of it
pub rest_of : (p : List ℕ) (at : ℕ) → take (length p - at) (drop at p) ≡ drop at p
rest_of p at = take_all (length p - at) (drop at p) (omega (arith, length-drop at p))

pub past_end : (p : List ℕ) (at : ℕ) → length p < at → End ≡ first_of (drop at p)
past_end p at h = first_end (drop at p) (omega (arith, length-drop at p))

pub ruleset firsts = (first_end, first_half, first_short, first_whole, rest_of, past_end)

-- the bound on the number of records does not matter once it is at least the number of bytes
enough : (m n : ℕ) (q : List ℕ) → length q ≤ m → length q ≤ n → records_in m q ≡ records_in n q
unfolding records_in
enough zero zero q h k = refl
enough zero (suc n) [] h k = refl
enough zero (suc n) (x ∷ q) h k = absurd (omega arith)
enough (suc m) zero [] h k = refl
enough (suc m) zero (x ∷ q) h k = absurd (omega arith)
enough (suc m) (suc n) [] h k = refl
enough (suc m) (suc n) (x ∷ []) h k = refl
enough (suc m) (suc n) (x ∷ y ∷ q) h k =
    rw
    (enough m n (drop (size_of x y) q) (omega (arith, length-drop (size_of x y) q)) (omega (arith, length-drop (size_of x y) q)))

-- a record that is whole, and the rest
pub records_more : (x y : ℕ) (q : List ℕ) → size_of x y ≤ length q
    → records (x ∷ y ∷ q) ≡ after (take (size_of x y) q) (records (drop (size_of x y) q))
unfolding records records_in
records_more x y q h =
    rw (
      le-leb (size_of x y) (length q) h,
      enough (suc (length q)) (length (drop (size_of x y) q)) (drop (size_of x y) q) (omega (arith, length-drop (size_of x y) q)) (omega arith),
    )

pub records_short : (x y : ℕ) (q : List ℕ) → length q < size_of x y → records (x ∷ y ∷ q) ≡ short
unfolding records records_in
records_short x y q h = rw (lt-leb (size_of x y) (length q) h)

pub records_half : (x : ℕ) → records (x ∷ []) ≡ half
unfolding records records_in
records_half x = refl

pub records_none : records [] ≡ whole []
unfolding records records_in
records_none = refl

-- a whole record of n bytes stands in front
pub record Next (q : List ℕ) (n : ℕ) : Type 0 where
  pub fits : 2 + n ≤ length q
  pub goes : records q ≡ after (take n (drop 2 q)) (records (drop (2 + n) q))

pub next_of : (x y : ℕ) (q : List ℕ) → size_of x y ≤ length q → Next (x ∷ y ∷ q) (size_of x y)
next_of x y q h =
    let e : 2 + size_of x y ≡ suc (suc (size_of x y)) = omega arith in
    record { fits = omega arith; goes = records_more x y q h ∙ ap (λ (n : ℕ). after (take (size_of x y) q) (records (drop n (x ∷ y ∷ q)))) (sym e) }

-- what a look at the front says of the records
pub reads_end : (q : List ℕ) → first_of q ≡ End → records q ≡ whole []
unfolding first_of
reads_end [] e = records_none
reads_end (x ∷ []) e = cc
reads_end (x ∷ y ∷ q) e =
    ⊎_elim (λ h. let d = rw h.1 at e in cc) (λ h. let d = rw h.1 at e in cc) (split_leb (size_of x y) (length q))

pub reads_half : (q : List ℕ) → first_of q ≡ Half → records q ≡ half
unfolding first_of
reads_half [] e = cc
reads_half (x ∷ []) e = records_half x
reads_half (x ∷ y ∷ q) e =
    ⊎_elim (λ h. let d = rw h.1 at e in cc) (λ h. let d = rw h.1 at e in cc) (split_leb (size_of x y) (length q))

pub reads_short : (q : List ℕ) → first_of q ≡ Short → records q ≡ short
unfolding first_of
reads_short [] e = cc
reads_short (x ∷ []) e = cc
reads_short (x ∷ y ∷ q) e =
    ⊎_elim (λ h. let d = rw h.1 at e in cc) (λ h. records_short x y q h.0) (split_leb (size_of x y) (length q))

pub reads_whole : (q : List ℕ) (n : ℕ) → first_of q ≡ Whole n → Next q n
unfolding first_of
reads_whole [] n e = absurd (let z : ◌≡◌ {A = ℕ} 0 1 = cc in omega arith)
reads_whole (x ∷ []) n e = absurd (let z : ◌≡◌ {A = ℕ} 0 1 = cc in omega arith)
reads_whole (x ∷ y ∷ q) n e =
    ⊎_elim
    (λ h. let d = rw h.1 at e in let k : size_of x y ≡ n = cc in rw (← k) (next_of x y q h.0))
    (λ h. let d = rw h.1 at e in absurd (let z : ◌≡◌ {A = ℕ} 0 1 = cc in omega arith))
    (split_leb (size_of x y) (length q))

-- what is counted from a place on, with k records and b bytes before it
unfoldable pub counting : ℕ → ℕ → Reading → Unpacked
counting k b half = unpack_refused half_length
counting k b short = unpack_refused fewer_bytes
counting k b (whole bodies) = record { no = done; bytes = b + length (joined bodies); lengths = k + length bodies }

counting_none : (r : Reading) → counted r ≡ counting 0 0 r
unfolding counting counted
counting_none half = refl
counting_none short = refl
counting_none (whole bodies) = rw (zero-add (length (joined bodies)), zero-add (length bodies))

counting_one : (k b : ℕ) (body : List ℕ) (r : Reading) → counting k b (after body r) ≡ counting (k + 1) (b + length body) r
unfolding counting after joined
counting_one k b body half = refl
counting_one k b body short = refl
counting_one k b body (whole bodies) =
    let e : b + length (body ++ joined bodies) ≡ b + length body + length (joined bodies) = omega (arith, length-append body (joined bodies)) in
    let f : k + suc (length bodies) ≡ k + 1 + length bodies = omega arith in
    rw (e, f)

-- what each length says of the record that has it
sized_whole : (f : Record) (n : ℕ) → Ok (Some n) ≡ length_of f → f ≡ Whole n
sized_whole End n l = cc
sized_whole Half n l = cc
sized_whole Short n l = cc
sized_whole (Whole m) n l = cc

sized_end : (f : Record) → Ok None ≡ length_of f → f ≡ End
sized_end End l = refl
sized_end Half l = cc
sized_end Short l = cc
sized_end (Whole m) l = cc

broken_by : (k b : ℕ) (q : List ℕ) (f : Record) → first_of q ≡ f → (w : Refusal) → Err w ≡ length_of f → unpack_refused (number_of w) ≡ counting k b (records q)
unfolding counting
broken_by k b q End e w l = cc
broken_by k b q Half e w l = let h : w ≡ HalfLength = cc in rw (h, reads_half q e)
broken_by k b q Short e w l = let h : w ≡ FewerBytes = cc in rw (h, reads_short q e)
broken_by k b q (Whole n) e w l = cc

-- the scan's loop: what was seen before the reader's place, and the rest of the count is what stands from there on
pub record Scanned (p : List ℕ) (r : Reader) (seen : declared_unpacked.Unpacked) : Type 0 where
  pub held : r.packet.now ≡ p
  pub within : r.at ≤ length p
  pub place : r.at ≡ seen.bytes + 2 * seen.lengths
  pub rest : counted (records p) ≡ counting seen.lengths seen.bytes (records (drop r.at p))

pub scanned_none : {p : List ℕ} (r : Reader) → r.packet.now ≡ p → r.at ≡ 0 → Scanned p r (record { bytes = 0; lengths = 0 })
scanned_none {p} r h e =
    record { held = h; within = omega arith; place = omega arith; rest = rw e (counting_none (records p)) }

module _ {p : List ℕ} {r : Reader} {seen : declared_unpacked.Unpacked} (s : Scanned p r seen) (f : Record) (e : f ≡ first_of (drop r.at r.packet.now)) where
  abbrev q : List ℕ
  q = drop r.at p

  first : first_of q ≡ f
  first = sym (e ∙ ap (λ (l : List ℕ). first_of (drop r.at l)) s.held)

  -- a whole record further
  module _ (n : ℕ) (l : Ok (Some n) ≡ length_of f) where
    next : Next q n
    next = reads_whole q n (first ∙ sized_whole f n l)

    pub scanned_fits : r.at + (2 + n) ≤ length p
    scanned_fits = omega (arith, next.fits, length-drop r.at p)

    pub scanned_one : Scanned p (record { packet = r.packet; at = r.at + (2 + n) }) (record { bytes = seen.bytes + n; lengths = seen.lengths + 1 })
    scanned_one =
        let long : length (take n (drop 2 q)) ≡ n = omega (arith, length-take n (drop 2 q), length-drop 2 q, next.fits) in
        record {
          held = s.held;
          within = scanned_fits;
          place = omega (arith, s.place);
          rest =
              s.rest ∙ ap (counting seen.lengths seen.bytes) next.goes
              ∙ counting_one seen.lengths seen.bytes (take n (drop 2 q)) (records (drop (2 + n) q))
              ∙ rw (long, drop-drop (2 + n) r.at p);
        }

  -- its ends
  pub scanned_end : Ok None ≡ length_of f → unpacked_said (Ok seen) ≡ counted (records p)
  unfolding counting joined
  scanned_end l = rw (s.rest, reads_end q (first ∙ sized_end f l), add-zero seen.bytes, add-zero seen.lengths)

  pub scanned_broken : (w : Refusal) → Err w ≡ length_of f → unpack_refused (number_of w) ≡ counted (records p)
  scanned_broken w l = broken_by seen.lengths seen.bytes q f first w l ∙ sym s.rest
