-- A whole packet, unpacked record by record. Assumes nothing.
use Prim.Native.Nat.{ℕ, suc, ◌+◌, ◌-◌, ◌<◌, ◌≤◌}
use native.Mathlib.Nat.{add-zero}
use native.Mathlib.Omega.{arith}
use mathlib.Core.Path.{◌≡◌, refl, ap, ap₂, sym, subst, ◌∙◌}
use mathlib.Core.List.{List, [], ◌∷◌, ◌++◌}
use Prim.{absurd}
use lib.ListN.{length, take, drop, get_or, set, length-append, length-drop, length-take}
use lib.Seq.{get_or-drop, drop-drop, take_at, take_all, length-take-le}
use borrow.Author.Tests.{ne_eqb}
use Rattle.std.proofs.lemmas.List.{drop-take}
use Rattle.compression.specs.Layout.{masked, Reading, whole, half, short, after, records, restored, joined, lengths_of}
use Rattle.compression.specs.Promise.{over, inputs_of, first_of}
use Rattle.compression.specs.Inside.{base_at}
use Rattle.compression.specs.declared.Reader.{Reader}
use Rattle.compression.specs.declared.Record.{Record}
use Rattle.compression.specs.declared.Record.TheVariants.{End, Half, Short, Whole}
use Rattle.compression.proofs.Lists.{front, front_more, front_all, take_front, front_grown, front_rest}
use Rattle.compression.proofs.Masking.{length_masked}
use Rattle.compression.proofs.Reading.{Next, reads_end, reads_half, reads_short, reads_whole}

-- an input is as long as its record's bytes, so lengths are known before anything is unmasked
pub lengths_restored : (base : List ℕ) (bodies : List (List ℕ)) → lengths_of (restored base bodies) ≡ lengths_of bodies
unfolding restored lengths_of
lengths_restored base [] = refl
lengths_restored base (body ∷ bodies) =
    ap₂ (λ (n : ℕ) (l : List ℕ). n ∷ l) (length_masked base body) (lengths_restored (masked base body) bodies)

pub joined_restored : (base : List ℕ) (bodies : List (List ℕ)) → length (joined (restored base bodies)) ≡ length (joined bodies)
unfolding restored joined
joined_restored base [] = refl
joined_restored base (body ∷ bodies) =
    simp length-append (ap₂ (λ (m n : ℕ). m + n) (length_masked base body) (joined_restored (masked base body) bodies))

pub count_lengths : (inputs : List (List ℕ)) → length (lengths_of inputs) ≡ length inputs
unfolding lengths_of
count_lengths [] = refl
count_lengths (input ∷ inputs) = ap suc (count_lengths inputs)

pub count_restored : (base : List ℕ) (bodies : List (List ℕ)) → length (restored base bodies) ≡ length bodies
unfolding restored
count_restored base [] = refl
count_restored base (body ∷ bodies) = ap suc (count_restored (masked base body) bodies)

-- where no whole record stands in what is left of a whole packet, nothing is left
pub ends : (q : List ℕ) (bodies : List (List ℕ)) (f : Record) → f ≡ first_of q → ((n : ℕ) → f ≡ Whole n → ⊥) → records q ≡ whole bodies
    → bodies ≡ []
ends q bodies End e t w = let d = reads_end q (sym e) in cc
ends q bodies Half e t w = let d = reads_half q (sym e) in absurd (let z : ◌≡◌ {A = ℕ} 0 1 = cc in omega arith)
ends q bodies Short e t w = let d = reads_short q (sym e) in absurd (let z : ◌≡◌ {A = ℕ} 0 1 = cc in omega arith)
ends q bodies (Whole n) e t w = absurd (t n refl)

-- what is left of a whole packet is whole
after_whole : (body : List ℕ) (r : Reading) (bodies : List (List ℕ)) → after body r ≡ whole bodies → r ≡ whole (inputs_of r)
unfolding after inputs_of
after_whole body (whole rest) bodies e = refl
after_whole body half bodies e = cc
after_whole body short bodies e = cc

inputs_after : (body : List ℕ) (r : Reading) → r ≡ whole (inputs_of r) → inputs_of (after body r) ≡ body ∷ inputs_of r
unfolding after inputs_of
inputs_after body (whole rest) e = refl
inputs_after body half e = cc
inputs_after body short e = cc

-- the base in force after the first input
pub base_after : (reference earlier : List ℕ) (k from upto : ℕ) → base_at reference earlier (k + 1) from upto ≡ take (upto - from) (drop from earlier)
base_after reference earlier k from upto = simp (ne_eqb (k + 1) 0 (λ e. omega arith))

-- the records from a place on, and the bytes and lengths of all inputs
abbrev pub bodies_from : List ℕ → ℕ → List (List ℕ)
bodies_from packet at = inputs_of (records (drop at packet))

abbrev pub all_bytes : List ℕ → List ℕ → List ℕ
all_bytes reference packet = joined (restored reference (inputs_of (records packet)))

abbrev pub all_lengths : List ℕ → List ℕ → List ℕ
all_lengths reference packet = lengths_of (restored reference (inputs_of (records packet)))

-- the base in force, among all bytes
abbrev pub base_among : List ℕ → List ℕ → ℕ → ℕ → ℕ → List ℕ
base_among reference packet k from done = base_at reference (take done (all_bytes reference packet)) k from done

-- k inputs have been unpacked, of `done` bytes; the last of them starts at `from`
pub record Unpacks (reference packet d e : List ℕ) (r : Reader) (k from done : ℕ) (out lengths : List ℕ) : Type 0 where
  pub held : r.packet.now ≡ packet
  pub within : r.at ≤ length packet
  pub good : records (drop r.at packet) ≡ whole (bodies_from packet r.at)
  pub ordered : from ≤ done
  pub some : done ≤ length (all_bytes reference packet)
  pub bytes : out ≡ front d (all_bytes reference packet) done
  pub bytes_rest : drop done (all_bytes reference packet) ≡ joined (restored (base_among reference packet k from done) (bodies_from packet r.at))
  pub few : k ≤ length (all_lengths reference packet)
  pub sizes : lengths ≡ front e (all_lengths reference packet) k
  pub sizes_rest : drop k (all_lengths reference packet) ≡ lengths_of (bodies_from packet r.at)

pub unpacks_none : {reference packet d e : List ℕ} (r : Reader) → r.packet.now ≡ packet → r.at ≡ 0 → records packet ≡ whole (inputs_of (records packet))
    → Unpacks reference packet d e r 0 0 0 d e
unpacks_none {reference} {packet} r held at sound =
    let good : records (drop r.at packet) ≡ whole (bodies_from packet r.at) = rw at sound in
    record {
      held = held;
      within = omega arith;
      good = good;
      ordered = omega arith;
      some = omega arith;
      bytes = refl;
      bytes_rest = rw at refl;
      few = omega arith;
      sizes = refl;
      sizes_rest = rw at (lengths_restored reference (inputs_of (records packet)));
    }

module _ {reference packet d e : List ℕ} {r : Reader} {k from done : ℕ} {out lengths : List ℕ} (s : Unpacks reference packet d e r k from done out lengths) where
  -- a whole record of this size stands at the place
  module _ (size : ℕ) (w : Whole size ≡ first_of (drop r.at r.packet.now)) where
    abbrev body : List ℕ
    body = take size (drop (r.at + 2) packet)

    abbrev later : List (List ℕ)
    later = bodies_from packet (r.at + (2 + size))

    next : Next (drop r.at packet) size
    next = reads_whole (drop r.at packet) size (ap (λ (l : List ℕ). first_of (drop r.at l)) (sym s.held) ∙ sym w)

    fits : r.at + (2 + size) ≤ length packet
    fits = omega (arith, next.fits, length-drop r.at packet)

    pub unpacks_fits : r.at + (2 + size) ≤ length r.packet.now
    unpacks_fits = rw s.held fits

    goes : records (drop r.at packet) ≡ after body (records (drop (r.at + (2 + size)) packet))
    goes =
        next.goes ∙ ap₂ (λ (l m : List ℕ). after (take size l) (records m)) (drop-drop 2 r.at packet) (drop-drop (2 + size) r.at packet)

    good_rest : records (drop (r.at + (2 + size)) packet) ≡ whole later
    good_rest = after_whole body (records (drop (r.at + (2 + size)) packet)) (bodies_from packet r.at) (sym goes ∙ s.good)

    bodies : bodies_from packet r.at ≡ body ∷ later
    bodies = ap inputs_of goes ∙ inputs_after body (records (drop (r.at + (2 + size)) packet)) good_rest

    long_body : length body ≡ size
    long_body = omega (arith, length-take size (drop (r.at + 2) packet), length-drop (r.at + 2) packet, fits)

    -- the next input, and the bytes of those after it
    abbrev input : List ℕ
    input = masked (base_among reference packet k from done) body

    long_input : length input ≡ size
    long_input = length_masked (base_among reference packet k from done) body ∙ long_body

    bytes_next : drop done (all_bytes reference packet) ≡ input ++ joined (restored input later)
    unfolding restored joined
    bytes_next = s.bytes_rest ∙ ap (λ (l : List (List ℕ)). joined (restored (base_among reference packet k from done) l)) bodies

    sizes_next : drop k (all_lengths reference packet) ≡ size ∷ lengths_of later
    unfolding lengths_of
    sizes_next = s.sizes_rest ∙ ap lengths_of bodies ∙ ap (λ (n : ℕ). n ∷ lengths_of later) long_body

    -- there is room for it
    room : done + size ≤ length (all_bytes reference packet)
    room =
        omega (
          arith,
          length-drop done (all_bytes reference packet),
          ap length bytes_next,
          length-append input (joined (restored input later)),
          long_input,
          s.some,
        )

    place : k < length (all_lengths reference packet)
    place = omega (arith, length-drop k (all_lengths reference packet), ap length sizes_next, s.few)

    module _ {b : List ℕ} (same : b ≡ take size (drop (r.at + 2) r.packet.now)) where
      is_body : b ≡ body
      is_body = same ∙ ap (λ (l : List ℕ). take size (drop (r.at + 2) l)) s.held

      pub unpacks_long : length b ≡ size
      unpacks_long = ap length is_body ∙ long_body

      module _ (space : length (joined (inputs_of (records packet))) ≤ length d) (places : length (inputs_of (records packet)) ≤ length e) where
        pub unpacks_room : done + length b ≤ length d
        unpacks_room = omega (arith, room, unpacks_long, joined_restored reference (inputs_of (records packet)))

        pub unpacks_place : k < length e
        unpacks_place = omega (arith, place, count_lengths (restored reference (inputs_of (records packet))), count_restored reference (inputs_of (records packet)))

        -- and is unpacked
        pub unpacks_turn : {earlier rest part base : List ℕ} → earlier ≡ take done out → rest ≡ drop done out
            → base ≡ base_at reference earlier k from (length earlier) → part ≡ over (masked base b) rest
            → Unpacks reference packet d e (record { packet = r.packet; at = r.at + (2 + length b) }) (k + 1) done (done + length b) (earlier ++ part) (set lengths k size)
        unpacks_turn {earlier} {rest} {part} {base} front_is rest_is base_is put =
            let all : List ℕ = all_bytes reference packet in
            let sizes : List ℕ = all_lengths reference packet in
            let many : length sizes ≤ length e =
            omega (arith, count_lengths (restored reference (inputs_of (records packet))), count_restored reference (inputs_of (records packet))) in
            let before : take done out ≡ take done all = ap (take done) s.bytes ∙ take_front d all done s.some in
            let far : length earlier ≡ done = ap length (front_is ∙ before) ∙ length-take-le done all s.some in
            let in_force : base ≡ base_among reference packet k from done =
            base_is ∙ ap₂ (λ (l : List ℕ) (n : ℕ). base_at reference l k from n) (front_is ∙ before) far in
            let written : part ≡ over input rest =
            put ∙ ap₂ (λ (l m : List ℕ). over (masked l m) rest) in_force is_body in
            let laid : earlier ++ part ≡ front d all (done + size) =
            ap₂ (λ (l m : List ℕ). l ++ m) front_is (written ∙ ap (over input) rest_is)
            ∙ ap (λ (o : List ℕ). take done o ++ over input (drop done o)) s.bytes
            ∙ front_grown d all input (joined (restored input later)) done s.some bytes_next
            ∙ ap (λ (n : ℕ). front d all (done + n)) long_input in
            let gap : done + size - done ≡ size = omega arith in
            let back : base_among reference packet (k + 1) done (done + size) ≡ input =
            base_after reference (take (done + size) all) k done (done + size)
            ∙ ap₂ (λ (n : ℕ) (l : List ℕ). take n l) gap (drop-take done size all ∙ ap (take size) bytes_next ∙ take_at input (joined (restored input later)) size long_input)
            ∙ take_all size input (omega (arith, long_input)) in
            let first : size ≡ get_or sizes k 0 =
            sym (ap (λ (l : List ℕ). get_or l 0 0) sizes_next) ∙ get_or-drop k sizes 0 0 ∙ ap (λ (n : ℕ). get_or sizes n 0) (add-zero k) in
            let P : ℕ → Type 0 =
            λ n. Unpacks reference packet d e (record { packet = r.packet; at = r.at + (2 + n) }) (k + 1) done (done + n) (earlier ++ part) (set lengths k size) in
            subst P (sym unpacks_long)
            (record {
              held = s.held;
              within = fits;
              good = good_rest;
              ordered = omega arith;
              some = room;
              bytes = laid;
              bytes_rest =
                  ap (λ (n : ℕ). drop (done + n) all) (sym long_input) ∙ front_rest all input (joined (restored input later)) done bytes_next
                  ∙ ap (λ (l : List ℕ). joined (restored l later)) (sym back);
              few = omega (arith, place);
              sizes = ap₂ (λ (l : List ℕ) (n : ℕ). set l k n) s.sizes first ∙ front_more e sizes k 0 place (omega (arith, place, many));
              sizes_rest = front_rest sizes (size ∷ []) (lengths_of later) k sizes_next;
            })

  -- at the end of the packet nothing is left
  module _ (none : bodies_from packet r.at ≡ []) where
    pub unpacks_bytes : out ≡ over (all_bytes reference packet) d
    unfolding restored joined
    unpacks_bytes =
        let all : List ℕ = all_bytes reference packet in
        let left : drop done all ≡ [] =
        s.bytes_rest ∙ ap (λ (l : List (List ℕ)). joined (restored (base_among reference packet k from done) l)) none in
        let every : done ≡ length all = omega (arith, s.some, length-drop done all, ap length left) in
        s.bytes ∙ ap (front d all) every ∙ front_all d all

    pub unpacks_lengths : lengths ≡ over (all_lengths reference packet) e
    unfolding lengths_of
    unpacks_lengths =
        let sizes : List ℕ = all_lengths reference packet in
        let left : drop k sizes ≡ [] = s.sizes_rest ∙ ap lengths_of none in
        let every : k ≡ length sizes = omega (arith, s.few, length-drop k sizes, ap length left) in
        s.sizes ∙ ap (front e sizes) every ∙ front_all e sizes

  -- which is where no whole record stands
  pub unpacks_ends : (f : Record) → f ≡ first_of (drop r.at r.packet.now) → ((n : ℕ) → f ≡ Whole n → ⊥) → bodies_from packet r.at ≡ []
  unpacks_ends f e t =
      ends (drop r.at packet) (bodies_from packet r.at) f (e ∙ ap (λ (l : List ℕ). first_of (drop r.at l)) s.held) t s.good
