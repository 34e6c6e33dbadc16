-- Laws of the lists: the least and the lowest over the seats, and a frame's slot. Assumes nothing.
use Prim.Native.Nat.{ℕ, zero, suc, ◌+◌, ◌%◌, ◌/◌, ◌<◌, ◌≤◌, min}
use native.Mathlib.Omega.{arith}
use native.Mathlib.Numerals.{add-one}
use native.Mathlib.Nat.{div-add-mod, mod-lt, mul-le-mul_left}
use mathlib.Core.Path.{◌≡◌, refl, ap, ap₂, sym, ◌∙◌}
use mathlib.Core.Logic.{◌⊎◌, inl, inr, ⊎_elim, ◌≢◌}
use mathlib.Core.List.{List, [], ◌∷◌}
use Prim.{absurd}
use lib.ListN.{length, get_or, set}
use Rattle.frame_info.proofs.Split.{split_eqb, split_ltb}
use Rattle.console.specs.declared.Console.{Console}
use Rattle.sync_layer.specs.Lists.{write_row, lower, lowest_of}
use Rattle.sync_layer.specs.Seats.{max_seats}
use Rattle.sync_layer.specs.Slots.{max_limit, slot_words, served_from, slot_of, slot_at, state_in, save_slot}
use Rattle.sync_layer.specs.Whole.{SlotRoom}
use Rattle.sync_layer.proofs.Rows.{row_long, row_same, row_other}
use Rattle.desk.specs.Lists.{least_of}

-- a row of the same values
pub row_agree : {A : Type 0} (n : ℕ) (l : List A) (base : ℕ) (g h : ℕ → A) → ((s : ℕ) → s < n → g s ≡ h s) → write_row n l base g ≡ write_row n l base h
unfolding write_row
row_agree zero l base g h e = refl
row_agree {A} (suc n) l base g h e =
    ap₂ (λ (x : List A) (y : A). set x (base + n) y) (row_agree n l base g h (λ s x. e s (omega arith))) (e n (omega arith))

-- the least and the lowest ---------------------------------------------------------------------------------------------------------

pub least_le : (n : ℕ) (g : ℕ → ℕ) (s : ℕ) → s ≤ n → least_of n g ≤ g s
unfolding least_of
least_le zero g s h = let e : s ≡ 0 = omega arith in rw e (omega arith)
least_le (suc n) g s h =
    ⊎_elim
    (λ a. rw a.0 (omega arith))
    (λ a. omega (arith, least_le n g s (omega (arith, a.0))))
    (split_eqb s (suc n))

-- what the lower of two counts is
lower_cases : (a b : ℕ) → ((a ≡ 0) × (lower a b ≡ b)) ⊎ (((b ≡ 0) × (lower a b ≡ a)) ⊎ ((a ≢ 0) × (b ≢ 0) × (lower a b ≡ min a b)))
lower_cases a b =
    ⊎_elim
    (λ x. inl (x.0, simp x.1))
    (λ x. ⊎_elim (λ y. inr (inl (y.0, simp (x.1, y.1)))) (λ y. inr (inr (x.0, y.0, simp (x.1, y.1)))) (split_eqb b 0))
    (split_eqb a 0)

pub lowest_none : (n : ℕ) (g : ℕ → ℕ) → lowest_of n g ≡ 0 → (s : ℕ) → s < n → g s ≡ 0
unfolding lowest_of
lowest_none zero g e s h = absurd (omega arith)
lowest_none (suc n) g e s h =
    let k : (lowest_of n g ≡ 0) × (g n ≡ 0) = ⊎_elim
    (λ x. (x.0, omega (arith, x.1)))
    (λ x. ⊎_elim (λ y. (omega (arith, y.1), y.0)) (λ y. absurd (omega (arith, y.0, y.1, y.2))) x)
    (lower_cases (lowest_of n g) (g n)) in
    ⊎_elim (λ a. rw a.0 k.1) (λ a. lowest_none n g k.0 s (omega (arith, a.0))) (split_eqb s n)

pub lowest_le : (n : ℕ) (g : ℕ → ℕ) (s : ℕ) → s < n → g s ≢ 0 → lowest_of n g ≤ g s
unfolding lowest_of
lowest_le zero g s h z = absurd (omega arith)
lowest_le (suc n) g s h z =
    ⊎_elim
    (λ a.
    let z' : g n ≢ 0 = rw a.0 at z in
    rw a.0
    (⊎_elim (λ x. omega (arith, x.1)) (λ x. ⊎_elim (λ y. absurd (z' y.0)) (λ y. omega (arith, y.2)) x) (lower_cases (lowest_of n g) (g n))))
    (λ a.
    let k = lowest_le n g s (omega (arith, a.0)) z in
    ⊎_elim
    (λ x. absurd (z (lowest_none n g x.0 s (omega (arith, a.0)))))
    (λ x. ⊎_elim (λ y. omega (arith, y.1)) (λ y. omega (arith, y.2)) x)
    (lower_cases (lowest_of n g) (g n)))
    (split_eqb s n)

pub lowest_who : (n : ℕ) (g : ℕ → ℕ) → lowest_of n g ≢ 0 → (s : ℕ) × (s < n) × (g s ≡ lowest_of n g)
unfolding lowest_of
lowest_who zero g h = absurd (h refl)
lowest_who (suc n) g h =
    ⊎_elim
    (λ x. (n, omega arith, sym x.1))
    (λ x.
    ⊎_elim
    (λ y. let k = lowest_who n g (λ o. h (y.1 ∙ o)) in (k.0, omega (arith, k.1), k.2 ∙ sym y.1))
    (λ y.
    let k = lowest_who n g y.0 in
    ⊎_elim
    (λ v. (k.0, omega (arith, k.1), omega (arith, k.2, y.2, v.0)))
    (λ v. (n, omega arith, omega (arith, y.2, v.0)))
    (split_ltb (lowest_of n g) (g n)))
    x)
    (lower_cases (lowest_of n g) (g n))

-- the slots ------------------------------------------------------------------------------------------------------------------------

-- two frames at most limit apart do not share a slot
pub slots_apart : (L f c : ℕ) → f < c → c ≤ f + L → f % (L + 1) ≢ c % (L + 1)
slots_apart L f c x y e =
    ⊎_elim
    (λ a. omega (arith, div-add-mod f (L + 1), div-add-mod c (L + 1), mul-le-mul_left (L + 1) a.0))
    (λ a. omega (arith, div-add-mod f (L + 1), div-add-mod c (L + 1), mul-le-mul_left (L + 1) a.0))
    (split_ltb (f / (L + 1)) (c / (L + 1)))

-- the slot of frame c after its save and its words
module _ (L : ℕ) (l : List ℕ) (c : ℕ) (k : Console) (n : ℕ) (g : ℕ → ℕ) (few : n ≤ max_seats) (near : L ≤ max_limit) (room : SlotRoom l) where
  -- the numbers that a save writes
  abbrev saved : ℕ → ℕ
  saved j = get_or ((c + 1) ∷ k.head ∷ k.kind ∷ k.seal ∷ []) j 0

  abbrev framed_slots : List ℕ
  framed_slots = write_row n (save_slot L l c k) (slot_of L c + served_from) g

  in_room : slot_of L c + slot_words ≤ length l
  in_room = let h = mod-lt c {m = L + 1} (omega arith) in omega arith

  save_long : length (save_slot L l c k) ≡ length l
  unfolding save_slot
  save_long = row_long served_from l (slot_of L c) saved

  pub frame_long : length framed_slots ≡ length l
  frame_long = row_long n (save_slot L l c k) (slot_of L c + served_from) g ∙ save_long

  -- a number of another frame's slot
  pub frame_other : (f j : ℕ) → f % (L + 1) ≢ c % (L + 1) → j < slot_words → slot_at L framed_slots f j ≡ slot_at L l f j
  unfolding save_slot
  frame_other f j d h =
      row_other n (save_slot L l c k) (slot_of L c + served_from) g (slot_of L f + j) 0 (λ i x e. d (omega arith))
      ∙ row_other served_from l (slot_of L c) saved (slot_of L f + j) 0 (λ i x e. d (omega arith))

  -- what was saved
  frame_saved : (j : ℕ) → j < served_from → slot_at L framed_slots c j ≡ saved j
  unfolding save_slot
  frame_saved j h =
      row_other n (save_slot L l c k) (slot_of L c + served_from) g (slot_of L c + j) 0 (λ i x e. omega arith)
      ∙ row_same served_from l (slot_of L c) saved j 0 (omega (arith, in_room)) h

  pub frame_frame : slot_at L framed_slots c 0 ≡ suc c
  frame_frame = frame_saved 0 (omega arith) ∙ add-one c

  pub frame_state : state_in L framed_slots c ≡ k
  frame_state = λ i. record {
    head = frame_saved 1 (omega arith) i;
    kind = frame_saved 2 (omega arith) i;
    seal = frame_saved 3 (omega arith) i;
  }

  pub frame_word : (s : ℕ) → s < n → slot_at L framed_slots c (served_from + s) ≡ g s
  frame_word s h =
      let e : slot_of L c + (served_from + s) ≡ slot_of L c + served_from + s = omega arith in
      ap (λ (x : ℕ). get_or framed_slots x 0) e
      ∙ row_same n (save_slot L l c k) (slot_of L c + served_from) g s 0 (omega (arith, in_room, save_long)) h
