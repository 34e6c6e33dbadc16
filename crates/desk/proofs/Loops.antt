-- The loops over the seats, and rows of words: what holds at the head of each. Assumes nothing.
use Prim.Native.Nat.{ℕ, zero, suc, ◌+◌, ◌-◌, ◌*◌, ◌<◌, ◌≤◌, min}
use native.Mathlib.Omega.{arith}
use native.Mathlib.Nat.{zero-add}
use native.Mathlib.Numerals.{add-one}
use mathlib.Core.Path.{◌≡◌, refl, sym, ap, ap₂, ◌∙◌}
use mathlib.Core.List.{List, [], ◌∷◌, ◌++◌}
use lib.ListN.{length, get_or, set, take, drop, length-append, length-drop, length-set}
use Rattle.std.proofs.lemmas.List.{get_or-drop, append_assoc}
use lib.Seq.{take-suc, drop-cons, set-append_seam}
use Rattle.sync_layer.specs.Lists.{write_row}
use Rattle.sync_layer.specs.Slots.{slot_of, slot_at}
use Rattle.sync_layer.specs.Whole.{SlotRoom}
use Rattle.desk.specs.declared.DeskState.{DeskState}
use Rattle.desk.specs.Lists.{least_of, row_of}
use Rattle.desk.specs.Desk.{desk_of}
use Rattle.desk.specs.Settled.{shown_word, shown_words}
use Rattle.desk.specs.Whole.{Ready}

-- the least so far
pub record Least (n : ℕ) (g : ℕ → ℕ) (m i : ℕ) : Type 0 where
  pub from : 1 ≤ i
  pub upto : i ≤ n
  pub is : m ≡ least_of (i - 1) g

module _ (n : ℕ) (g : ℕ → ℕ) where
  pub least_start : (m : ℕ) → 0 < n → m ≡ g 0 → Least n g m 1
  unfolding least_of
  least_start m h e = record { from = omega arith; upto = h; is = e }

  module _ (m i : ℕ) (a : Least n g m i) where
    pub least_turn : (w m' : ℕ) → i < n → w ≡ g i → m' ≡ min m w → Least n g m' (i + 1)
    unfolding least_of
    least_turn w m' p b d =
        let k : i + 1 - 1 ≡ suc (i - 1) = omega (arith, a.from) in
        let j : suc (i - 1) ≡ i = omega (arith, a.from) in
        record { from = omega arith; upto = omega arith; is = rw (k, j) (d ∙ ap₂ min a.is b) }

    pub least_end : n ≤ i → m ≡ least_of (n - 1) g
    least_end p = let e : n ≡ i = omega (arith, a.upto) in rw e a.is

pub ruleset leasts = (least_start, least_turn, least_end)

-- the row of values written so far, from the first place on
pub record Written (n : ℕ) (g : ℕ → ℕ) (l₀ l : List ℕ) (i : ℕ) : Type 0 where
  pub upto : i ≤ n
  pub list : l ≡ write_row i l₀ 0 g
  pub long : length l ≡ length l₀

module _ (n : ℕ) (g : ℕ → ℕ) (l₀ : List ℕ) where
  pub written_start : Written n g l₀ l₀ 0
  unfolding write_row
  written_start = record { upto = omega arith; list = refl; long = refl }

  module _ (l : List ℕ) (i : ℕ) (m : Written n g l₀ l i) where
    pub written_turn : (w : ℕ) → i < n → w ≡ g i → Written n g l₀ (set l i w) (i + 1)
    unfolding write_row
    written_turn w p e =
        record {
          upto = omega arith;
          list = rw (add-one, zero-add, e) (ap (λ (x : List ℕ). set x i (g i)) m.list);
          long = simp length-set m.long;
        }

    pub written_end : n ≤ i → l ≡ write_row n l₀ 0 g
    written_end p = let e : n ≡ i = omega (arith, m.upto) in rw e m.list

-- word i of a frame's slot, where the code finds it
pub slot_word : (limit : ℕ) (l : List ℕ) (f at i : ℕ) → at ≡ slot_of limit f → get_or l (at + 4 + i) 0 ≡ slot_at limit l f (4 + i)
slot_word limit l f at i e = let k : at + 4 + i ≡ slot_of limit f + (4 + i) = omega arith in rw k

-- two rows of the same values
pub row_eq : (n : ℕ) (g h : ℕ → ℕ) → ((k : ℕ) → k < n → g k ≡ h k) → row_of n g ≡ row_of n h
unfolding row_of
row_eq zero g h e = refl
row_eq (suc n) g h e =
    ap₂ (λ (x : List ℕ) (w : ℕ). x ++ (w ∷ [])) (row_eq n g h (λ k p. e k (omega arith))) (e n (omega arith))

pub write_eq : (n : ℕ) (l : List ℕ) (base : ℕ) (g h : ℕ → ℕ) → ((k : ℕ) → k < n → g k ≡ h k) → write_row n l base g ≡ write_row n l base h
unfolding write_row
write_eq zero l base g h e = refl
write_eq (suc n) l base g h e =
    ap₂ (λ (x : List ℕ) (w : ℕ). set x (base + n) w) (write_eq n l base g h (λ k p. e k (omega arith))) (e n (omega arith))

pub row_long : (n : ℕ) (g : ℕ → ℕ) → length (row_of n g) ≡ n
unfolding row_of
row_long zero g = refl
row_long (suc n) g = length-append (row_of n g) (g n ∷ []) ∙ omega (arith, row_long n g)

-- a row that is copied to the front
row_copied : (n : ℕ) (g : ℕ → ℕ) (o : List ℕ) → n ≤ length o → row_of n g ++ drop n o ≡ write_row n o 0 g
unfolding row_of write_row
row_copied zero g o p = refl
row_copied (suc n) g o p =
    let seam : set (row_of n g ++ (get_or o n 0 ∷ drop (suc n) o)) n (g n) ≡ row_of n g ++ (g n ∷ drop (suc n) o)
    = rw (row_long n g) at (set-append_seam (row_of n g) (get_or o n 0) (drop (suc n) o) (g n)) in
    rw (← row_copied n g o (omega arith), drop-cons o n 0 p, zero-add, append_assoc) (sym seam)

pub ruleset writing = (written_start, written_turn, written_end)

-- a part of a list is a row
pub part_row : (n : ℕ) (l : List ℕ) (a : ℕ) → a + n ≤ length l → take n (drop a l) ≡ row_of n (λ k. get_or l (a + k) 0)
unfolding row_of
part_row zero l a h = refl
part_row (suc n) l a h =
    take-suc (drop a l) n 0 (simp length-drop (omega arith))
    ∙ ap₂ (λ (x : List ℕ) (w : ℕ). x ++ (w ∷ [])) (part_row n l a (omega arith)) (get_or-drop a l n 0)

-- a frame's words, as the code finds them in its slot
module _ (y : DeskState) (l : List ℕ) (f : ℕ) where
  pub words_part : (at : ℕ) → Ready y → SlotRoom l → at ≡ slot_of y.limit f → at ≤ y.limit * 16
      → take (at + 4 + y.seats - (at + 4)) (drop (at + 4) l) ≡ shown_words (desk_of y [] [] l) f
  words_part at r room e w =
      let k : at + 4 + y.seats - (at + 4) ≡ y.seats = omega arith in
      rw k
      (part_row y.seats l (at + 4) (omega (arith, r.few, r.near))
      ∙ row_eq y.seats (λ i. get_or l (at + 4 + i) 0) (λ i. slot_at y.limit l f (4 + i)) (λ i p. slot_word y.limit l f at i e))

  words_long : (w : List ℕ) → w ≡ shown_words (desk_of y [] [] l) f → length w ≡ y.seats
  words_long w e = ap length e ∙ row_long y.seats (shown_word (desk_of y [] [] l) f)

  pub words_copied : (o w : List ℕ) → y.seats ≤ length o → w ≡ shown_words (desk_of y [] [] l) f
      → w ++ drop (length w) o ≡ write_row y.seats o 0 (shown_word (desk_of y [] [] l) f)
  words_copied o w p e =
      rw (words_long w e, e) (row_copied y.seats (shown_word (desk_of y [] [] l) f) o p)

pub ruleset words = (words_part, words_copied)
