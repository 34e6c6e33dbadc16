-- Laws that no proof cites any more and that docs/PORT.md names. Their crates' proofs do without them; they hold, and stand here. Assumes nothing.
use Prim.Native.Nat.{ℕ, zero, suc, ◌+◌, ◌-◌, ◌*◌, ◌%◌, ◌<◌, ◌≤◌}
use Prim.{absurd}
use native.Mathlib.Nat.{zero-add, suc-add}
use native.Mathlib.Omega.{arith}
use native.Mathlib.Numerals.{add-one}
use mathlib.Core.Path.{◌≡◌, refl, ap, sym, ◌∙◌}
use mathlib.Core.Bool.{Bool, true, false, not, true≢false}
use mathlib.Core.Logic.{⊎_elim}
use mathlib.Core.List.{List, [], ◌∷◌, ◌++◌, append_assoc}
use lib.Dec.{T}
use lib.IntN.{ℤ, pos, negsuc, nat_abs}
use lib.ListN.{length, take, drop, set}
use lib.Seq.{sets, paste, paste-zero, take-nil, take-append-le, take_all, length-take-le}
use lib.Signed.{mag, lt_z, non_neg}
use mir.Syntax.{w32}
use mir.Val.{SFits}
use borrow.Author.Tests.{ltb-true, not-true}
use Rattle.frame_info.proofs.Split.{split_eqb, split_bool}
use Rattle.frame_info.specs.Choice.{pick}
use Rattle.frame_info.specs.Frame.{count_of}
use Rattle.compression.specs.Layout.{packed, split, total}
use Rattle.compression.specs.Inside.{base_at}
use Rattle.time_sync.specs.Sums.{residue}
use Rattle.time_sync.specs.Windows.{slot_of}
use Rattle.console.specs.Step.{start}
use Rattle.sync_layer.specs.Answer.{Opened}
use Rattle.sync_layer.specs.Calls as layer
use Rattle.desk.specs.declared.DeskState.{DeskState}
use Rattle.desk.specs.Desk.{desk_of, setup_state, take_answer}
use Rattle.desk.specs.Whole.{Whole, Seated}
use Rattle.desk.proofs.Kept.{Accepts, take_accepts}
use Rattle.desk_face.specs.Face.{Lent, Left, left, leaves}
use Rattle.cues_text.specs.Text.{standing_byte, standing_value}

-- ---- frame_info

-- a frame, by the test whether it is below 0
pub count_below : (z : ℤ) → lt_z z (pos 0) ≡ true → 0 ≡ count_of z
count_below (pos n) h = omega (arith, ltb-true n 0 h)
count_below (negsuc n) h = refl

pub not_below : (z : ℤ) → lt_z z (pos 0) ≡ false → T (non_neg z)
not_below (pos n) h = tt
not_below (negsuc n) h = absurd (true≢false h)

pub count_above : (z : ℤ) → lt_z z (pos 0) ≡ false → nat_abs z + 1 ≡ count_of z
count_above (pos n) h = refl
count_above (negsuc n) h = absurd (true≢false h)

pub nat_abs_above : (z : ℤ) → SFits w32 z → lt_z z (pos 0) ≡ false → nat_abs z < 2147483648
nat_abs_above (pos n) s h = s.sfits
nat_abs_above (negsuc n) s h = absurd (true≢false h)

-- ---- time_sync

pub residue_below : (z : ℤ) → SFits w32 z → lt_z z (pos 0) ≡ true → 4294967295 - mag z ≡ residue z
residue_below (pos n) f h = let k : n < 0 = ltb-true n 0 h in omega arith
residue_below (negsuc n) f h = omega (arith, f.sfits)

pub residue_above : (z : ℤ) → SFits w32 z → lt_z z (pos 0) ≡ false → nat_abs z ≡ residue z
residue_above (pos n) f h = omega (arith, f.sfits)
residue_above (negsuc n) f h = absurd (true≢false h)

-- the slot, by the frame's count
pub slot_none : (f : ℤ) (c : ℕ) → c ≡ count_of f → c ≡ 0 → 30 ≡ slot_of f
slot_none (pos n) c e z = absurd (omega arith)
slot_none (negsuc n) c e z = refl

pub slot_some : (f : ℤ) (c : ℕ) → c ≡ count_of f → (c ≡ 0 → ⊥) → (c - 1) % 30 ≡ slot_of f
slot_some (pos n) c e z = omega arith
slot_some (negsuc n) c e z = absurd (z e)

-- ---- compression

module _ {A : Type 0} where
  take_drop : (m n : ℕ) (l : List A) → take n (drop m l) ≡ drop m (take (m + n) l)
  take_drop zero n l = rw zero-add
  take_drop (suc m) n [] = take-nil n ∙ ap (drop (suc m)) (sym (take-nil (suc m + n)))
  take_drop (suc m) n (x ∷ l) = rw suc-add (take_drop m n l)

  -- two lists that are the same up to an end are the same in a part before it
  pub same_part : (from upto : ℕ) (l m : List A) → from ≤ upto → take upto l ≡ take upto m
      → take (upto - from) (drop from l) ≡ take (upto - from) (drop from m)
  same_part from upto l m h e =
      let k : from + (upto - from) ≡ upto = omega arith in
      take_drop from (upto - from) l
      ∙ ap (λ (n : ℕ). drop from (take n l)) k ∙ ap (drop from) e ∙ ap (λ (n : ℕ). drop from (take n m)) (sym k)
      ∙ sym (take_drop from (upto - from) m)

  -- what is before a run stays
  pub before_paste : (d : List A) (at : ℕ) (s : List A) (n : ℕ) → at ≤ length d → take at (paste d at s n) ≡ take at d
  before_paste d at s n h =
      let e : length (take at d) ≡ at = length-take-le at d h in
      rw (append_assoc, take-append-le at (take at d) (take n s ++ drop (at + n) d) (omega arith)) (take_all at (take at d) (omega arith))

-- a loop that lays a run, after i of its n turns
pub record Laid (d : List ℕ) (at : ℕ) (s out : List ℕ) (i n : ℕ) : Type 0 where
  pub same : out ≡ paste d at s i
  pub long : length out ≡ length d
  pub some : i ≤ n

-- the base is before what is laid, so it stays
pub base_kept : (reference d out : List ℕ) (k from at : ℕ) → from ≤ at → take at out ≡ take at d
    → base_at reference out k from at ≡ base_at reference d k from at
base_kept reference d out k from at h e =
    ⊎_elim (λ w. simp w.1) (λ w. simp w.1 (same_part from at out d h e)) (split_eqb k 0)

pub base_laid : {d : List ℕ} {at : ℕ} {s out : List ℕ} {i n : ℕ} (reference : List ℕ) (k from : ℕ) → Laid d at s out i n → from ≤ at → at ≤ length d
    → base_at reference out k from at ≡ base_at reference d k from at
base_laid {d} {at} {s} {out} {i} reference k from l h m =
    base_kept reference d out k from at h (ap (take at) l.same ∙ before_paste d at s i m)

-- the base that is found while bytes are laid reaches as far as the one at the start
pub unmask_reach : {d : List ℕ} {at : ℕ} {s out : List ℕ} {i n : ℕ} (reference : List ℕ) (k from : ℕ) (b : List ℕ) → Laid d at s out i n
    → from ≤ at → at ≤ length d → n ≤ length (base_at reference d k from at) → i < n → b ≡ base_at reference out k from at → i < length b
unmask_reach reference k from b l h m p t e = omega (arith, ap length (e ∙ base_laid reference k from l h m))

-- after i lengths, what is left of n
pub record Summed (l : List ℕ) (n rest i : ℕ) : Type 0 where
  pub few : i ≤ length l
  pub sum : total l + rest ≡ n + total (drop i l)

pub summed_none : (l : List ℕ) (n : ℕ) → Summed l n n 0
summed_none l n = record { few = omega arith; sum = omega arith }

module _ (reference pending lengths d : List ℕ) where
  abbrev pub whole_packet : List ℕ
  whole_packet = packed reference (split lengths pending)

  -- k inputs have been packed; the next starts at `at`, the one before at `from`
  pub record Packs (from at k : ℕ) (out : List ℕ) : Type 0 where
    pub ordered : from ≤ at
    pub few : k ≤ length lengths
    pub sum : at + total (drop k lengths) ≡ length pending
    pub laid : out ≡ paste d 0 whole_packet (at + 2 * k)
    pub rest : drop (at + 2 * k) whole_packet ≡ packed (base_at reference pending k from at) (split (drop k lengths) (drop at pending))
    pub long : length out ≡ length d

  module _ (sums : total lengths ≡ length pending) (room : length pending + 2 * length lengths ≤ length d) where
    pub packs_none : Packs 0 0 0 d
    packs_none =
        record { ordered = omega arith; few = omega arith; sum = omega arith; laid = paste-zero d 0 whole_packet; rest = refl; long = refl }

-- ---- desk

-- what a setup leaves, from what the layer's answers
module _ (limit p : ℕ) (delays l m : List ℕ) (o : Opened) (e : o ≡ layer.opened limit p delays) where
  pub fresh-state : record { seats = o.layer.num_players; limit = o.layer.max_prediction; predictor = o.layer.predictor; current = 0; console = start } ≡ setup_state limit p delays
  unfolding setup_state layer.opened
  fresh-state = rw e (⊎_elim (λ (a : layer.fits limit p delays ≡ true). simp a) (λ (a : layer.fits limit p delays ≡ false). simp a) (split_bool (layer.fits limit p delays)))

-- a seat whose word is taken has its numbers in the list
module _ (y : DeskState) (l : List ℕ) (s c n : ℕ) (g : n ≡ take_answer (desk_of y l [] []) s c) (z : n ≡ 0) (h : Seated y l) where
  pub take-room : (s + 1) * 8 ≤ length l
  take-room =
      let free : Accepts (desk_of y l [] []) s c = take_accepts (desk_of y l [] []) s c (sym g ∙ z) in
      omega (arith, free.here, h.ready.few, h.room)

-- ---- desk_face

module _ (room : Bool) (l : Lent) (x : Left) (t : Bool) (e : t ≡ room) (more : Bool) where
  pub short_first : not t ≡ true → left 20 l ≡ leaves (pick room more false) l x
  short_first h = let q : room ≡ false = sym e ∙ not-true t h in simp q

-- the desk that was read, y, is the one in the list, z
module _ (y z : DeskState) (e : y ≡ z) where
  pub at_room : (n : ℕ) → z.seats ≤ n → y.seats ≤ n
  at_room n h = rw e h

  pub at_whole : (l w m : List ℕ) → Whole (desk_of z l w m) → Whole (desk_of y l w m)
  at_whole l w m h = rw e h

-- ---- cues_text

module _ (l l₁ : List ℕ) (at e : ℕ) (a : e ≡ at + 1) (b : l₁ ≡ set l at 32) where
  pub standing_list : (s : Bool) (w : ℕ) (r : List ℕ) → w ≡ standing_byte s → r ≡ set l₁ e w → r ≡ sets l at (standing_value s)
  standing_list s w r d c = c ∙ rw (a, b, d, add-one)
