-- The desk's own numbers in a list, read back, and a row that is copied into one. Assumes nothing.
use Prim.{absurd}
use Prim.Native.Nat.{ℕ, zero, suc, ◌+◌, ◌-◌, ◌≤◌, ◌<◌}
use native.Mathlib.Omega.{arith}
use native.Mathlib.Nat.{zero-add}
use mathlib.Core.Path.{◌≡◌, refl, sym, ap, ◌∙◌}
use mathlib.Core.List.{List, ◌∷◌, ◌++◌}
use mathlib.Core.Logic.{⊎_elim}
use lib.IntN.{ℤ}
use lib.ListN.{length, get_or, set, take, drop}
use lib.Seq.{take-suc, drop-cons, set-append_seam}
use Rattle.std.proofs.lemmas.List.{length-take-le, append_assoc}
use Rattle.frame_info.specs.Frame.{count_of}
use Rattle.frame_info.specs.Refusal.{done, number_of}
use Rattle.frame_info.specs.declared.refusal.Refusal.{Refusal}
use Rattle.frame_info.proofs.Refusals.{number_some}
use Rattle.frame_info.proofs.Split.{split_eqb}
use Rattle.console.specs.declared.Console.{Console}
use Rattle.console.specs.Step.{start}
use Rattle.sync_layer.specs.Lists.{write_row}
use Rattle.sync_layer.proofs.Rows.{row_same}
use Rattle.desk.specs.declared.DeskState.{DeskState}
use Rattle.desk.specs.Answer.{Shown, Logged}
use Rattle.desk.specs.Desk.{Desk}
use Rattle.desk.specs.Calls as calls
use Rattle.desk.specs.Settled.{shown_word}
use Rattle.desk.proofs.Loops.{write_eq}
use Rattle.desk_face.specs.Lists.{state_words, numbers_of, desk_at, set_desk}

-- what was written is read back
pub desk_back : (l : List ℕ) (y : DeskState) → state_words ≤ length l → desk_at (set_desk l y) ≡ y
unfolding desk_at set_desk
desk_back l y p =
    let e : (k : ℕ) → k < state_words → get_or (write_row state_words l 0 (λ k. get_or (numbers_of y) k 0)) (0 + k) 0 ≡ get_or (numbers_of y) k 0
    = λ k q. row_same state_words l 0 (λ k. get_or (numbers_of y) k 0) k 0 (omega arith) q in
    rw (e 0 (omega arith), e 1 (omega arith), e 2 (omega arith), e 3 (omega arith), e 4 (omega arith), e 5 (omega arith), e 6 (omega arith))

-- the front of a row, copied to the front of a list
front_copied : (n : ℕ) (row out : List ℕ) → n ≤ length row → n ≤ length out → take n row ++ drop n out ≡ write_row n out 0 (λ i. get_or row i 0)
unfolding write_row
front_copied zero row out p q = refl
front_copied (suc n) row out p q =
    let e : length (take n row) ≡ n = length-take-le n row (omega arith) in
    let h : n < length row = omega arith in
    let k : n < length out = omega arith in
    let seam : set (take n row ++ (get_or out n 0 ∷ drop (suc n) out)) n (get_or row n 0) ≡ take n row ++ (get_or row n 0 ∷ drop (suc n) out)
    = rw e at (set-append_seam (take n row) (get_or out n 0) (drop (suc n) out) (get_or row n 0)) in
    rw (← front_copied n row out (omega arith) (omega arith), take-suc row n 0 h, drop-cons out n 0 k, zero-add, append_assoc) (sym seam)

pub row_copied : (n : ℕ) (front row out : List ℕ) → front ≡ take n row → n ≤ length row → n ≤ length out → front ++ drop n out ≡ write_row n out 0 (λ i. get_or row i 0)
row_copied n front row out e p q = rw e (front_copied n row out p q)

-- a row that was made on its own, copied into a list
row_moved : (n : ℕ) (made row out : List ℕ) (g : ℕ → ℕ) → made ≡ write_row n row 0 g → n ≤ length row → write_row n out 0 (λ i. get_or made i 0) ≡ write_row n out 0 g
row_moved n made row out g e h =
    write_eq n out 0 (λ i. get_or made i 0) g (λ i q. ap (λ (x : List ℕ). get_or x i 0) e ∙ rw zero-add at (row_same n row 0 g i 0 (omega (arith, h)) q))

-- and the words of a frame that is shown
pub words_moved : (d : Desk) (f : ℤ) (c : Console) (made row out : List ℕ) → record { no = done; console = c } ≡ calls.show_says d f → made ≡ calls.show_words d f row
    → d.state.seats ≤ length row → write_row d.state.seats out 0 (λ i. get_or made i 0) ≡ calls.show_words d f out
unfolding calls.show_says calls.show_words
words_moved d f c made row out a b h =
    ⊎_elim
    (λ w. simp w.1 (row_moved d.state.seats made row out (shown_word d (count_of f - 1)) (simp w.1 at b) h))
    (λ w. absurd (w.0 (sym (simp w.1 at (ap (λ (x : Shown). x.no) a)))))
    (split_eqb (calls.show_answer d (count_of f)) 0)

-- a frame that is not shown writes no words
pub words_kept : (d : Desk) (f : ℤ) (e : Refusal) (out : List ℕ) → record { no = number_of e; console = start } ≡ calls.show_says d f → calls.show_words d f out ≡ out
unfolding calls.show_says calls.show_words
words_kept d f e out a =
    ⊎_elim
    (λ w. absurd (number_some e (simp w.1 at (ap (λ (x : Shown). x.no) a))))
    (λ w. simp w.1)
    (split_eqb (calls.show_answer d (count_of f)) 0)

-- nor any bytes, where it is not logged
pub bytes_kept : (d : Desk) (f : ℤ) (e : Refusal) (out : List ℕ) → record { no = number_of e; count = 0 } ≡ calls.log_says d f out → calls.log_bytes d f out ≡ out
unfolding calls.log_says calls.log_bytes
bytes_kept d f e out a =
    ⊎_elim
    (λ w. absurd (number_some e (simp w.1 at (ap (λ (x : Logged). x.no) a))))
    (λ w. simp w.1)
    (split_eqb (calls.log_answer d (count_of f) (length out)) 0)
