-- What a reader may take from the definitions: which frames are settled, that a list which is not lent does not matter, and that the log
-- line's digits are its numbers. Assumes nothing.
use Prim.Native.Nat.{ℕ, zero, suc, ◌+◌, ◌*◌, ◌<◌, ◌^◌}
use native.Mathlib.Omega.{arith}
use native.Mathlib.Numerals.{add-one}
use mathlib.Core.Path.{◌≡◌, sym, ap, ◌∙◌}
use mathlib.Core.Bool.{true, true≢false}
use mathlib.Core.Logic.{◌⊎◌, inl, inr, ⊎_elim}
use Prim.{absurd}
use mathlib.Core.List.{List, [], ◌∷◌, ◌++◌, append_assoc}
use lib.ListN.{length, get_or, take, drop, length-append}
use lib.Seq.{take_at, drop-append-add}
use lib.Dec.{ltb, eqb}
use borrow.Author.Tests.{lt-ltb, le-leb}
use Rattle.frame_info.proofs.Split.{split_eqb, split_ltb, split_leb}
use Rattle.digits.specs.Digits.{word_text, word_of}
use Rattle.std.specs.Prelude.{Some}
use Rattle.digits.proofs.Bounds.{word_eight}
use Rattle.digits.proofs.RoundTrip.{word_back}
use Rattle.desk.specs.declared.DeskState.{DeskState}
use Rattle.desk.specs.Desk.{Desk, desk_of, known_of, mismatch_of, take_answer, taken}
use Rattle.desk.specs.Desk as m
use Rattle.desk.specs.Settled.{Settles, is_settled}
use Rattle.desk.specs.Line.{spaced, line_of}
use Rattle.desk.proofs.Lines.{spaced_append}

-- the test says what the record says
module _ (d : Desk) (f : ℕ) where
  pub settled_settles : is_settled d f ≡ true → Settles d f
  unfolding is_settled
  settled_settles e =
      ⊎_elim
      (λ a. ⊎_elim
      (λ b. ⊎_elim
      (λ c. record { past = a.0; slot = b.0; known = c.0; right = right (simp (a.1, b.1, c.1) at e) })
      (λ c. absurd (true≢false (sym e ∙ simp (a.1, b.1, c.1))))
      (split_ltb f (known_of d)))
      (λ b. absurd (true≢false (sym e ∙ simp (a.1, b.1))))
      (split_leb d.state.current (f + 1 + d.state.limit)))
      (λ a. absurd (true≢false (sym e ∙ simp a.1)))
      (split_ltb f d.state.current)
    where
      right : Rattle.frame_info.specs.Choice.pick (eqb (mismatch_of d) 0) true (ltb (f + 1) (mismatch_of d)) ≡ true → (mismatch_of d ≡ 0) ⊎ (f + 1 < mismatch_of d)
      right g =
          ⊎_elim
          (λ a. inl a.0)
          (λ a. ⊎_elim (λ b. inr b.0) (λ b. absurd (true≢false (sym g ∙ simp (a.1, b.1)))) (split_ltb (f + 1) (mismatch_of d)))
          (split_eqb (mismatch_of d) 0)

  pub settles_settled : Settles d f → is_settled d f ≡ true
  unfolding is_settled
  settles_settled h =
      simp (lt-ltb _ _ h.past, le-leb _ _ h.slot, lt-ltb _ _ h.known)
      (⊎_elim
      (λ a. ⊎_elim (λ b. simp b.1) (λ b. absurd (b.0 a)) (split_eqb (mismatch_of d) 0))
      (λ a. ⊎_elim (λ b. simp b.1) (λ b. simp (b.1, lt-ltb (f + 1) (mismatch_of d) a)) (split_eqb (mismatch_of d) 0))
      h.right)

-- a take looks at no slots, and leaves them
pub take_slots : (y : DeskState) (l w k : List ℕ) (s n x : ℕ)
    → m.take (desk_of y l w k) s n x ≡ desk_of y (m.take (desk_of y l w []) s n x).seats (m.take (desk_of y l w []) s n x).words k
unfolding m.take taken take_answer
take_slots y l w k s n x =
    ⊎_elim (λ a. simp a.1) (λ a. simp a.1) (split_eqb (take_answer (desk_of y l w []) s n) 0)

-- number k of a spaced row is 8 digits after its space
spaced_field : (l : List ℕ) (k : ℕ) (z : List ℕ) → k < length l → take 8 (drop (9 * k + 1) (spaced l ++ z)) ≡ word_text (get_or l k 0)
unfolding spaced
spaced_field [] k z h = absurd (omega arith)
spaced_field (w ∷ l) zero z h =
    rw (append_assoc (32 ∷ word_text w) (spaced l) z) (take_at (word_text w) (spaced l ++ z) 8 (word_eight w))
spaced_field (w ∷ l) (suc k) z h =
    let e : 9 * suc k + 1 ≡ length (32 ∷ word_text w) + (9 * k + 1) = omega (arith, word_eight w) in
    rw (append_assoc (32 ∷ word_text w) (spaced l) z, e, drop-append-add (32 ∷ word_text w) (spaced l ++ z) (9 * k + 1))
    (spaced_field l k z (omega arith))

-- the log line's numbers, in order: the frame, each seat's word, the seal
abbrev pub numbers_of : ℕ → List ℕ → ℕ → List ℕ
numbers_of f row seal = f ∷ (row ++ (seal ∷ []))

line_spaced : (f : ℕ) (row : List ℕ) (seal : ℕ) → spaced (numbers_of f row seal) ++ (10 ∷ []) ≡ 32 ∷ line_of f row seal
unfolding spaced line_of
line_spaced f row seal =
    append_assoc (32 ∷ word_text f) (spaced (row ++ (seal ∷ []))) (10 ∷ [])
    ∙ ap (λ (x : List ℕ). (32 ∷ word_text f) ++ (x ++ (10 ∷ []))) (spaced_append row (seal ∷ []))
    ∙ ap (λ (x : List ℕ). (32 ∷ word_text f) ++ x) (append_assoc (spaced row) (spaced (seal ∷ [])) (10 ∷ []))

-- number k stands in 8 digits from byte 9 * k on, and they read back as it
module _ (f : ℕ) (row : List ℕ) (seal k : ℕ) (h : k < length row + 2) where
  pub line_field : take 8 (drop (9 * k) (line_of f row seal)) ≡ word_text (get_or (numbers_of f row seal) k 0)
  line_field =
      let e : k < length (numbers_of f row seal) = omega (arith, length-append row (seal ∷ [])) in
      rw (line_spaced f row seal, add-one) at (spaced_field (numbers_of f row seal) k (10 ∷ []) e)

  pub line_back : get_or (numbers_of f row seal) k 0 < 2 ^ 32 → word_of (take 8 (drop (9 * k) (line_of f row seal))) ≡ Some (get_or (numbers_of f row seal) k 0)
  line_back g = rw line_field (word_back (get_or (numbers_of f row seal) k 0) g)
