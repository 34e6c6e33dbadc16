-- The log line: how it is written, how long it is, and that it reads back. Assumes nothing.
use Prim.Native.Nat.{ℕ, suc, ◌+◌, ◌*◌, ◌<◌, ◌≤◌}
use native.Mathlib.Omega.{arith}
use native.Mathlib.Numerals.{add-one}
use mathlib.Core.Path.{◌≡◌, refl, sym, ap, ap₂, ◌∙◌}
use mathlib.Core.List.{List, [], ◌∷◌, ◌++◌, append_assoc}
use lib.ListN.{length, get_or, set, take, length-append}
use lib.Seq.{sets, length-sets, take-suc}
use Rattle.std.proofs.lemmas.List.{length-take-le, take_all}
use Rattle.console.specs.declared.Console.{Console}
use Rattle.console.specs.Step.{step_of}
use Rattle.digits.specs.Digits.{word_text}
use Rattle.digits.proofs.Bounds.{word_eight}
use Rattle.desk.specs.declared.DeskState.{DeskState}
use Rattle.desk.specs.Desk.{desk_of}
use Rattle.desk.specs.Settled.{shown_words, shown_state}
use Rattle.desk.specs.Line.{spaced, line_of, line_length}
use Rattle.desk.specs.Calls as calls

-- two runs of stores, one after the other
pub sets_append : (a b l : List ℕ) (i : ℕ) → sets l i (a ++ b) ≡ sets (sets l i a) (i + length a) b
sets_append [] b l i = let e : i + 0 ≡ i = omega arith in rw e
sets_append (x ∷ a) b l i =
    let e : i + suc (length a) ≡ suc i + length a = omega arith in
    rw e (sets_append a b (set l i x) (suc i))

join : (o o₁ a b : List ℕ) (i n : ℕ) → o₁ ≡ sets o i a → n ≡ i + length a → sets o₁ n b ≡ sets o i (a ++ b)
join o o₁ a b i n e k = rw (e, k) (sym (sets_append a b o i))

pub spaced_append : (a b : List ℕ) → spaced (a ++ b) ≡ spaced a ++ spaced b
unfolding spaced
spaced_append [] b = refl
spaced_append (x ∷ a) b =
    ap (λ (r : List ℕ). (32 ∷ word_text x) ++ r) (spaced_append a b) ∙ sym (append_assoc (32 ∷ word_text x) (spaced a) (spaced b))

spaced_long : (l : List ℕ) → length (spaced l) ≡ 9 * length l
unfolding spaced
spaced_long [] = refl
spaced_long (w ∷ l) =
    length-append (32 ∷ word_text w) (spaced l) ∙ omega (arith, word_eight w, spaced_long l)

-- the row so far
pub record Spaced (at : ℕ) (l₀ row l : List ℕ) (next i : ℕ) : Type 0 where
  pub upto : i ≤ length row
  pub place : next ≡ at + 9 * i
  pub list : l ≡ sets l₀ at (spaced (take i row))
  pub long : length l ≡ length l₀

module _ (at : ℕ) (l₀ row : List ℕ) where
  pub row_start : Spaced at l₀ row l₀ at 0
  unfolding spaced
  row_start = record { upto = omega arith; place = omega arith; list = refl; long = refl }

  module _ (l : List ℕ) (next i : ℕ) (m : Spaced at l₀ row l next i) where
    pub row_room : i < length row → at + 9 * length row ≤ length l₀ → next + 9 ≤ length l
    row_room p r = omega (arith, m.place, m.long)

    pub row_turn : (r : ℕ) (l' : List ℕ) → i < length row → r ≡ next + 9 → l' ≡ sets l next (spaced (get_or row i 0 ∷ [])) → Spaced at l₀ row l' r (i + 1)
    row_turn r l' p b c =
        let w = get_or row i 0 in
        let n : length (take i row) ≡ i = length-take-le i row m.upto in
        let k : next ≡ at + length (spaced (take i row)) = omega (arith, m.place, n, spaced_long (take i row)) in
        record {
          upto = omega arith;
          place = omega (arith, m.place);
          list = rw (add-one, take-suc row i 0 p, spaced_append (take i row) (w ∷ []))
              (c ∙ rw (k, m.list) (sym (sets_append (spaced (take i row)) (spaced (w ∷ [])) l₀ at)));
          long = ap length c ∙ length-sets l next (spaced (w ∷ [])) ∙ m.long;
        }

    module _ (p : length row ≤ i) where
      all : i ≡ length row
      all = omega (arith, m.upto)

      pub row_next : next ≡ at + 9 * length row
      row_next = omega (arith, m.place, all)

      pub row_written : l ≡ sets l₀ at (spaced row)
      row_written = m.list ∙ ap (λ (x : List ℕ). sets l₀ at (spaced x)) (take_all i row p)

pub ruleset rows = (row_start, row_room, row_turn, row_next, row_written)

-- the whole line
pub line_long : (f : ℕ) (row : List ℕ) (seal : ℕ) → length (line_of f row seal) ≡ line_length (length row)
unfolding line_of
line_long f row seal =
    simp length-append (omega (arith, word_eight f, spaced_long row, spaced_long (seal ∷ [])))

module _ (y : DeskState) (m : List ℕ) (f : ℕ) (row o o₁ o₂ o₃ o₄ : List ℕ) (a b c : ℕ) (k : Console)
    (g : k ≡ shown_state step_of (desk_of y [] [] m) f) (h : row ≡ shown_words (desk_of y [] [] m) f)
    (a₁ : o₁ ≡ sets o 0 (word_text f)) (b₁ : a ≡ 0 + 8)
    (a₂ : o₂ ≡ sets o₁ a (spaced row)) (b₂ : b ≡ a + 9 * length row)
    (a₃ : o₃ ≡ sets o₂ b (spaced (k.seal ∷ []))) (b₃ : c ≡ b + 9)
    (a₄ : o₄ ≡ set o₃ c 10) where
  pub line_written : o₄ ≡ sets o 0 (calls.log_line (desk_of y [] [] m) f)
  unfolding line_of
  line_written =
      let end = spaced (k.seal ∷ []) in
      let n₁ : a ≡ 0 + length (word_text f) = omega (arith, word_eight f) in
      let n₂ : b ≡ a + length (spaced row) = omega (arith, spaced_long row) in
      let n₃ : c ≡ b + length end = omega (arith, spaced_long (k.seal ∷ [])) in
      a₄
      ∙ join o₂ o₃ end (10 ∷ []) b c a₃ n₃
      ∙ join o₁ o₂ (spaced row) (end ++ (10 ∷ [])) a b a₂ n₂
      ∙ join o o₁ (word_text f) (spaced row ++ (end ++ (10 ∷ []))) 0 a a₁ n₁
      ∙ ap₂ (λ (r : List ℕ) (x : Console). sets o 0 (line_of f r x.seal)) h g

pub ruleset lines = (line_written)
