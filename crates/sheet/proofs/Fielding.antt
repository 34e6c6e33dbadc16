-- Laws of fields: how far a run reaches, and the first field of what is left. Assumes nothing.
use Prim.Native.Nat.{ℕ, suc, ◌+◌, ◌<◌, ◌≤◌}
use native.Mathlib.Omega.{arith}
use Prim.{absurd}
use mathlib.Core.Path.{◌≡◌, refl, ap, sym, ◌∙◌}
use mathlib.Core.Bool.{Bool, true, false, not, cond}
use mathlib.Core.Logic.{⊎_elim}
use mathlib.Core.List.{List, [], ◌∷◌}
use lib.ListN.{length, get_or, take, drop}
use borrow.Author.Tests.{ne_eqb}
use Rattle.std.specs.Prelude.{Option, unwrap_or}
use Rattle.std.specs.List.{position, position_or_len}
use Rattle.frame_info.specs.Choice.{pick}
use Rattle.frame_info.proofs.Split.{split_eqb, split_ltb}
use Rattle.sheet.specs.Fields.{longer, pieces, filled, fields_of}
use Rattle.sheet.specs.Steps.{ends_run, run_of}

-- ---- how far a run reaches

pub run_within : (w : Bool) (s : List ℕ) → run_of w s ≤ length s
unfolding run_of
run_within w [] = omega arith
run_within w (b ∷ s) = by (ends_run b w) (run_within w s)
  where
    by : {m n : ℕ} (t : Bool) → m ≤ n → pick t 0 (suc m) ≤ suc n
    by true h = omega arith
    by false h = omega arith

-- a run ends at the first byte that ends it, if any does
first_end : (w : Bool) (s : List ℕ) → position_or_len (λ b. ends_run b w) s ≡ run_of w s
unfolding run_of
first_end w [] = refl
first_end w (b ∷ s) = by (ends_run b w) (first_end w s)
  where
    by : {m n : ℕ} (t : Bool) → m ≡ n → cond (not t) (1 + m) 0 ≡ pick t 0 (suc n)
    by true h = refl
    by false h = omega arith

pub run_found : (w : Bool) (s : List ℕ) (o : Option ℕ) (r : ℕ) → o ≡ position (λ b. ends_run b w) s → r ≡ unwrap_or o (length s) → r ≡ run_of w s
run_found w s o r e q =
    q ∙ ap (λ (x : Option ℕ). unwrap_or x (length s)) e
    ∙ ⊎_elim
    (λ k. simp k.1 (first_end w s))
    (λ k. simp k.1 (omega (arith, k.0, first_end w s, run_within w s)))
    (split_ltb (position_or_len (λ b. ends_run b w) s) (length s))

-- past a run of spaces stands none
pub rest_starts : (s : List ℕ) → 0 < length (drop (run_of true s) s) → get_or (drop (run_of true s) s) 0 0 ≡ 32 → ⊥
unfolding run_of ends_run
rest_starts [] = λ h e. omega arith
rest_starts (b ∷ s) =
    ⊎_elim
    (λ w. simp w.1 (rest_starts s))
    (λ w. simp w.1 (λ h e. w.0 e))
    (split_eqb b 32)

-- ---- fields

tail_of : List (List ℕ) → List (List ℕ)
tail_of [] = []
tail_of (p ∷ ps) = ps

tail_longer : (b : ℕ) (ps : List (List ℕ)) → tail_of (longer b ps) ≡ tail_of ps
unfolding tail_of longer
tail_longer b [] = refl
tail_longer b (p ∷ ps) = refl

-- the first piece is the run of bytes other than spaces
pieces_first : (s : List ℕ) → pieces s ≡ take (run_of false s) s ∷ tail_of (pieces s)
unfolding pieces run_of ends_run tail_of longer
pieces_first [] = refl
pieces_first (b ∷ s) =
    ⊎_elim
    (λ w. simp w.1)
    (λ w. simp w.1 (ap (longer b) (pieces_first s) ∙ ap (λ (ps : List (List ℕ)). (b ∷ take (run_of false s) s) ∷ ps) (sym (tail_longer b (pieces s)))))
    (split_eqb b 32)

-- and the others hold the fields after it
pieces_rest : (s : List ℕ) → filled (tail_of (pieces s)) ≡ fields_of (drop (run_of false s) s)
unfolding pieces run_of ends_run tail_of fields_of filled
pieces_rest [] = refl
pieces_rest (b ∷ s) =
    ⊎_elim
    (λ w. simp w.1)
    (λ w. simp w.1 (ap filled (tail_longer b (pieces s)) ∙ pieces_rest s))
    (split_eqb b 32)

pub fields_none : fields_of [] ≡ []
unfolding fields_of pieces filled
fields_none = refl

pub fields_first : (b : ℕ) (s : List ℕ) → (b ≡ 32 → ⊥) → fields_of (b ∷ s) ≡ take (run_of false (b ∷ s)) (b ∷ s) ∷ fields_of (drop (run_of false (b ∷ s)) (b ∷ s))
unfolding run_of ends_run filled fields_of
fields_first b s h =
    ap filled (pieces_first (b ∷ s))
    ∙ simp (ne_eqb b 32 h) (ap (λ (fs : List (List ℕ)). (b ∷ take (run_of false s) s) ∷ fs) (simp (ne_eqb b 32 h) at (pieces_rest (b ∷ s))))

pub fields_skip : (s : List ℕ) → fields_of (drop (run_of true s) s) ≡ fields_of s
unfolding run_of ends_run fields_of pieces filled
fields_skip [] = refl
fields_skip (b ∷ s) =
    ⊎_elim
    (λ w. simp w.1 (fields_skip s))
    (λ w. simp w.1)
    (split_eqb b 32)

-- where no space stands at the front
run_empty : (t : List ℕ) → (0 < length t → get_or t 0 0 ≡ 32 → ⊥) → length (take (run_of false t) t) ≡ 0 → t ≡ []
unfolding run_of ends_run
run_empty [] n h = refl
run_empty (b ∷ t) n h =
    let k : suc (length (take (run_of false t) t)) ≡ 0 = simp (ne_eqb b 32 (n (omega arith))) at h in
    absurd (omega arith)

run_some : (t : List ℕ) → (0 < length t → get_or t 0 0 ≡ 32 → ⊥) → (length (take (run_of false t) t) ≡ 0 → ⊥) → fields_of t ≡ take (run_of false t) t ∷ fields_of (drop (run_of false t) t)
unfolding run_of
run_some [] n h = absurd (h refl)
run_some (b ∷ t) n h = fields_first b t (n (omega arith))

-- the field that comes next, and what it leaves
module _ (s t f r : List ℕ) (i k : ℕ) (a : i ≡ run_of true s) (b : t ≡ drop i s) (c : k ≡ run_of false t) (d : f ≡ take k t) (e : r ≡ drop k t) where
  starts : 0 < length t → get_or t 0 0 ≡ 32 → ⊥
  starts = rw (b, a) (rest_starts s)

  skipped : fields_of s ≡ fields_of t
  skipped = rw (b, a) (sym (fields_skip s))

  none_left : length f ≡ 0 → t ≡ []
  none_left h = run_empty t starts (rw (d, c) at h)

  pub next_none : length f ≡ 0 → fields_of s ≡ []
  next_none h = skipped ∙ rw (none_left h) fields_none

  pub last_none : length f ≡ 0 → fields_of r ≡ []
  unfolding run_of
  last_none h = rw (e, c, none_left h) fields_none

  pub next_some : (length f ≡ 0 → ⊥) → fields_of s ≡ f ∷ fields_of r
  next_some h = skipped ∙ rw (d, e, c) (run_some t starts (rw (d, c) at h))

pub ruleset fielding = (run_within, next_none, last_none, next_some)
