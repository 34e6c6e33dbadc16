-- Laws of a call's fields, one at a time, and of a line by its cases. Assumes nothing.
use Prim.Native.Nat.{ℕ, zero, suc, ◌+◌, ◌<◌, ◌≤◌}
use native.Mathlib.Omega.{arith}
use native.Mathlib.Numerals.{add-one}
use mathlib.Core.Path.{◌≡◌, refl, sym, ◌∙◌}
use mathlib.Core.Bool.{Bool, true, false, ◌&&◌}
use mathlib.Core.Logic.{⊎_elim}
use Prim.{absurd}
use mathlib.Core.List.{List, [], ◌∷◌}
use lib.ListN.{length, get_or, set, take, drop}
use lib.Seq.{sets}
use lib.Dec.{leb, eqb, ltb}
use borrow.Author.Tests.{lt-ltb, le-ltb, le-leb, lt-leb, leb-true, eq-eqb, ne_eqb}
use Rattle.std.specs.Prelude.{Option, Some, None}
use Rattle.std.specs.List.{starts_with}
use Rattle.frame_info.specs.Choice.{pick}
use Rattle.frame_info.proofs.Split.{split_ltb, split_eqb}
use Rattle.sheet.specs.Answer.{Line, Call}
use Rattle.sheet.specs.Fields.{pieces, filled, fields_of}
use Rattle.sheet.specs.Steps.{ends_run, run_of, call_named}
use Rattle.sheet.specs.Calls.{Row, row, calls, row_count, place_of, no_row, kind_at, value_of, BAD, PASSED}
use Rattle.sheet.specs.Reading.{Reading, alone, before, fields_from, called, fields_read, reading_of, args_after}
use Rattle.sheet.proofs.Texts.{and_true}
use Rattle.sheet.proofs.Decoding.{both}
use Rattle.sheet.proofs.Fielding.{rest_starts, fields_first, fields_skip}

-- ---- the fields of a call, where f is the next and those of gs follow it

module _ (c : Call) (i : ℕ) (f : List ℕ) (fs gs : List (List ℕ)) (n : fs ≡ f ∷ gs) where
  module _ (kind : ℕ) (u : Option ℕ) (m : i < c.most) (k : kind ≡ kind_at c i) (w : u ≡ value_of kind f) where
    turn : fields_from c i fs ≡ before u (fields_from c (i + 1) gs)
    unfolding fields_from
    turn = rw (n, w, k) (simp (lt-ltb i c.most m))

    module _ (v : ℕ) (y : u ≡ Some v) where
      pub turn_line : (r : Line) → (fields_from c i fs).line ≡ r → (fields_from c (i + 1) gs).line ≡ r
      unfolding before
      turn_line r q = rw (turn, y) at q

      pub turn_values : (args r : List ℕ) → sets args i (fields_from c i fs).values ≡ r → sets (set args i v) (i + 1) (fields_from c (i + 1) gs).values ≡ r
      unfolding before
      turn_values args r q = rw (add-one i) (rw (turn, y, add-one i) at q)

    module _ (y : u ≡ None) where
      pub wrong_line : (r : Line) → (fields_from c i fs).line ≡ r → record { call = BAD; count = 0 } ≡ r
      unfolding before alone
      wrong_line r q = rw (turn, y) at q

      pub wrong_values : (args r : List ℕ) → sets args i (fields_from c i fs).values ≡ r → args ≡ r
      unfolding before alone
      wrong_values args r q = rw (turn, y) at q

  module _ (m : c.most ≤ i) where
    extra : fields_from c i fs ≡ alone BAD
    unfolding fields_from
    extra = rw n (simp (le-ltb i c.most m))

    pub extra_line : (r : Line) → (fields_from c i fs).line ≡ r → record { call = BAD; count = 0 } ≡ r
    unfolding alone
    extra_line r q = rw extra at q

    pub extra_values : (args r : List ℕ) → sets args i (fields_from c i fs).values ≡ r → args ≡ r
    unfolding alone
    extra_values args r q = rw extra at q

-- ---- where none is left

module _ (c : Call) (i : ℕ) (fs : List (List ℕ)) (n : fs ≡ []) where
  pub done_line : (number : ℕ) (r : Line) → number ≡ c.number → c.least ≤ i → (fields_from c i fs).line ≡ r → record { call = number; count = i } ≡ r
  unfolding fields_from
  done_line number r e m q = rw e (simp (le-leb c.least i m) at (rw n at q))

  pub missing_line : (r : Line) → i < c.least → (fields_from c i fs).line ≡ r → record { call = BAD; count = 0 } ≡ r
  unfolding fields_from alone
  missing_line r m q = simp (lt-leb c.least i m) at (rw n at q)

  pub done_values : (args r : List ℕ) → sets args i (fields_from c i fs).values ≡ r → args ≡ r
  unfolding fields_from alone
  done_values args r q = by (leb c.least i) (rw n at q)
    where
      by : (t : _) → sets args i (pick t (record { line = record { call = c.number; count = i }; values = [] }) (alone BAD)).values ≡ r → args ≡ r
      by true k = k
      by false k = k

pub ruleset calling = (turn_line, turn_values, wrong_line, wrong_values, extra_line, extra_values, done_line, missing_line, done_values)

-- ---- the call that a name has

-- no call has more fields than can be handed out
all_few : List Row → Bool
all_few [] = true
all_few (r ∷ rs) = leb r.call.most 2048 && all_few rs

all-few : all_few calls ≡ true
unfolding all_few calls row
all-few = refl

few_at : (rs : List Row) (k : ℕ) → all_few rs ≡ true → (get_or rs k no_row).call.most ≤ 2048
unfolding all_few
few_at [] k t = omega arith
few_at (r ∷ rs) zero t = leb-true r.call.most 2048 (both (leb r.call.most 2048) (all_few rs) t).0
few_at (r ∷ rs) (suc k) t = few_at rs k (both (leb r.call.most 2048) (all_few rs) t).1

module _ (name : List ℕ) where
  unnamed : None ≡ call_named name → (fs : List (List ℕ)) → called (place_of name calls) fs ≡ alone BAD
  unfolding call_named called
  unnamed e fs =
      ⊎_elim
      (λ w. let z = simp w.1 at e in absurd (cc))
      (λ w. simp w.1)
      (split_ltb (place_of name calls) row_count)

  module _ (c : Call) (e : Some c ≡ call_named name) where
    call_is : (ltb (place_of name calls) row_count ≡ true) × (c ≡ (get_or calls (place_of name calls) no_row).call)
    unfolding call_named
    call_is =
        ⊎_elim
        (λ w. let z = simp w.1 at e in (w.1, cc))
        (λ w. let z = simp w.1 at e in absurd (cc))
        (split_ltb (place_of name calls) row_count)

    named : (fs : List (List ℕ)) → called (place_of name calls) fs ≡ fields_from c 0 fs
    unfolding called
    named fs = rw (call_is.0, call_is.1)

    pub named_few : (room : ℕ) → 2048 ≤ room → c.most ≤ room
    named_few room h = let m : c.most ≤ 2048 = rw call_is.1 (few_at calls (place_of name calls) all-few) in omega arith

-- ---- a line

eqb_turn : (a b : ℕ) → eqb a b ≡ eqb b a
eqb_turn a b =
    ⊎_elim
    (λ w. w.1 ∙ sym (eq-eqb b a (sym w.0)))
    (λ w. w.1 ∙ sym (ne_eqb b a (λ k. w.0 (sym k))))
    (split_eqb a b)

-- a comment begins with `#`
marks : (f : List ℕ) → eqb (get_or f 0 0) 35 ≡ starts_with eqb f (35 ∷ [])
marks [] = refl
marks (b ∷ f) = eqb_turn b 35 ∙ sym (and_true (eqb 35 b))

pub long_is : (l : List ℕ) → 4096 < length l → reading_of l ≡ alone BAD
unfolding reading_of
long_is l h = simp (lt-ltb 4096 (length l) h)

module _ (l : List ℕ) (s : length l ≤ 4096) where
  pub empty_is : fields_of l ≡ [] → reading_of l ≡ alone PASSED
  unfolding reading_of fields_read
  empty_is n = simp (le-ltb 4096 (length l) s, n)

  module _ (f : List ℕ) (fs : List (List ℕ)) (n : fields_of l ≡ f ∷ fs) where
    first_is : reading_of l ≡ pick (starts_with eqb f (35 ∷ [])) (alone PASSED) (called (place_of f calls) fs)
    unfolding reading_of fields_read
    first_is = simp (le-ltb 4096 (length l) s, n, marks f)

    module _ (t : Bool) (e : t ≡ starts_with eqb f (35 ∷ [])) where
      pub comment_is : t ≡ true → reading_of l ≡ alone PASSED
      comment_is y = rw (first_is, ← e, y)

      module _ (y : t ≡ false) where
        pub unknown_is : None ≡ call_named f → reading_of l ≡ alone BAD
        unknown_is k = rw (first_is, ← e, y) (unnamed f k fs)

        pub known_is : (c : Call) → Some c ≡ call_named f → reading_of l ≡ fields_from c 0 fs
        known_is c k = rw (first_is, ← e, y) (named f c k fs)

-- A field begins as what it is taken from does, where no space stands there.
front : (b : ℕ) (s f : List ℕ) (fs : List (List ℕ)) → (b ≡ 32 → ⊥) → fields_of (b ∷ s) ≡ f ∷ fs → starts_with eqb f (35 ∷ []) ≡ starts_with eqb (b ∷ s) (35 ∷ [])
unfolding run_of ends_run
front b s f fs w n = by f (sym n ∙ simp (ne_eqb b 32 w) at (fields_first b s w))
  where
    by : (g : List ℕ) → g ∷ fs ≡ (b ∷ take (run_of false s) s) ∷ fields_of (drop (run_of false s) s) → starts_with eqb g (35 ∷ []) ≡ starts_with eqb (b ∷ s) (35 ∷ [])
    by [] z = absurd (cc)
    by (c ∷ g) z = let k : c ≡ b = cc in rw k

-- the same of what stands behind the spaces at a line's front: its first byte says whether it is a comment
module _ (l rest : List ℕ) (i : ℕ) (s : length l ≤ 4096) (a : i ≡ run_of true l) (d : rest ≡ drop i l) where
  skipped : fields_of l ≡ fields_of rest
  skipped = rw (d, a) (sym (fields_skip l))

  begins : 0 < length rest → get_or rest 0 0 ≡ 32 → ⊥
  begins = rw (d, a) (rest_starts l)

  pub rest_empty : fields_of rest ≡ [] → reading_of l ≡ alone PASSED
  rest_empty n = empty_is l s (skipped ∙ n)

  module _ (t : Bool) (e : t ≡ starts_with eqb rest (35 ∷ [])) where
    module _ (f : List ℕ) (fs : List (List ℕ)) (n : fields_of rest ≡ f ∷ fs) where
      same_front : t ≡ starts_with eqb f (35 ∷ [])
      unfolding fields_of pieces filled
      same_front = e ∙ sym (by rest begins n)
        where
          by : (r : List ℕ) → (0 < length r → get_or r 0 0 ≡ 32 → ⊥) → fields_of r ≡ f ∷ fs → starts_with eqb f (35 ∷ []) ≡ starts_with eqb r (35 ∷ [])
          by [] w m = absurd (cc)
          by (b ∷ r) w m = front b r f fs (w (omega arith)) m

      pub rest_unknown : t ≡ false → None ≡ call_named f → reading_of l ≡ alone BAD
      rest_unknown y k = unknown_is l s f fs (skipped ∙ n) t same_front y k

      pub rest_known : t ≡ false → (c : Call) → Some c ≡ call_named f → reading_of l ≡ fields_from c 0 fs
      rest_known y c k = known_is l s f fs (skipped ∙ n) t same_front y c k

    pub rest_comment : t ≡ true → reading_of l ≡ alone PASSED
    rest_comment y = by rest skipped begins (sym e ∙ y)
      where
        by : (r : List ℕ) → fields_of l ≡ fields_of r → (0 < length r → get_or r 0 0 ≡ 32 → ⊥) → starts_with eqb r (35 ∷ []) ≡ true → reading_of l ≡ alone PASSED
        by [] k w z = absurd (cc)
        by (b ∷ r) k w z =
            let g = fields_first b r (w (omega arith)) in
            comment_is l s _ _ (k ∙ g) true (sym (front b r _ _ (w (omega arith)) g ∙ z)) refl

module _ (l args : List ℕ) where
  -- a line that makes no call hands nothing out
  module _ (k : ℕ) (e : reading_of l ≡ alone k) where
    pub alone_line : record { call = k; count = 0 } ≡ (reading_of l).line
    unfolding alone
    alone_line = rw e

    pub alone_args : args ≡ args_after l args
    unfolding args_after alone
    alone_args = rw e

  -- a call's line and values are those of its fields
  module _ (q : Reading) (e : reading_of l ≡ q) where
    pub made_line : (r : Line) → r ≡ q.line → r ≡ (reading_of l).line
    made_line r a = rw e a

    pub made_args : (args' : List ℕ) → args' ≡ sets args 0 q.values → args' ≡ args_after l args
    unfolding args_after
    made_args args' a = rw e a

pub ruleset lines = (long_is, rest_empty, rest_comment, rest_unknown, rest_known, alone_line, alone_args, made_line, made_args)
