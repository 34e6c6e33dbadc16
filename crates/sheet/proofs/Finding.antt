-- Laws of finding a call: where the table is the definition's, row for row, the first row of a name is that of its place. Assumes nothing.
use Prim.Native.Nat.{ℕ, suc, ◌+◌}
use native.Mathlib.Omega.{arith}
use native.Mathlib.Numerals.{add-one}
use mathlib.Core.Path.{◌≡◌, refl, ap, sym, ◌∙◌}
use Prim.{absurd}
use mathlib.Core.Bool.{Bool, true, false, cond, true≢false}
use mathlib.Core.Logic.{⊎_elim}
use mathlib.Core.List.{List, [], ◌∷◌, map}
use lib.ListN.{length, get_or}
use lib.Dec.{ltb, eqb}
use lib.Pointwise.{pointwise}
use denote.Ref.{Bor}
use borrow.Author.Tests.{lt-ltb, le-ltb}
use Rattle.std.specs.Prelude.{Option, Some, None, option_map}
use Rattle.std.specs.List.{find}
use Rattle.frame_info.specs.Choice.{pick}
use Rattle.frame_info.proofs.Split.{split_ltb}
use Rattle.sheet.specs.declared.calls.Call as declared_call
use Rattle.sheet.specs.declared.calls.Kind.{Kind}
use Rattle.sheet.specs.declared.calls.Row as declared_row
use Rattle.sheet.specs.Answer.{Call}
use Rattle.sheet.specs.Calls.{Row, calls, row_count, same_text, place_of, no_row}
use Rattle.sheet.specs.Said.{call_said}
use Rattle.sheet.specs.Steps.{call_named}
use Rattle.sheet.proofs.Texts.{same_bytes}

pub calls_count : length calls ≡ row_count
unfolding calls
calls_count = refl

abbrev pub Named : Type 0
Named = Bor (List ℕ) × declared_call.Call × ℕ × ℕ × List Kind

abbrev pub row_said : Named → Row
row_said r = record { name = r.0.now; call = call_said (record { call = r.1; least = r.2; most = r.3; kinds = r.4 }) }

abbrev pub has_name : List ℕ → Named → Bool
has_name name r = pointwise eqb r.0.now name

abbrev call_of : Named → Call
call_of r = (row_said r).call

-- the call of a name, if one of the rows has it
call_in : List Row → List ℕ → Option Call
call_in rs name = pick (ltb (place_of name rs) (length rs)) (Some (get_or rs (place_of name rs) no_row).call) None

ltb_more : (a b : ℕ) → ltb (a + 1) (suc b) ≡ ltb a b
ltb_more a b =
    ⊎_elim
    (λ w. lt-ltb (a + 1) (suc b) (omega (arith, w.0)) ∙ sym w.1)
    (λ w. le-ltb (a + 1) (suc b) (omega (arith, w.0)) ∙ sym w.1)
    (split_ltb a b)

first_is : (name : List ℕ) (rs : List Named) → option_map call_of (find (has_name name) rs) ≡ call_in (map row_said rs) name
unfolding call_in place_of
first_is name [] = refl
first_is name (r ∷ rs) = by (has_name name r) (same_text r.0.now name) (same_bytes r.0.now name) (first_is name rs)
  where
    by : (t u : Bool) → t ≡ u → option_map call_of (find (has_name name) rs) ≡ call_in (map row_said rs) name
        → option_map call_of (cond t (Some r) (find (has_name name) rs))
        ≡ pick (ltb (pick u 0 (place_of name (map row_said rs) + 1)) (suc (length (map row_said rs))))
        (Some (get_or (row_said r ∷ map row_said rs) (pick u 0 (place_of name (map row_said rs) + 1)) no_row).call)
        None
    by true true e k = rw (lt-ltb 0 (suc (length (map row_said rs))) (omega arith))
    by false false e k = rw (ltb_more (place_of name (map row_said rs)) (length (map row_said rs)), add-one) k
    by true false e k = absurd (true≢false e)
    by false true e k = absurd (true≢false (sym e))

through : (o : Option (Bor Named)) → option_map (λ x. call_of x.now) o ≡ option_map call_of (option_map (λ x. x.now) o)
through (Some x) = refl
through None = refl

pub row_found : (name : List ℕ) (rs : List Named) (o : Option (Bor Named)) (r : Option declared_row.Row) → map row_said rs ≡ calls → option_map (λ x. x.now) o ≡ find (has_name name) rs
    → option_map call_said r ≡ option_map (λ x. (row_said x.now).call) o
    → option_map call_said r ≡ call_named name
unfolding call_named call_in
row_found name rs o r e f g = g ∙ through o ∙ ap (option_map call_of) f ∙ first_is name rs ∙ ap (λ (xs : List Row). call_in xs name) e ∙ rw calls_count
