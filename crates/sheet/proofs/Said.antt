-- No two answers to a line read alike, so the promise of `read_line` determines its answer. Assumes nothing.
use Prim.Native.Nat.{ℕ}
use mathlib.Core.Path.{◌≡◌, refl, ap, sym, ◌∙◌}
use lib.Dec.{eqb}
use borrow.Author.Tests.{ne_eqb}
use Rattle.frame_info.specs.Choice.{pick}
use Rattle.std.specs.Prelude.{Option, Some, None, option_map}
use Rattle.std.specs.List.{find}
use Rattle.sheet.specs.declared.calls.QueueCall.TheVariants as queue
use Rattle.sheet.specs.declared.calls.LayerCall.TheVariants as layer
use Rattle.sheet.specs.declared.calls.SyncCall.TheVariants as sync
use Rattle.sheet.specs.declared.calls.DeltaCall.TheVariants as delta
use Rattle.sheet.specs.declared.calls.DeskCall.TheVariants as desk
use Rattle.sheet.specs.declared.calls.Call.{Call}
use Rattle.sheet.specs.declared.calls.Call.TheVariants.{Queue, Layer, Sync, Delta, Desk}
use Rattle.sheet.specs.declared.calls.TheConstants.{TABLE}
use Rattle.sheet.specs.declared.Line.{Line}
use Rattle.sheet.specs.declared.Line.TheVariants.{Passed, Bad, Asks}
use Rattle.sheet.specs.Answer as answer
use Rattle.sheet.specs.Calls.{PASSED, BAD}
use Rattle.sheet.specs.Said.{number_of_call, line_said}

-- the call of a number
call_of : ℕ → Option Call
call_of n = option_map (λ row. row.1) (find (λ row. eqb (number_of_call row.1) n) TABLE)

number_back : (c : Call) → call_of (number_of_call c) ≡ Some c
unfolding call_of
number_back (Queue queue.Open) = refl
number_back (Queue c) = refl
number_back (Layer layer.Open) = refl
number_back (Layer c) = refl
number_back (Sync sync.Open) = refl
number_back (Sync c) = refl
number_back (Delta delta.Pack) = refl
number_back (Delta c) = refl
number_back (Desk desk.Open) = refl
number_back (Desk c) = refl

-- and no call has the number of a line that makes none
other_number : (c : Call) (n : ℕ) → call_of n ≡ None → number_of_call c ≡ n → ⊥
other_number c n h e = let k = sym (number_back c) ∙ ap call_of e ∙ h in cc

-- what a line's numbers say
line_of : answer.Line → Option Line
line_of l = pick (eqb l.call PASSED) (Some Passed) (pick (eqb l.call BAD) (Some Bad) (option_map (λ c. Asks c l.count) (call_of l.call)))

line_back : (a : Line) → line_of (line_said a) ≡ Some a
unfolding line_of call_of
line_back Passed = refl
line_back Bad = refl
line_back (Asks c n) =
    simp (ne_eqb (number_of_call c) PASSED (other_number c PASSED refl), ne_eqb (number_of_call c) BAD (other_number c BAD refl))
    (ap (option_map (λ k. Asks k n)) (number_back c))

pub line_told : (a b : Line) → line_said a ≡ line_said b → a ≡ b
line_told a b e = let k = sym (line_back a) ∙ ap line_of e ∙ line_back b in cc
