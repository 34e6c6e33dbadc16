-- The same for the desk by value, from the contracts in src of `desk_value`: each is one equation for all that a method answers, the desk
-- inside.
use Rattle.std.specs.Prelude.{ℕ, List, [], ◌∷◌, ◌≡◌, ℤ, length}
use Rattle.frame_info.specs.Word.{predicted}
use Rattle.console.specs.Step.{step_of}
use Rattle.desk.specs.Answer.{Logged}
use Rattle.desk.specs.Calls.{log_says, log_bytes}
use Rattle.desk.specs.Runs.{Call, take_call, settle_call, advance_call, show_call, log_call, Fit}
use Rattle.desk_value.specs.declared.Desk.{Desk}
use Rattle.desk_value.specs.Answer.{OpenedDesk, TakenDesk, AdvancedDesk, ShownDesk}
use Rattle.desk_value.specs.declared.SettledDesk.{SettledDesk}
use Rattle.desk_value.specs.Value as held
use Rattle.agreement.specs.Statement.{run_of}
use Rattle.agreement.specs.Chain.{in_force, ShowRight, LogRight}

-- The contracts, with each `Result` as specs/Said.antt of `desk_value` reads it. A caller's desk is the one in the answer; show and log take a
-- copy.
pub record SetupMade (limit predictor : ℕ) (delays : List ℕ) (y : Desk) : Type 0 where
  pub answer : OpenedDesk
  pub promised : answer ≡ held.opened limit predictor delays
  pub desk : y ≡ answer.desk

pub record TakeMade (y : Desk) (s : ℕ) (f : ℤ) (w : ℕ) (z : Desk) : Type 0 where
  pub answer : TakenDesk
  pub promised : answer ≡ held.taken y s f w
  pub desk : z ≡ answer.desk

pub record SettleMade (y z : Desk) : Type 0 where
  pub answer : SettledDesk
  pub promised : answer ≡ held.settled y
  pub desk : z ≡ answer.desk

pub record AdvanceMade (y z : Desk) : Type 0 where
  pub answer : AdvancedDesk
  pub promised : answer ≡ held.advanced y
  pub desk : z ≡ answer.desk

pub record ShowMade (y : Desk) (f : ℤ) (z : Desk) : Type 0 where
  pub answer : ShownDesk
  pub promised : answer ≡ held.shown y f
  pub desk : z ≡ y

pub record LogMade (y : Desk) (f : ℤ) (room : ℕ) (z : Desk) : Type 0 where
  pub answer : Logged
  pub out : List ℕ
  pub out_after : List ℕ
  pub long : length out ≡ room
  pub says : answer ≡ log_says (held.lent y) f out
  pub writes : out_after ≡ log_bytes (held.lent y) f out
  pub desk : z ≡ y

unfoldable pub Made : Desk → Call → Desk → Type 0
Made y (take_call s f w) z = TakeMade y s f w z
Made y settle_call z = SettleMade y z
Made y advance_call z = AdvanceMade y z
Made y (show_call f) z = ShowMade y f z
Made y (log_call f room) z = LogMade y f room z

-- Each call presumes `Whole` of what it is given; a setup presumes nothing.
unfoldable pub Chain : Desk → List Call → Desk → Type 0
Chain y [] z = z ≡ y
Chain y (x ∷ l) z = (c : Desk) × (held.Whole y → Made y x c) × Chain c l z

-- A caller sets a desk up and makes the calls l: then it has z.
pub record Came (limit predictor : ℕ) (delays : List ℕ) (l : List Call) (z : Desk) : Type 0 where
  pub first : Desk
  pub set_up : SetupMade limit predictor delays first
  pub chain : Chain first l z

module _ (limit predictor : ℕ) (delays : List ℕ) (l : List Call) where
  -- With its lists lent, it is the desk of the run that the claims speak of, and the next call is given what it presumes.
  pub record Reaches (z : Desk) : Type 0 where
    pub fit : Fit (in_force (held.cleared limit predictor delays))
    pub run : held.lent z ≡ run_of step_of predicted (in_force (held.cleared limit predictor delays)) l
    pub presumed : held.Whole z

abbrev pub Reached : Type 0
Reached = (limit predictor : ℕ) (delays : List ℕ) (l : List Call) (z : Desk) → Came limit predictor delays l z
    → Reaches limit predictor delays l z

-- and show and log hand out the same; show's words stand in a list of blanks
abbrev pub ShownRight : Type 0
ShownRight = (limit predictor : ℕ) (delays : List ℕ) (l : List Call) (y : Desk) → Came limit predictor delays l y
    → (f : ℤ) (z : Desk) (m : ShowMade y f z)
    → ShowRight (in_force (held.cleared limit predictor delays)) l (held.lent y) f (record { no = m.answer.no; console = m.answer.console }) held.blanks m.answer.words

abbrev pub LoggedRight : Type 0
LoggedRight = (limit predictor : ℕ) (delays : List ℕ) (l : List Call) (y : Desk) → Came limit predictor delays l y
    → (f : ℤ) (room : ℕ) (z : Desk) (m : LogMade y f room z)
    → LogRight (in_force (held.cleared limit predictor delays)) l (held.lent y) f m.answer m.out m.out_after
