-- From the code to the claims. A caller sets a desk up and makes calls. What each call does is what its contract promises, in src of `desk`:
-- where the desk and the lists that it is lent are as it presumes, its answer and the lists that it may write are as it says. Below, each
-- contract stands as a record, equation by equation, with the call's `Result` as specs/Said.antt of `desk` reads it. A list that a call is not
-- lent stands as [] in its contract, and stays as it was.
use Rattle.std.specs.Prelude.{ℕ, ◌+◌, ◌≤◌, ◌<◌, List, [], ◌∷◌, ◌≡◌, eqb, ℤ, pos, negsuc, length, get_or}
use Rattle.std.proofs.lemmas.List.Edits.{sets}
use Rattle.frame_info.specs.Choice.{pick}
use Rattle.frame_info.specs.Frame.{count_of}
use Rattle.frame_info.specs.Word.{predicted}
use Rattle.frame_info.specs.Refusal.{done, frame_below_zero, no_room_for_bytes, not_settled}
use Rattle.console.specs.declared.Console.{Console}
use Rattle.console.specs.Step.{start, step_of}
use Rattle.sync_layer.specs.Lists.{write_row}
use Rattle.sync_layer.specs.Whole.{SeatRoom, WordRoom, SlotRoom}
use Rattle.desk.specs.Answer.{Opened, Taken, Advanced, Shown, Logged}
use Rattle.desk.specs.declared.Settled.{Settled}
use Rattle.desk.specs.Desk.{Desk, Setup, desk_of, setup_with, setup_of, take, advance_answer}
use Rattle.desk.specs.Settled.{Settles}
use Rattle.desk.specs.Line.{line_of, line_length}
use Rattle.desk.specs.Calls.{setup_answer, take_says, report_of, settle_of, advance_report, advance_of, advance_served, advance_statuses, show_says, show_words, log_says, log_bytes}
use Rattle.desk.specs.Runs.{Call, take_call, settle_call, advance_call, show_call, log_call, Fit}
use Rattle.desk.specs.Whole.{Seated, Whole}
use Rattle.agreement.specs.Reference.{ref_word, ref_row, state_before}
use Rattle.agreement.specs.Statement.{run_of, accepted_of}

-- The contracts -----------------------------------------------------------------------------------------------------------------

-- Setup is given u and leaves the caller with desk d.
pub record SetupMade (u : Setup) (d : Desk) : Type 0 where
  pub answer : Opened
  pub number : answer.no ≡ setup_answer u.limit u.predictor u.delays
  pub promised : desk_of answer.desk d.seats [] d.slots ≡ setup_of (setup_with u.limit u.predictor u.delays u.seats [] u.slots)
  pub state : d.state ≡ answer.desk
  pub words : d.words ≡ u.words

-- From here on, d is the desk that a caller has before a call, and e the one after it.
pub record TakeMade (d : Desk) (s : ℕ) (f : ℤ) (w : ℕ) (e : Desk) : Type 0 where
  pub answer : Taken
  pub says : answer ≡ take_says (desk_of d.state d.seats d.words []) s f
  pub promised : desk_of d.state e.seats e.words [] ≡ take (desk_of d.state d.seats d.words []) s (count_of f) w
  pub state : e.state ≡ d.state
  pub slots : e.slots ≡ d.slots

pub record SettleMade (d : Desk) (e : Desk) : Type 0 where
  pub answer : Settled
  pub report : answer.report ≡ report_of (desk_of d.state d.seats d.words d.slots)
  pub promised : desk_of answer.desk e.seats d.words e.slots ≡ settle_of (desk_of d.state d.seats d.words d.slots)
  pub state : e.state ≡ answer.desk
  pub words : e.words ≡ d.words

-- `served` and `statuses` are lent beside the desk's lists
pub record AdvanceMade (d : Desk) (e : Desk) : Type 0 where
  pub answer : Advanced
  pub served : List ℕ
  pub statuses : List ℕ
  pub served_after : List ℕ
  pub statuses_after : List ℕ
  pub number : answer.no ≡ advance_answer (desk_of d.state d.seats d.words d.slots)
  pub report : answer.report ≡ advance_report (desk_of d.state d.seats d.words d.slots)
  pub promised : desk_of answer.desk e.seats d.words e.slots ≡ advance_of (desk_of d.state d.seats d.words d.slots)
  pub serves : served_after ≡ advance_served (desk_of d.state d.seats d.words d.slots) served
  pub stands : statuses_after ≡ advance_statuses (desk_of d.state d.seats d.words d.slots) statuses
  pub state : e.state ≡ answer.desk
  pub words : e.words ≡ d.words

-- Show and log write to `out` alone, and change no desk.
pub record ShowMade (d : Desk) (f : ℤ) (e : Desk) : Type 0 where
  pub answer : Shown
  pub out : List ℕ
  pub out_after : List ℕ
  pub says : answer ≡ show_says (desk_of d.state d.seats [] d.slots) f
  pub writes : out_after ≡ show_words (desk_of d.state d.seats [] d.slots) f out
  pub desk : e ≡ d

pub record LogMade (d : Desk) (f : ℤ) (room : ℕ) (e : Desk) : Type 0 where
  pub answer : Logged
  pub out : List ℕ
  pub out_after : List ℕ
  pub long : length out ≡ room
  pub says : answer ≡ log_says (desk_of d.state d.seats [] d.slots) f out
  pub writes : out_after ≡ log_bytes (desk_of d.state d.seats [] d.slots) f out
  pub desk : e ≡ d

-- what a call presumes,
unfoldable pub Presumes : Desk → Call → Type 0
Presumes d (take_call s f w) = Seated d.state d.seats × WordRoom d.words
Presumes d settle_call = Whole d
Presumes d advance_call = Whole d
Presumes d (show_call f) = Seated d.state d.seats × SlotRoom d.slots
Presumes d (log_call f room) = Seated d.state d.seats × SlotRoom d.slots

-- and what it promises
unfoldable pub Made : Desk → Call → Desk → Type 0
Made d (take_call s f w) e = TakeMade d s f w e
Made d settle_call e = SettleMade d e
Made d advance_call e = AdvanceMade d e
Made d (show_call f) e = ShowMade d f e
Made d (log_call f room) e = LogMade d f room e

-- Chains of calls ---------------------------------------------------------------------------------------------------------------

-- Any calls, refused ones included, lead from d to e: each keeps its contract, on the desk that the one before it left.
unfoldable pub Chain : Desk → List Call → Desk → Type 0
Chain d [] e = e ≡ d
Chain d (x ∷ l) e = (c : Desk) × (Presumes d x → Made d x c) × Chain c l e

-- A caller has three lists with room, sets a desk up by u, and makes the calls l: then it has e.
pub record Came (u : Setup) (l : List Call) (e : Desk) : Type 0 where
  pub seats_room : SeatRoom u.seats
  pub words_room : WordRoom u.words
  pub slots_room : SlotRoom u.slots
  pub first : Desk
  pub set_up : SeatRoom u.seats × SlotRoom u.slots → SetupMade u first
  pub chain : Chain first l e

-- A refused setup hands back a fresh desk of one seat with limit, delay and predictor 0: the desk of this setup.
abbrev pub one_seat : Setup → Setup
one_seat u = setup_with 0 0 (0 ∷ []) u.seats u.words u.slots

-- the setup in force
unfoldable pub in_force : Setup → Setup
in_force u = pick (eqb (setup_answer u.limit u.predictor u.delays) 0) u (one_seat u)

-- So the caller has the desk of the run that the claims speak of, from a setup that fits, and whichever call comes next is given what it
-- presumes.
pub record Reaches (u : Setup) (l : List Call) (e : Desk) : Type 0 where
  pub fit : Fit (in_force u)
  pub run : e ≡ run_of step_of predicted (in_force u) l
  pub presumed : (x : Call) → Presumes e x

abbrev pub Reached : Type 0
Reached = (u : Setup) (l : List Call) (e : Desk) → Came u l e → Reaches u l e

-- What a caller sees ------------------------------------------------------------------------------------------------------------

module _ (u : Setup) (l : List Call) where
  -- the word of seat s at frame n, the row of frame n, and the console after it, as the desk that never guesses has them
  abbrev pub word_for : ℕ → ℕ → ℕ
  word_for n s = ref_word (get_or u.delays s 0) (accepted_of step_of predicted u l s) n

  abbrev pub row_for : ℕ → List ℕ
  row_for n = ref_row u.delays (accepted_of step_of predicted u l) n

  abbrev pub console_after : ℕ → Console
  console_after n = state_before start step_of row_for (n + 1)

  -- Show answers 7 for a frame below 0, 0 for one that is settled, and 21 for any other. A settled frame's words and console are those.
  pub record ShowRight (d : Desk) (f : ℤ) (answer : Shown) (out out_after : List ℕ) : Type 0 where
    pub below : (n : ℕ) → f ≡ negsuc n → answer.no ≡ frame_below_zero
    pub not-settled : (n : ℕ) → f ≡ pos n → (Settles d n → ⊥) → answer.no ≡ not_settled
    pub settled : (n : ℕ) → f ≡ pos n → Settles d n → answer.no ≡ done
    pub words : (n : ℕ) → f ≡ pos n → Settles d n → out_after ≡ write_row (length u.delays) out 0 (word_for n)
    pub console : (n : ℕ) → f ≡ pos n → Settles d n → answer.console ≡ console_after n

  -- Log answers the same, and 20 where the line of a settled frame does not fit; else it writes that line.
  pub record LogRight (d : Desk) (f : ℤ) (answer : Logged) (out out_after : List ℕ) : Type 0 where
    pub below : (n : ℕ) → f ≡ negsuc n → answer.no ≡ frame_below_zero
    pub not-settled : (n : ℕ) → f ≡ pos n → (Settles d n → ⊥) → answer.no ≡ not_settled
    pub narrow : (n : ℕ) → f ≡ pos n → Settles d n → length out < line_length (length u.delays) → answer.no ≡ no_room_for_bytes
    pub settled : (n : ℕ) → f ≡ pos n → Settles d n → line_length (length u.delays) ≤ length out → answer.no ≡ done
    pub line : (n : ℕ) → f ≡ pos n → Settles d n → line_length (length u.delays) ≤ length out
        → out_after ≡ sets out 0 (line_of n (row_for n) (console_after n).seal)

abbrev pub ShownRight : Type 0
ShownRight = (u : Setup) (l : List Call) (d : Desk) → Came u l d → (f : ℤ) (e : Desk) (m : ShowMade d f e)
    → ShowRight (in_force u) l d f m.answer m.out m.out_after

abbrev pub LoggedRight : Type 0
LoggedRight = (u : Setup) (l : List Call) (d : Desk) → Came u l d → (f : ℤ) (room : ℕ) (e : Desk) (m : LogMade d f room e)
    → LogRight (in_force u) l d f m.answer m.out m.out_after
