-- Runs of calls on a desk from its setup, and the words that were accepted.
use Rattle.std.specs.Prelude.{ℕ, ◌≤◌, ◌<◌, List, [], ◌∷◌, ◌++◌, ◌⊎◌, ◌≡◌, length, get_or, eqb, ℤ}
use Rattle.frame_info.specs.Choice.{pick}
use Rattle.frame_info.specs.Frame.{max_delay, predictors, count_of}
use Rattle.console.specs.declared.Console.{Console}
use Rattle.sync_layer.specs.Seats.{max_seats}
use Rattle.sync_layer.specs.Slots.{max_limit}
use Rattle.sync_layer.specs.Whole.{SeatRoom, WordRoom, SlotRoom}
use Rattle.desk.specs.Desk.{Desk, Setup, setup_of, take_answer, take, settle, advance}

-- the calls that change a desk or may be refused; log's number is the room that it is lent
pub data Call : Type 0 where
  take_call : ℕ → ℤ → ℕ → Call
  settle_call : Call
  advance_call : Call
  show_call : ℤ → Call
  log_call : ℤ → ℕ → Call

module _ (step : Console → List ℕ → Console) (p : ℕ → ℕ) where
  unfoldable pub after : Desk → Call → Desk
  after d (take_call s f w) = take d s (count_of f) w
  after d settle_call = settle step p d
  after d advance_call = advance step p d
  after d (show_call f) = d
  after d (log_call f room) = d

  unfoldable pub run_from : Desk → List Call → Desk
  run_from d [] = d
  run_from d (x ∷ l) = run_from (after d x) l

  unfoldable pub run : Setup → List Call → Desk
  run u l = run_from (setup_of u) l

-- the word that a call adds to seat s's accepted words
unfoldable pub gained : Desk → Call → ℕ → List ℕ
gained d (take_call t f w) s = pick (eqb (take_answer d t (count_of f)) 0) (pick (eqb t s) (w ∷ []) []) []
gained d settle_call s = []
gained d advance_call s = []
gained d (show_call f) s = []
gained d (log_call f room) s = []

module _ (step : Console → List ℕ → Console) (p : ℕ → ℕ) where
  unfoldable pub accepted_from : Desk → List Call → ℕ → List ℕ
  accepted_from d [] s = []
  accepted_from d (x ∷ l) s = gained d x s ++ accepted_from (after step p d x) l s

  -- the words of seat s that were accepted, in order
  unfoldable pub accepted : Setup → List Call → ℕ → List ℕ
  accepted u l = accepted_from (setup_of u) l

-- one of two lists begins the other
unfoldable pub EitherBegins : List ℕ → List ℕ → Type 0
EitherBegins a b = ((x : List ℕ) × (b ≡ a ++ x)) ⊎ ((x : List ℕ) × (a ≡ b ++ x))

-- a setup that is not refused, with room in the lists
pub record Fit (u : Setup) : Type 0 where
  pub some_seat : 0 < length u.delays
  pub seats_in_range : length u.delays ≤ max_seats
  pub limit_in_range : u.limit ≤ max_limit
  pub delays-in-range : (s : ℕ) → s < length u.delays → get_or u.delays s 0 ≤ max_delay
  pub predictor_in_range : u.predictor < predictors
  pub seats_room : SeatRoom u.seats
  pub words_room : WordRoom u.words
  pub slots_room : SlotRoom u.slots
