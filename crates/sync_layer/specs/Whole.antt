-- What a call presumes of a layer: bounds that a setup gives and that every call keeps. Each call asks for the lists that it is lent.
use Rattle.std.specs.Prelude.{ℕ, suc, ◌≡◌, ◌+◌, ◌*◌, ◌≤◌, ◌<◌, Bool, List, length, ℤ}
use Rattle.frame_info.specs.Frame.{last_count, predictors}
use Rattle.input_queue.specs.Ring.{queue_length}
use Rattle.input_queue.specs.Whole.{Sane}
use Rattle.input_queue.specs.Whole as queue
use Rattle.sync_layer.specs.declared.LayerState.{LayerState}
use Rattle.sync_layer.specs.Seats.{max_seats, seat_words, ring_of, seat_at}
use Rattle.sync_layer.specs.Slots.{max_limit, slot_words}

-- room for every seat's numbers, every seat's ring, and every slot
abbrev pub SeatRoom : List ℕ → Type 0
SeatRoom l = max_seats * seat_words ≤ length l

abbrev pub WordRoom : List ℕ → Type 0
WordRoom l = max_seats * queue_length ≤ length l

abbrev pub SlotRoom : List ℕ → Type 0
SlotRoom l = suc max_limit * slot_words ≤ length l

-- the layer's own numbers
pub record Ready (y : LayerState) : Type 0 where
  pub one : 0 < y.num_players
  pub few : y.num_players ≤ max_seats
  pub near : y.max_prediction ≤ max_limit
  pub guess : y.predictor < predictors
  pub early : y.current_frame < last_count

-- and its seats'
pub record Seated (y : LayerState) (seats : List ℕ) : Type 0 where
  pub ready : Ready y
  pub room : SeatRoom seats
  pub seat : (i : ℕ) → i < y.num_players → Sane (seat_at seats i)

-- a status list has an entry for seat i, and one for each seat
abbrev pub Listed : List Bool → List ℤ → ℕ → Type 0
Listed gone last i = (i < length gone) × (i < length last)

abbrev pub OneEach : LayerState → List Bool → List ℤ → Type 0
OneEach y gone last = (y.num_players ≡ length gone) × (y.num_players ≡ length last)

-- what it takes to place an input in seat i's queue
pub record Places (seats words : List ℕ) (i : ℕ) : Type 0 where
  pub room : (i + 1) * seat_words ≤ length seats
  pub whole : queue.Whole words (ring_of i) (seat_at seats i)

-- what it takes to ask seat i
pub record Serves (y : LayerState) (seats words : List ℕ) (i : ℕ) : Type 0 where
  pub early : y.current_frame < last_count
  pub room : (i + 1) * seat_words ≤ length seats
  pub whole : queue.Whole words (ring_of i) (seat_at seats i)

-- all of it
pub record Whole (y : LayerState) (seats words slots : List ℕ) : Type 0 where
  pub seated : Seated y seats
  pub wide : WordRoom words
  pub deep : SlotRoom slots
