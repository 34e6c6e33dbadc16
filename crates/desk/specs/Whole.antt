-- What a call presumes of a desk: bounds that a setup gives and that every call keeps. Each call asks for the lists that it is lent.
use Rattle.std.specs.Prelude.{ℕ, ◌+◌, ◌≤◌, ◌<◌, ◌≡◌, List}
use Rattle.frame_info.specs.Frame.{last_count, predictors}
use Rattle.input_queue.specs.declared.QueueState.{QueueState}
use Rattle.input_queue.specs.Whole.{Sane}
use Rattle.sync_layer.specs.Seats.{max_seats, seat_at}
use Rattle.sync_layer.specs.Slots.{max_limit}
use Rattle.sync_layer.specs.Whole.{SeatRoom, WordRoom, SlotRoom}
use Rattle.desk.specs.declared.DeskState.{DeskState}
use Rattle.desk.specs.Desk.{Desk}

-- the desk's own numbers
pub record Ready (y : DeskState) : Type 0 where
  pub one : 0 < y.seats
  pub few : y.seats ≤ max_seats
  pub near : y.limit ≤ max_limit
  pub guess : y.predictor < predictors
  pub early : y.current < last_count

-- a prediction stands with no mismatch: it is for the next place, which is past, and the last request was for the frame before this one
pub record Guessing (current : ℕ) (q : QueueState) : Type 0 where
  pub next : q.prediction_count ≡ q.last_added_count + 1
  pub last : q.last_requested_count ≡ current
  pub past : q.last_added_count < current

-- one seat's numbers: a mismatch is past
pub record Seat (current : ℕ) (q : QueueState) : Type 0 where
  pub sane : Sane q
  pub past : q.first_incorrect_count ≤ current
  pub guessing : (q.prediction_count ≡ 0 → ⊥) → q.first_incorrect_count ≡ 0 → Guessing current q

-- and every seat's
pub record Seated (y : DeskState) (seats : List ℕ) : Type 0 where
  pub ready : Ready y
  pub room : SeatRoom seats
  pub seat : (s : ℕ) → s < y.seats → Seat y.current (seat_at seats s)

-- all of it
pub record Whole (d : Desk) : Type 0 where
  pub seated : Seated d.state d.seats
  pub wide : WordRoom d.words
  pub deep : SlotRoom d.slots
