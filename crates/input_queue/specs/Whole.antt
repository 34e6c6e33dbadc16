-- What a call presumes of a queue: bounds that a setup gives and that every call keeps.
use Rattle.std.specs.Prelude.{ℕ, ◌+◌, ◌≤◌, List, length}
use Rattle.frame_info.specs.Frame.{last_count, max_delay}
use Rattle.input_queue.specs.declared.QueueState.{QueueState}
use Rattle.input_queue.specs.Ring.{queue_length}

-- the numbers of one seat
pub record Sane (s : QueueState) : Type 0 where
  pub late : s.frame_delay ≤ max_delay
  pub users : s.last_user_count ≤ last_count
  pub few : s.last_added_count ≤ last_count + max_delay
  pub kept : s.oldest ≤ s.last_added_count
  pub ring : s.last_added_count ≤ s.oldest + queue_length
  pub ahead : s.prediction_count ≤ s.last_added_count + 1

-- and the room for its words
pub record Whole (l : List ℕ) (base : ℕ) (s : QueueState) : Type 0 where
  pub room : base + queue_length ≤ length l
  pub numbers : Sane s
