-- The seats' queues in a lent list of numbers: seat i's eight from i * seat_words on, in the order of the record's fields.
use Rattle.std.specs.Prelude.{ℕ, zero, suc, ◌+◌, ◌*◌, List, [], ◌∷◌, get_or}
use Rattle.input_queue.specs.declared.QueueState.{QueueState}
use Rattle.input_queue.specs.Ring.{queue_length}
use Rattle.sync_layer.specs.Lists.{write_row}

-- The sizes. The laws are over these names.
abbrev pub max_seats : ℕ
max_seats = 4

abbrev pub seat_words : ℕ
seat_words = 8

-- where seat i's ring begins among the lent words
abbrev pub ring_of : ℕ → ℕ
ring_of i = i * queue_length

abbrev pub numbers_of : QueueState → List ℕ
numbers_of s =
    s.frame_delay
    ∷ s.last_user_count
    ∷ s.last_added_count
    ∷ s.oldest
    ∷ s.last_requested_count
    ∷ s.prediction_count
    ∷ s.prediction
    ∷ s.first_incorrect_count
    ∷ []

abbrev pub queue_of : (ℕ → ℕ) → QueueState
queue_of g =
    record {
      frame_delay = g 0;
      last_user_count = g 1;
      last_added_count = g 2;
      oldest = g 3;
      last_requested_count = g 4;
      prediction_count = g 5;
      prediction = g 6;
      first_incorrect_count = g 7;
    }

unfoldable pub seat_at : List ℕ → ℕ → QueueState
seat_at l i = queue_of (λ k. get_or l (i * seat_words + k) 0)

unfoldable pub set_seat : List ℕ → ℕ → QueueState → List ℕ
set_seat l i s = write_row seat_words l (i * seat_words) (λ k. get_or (numbers_of s) k 0)

-- h of every queue, for seats 0 to n - 1
unfoldable pub map_seats : ℕ → (ℕ → QueueState → QueueState) → List ℕ → List ℕ
map_seats zero h l = l
map_seats (suc n) h l = set_seat (map_seats n h l) n (h n (seat_at l n))
