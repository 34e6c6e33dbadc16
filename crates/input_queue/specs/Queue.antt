-- One seat's queue, in numbers: how a word is stored, asked for and let go.
--
-- A frame in a record is a count, 0 for none and else the frame + 1. `at` reads the ring, from
-- a place to its word, and `p` is the predictor, from a word to the guess.
use Rattle.std.specs.Prelude.{ℕ, zero, suc, ◌+◌, ◌-◌, min, max, Bool, false, not, ltb, eqb}
use Rattle.frame_info.specs.Choice.{pick}
use Rattle.frame_info.specs.Word.{blank}
use Rattle.input_queue.specs.declared.QueueState.{QueueState}
use Rattle.input_queue.specs.declared.Asked.{Asked}

-- a queue with nothing in it
abbrev pub fresh_state : ℕ → QueueState
fresh_state d =
    record {
      frame_delay = d;
      last_user_count = 0;
      last_added_count = 0;
      oldest = 0;
      last_requested_count = 0;
      prediction_count = 0;
      prediction = blank;
      first_incorrect_count = 0;
    }

-- the newest of n stored words, blank if there is none
abbrev pub newest : (ℕ → ℕ) → ℕ → ℕ
newest at n = pick (eqb n 0) blank (at (n - 1))

-- a prediction is made from the newest stored word; where there is none it is blank
abbrev pub fresh : (ℕ → ℕ) → (ℕ → ℕ) → ℕ → ℕ
fresh p at n = pick (eqb n 0) blank (p (at (n - 1)))

-- Storing -----------------------------------------------------------------------------------------------------------------------

-- While predicting, each stored word is matched. It mismatches where a prediction stands and is another word.
abbrev pub mismatches : QueueState → ℕ → Bool
mismatches s w = pick (eqb s.prediction_count 0) false (not (eqb s.prediction w))

-- The first mismatch is kept; a word that is stored now has the next place.
unfoldable pub wrong_after : QueueState → ℕ → ℕ
wrong_after s w =
    pick (eqb s.first_incorrect_count 0)
    (pick (mismatches s w) (s.last_added_count + 1) 0)
    s.first_incorrect_count

-- A match at the last requested frame with no mismatch ends the prediction.
abbrev pub ends : QueueState → ℕ → Bool
ends s wrong = pick (eqb wrong 0) (eqb s.prediction_count s.last_requested_count) false

-- While predicting, it ends or its frame goes up by one.
unfoldable pub predicting_after : QueueState → ℕ → ℕ
predicting_after s wrong =
    pick (eqb s.prediction_count 0) 0 (pick (ends s wrong) 0 (s.prediction_count + 1))

-- a word stored at the next place
unfoldable pub put : QueueState → ℕ → QueueState
put s w =
    record {
      frame_delay = s.frame_delay;
      last_user_count = s.last_user_count;
      last_added_count = s.last_added_count + 1;
      oldest = s.oldest;
      last_requested_count = s.last_requested_count;
      prediction_count = predicting_after s (wrong_after s w);
      prediction = s.prediction;
      first_incorrect_count = wrong_after s w;
    }

-- n copies of a word stored, one after the other
unfoldable pub fill : ℕ → QueueState → ℕ → QueueState
fill zero s w = s
fill (suc n) s w = put (fill n s w) w

-- f is the last user frame
abbrev pub used : QueueState → ℕ → QueueState
used s f =
    record {
      frame_delay = s.frame_delay;
      last_user_count = f + 1;
      last_added_count = s.last_added_count;
      oldest = s.oldest;
      last_requested_count = s.last_requested_count;
      prediction_count = s.prediction_count;
      prediction = s.prediction;
      first_incorrect_count = s.first_incorrect_count;
    }

-- The place of an input is its frame + the delay. Below the next place it is tossed, and the last user frame advances all the same.
abbrev pub tossed : QueueState → ℕ → Bool
tossed s f = ltb (f + s.frame_delay) s.last_added_count

-- Above the next place, the gap is filled with the newest stored word, blank if there is none.
unfoldable pub add : (ℕ → ℕ) → QueueState → ℕ → ℕ → QueueState
add at s f w =
    pick (tossed s f)
    (used s f)
    (put (fill (f + s.frame_delay - s.last_added_count) (used s f) (newest at s.last_added_count)) w)

-- the place, as a count: none where the word is tossed
unfoldable pub place_count : QueueState → ℕ → ℕ
place_count s f = pick (tossed s f) 0 (f + s.frame_delay + 1)

-- Asking ------------------------------------------------------------------------------------------------------------------------

-- While predicting, the standing prediction is returned. Otherwise the stored word, or a prediction from the newest stored word.
unfoldable pub answer : (ℕ → ℕ) → (ℕ → ℕ) → QueueState → ℕ → ℕ
answer p at s f =
    pick (eqb s.prediction_count 0)
    (pick (ltb f s.last_added_count) (at f) (fresh p at s.last_added_count))
    s.prediction

-- A stored word is confirmed, where no prediction stands.
unfoldable pub confirms : QueueState → ℕ → Bool
confirms s f = pick (eqb s.prediction_count 0) (ltb f s.last_added_count) false

-- a prediction begins at the frame after the newest stored one
abbrev pub predicting_asked : QueueState → ℕ → ℕ
predicting_asked s f =
    pick (eqb s.prediction_count 0)
    (pick (ltb f s.last_added_count) 0 (s.last_added_count + 1))
    s.prediction_count

abbrev pub guess_asked : (ℕ → ℕ) → (ℕ → ℕ) → QueueState → ℕ → ℕ
guess_asked p at s f =
    pick (eqb s.prediction_count 0)
    (pick (ltb f s.last_added_count) s.prediction (fresh p at s.last_added_count))
    s.prediction

-- the last requested frame, as a count, and the prediction
abbrev pub requesting : QueueState → ℕ → ℕ → ℕ → QueueState
requesting s n predicting guess =
    record {
      frame_delay = s.frame_delay;
      last_user_count = s.last_user_count;
      last_added_count = s.last_added_count;
      oldest = s.oldest;
      last_requested_count = n;
      prediction_count = predicting;
      prediction = guess;
      first_incorrect_count = s.first_incorrect_count;
    }

-- A request is remembered as the last requested frame.
unfoldable pub asked : (ℕ → ℕ) → (ℕ → ℕ) → QueueState → ℕ → QueueState
asked p at s f = requesting s (f + 1) (predicting_asked s f) (guess_asked p at s f)

abbrev pub asking : (ℕ → ℕ) → (ℕ → ℕ) → QueueState → ℕ → Asked
asking p at s f = record { word = answer p at s f; confirmed = confirms s f; state = asked p at s f }

-- Letting go --------------------------------------------------------------------------------------------------------------------

-- Reset clears prediction, mismatch and last requested.
unfoldable pub reset : QueueState → QueueState
reset s =
    record {
      frame_delay = s.frame_delay;
      last_user_count = s.last_user_count;
      last_added_count = s.last_added_count;
      oldest = s.oldest;
      last_requested_count = 0;
      prediction_count = 0;
      prediction = s.prediction;
      first_incorrect_count = 0;
    }

-- A discard's frame is capped by the last requested frame, if there is one
abbrev pub capped : QueueState → ℕ → ℕ
capped s f = pick (eqb s.last_requested_count 0) f (min f (s.last_requested_count - 1))

-- The oldest kept place after a discard to f: f itself is kept; at or past the newest frame, the newest alone. What is gone does not
-- come back, and an empty queue stays empty.
abbrev pub oldest_after : QueueState → ℕ → ℕ
oldest_after s f = max s.oldest (min f (s.last_added_count - 1))

unfoldable pub discard : QueueState → ℕ → QueueState
discard s f =
    record {
      frame_delay = s.frame_delay;
      last_user_count = s.last_user_count;
      last_added_count = s.last_added_count;
      oldest = oldest_after s (capped s f);
      last_requested_count = s.last_requested_count;
      prediction_count = s.prediction_count;
      prediction = s.prediction;
      first_incorrect_count = s.first_incorrect_count;
    }

-- the queue with another delay
unfoldable pub delayed : QueueState → ℕ → QueueState
delayed s d =
    record {
      frame_delay = d;
      last_user_count = s.last_user_count;
      last_added_count = s.last_added_count;
      oldest = s.oldest;
      last_requested_count = s.last_requested_count;
      prediction_count = s.prediction_count;
      prediction = s.prediction;
      first_incorrect_count = s.first_incorrect_count;
    }
