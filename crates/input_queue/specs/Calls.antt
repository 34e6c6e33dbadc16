-- What each call of a queue answers, refusals too. The words are lent, from base on.
use Rattle.std.specs.Prelude.{ℕ, ◌+◌, ◌-◌, Bool, false, not, List, ltb, leb, eqb, ℤ}
use Rattle.frame_info.specs.Choice.{pick}
use Rattle.frame_info.specs.Frame.{null_frame, last_count, max_delay, predictors, count_of, frame_of}
use Rattle.frame_info.specs.Word.{blank, player_input, predicted}
use Rattle.frame_info.specs.Refusal.{done, out_of_range, not_next_frame, queue_full, frame_too_high, frame_below_zero, not_confirmed, mismatch_stands, below_oldest}
use Rattle.frame_info.specs.declared.PlayerInput.{PlayerInput}
use Rattle.input_queue.specs.declared.QueueState.{QueueState}
use Rattle.input_queue.specs.Answer.{Opened, Added, Served, Found, Discarded, Announced}
use Rattle.input_queue.specs.Queue.{fresh_state, newest, tossed, add, place_count, answer, confirms, asked, discard, delayed}
use Rattle.input_queue.specs.Ring.{queue_length, word_at, add_words}

-- Setup: 1 where predictor or delay is out of range, and then a fresh queue with both 0.
abbrev pub opens : ℕ → ℕ → Bool
opens p d = pick (ltb p predictors) (leb d max_delay) false

unfoldable pub opened : ℕ → ℕ → Opened
opened p d =
    pick (opens p d) (record { no = done; predictor = p; state = fresh_state d }) (record { no = out_of_range; predictor = 0; state = fresh_state 0 })

-- Input. f is the frame, and c its count. After the first, the frame must be one above the last user frame.
abbrev pub out_of_turn : QueueState → ℕ → Bool
out_of_turn s c = pick (eqb s.last_user_count 0) false (not (eqb (s.last_user_count + 1) c))

-- The word and its fills would make more than 128 undiscarded; one that is tossed never does.
abbrev pub overfull : QueueState → ℕ → Bool
overfull s f = pick (tossed s f) false (ltb queue_length (f + s.frame_delay + 1 - s.oldest))

-- 7, 6, 3, 4
unfoldable pub add_refusal : QueueState → ℕ → ℕ
add_refusal s c =
    pick (eqb c 0)
    frame_below_zero
    (pick (ltb last_count c) frame_too_high (pick (out_of_turn s c) not_next_frame (pick (overfull s (c - 1)) queue_full done)))

unfoldable pub add_input : List ℕ → ℕ → QueueState → PlayerInput → Added
add_input l base s i =
    pick (eqb (add_refusal s (count_of i.frame)) 0)
    (record {
      no = done;
      place = frame_of (place_count s (count_of i.frame - 1));
      state = add (word_at l base) s (count_of i.frame - 1) i.input;
    })
    (record { no = add_refusal s (count_of i.frame); place = null_frame; state = s })

unfoldable pub input_words : List ℕ → ℕ → QueueState → PlayerInput → List ℕ
input_words l base s i =
    pick (eqb (add_refusal s (count_of i.frame)) 0) (add_words l base s (count_of i.frame - 1) i.input) l

-- Request: 7, 13 while a mismatch stands, 14 below the oldest kept frame.
unfoldable pub input_refusal : QueueState → ℕ → ℕ
input_refusal s c =
    pick (eqb c 0) frame_below_zero (pick (eqb s.first_incorrect_count 0) (pick (leb c s.oldest) below_oldest done) mismatch_stands)

unfoldable pub served : List ℕ → ℕ → QueueState → ℕ → ℤ → Served
served l base s p f =
    pick (eqb (input_refusal s (count_of f)) 0)
    (record {
      no = done;
      word = answer (predicted p) (word_at l base) s (count_of f - 1);
      confirmed = confirms s (count_of f - 1);
      state = asked (predicted p) (word_at l base) s (count_of f - 1);
    })
    (record { no = input_refusal s (count_of f); word = blank; confirmed = false; state = s })

-- Confirmed lookup: slot f mod 128 holds f while f is one of the newest 128 places, discarded or not.
abbrev pub holds : QueueState → ℕ → Bool
holds s f = pick (ltb f s.last_added_count) (leb s.last_added_count (f + queue_length)) false

-- 7, 11
unfoldable pub found_refusal : QueueState → ℕ → ℕ
found_refusal s c = pick (eqb c 0) frame_below_zero (pick (holds s (c - 1)) done not_confirmed)

unfoldable pub found : List ℕ → ℕ → QueueState → ℤ → Found
found l base s f =
    pick (eqb (found_refusal s (count_of f)) 0)
    (record { no = done; input = player_input f (word_at l base (count_of f - 1)) })
    (record { no = found_refusal s (count_of f); input = player_input null_frame blank })

-- Discard: 7.
unfoldable pub discarded : QueueState → ℤ → Discarded
discarded s f =
    pick (eqb (count_of f) 0)
    (record { no = frame_below_zero; state = s })
    (record { no = done; state = discard s (count_of f - 1) })

-- Delay change: 1 above 60. A rise, with something stored, announces new minus old copies of the newest word from the next place on.
abbrev pub announces : QueueState → ℕ → Bool
announces s d = pick (ltb s.frame_delay d) (not (eqb s.last_added_count 0)) false

abbrev pub unannounced : ℕ → QueueState → Announced
unannounced n s = record { no = n; first = null_frame; count = 0; word = blank; state = s }

unfoldable pub delayed_to : List ℕ → ℕ → QueueState → ℕ → Announced
delayed_to l base s d =
    pick (ltb max_delay d)
    (unannounced out_of_range s)
    (pick (announces s d)
    (record {
      no = done;
      first = frame_of (s.last_added_count + 1);
      count = d - s.frame_delay;
      word = newest (word_at l base) s.last_added_count;
      state = delayed s d;
    })
    (unannounced done (delayed s d)))

-- the first mismatch, or -1
abbrev pub first_incorrect : QueueState → ℤ
first_incorrect s = frame_of s.first_incorrect_count
