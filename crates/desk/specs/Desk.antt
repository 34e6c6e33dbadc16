-- The desk: how a word is taken, a mismatch corrected and a frame served. Frames are counts where they may be missing, 0 for none and
-- else the frame + 1. `step` is the console's step and `p` the predictor: the theorems are over any.
use Rattle.std.specs.Prelude.{ℕ, zero, suc, ◌+◌, ◌-◌, min, List, length, ltb, leb, eqb}
use Rattle.frame_info.specs.Choice.{pick}
use Rattle.frame_info.specs.Frame.{last_count}
use Rattle.frame_info.specs.Refusal.{done, no_such_seat, frame_below_zero, frame_too_high, not_next_frame, queue_full, too_far_ahead}
use Rattle.console.specs.declared.Console.{Console}
use Rattle.console.specs.Step.{start}
use Rattle.input_queue.specs.declared.QueueState.{QueueState}
use Rattle.input_queue.specs.Queue.{add, asked, answer, reset, discard}
use Rattle.input_queue.specs.Ring.{word_at, add_words}
use Rattle.input_queue.specs.Calls.{overfull}
use Rattle.sync_layer.specs.Lists.{write_row, lowest_of}
use Rattle.sync_layer.specs.Seats.{ring_of, seat_at, set_seat, map_seats}
use Rattle.sync_layer.specs.Slots.{served_from, slot_of, state_in, save_slot}
use Rattle.sync_layer.specs.Calls as layer
use Rattle.desk.specs.declared.DeskState.{DeskState}
use Rattle.desk.specs.Lists.{least_of, row_of}

-- the desk's own numbers, and the three lent lists: the seats' queues, their words, the saved slots
pub record Desk : Type 0 where
  pub state : DeskState
  pub seats : List ℕ
  pub words : List ℕ
  pub slots : List ℕ

-- a list that a call is not lent, and does not look at, stands as []
abbrev pub desk_of : DeskState → List ℕ → List ℕ → List ℕ → Desk
desk_of y seats words slots = record { state = y; seats = seats; words = words; slots = slots }

-- seat s's queue
abbrev pub queue_of : Desk → ℕ → QueueState
queue_of d s = seat_at d.seats s

-- the desk with other queues
abbrev pub with_seats : Desk → List ℕ → Desk
with_seats d l = record { state = d.state; seats = l; words = d.words; slots = d.slots }

-- K, the least newest place over the seats; none where a seat has none
abbrev pub known_of : Desk → ℕ
known_of d = least_of (d.state.seats - 1) (λ s. (queue_of d s).last_added_count)

-- the lowest mismatch of the seats, if one stands
abbrev pub mismatch_of : Desk → ℕ
mismatch_of d = lowest_of d.state.seats (λ s. (queue_of d s).first_incorrect_count)

-- Setup -------------------------------------------------------------------------------------------------------------------------

-- what a setup is given: the limit, the predictor, one delay for each seat, and the lists as they are found; they need not be cleared
pub record Setup : Type 0 where
  pub limit : ℕ
  pub predictor : ℕ
  pub delays : List ℕ
  pub seats : List ℕ
  pub words : List ℕ
  pub slots : List ℕ

abbrev pub setup_with : ℕ → ℕ → List ℕ → List ℕ → List ℕ → List ℕ → Setup
setup_with limit p delays seats words slots =
    record { limit = limit; predictor = p; delays = delays; seats = seats; words = words; slots = slots }

abbrev pub fresh_desk : ℕ → ℕ → ℕ → DeskState
fresh_desk n limit p = record { seats = n; limit = limit; predictor = p; current = 0; console = start }

-- a fresh desk; one of one seat with limit, delay and predictor 0 where anything is out of range
unfoldable pub setup_state : ℕ → ℕ → List ℕ → DeskState
setup_state limit p delays = pick (layer.fits limit p delays) (fresh_desk (length delays) limit p) (fresh_desk 1 0 0)

unfoldable pub setup_of : Setup → Desk
setup_of u =
    record {
      state = setup_state u.limit u.predictor u.delays;
      seats = layer.opened_seats u.limit u.predictor u.delays u.seats;
      words = u.words;
      slots = layer.opened_slots u.limit u.predictor u.delays u.slots;
    }

-- Take --------------------------------------------------------------------------------------------------------------------------

-- 2, 7, 6, 3, 4. n is the frame's count. A seat's first frame is 0, and each one after it is the next.
unfoldable pub take_answer : Desk → ℕ → ℕ → ℕ
take_answer d s n =
    pick (leb d.state.seats s)
    no_such_seat
    (pick (eqb n 0)
    frame_below_zero
    (pick (ltb last_count n)
    frame_too_high
    (pick (eqb (n - 1) (queue_of d s).last_user_count) (pick (overfull (queue_of d s) (n - 1)) queue_full done) not_next_frame)))

-- a word of frame f is stored in seat s's queue
unfoldable pub taken : Desk → ℕ → ℕ → ℕ → Desk
taken d s f w =
    record {
      state = d.state;
      seats = set_seat d.seats s (add (word_at d.words (ring_of s)) (queue_of d s) f w);
      words = add_words d.words (ring_of s) (queue_of d s) f w;
      slots = d.slots;
    }

unfoldable pub take : Desk → ℕ → ℕ → ℕ → Desk
take d s n w = pick (eqb (take_answer d s n) 0) (taken d s (n - 1) w) d

-- Settle and advance ------------------------------------------------------------------------------------------------------------

-- Load: the state saved for f is the console's, and f is the current frame.
unfoldable pub load : Desk → ℕ → Desk
load d f =
    record {
      state = record {
        seats = d.state.seats;
        limit = d.state.limit;
        predictor = d.state.predictor;
        current = f;
        console = state_in d.state.limit d.slots f;
      };
      seats = d.seats;
      words = d.words;
      slots = d.slots;
    }

unfoldable pub reset_all : Desk → Desk
reset_all d = with_seats d (map_seats d.state.seats (λ s q. reset q) d.seats)

unfoldable pub discard_all : Desk → ℕ → Desk
discard_all d f = with_seats d (map_seats d.state.seats (λ s q. discard q f) d.seats)

-- Confirm K, not sparse: the lower of K and the current frame, and where that is positive every queue discards to one less. Left out
-- while K is none.
unfoldable pub confirm : Desk → Desk
confirm d =
    pick (eqb (known_of d) 0)
    d
    (pick (eqb (min (known_of d - 1) d.state.current) 0) d (discard_all d (min (known_of d - 1) d.state.current - 1)))

-- 6 at the last frame; 5 where the current frame is more than the limit past K
unfoldable pub advance_answer : Desk → ℕ
advance_answer d =
    pick (leb last_count (d.state.current + 1))
    frame_too_high
    (pick (ltb (d.state.limit + known_of d) (d.state.current + 1)) too_far_ahead done)

module _ (step : Console → List ℕ → Console) (p : ℕ → ℕ) where
  -- the word that is served to seat s for the current frame
  abbrev pub serve : Desk → ℕ → ℕ
  serve d s = answer p (word_at d.words (ring_of s)) (queue_of d s) d.state.current

  -- One frame: save, request all seats, step, current + 1. The words served go into the frame's slot.
  unfoldable pub one_frame : Desk → Desk
  one_frame d =
      record {
        state = record {
          seats = d.state.seats;
          limit = d.state.limit;
          predictor = d.state.predictor;
          current = d.state.current + 1;
          console = step d.state.console (row_of d.state.seats (serve d));
        };
        seats = map_seats d.state.seats (λ s q. asked p (word_at d.words (ring_of s)) q d.state.current) d.seats;
        words = d.words;
        slots = write_row d.state.seats (save_slot d.state.limit d.slots d.state.current d.state.console) (slot_of d.state.limit d.state.current + served_from) (serve d);
      }

  -- Replay is one frame and then the rest of the replay.
  unfoldable pub replay : ℕ → Desk → Desk
  replay zero d = d
  replay (suc n) d = replay n (one_frame d)

  -- If a mismatch stands: load the lowest, reset all, and replay to the current frame.
  unfoldable pub corrected : Desk → Desk
  corrected d =
      pick (eqb (mismatch_of d) 0) d (replay (d.state.current - (mismatch_of d - 1)) (reset_all (load d (mismatch_of d - 1))))

  unfoldable pub settle : Desk → Desk
  settle d = confirm (corrected d)

  -- A refused advance changes nothing, a standing mismatch included; else settle, and then one frame.
  unfoldable pub advance : Desk → Desk
  advance d = pick (eqb (advance_answer d) 0) (one_frame (settle d)) d
