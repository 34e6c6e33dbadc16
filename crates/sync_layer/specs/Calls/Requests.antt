-- Requests and confirmed inputs, with a status list of one entry a seat.
use Rattle.std.specs.Prelude.{ℕ, ◌+◌, ◌-◌, Bool, false, List, length, get_or, leb, eqb, ℤ, pos}
use Rattle.frame_info.specs.Choice.{pick}
use Rattle.frame_info.specs.Frame.{null_frame, count_of, frame_of}
use Rattle.frame_info.specs.Word.{blank, predicted}
use Rattle.frame_info.specs.Refusal.{done, no_such_seat, frame_below_zero}
use Rattle.frame_info.specs.Status.{status_confirmed, status_predicted, status_disconnected}
use Rattle.input_queue.specs.declared.QueueState.{QueueState}
use Rattle.input_queue.specs.Queue.{asked, answer, confirms}
use Rattle.input_queue.specs.Ring.{word_at}
use Rattle.input_queue.specs.Calls as queue
use Rattle.sync_layer.specs.declared.LayerState.{LayerState}
use Rattle.sync_layer.specs.Lists.{write_row, first_refusal}
use Rattle.sync_layer.specs.Seats.{ring_of, seat_at, map_seats}

-- A status list has one entry a seat
abbrev pub one_each : LayerState → List Bool → List ℤ → Bool
one_each y gone last = pick (eqb (length gone) y.num_players) (eqb (length last) y.num_players) false

-- A seat marked gone with its last frame below f is served blank.
abbrev pub gone_below : ℕ → List Bool → List ℤ → ℕ → Bool
gone_below f gone last i = pick (get_or gone i false) (leb (count_of (get_or last i (pos 0))) f) false

-- a word that was stored is confirmed, any other is predicted
abbrev pub status_of : Bool → ℕ
status_of c = pick c status_confirmed status_predicted

-- Request. Seat i's own refusal: 13, 14; one that is gone is not asked.
abbrev pub ask_refusal : LayerState → List ℕ → List Bool → List ℤ → ℕ → ℕ
ask_refusal y seats gone last i =
    pick (gone_below y.current_frame gone last i) done (queue.input_refusal (seat_at seats i) (y.current_frame + 1))

-- 2, and then the lowest seat that refuses decides
unfoldable pub request_refusal : LayerState → List ℕ → List Bool → List ℤ → ℕ
request_refusal y seats gone last =
    pick (one_each y gone last) (first_refusal y.num_players (ask_refusal y seats gone last)) no_such_seat

module _ (y : LayerState) (seats words : List ℕ) (gone : List Bool) (last : List ℤ) where
  -- seat i's queue after it, its word and its status
  abbrev pub asked_seat : ℕ → QueueState → QueueState
  asked_seat i q =
      pick (gone_below y.current_frame gone last i) q (asked (predicted y.predictor) (word_at words (ring_of i)) q y.current_frame)

  abbrev pub served_word : ℕ → ℕ
  served_word i =
      pick (gone_below y.current_frame gone last i)
      blank
      (answer (predicted y.predictor) (word_at words (ring_of i)) (seat_at seats i) y.current_frame)

  abbrev pub status : ℕ → ℕ
  status i =
      pick (gone_below y.current_frame gone last i) status_disconnected (status_of (confirms (seat_at seats i) y.current_frame))

  unfoldable pub served_seats : List ℕ
  served_seats = pick (eqb (request_refusal y seats gone last) 0) (map_seats y.num_players asked_seat seats) seats

  unfoldable pub served_words : List ℕ → List ℕ
  served_words l = pick (eqb (request_refusal y seats gone last) 0) (write_row y.num_players l 0 served_word) l

  unfoldable pub statuses : List ℕ → List ℕ
  statuses l = pick (eqb (request_refusal y seats gone last) 0) (write_row y.num_players l 0 status) l

-- Confirmed inputs: 2, 7, and then seat by seat 11. A gone seat's last frame is held against the frame asked for, whose count is c.
abbrev pub find_refusal : List ℕ → List Bool → List ℤ → ℕ → ℕ → ℕ
find_refusal seats gone last c i = pick (gone_below (c - 1) gone last i) done (queue.found_refusal (seat_at seats i) c)

unfoldable pub confirmed_refusal : LayerState → List ℕ → List Bool → List ℤ → ℕ → ℕ
confirmed_refusal y seats gone last c =
    pick (one_each y gone last) (pick (eqb c 0) frame_below_zero (first_refusal y.num_players (find_refusal seats gone last c))) no_such_seat

-- one seat: -1 and blank where it is gone
abbrev pub confirmed_frame : List Bool → List ℤ → ℕ → ℕ → ℤ
confirmed_frame gone last c i = pick (gone_below (c - 1) gone last i) null_frame (frame_of c)

abbrev pub confirmed_word : List ℕ → List Bool → List ℤ → ℕ → ℕ → ℕ
confirmed_word words gone last c i = pick (gone_below (c - 1) gone last i) blank (word_at words (ring_of i) (c - 1))

module _ (y : LayerState) (seats : List ℕ) where
  abbrev pub confirmed_number : List Bool → List ℤ → ℤ → ℕ
  confirmed_number gone last f = confirmed_refusal y seats gone last (count_of f)

  unfoldable pub confirmed_frames : List Bool → List ℤ → ℤ → List ℤ → List ℤ
  confirmed_frames gone last f l =
      pick (eqb (confirmed_number gone last f) 0) (write_row y.num_players l 0 (confirmed_frame gone last (count_of f))) l

  unfoldable pub confirmed_words : List ℕ → List Bool → List ℤ → ℤ → List ℕ → List ℕ
  confirmed_words words gone last f l =
      pick (eqb (confirmed_number gone last f) 0) (write_row y.num_players l 0 (confirmed_word words gone last (count_of f))) l
