-- Inputs, delay changes and the reset.
use Rattle.std.specs.Prelude.{ℕ, ◌+◌, List, ltb, eqb}
use Rattle.frame_info.specs.Choice.{pick}
use Rattle.frame_info.specs.Frame.{null_frame, last_count, count_of}
use Rattle.frame_info.specs.Word.{blank}
use Rattle.frame_info.specs.Refusal.{done, no_such_seat, frame_too_high, frame_below_zero, not_current_frame}
use Rattle.frame_info.specs.declared.PlayerInput.{PlayerInput}
use Rattle.input_queue.specs.Queue.{reset}
use Rattle.input_queue.specs.Calls as queue
use Rattle.sync_layer.specs.declared.LayerState.{LayerState}
use Rattle.sync_layer.specs.Answer.{Placed, Announced}
use Rattle.sync_layer.specs.Seats.{ring_of, seat_at, set_seat, map_seats}

-- 2, 7, 6, 3, 4
unfoldable pub remote_refusal : LayerState → List ℕ → ℕ → ℕ → ℕ
remote_refusal y seats i c = pick (ltb i y.num_players) (queue.add_refusal (seat_at seats i) c) no_such_seat

-- 2, 7, 6, 12 for another than the current frame, 3, 4
unfoldable pub local_refusal : LayerState → List ℕ → ℕ → ℕ → ℕ
local_refusal y seats i c =
    pick (ltb i y.num_players)
    (pick (eqb c 0)
    frame_below_zero
    (pick (ltb last_count c) frame_too_high (pick (eqb c (y.current_frame + 1)) (queue.add_refusal (seat_at seats i) c) not_current_frame)))
    no_such_seat

-- An input that is not refused: what seat i's queue answers, and the queues and words that it leaves.
module _ (seats words : List ℕ) (i : ℕ) (x : PlayerInput) where
  abbrev pub placed : Placed
  placed = record { no = done; place = (queue.add_input words (ring_of i) (seat_at seats i) x).place }

  abbrev pub placed_seats : List ℕ
  placed_seats = set_seat seats i (queue.add_input words (ring_of i) (seat_at seats i) x).state

  abbrev pub placed_words : List ℕ
  placed_words = queue.input_words words (ring_of i) (seat_at seats i) x

-- and one that is refused, by number n
abbrev pub unplaced : ℕ → Placed
unplaced n = record { no = n; place = null_frame }

module _ (y : LayerState) (seats words : List ℕ) (i : ℕ) (x : PlayerInput) where
  abbrev remote_number : ℕ
  remote_number = remote_refusal y seats i (count_of x.frame)

  unfoldable pub remote : Placed
  remote = pick (eqb remote_number 0) (placed seats words i x) (unplaced remote_number)

  unfoldable pub remote_seats : List ℕ
  remote_seats = pick (eqb remote_number 0) (placed_seats seats words i x) seats

  unfoldable pub remote_words : List ℕ
  remote_words = pick (eqb remote_number 0) (placed_words seats words i x) words

  abbrev local_number : ℕ
  local_number = local_refusal y seats i (count_of x.frame)

  unfoldable pub local : Placed
  local = pick (eqb local_number 0) (placed seats words i x) (unplaced local_number)

  unfoldable pub local_seats : List ℕ
  local_seats = pick (eqb local_number 0) (placed_seats seats words i x) seats

  unfoldable pub local_words : List ℕ
  local_words = pick (eqb local_number 0) (placed_words seats words i x) words

-- Delay change: 2, 1
unfoldable pub delayed_to : LayerState → List ℕ → List ℕ → ℕ → ℕ → Announced
delayed_to y seats words i d =
    pick (ltb i y.num_players)
    (record {
      no = (queue.delayed_to words (ring_of i) (seat_at seats i) d).no;
      first = (queue.delayed_to words (ring_of i) (seat_at seats i) d).first;
      count = (queue.delayed_to words (ring_of i) (seat_at seats i) d).count;
      word = (queue.delayed_to words (ring_of i) (seat_at seats i) d).word;
    })
    (record { no = no_such_seat; first = null_frame; count = 0; word = blank })

unfoldable pub delayed_seats : LayerState → List ℕ → List ℕ → ℕ → ℕ → List ℕ
delayed_seats y seats words i d =
    pick (ltb i y.num_players) (set_seat seats i (queue.delayed_to words (ring_of i) (seat_at seats i) d).state) seats

-- every queue reset
abbrev pub reset_seats : LayerState → List ℕ → List ℕ
reset_seats y seats = map_seats y.num_players (λ i q. reset q) seats
