-- The layer's two calls on lists that a caller in C lends: 20 where a list is too short, and then nothing is written.
use Rattle.std.specs.Prelude.{ℕ, suc, ◌*◌, ◌≡◌, Bool, true, false, List, length, leb, ℤ}
use Rattle.frame_info.specs.Choice.{pick}
use Rattle.frame_info.specs.Refusal.{done, no_room_for_bytes}
use Rattle.console.specs.declared.Console.{Console}
use Rattle.input_queue.specs.Ring.{queue_length}
use Rattle.sync_layer.specs.Seats.{max_seats, seat_words}
use Rattle.sync_layer.specs.Slots.{max_limit, slot_words, save_slot}
use Rattle.sync_layer.specs.Calls as calls
use Rattle.sync_layer.specs.Whole.{Ready, Seated}
use Rattle.desk_face.specs.Lists.{layer_words, layer_at, set_layer}

-- a list is long enough for n numbers
abbrev pub long_enough : ℕ → List ℕ → Bool
long_enough n l = leb n (length l)

-- Save: room for the layer's own numbers and for every slot. What it writes, and the one thing that it presumes.
module _ (state slots : List ℕ) where
  abbrev pub room_to_save : Bool
  room_to_save = pick (long_enough layer_words state) (long_enough (suc max_limit * slot_words) slots) false

  unfoldable pub save_number : ℕ
  save_number = pick room_to_save done no_room_for_bytes

  unfoldable pub save_state : List ℕ
  save_state = pick room_to_save (set_layer state (calls.saved_layer (layer_at state))) state

  unfoldable pub save_slots : Console → List ℕ
  save_slots c = pick room_to_save (save_slot (layer_at state).max_prediction slots (layer_at state).current_frame c) slots

pub record SaveReady (state slots : List ℕ) : Type 0 where
  pub ready : room_to_save state slots ≡ true → Ready (layer_at state)

-- Request: room for the layer's own numbers, every seat and every ring, and one place a seat for what is answered.
module _ (state seats words inputs statuses : List ℕ) where
  abbrev pub room_to_request : Bool
  room_to_request =
      pick (long_enough layer_words state)
      (pick (long_enough (max_seats * seat_words) seats)
      (pick (long_enough (max_seats * queue_length) words)
      (pick (long_enough (layer_at state).num_players inputs) (long_enough (layer_at state).num_players statuses) false)
      false)
      false)
      false

  module _ (gone : List Bool) (last : List ℤ) where
    unfoldable pub request_number : ℕ
    request_number = pick room_to_request (calls.request_refusal (layer_at state) seats gone last) no_room_for_bytes

    unfoldable pub request_seats : List ℕ
    request_seats = pick room_to_request (calls.served_seats (layer_at state) seats words gone last) seats

    unfoldable pub request_inputs : List ℕ
    request_inputs = pick room_to_request (calls.served_words (layer_at state) seats words gone last inputs) inputs

    unfoldable pub request_statuses : List ℕ
    request_statuses = pick room_to_request (calls.statuses (layer_at state) seats words gone last statuses) statuses

pub record RequestReady (state seats words inputs statuses : List ℕ) : Type 0 where
  pub seated : room_to_request state seats words inputs statuses ≡ true → Seated (layer_at state) seats
