-- A layer with the three lists that it is lent, after any run of calls; and saves, one frame after the other.
use Rattle.std.specs.Prelude.{ℕ, ◌+◌, ◌≤◌, ◌<◌, Bool, List, [], ◌∷◌, ℤ}
use Rattle.frame_info.specs.declared.PlayerInput.{PlayerInput}
use Rattle.console.specs.declared.Console.{Console}
use Rattle.sync_layer.specs.declared.LayerState.{LayerState}
use Rattle.sync_layer.specs.Slots.{save_slot}
use Rattle.sync_layer.specs.Whole.{Whole}
use Rattle.sync_layer.specs.Calls as calls

pub record Layer : Type 0 where
  pub state : LayerState
  pub seats : List ℕ
  pub words : List ℕ
  pub slots : List ℕ

abbrev pub WholeLayer : Layer → Type 0
WholeLayer y = Whole y.state y.seats y.words y.slots

-- the calls that hand back a layer or write to a list; the others only look
pub data Call : Type 0 where
  advance_call : Call
  save_call : Console → Call
  load_call : ℤ → Call
  local_call : ℕ → PlayerInput → Call
  remote_call : ℕ → PlayerInput → Call
  delay_call : ℕ → ℕ → Call
  reset_call : Call
  request_call : List Bool → List ℤ → Call
  confirm_call : ℤ → Bool → Call

abbrev pub with_state : Layer → LayerState → Layer
with_state y s = record { state = s; seats = y.seats; words = y.words; slots = y.slots }

abbrev pub with_queues : Layer → List ℕ → List ℕ → Layer
with_queues y seats words = record { state = y.state; seats = seats; words = words; slots = y.slots }

-- Queues and slots do not touch each other: but for the setup, no call is given both.
unfoldable pub after : Layer → Call → Layer
after y advance_call = with_state y (calls.advanced y.state).layer
after y (save_call c) =
    record {
      state = calls.saved_layer y.state;
      seats = y.seats;
      words = y.words;
      slots = save_slot y.state.max_prediction y.slots y.state.current_frame c;
    }
after y (load_call f) = with_state y (calls.loaded y.state y.slots f).layer
after y (local_call i x) =
    with_queues y (calls.local_seats y.state y.seats y.words i x) (calls.local_words y.state y.seats y.words i x)
after y (remote_call i x) =
    with_queues y (calls.remote_seats y.state y.seats y.words i x) (calls.remote_words y.state y.seats y.words i x)
after y (delay_call i d) = with_queues y (calls.delayed_seats y.state y.seats y.words i d) y.words
after y reset_call = with_queues y (calls.reset_seats y.state y.seats) y.words
after y (request_call gone last) =
    with_queues y (calls.served_seats y.state y.seats y.words gone last) y.words
after y (confirm_call f sparse) =
    record {
      state = (calls.confirmed y.state y.seats f sparse).layer;
      seats = calls.confirmed_seats y.state y.seats f sparse;
      words = y.words;
      slots = y.slots;
    }

unfoldable pub run : Layer → List Call → Layer
run y [] = y
run y (x ∷ l) = run (after y x) l

-- a layer as a setup hands it out, on lists that need not be cleared
unfoldable pub opening : ℕ → ℕ → List ℕ → List ℕ → List ℕ → List ℕ → Layer
opening limit p delays seats words slots =
    record {
      state = (calls.opened limit p delays).layer;
      seats = calls.opened_seats limit p delays seats;
      words = words;
      slots = calls.opened_slots limit p delays slots;
    }

-- frames saved one after the other, from f on
unfoldable pub save_all : ℕ → List ℕ → ℕ → List Console → List ℕ
save_all limit l f [] = l
save_all limit l f (c ∷ cs) = save_all limit (save_slot limit l f c) (f + 1) cs

-- a save, if the call is one, is of one of the limit frames after f; and so each save of a run
unfoldable pub SavesNear : ℕ → Layer → Call → Type 0
SavesNear f y advance_call = Unit
SavesNear f y (save_call c) = (f < y.state.current_frame) × (y.state.current_frame ≤ f + y.state.max_prediction)
SavesNear f y (load_call g) = Unit
SavesNear f y (local_call i x) = Unit
SavesNear f y (remote_call i x) = Unit
SavesNear f y (delay_call i d) = Unit
SavesNear f y reset_call = Unit
SavesNear f y (request_call gone last) = Unit
SavesNear f y (confirm_call g sparse) = Unit

unfoldable pub AllSavesNear : ℕ → Layer → List Call → Type 0
AllSavesNear f y [] = Unit
AllSavesNear f y (x ∷ l) = SavesNear f y x × AllSavesNear f (after y x) l
