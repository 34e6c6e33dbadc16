-- The layer as one value, its lists inside: each answer is that of the lent call on its own lists.
use Rattle.std.specs.Prelude.{ℕ, ◌*◌, suc, Bool, List, [], ◌∷◌, ℤ, pos, replicate}
use Rattle.frame_info.specs.Word.{blank}
use Rattle.frame_info.specs.declared.PlayerInput.{PlayerInput}
use Rattle.console.specs.declared.Console.{Console}
use Rattle.input_queue.specs.Ring.{queue_length}
use Rattle.sync_layer.specs.declared.LayerState.{LayerState}
use Rattle.sync_layer.specs.Seats.{max_seats, seat_words}
use Rattle.sync_layer.specs.Slots.{max_limit, slot_words, save_slot}
use Rattle.sync_layer.specs.Calls as calls
use Rattle.sync_layer.specs.Whole as bounds
use Rattle.sync_layer.specs.Runs.{Call, advance_call, save_call, load_call, local_call, remote_call, delay_call, reset_call, request_call, confirm_call}
use Rattle.sync_layer_value.specs.declared.SyncLayer.{SyncLayer}
use Rattle.sync_layer_value.specs.Answer.{OpenedLayer, AdvancedLayer, ConfirmedLayer, LoadedLayer, PlacedLayer, AnnouncedLayer, ServedLayer, ConfirmedInputs}

abbrev pub Whole : SyncLayer → Type 0
Whole y = bounds.Whole y.state y.seats y.words y.slots

-- the layer with other numbers of its own, and with other queues
abbrev pub with_state : SyncLayer → LayerState → SyncLayer
with_state y s = record { state = s; seats = y.seats; words = y.words; slots = y.slots }

abbrev pub with_seats : SyncLayer → List ℕ → SyncLayer
with_seats y l = record { state = y.state; seats = l; words = y.words; slots = y.slots }

abbrev pub with_queues : SyncLayer → List ℕ → List ℕ → SyncLayer
with_queues y seats words = record { state = y.state; seats = seats; words = words; slots = y.slots }

-- one place for each seat, blank and frame 0 where no call writes
abbrev pub blanks : List ℕ
blanks = replicate max_seats blank

abbrev pub zero_frames : List ℤ
zero_frames = replicate max_seats (pos 0)

-- setup, on lists of zeros
unfoldable pub opened : ℕ → ℕ → List ℕ → OpenedLayer
opened limit p delays =
    record {
      no = (calls.opened limit p delays).no;
      layer = record {
        state = (calls.opened limit p delays).layer;
        seats = calls.opened_seats limit p delays (replicate (max_seats * seat_words) 0);
        words = replicate (max_seats * queue_length) blank;
        slots = calls.opened_slots limit p delays (replicate (suc max_limit * slot_words) 0);
      };
    }

unfoldable pub advanced : SyncLayer → AdvancedLayer
advanced y = record { no = (calls.advanced y.state).no; layer = with_state y (calls.advanced y.state).layer }

unfoldable pub saved : SyncLayer → Console → SyncLayer
saved y c =
    record {
      state = calls.saved_layer y.state;
      seats = y.seats;
      words = y.words;
      slots = save_slot y.state.max_prediction y.slots y.state.current_frame c;
    }

unfoldable pub loaded : SyncLayer → ℤ → LoadedLayer
loaded y f =
    record {
      no = (calls.loaded y.state y.slots f).no;
      state = (calls.loaded y.state y.slots f).state;
      layer = with_state y (calls.loaded y.state y.slots f).layer;
    }

module _ (y : SyncLayer) (i : ℕ) (x : PlayerInput) where
  unfoldable pub local : PlacedLayer
  local =
      record {
        no = (calls.local y.state y.seats y.words i x).no;
        place = (calls.local y.state y.seats y.words i x).place;
        layer = with_queues y (calls.local_seats y.state y.seats y.words i x) (calls.local_words y.state y.seats y.words i x);
      }

  unfoldable pub remote : PlacedLayer
  remote =
      record {
        no = (calls.remote y.state y.seats y.words i x).no;
        place = (calls.remote y.state y.seats y.words i x).place;
        layer = with_queues y (calls.remote_seats y.state y.seats y.words i x) (calls.remote_words y.state y.seats y.words i x);
      }

unfoldable pub delayed_to : SyncLayer → ℕ → ℕ → AnnouncedLayer
delayed_to y i d =
    record {
      no = (calls.delayed_to y.state y.seats y.words i d).no;
      first = (calls.delayed_to y.state y.seats y.words i d).first;
      count = (calls.delayed_to y.state y.seats y.words i d).count;
      word = (calls.delayed_to y.state y.seats y.words i d).word;
      layer = with_seats y (calls.delayed_seats y.state y.seats y.words i d);
    }

abbrev pub reset : SyncLayer → SyncLayer
reset y = with_seats y (calls.reset_seats y.state y.seats)

unfoldable pub served : SyncLayer → List Bool → List ℤ → ServedLayer
served y gone last =
    record {
      no = calls.request_refusal y.state y.seats gone last;
      inputs = calls.served_words y.state y.seats y.words gone last blanks;
      statuses = calls.statuses y.state y.seats y.words gone last blanks;
      layer = with_seats y (calls.served_seats y.state y.seats y.words gone last);
    }

unfoldable pub confirmed_inputs : SyncLayer → List Bool → List ℤ → ℤ → ConfirmedInputs
confirmed_inputs y gone last f =
    record {
      no = calls.confirmed_number y.state y.seats gone last f;
      frames = calls.confirmed_frames y.state y.seats gone last f zero_frames;
      inputs = calls.confirmed_words y.state y.seats y.words gone last f blanks;
    }

unfoldable pub confirmed : SyncLayer → ℤ → Bool → ConfirmedLayer
confirmed y f sparse =
    record {
      no = (calls.confirmed y.state y.seats f sparse).no;
      layer = record {
        state = (calls.confirmed y.state y.seats f sparse).layer;
        seats = calls.confirmed_seats y.state y.seats f sparse;
        words = y.words;
        slots = y.slots;
      };
    }

-- the layer that a call hands back, and after any run of calls
unfoldable pub after : SyncLayer → Call → SyncLayer
after y advance_call = (advanced y).layer
after y (save_call c) = saved y c
after y (load_call f) = (loaded y f).layer
after y (local_call i x) = (local y i x).layer
after y (remote_call i x) = (remote y i x).layer
after y (delay_call i d) = (delayed_to y i d).layer
after y reset_call = reset y
after y (request_call gone last) = (served y gone last).layer
after y (confirm_call f sparse) = (confirmed y f sparse).layer

unfoldable pub run : SyncLayer → List Call → SyncLayer
run y [] = y
run y (x ∷ l) = run (after y x) l
