-- The desk's take, settle and advance as calls of the layer, in document 01's order, each with the layer's own refusals and effects: remote
-- input, load, reset, save, the request of all seats, the count of frames, confirm. A refusal would stop the call there.
use Rattle.std.specs.Prelude.{ℕ, zero, suc, ◌+◌, ◌-◌, Bool, false, List, ◌≡◌, eqb, ℤ, replicate, get_or}
use Rattle.frame_info.specs.Choice.{pick}
use Rattle.frame_info.specs.Frame.{null_frame, count_of, frame_of}
use Rattle.frame_info.specs.Word.{blank, player_input}
use Rattle.frame_info.specs.Refusal.{done}
use Rattle.console.specs.declared.Console.{Console}
use Rattle.sync_layer.specs.Lists.{write_row}
use Rattle.sync_layer.specs.Seats.{max_seats}
use Rattle.sync_layer.specs.Slots.{served_from, slot_of}
use Rattle.sync_layer.specs.Calls.{remote, lowest_mismatch, loaded, request_refusal, served_words, advanced, confirmed}
use Rattle.sync_layer.specs.Runs as layers
use Rattle.sync_layer.specs.Runs.{Layer, remote_call, reset_call, save_call, load_call, request_call, confirm_call}
use Rattle.desk.specs.Lists.{row_of}
use Rattle.desk.specs.Desk.{Desk, known_of, take_answer, advance_answer}
use Rattle.desk.specs.Calls.{show_answer, log_answer}
use Rattle.desk.specs.Runs.{Call, take_call, settle_call, advance_call, show_call, log_call}

-- A layer with its lists, and the console beside it.
pub record Driven : Type 0 where
  pub layer : Layer
  pub console : Console

-- The layer of a desk. It also has a last saved and a last confirmed frame, which a desk does not keep: they may be any.
abbrev pub driven : ℕ → ℕ → Desk → Driven
driven saved sure d =
    record {
      layer = record {
        state = record {
          num_players = d.state.seats;
          max_prediction = d.state.limit;
          predictor = d.state.predictor;
          current_frame = d.state.current;
          last_saved_count = saved;
          last_confirmed_count = sure;
        };
        seats = d.seats;
        words = d.words;
        slots = d.slots;
      };
      console = d.state.console;
    }

-- and the desk of a layer
abbrev pub desk_of : Driven → Desk
desk_of z =
    record {
      state = record {
        seats = z.layer.state.num_players;
        limit = z.layer.state.max_prediction;
        predictor = z.layer.state.predictor;
        current = z.layer.state.current_frame;
        console = z.console;
      };
      seats = z.layer.seats;
      words = z.layer.words;
      slots = z.layer.slots;
    }

-- the layer's number of seats, its limit and its current frame
abbrev pub seats_of : Driven → ℕ
seats_of z = z.layer.state.num_players

abbrev pub limit_of : Driven → ℕ
limit_of z = z.layer.state.max_prediction

abbrev pub current_of : Driven → ℕ
current_of z = z.layer.state.current_frame

-- what a call came to: its number, and what it left
pub record Tried : Type 0 where
  pub number : ℕ
  pub left : Driven

abbrev pub said : ℕ → Driven → Tried
said n z = record { number = n; left = z }

-- go on where nothing was refused
abbrev pub onward : Tried → (Driven → Tried) → Tried
onward r k = pick (eqb r.number 0) (k r.left) r

-- a call of the layer, and then the console as it is to be
abbrev pub calling : Driven → layers.Call → Console → Driven
calling z x c = record { layer = layers.after z.layer x; console = c }

-- Take: a seat's first frame is 0, and each one after it is the next; then it is the layer's remote input.
unfoldable pub tried_input : ℕ → ℤ → ℕ → Driven → Tried
tried_input s f w z =
    said (remote z.layer.state z.layer.seats z.layer.words s (player_input f w)).no (calling z (remote_call s (player_input f w)) z.console)

unfoldable pub tried_take : ℕ → ℤ → ℕ → Driven → Tried
tried_take s f w z = onward (said (take_answer (desk_of z) s (count_of f)) z) (tried_input s f w)

-- Load answers the state that was saved: it is the console's.
unfoldable pub tried_load : ℤ → Driven → Tried
tried_load f z =
    said (loaded z.layer.state z.layer.slots f).no
    (calling z (load_call f) (loaded z.layer.state z.layer.slots f).state)

unfoldable pub resetting : Driven → Driven
resetting z = calling z reset_call z.console

unfoldable pub saving : Driven → Driven
saving z = calling z (save_call z.console) z.console

-- All seats are requested, and nobody is gone: a list says so of each seat, and its last frame, which then does not matter.
abbrev pub nobody : Driven → List Bool
nobody z = replicate (seats_of z) false

abbrev pub no_frame : Driven → List ℤ
no_frame z = replicate (seats_of z) null_frame

-- the word that is served to seat s
abbrev pub word_served : Driven → ℕ → ℕ
word_served z s =
    get_or (served_words z.layer.state z.layer.seats z.layer.words (nobody z) (no_frame z) (replicate max_seats blank)) s blank

unfoldable pub tried_request : Driven → Tried
tried_request z =
    said (request_refusal z.layer.state z.layer.seats (nobody z) (no_frame z)) (calling z (request_call (nobody z) (no_frame z)) z.console)

-- the frame's slot with words beside its state
abbrev pub with_words : Driven → (ℕ → ℕ) → Driven
with_words z g =
    record {
      layer = record {
        state = z.layer.state;
        seats = z.layer.seats;
        words = z.layer.words;
        slots = write_row (seats_of z) z.layer.slots (slot_of (limit_of z) (current_of z) + served_from) g;
      };
      console = z.console;
    }

unfoldable pub tried_count : Driven → Tried
tried_count z = said (advanced z.layer.state).no (calling z layers.advance_call z.console)

-- a confirm of frame f, not sparse
abbrev pub confirming : ℤ → Driven → Tried
confirming f z = said (confirmed z.layer.state z.layer.seats f false).no (calling z (confirm_call f false) z.console)

-- Confirm K; left out while K is none.
unfoldable pub tried_confirm : Driven → Tried
tried_confirm z = pick (eqb (known_of (desk_of z)) 0) (said done z) (confirming (frame_of (known_of (desk_of z))) z)

module _ (step : Console → List ℕ → Console) where
  -- the console steps by a row
  abbrev pub stepping : Driven → List ℕ → Driven
  stepping z row = record { layer = z.layer; console = step z.console row }

  -- One frame: save, request all seats, the words served into the slot, step, current + 1.
  unfoldable pub tried_frame : Driven → Tried
  tried_frame z =
      let s = saving z in
      onward (tried_request s)
      (λ r. tried_count (stepping (with_words r (word_served s)) (row_of (seats_of z) (word_served s))))

  -- Replay is one frame and then the rest of the replay.
  unfoldable pub tried_replay : ℕ → Driven → Tried
  tried_replay zero z = said done z
  tried_replay (suc n) z = onward (tried_frame z) (tried_replay n)

  -- If a mismatch stands: load the lowest, reset all, and replay to the current frame.
  unfoldable pub tried_corrected : Driven → Tried
  tried_corrected z =
      let lowest = lowest_mismatch z.layer.state z.layer.seats in
      pick (eqb (count_of lowest) 0)
      (said done z)
      (onward (tried_load lowest z) (λ b. tried_replay (current_of z - current_of b) (resetting b)))

  -- correct, and then confirm K
  unfoldable pub tried_settle : Driven → Tried
  tried_settle z = onward (tried_corrected z) tried_confirm

  -- an advance's own refusals, settle, and one frame
  unfoldable pub tried_advance : Driven → Tried
  tried_advance z = onward (said (advance_answer (desk_of z)) z) (λ s. onward (tried_settle s) tried_frame)

-- the number that each call's own promise answers
unfoldable pub answer_of : Desk → Call → ℕ
answer_of d (take_call s f w) = take_answer d s (count_of f)
answer_of d settle_call = done
answer_of d advance_call = advance_answer d
answer_of d (show_call f) = show_answer d (count_of f)
answer_of d (log_call f room) = log_answer d (count_of f) room

-- what was tried ends by number n, with the desk d
pub record ComesTo (n : ℕ) (d : Desk) (r : Tried) : Type 0 where
  pub number : r.number ≡ n
  pub desk : desk_of r.left ≡ d
