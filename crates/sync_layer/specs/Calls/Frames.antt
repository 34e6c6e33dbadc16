-- The count of frames, and the saved states: save, load, the saved lookup, the latest saved in a range.
use Rattle.std.specs.Prelude.{ℕ, suc, ◌+◌, ◌-◌, Bool, List, ltb, leb, eqb, ℤ}
use Rattle.frame_info.specs.Choice.{pick}
use Rattle.frame_info.specs.Frame.{null_frame, last_count, count_of, frame_of}
use Rattle.frame_info.specs.Refusal.{done, frame_too_high, frame_below_zero, load_not_past, load_too_old, slot_holds_another}
use Rattle.console.specs.Step.{start}
use Rattle.sync_layer.specs.declared.LayerState.{LayerState}
use Rattle.sync_layer.specs.Answer.{Advanced, Loaded, Saved, Latest}
use Rattle.sync_layer.specs.Slots.{slot_at, state_in, highest_in}

-- the frames as the calls tell them
abbrev pub current_frame_of : LayerState → ℤ
current_frame_of y = frame_of (y.current_frame + 1)

abbrev pub last_saved : LayerState → ℤ
last_saved y = frame_of y.last_saved_count

abbrev pub last_confirmed : LayerState → ℤ
last_confirmed y = frame_of y.last_confirmed_count

abbrev pub with_current : LayerState → ℕ → LayerState
with_current y f =
    record {
      num_players = y.num_players;
      max_prediction = y.max_prediction;
      predictor = y.predictor;
      current_frame = f;
      last_saved_count = y.last_saved_count;
      last_confirmed_count = y.last_confirmed_count;
    }

-- 6 at the last frame
unfoldable pub advanced : LayerState → Advanced
advanced y =
    pick (ltb (y.current_frame + 1) last_count)
    (record { no = done; layer = with_current y (y.current_frame + 1) })
    (record { no = frame_too_high; layer = y })

abbrev pub saved_layer : LayerState → LayerState
saved_layer y =
    record {
      num_players = y.num_players;
      max_prediction = y.max_prediction;
      predictor = y.predictor;
      current_frame = y.current_frame;
      last_saved_count = y.current_frame + 1;
      last_confirmed_count = y.last_confirmed_count;
    }

-- the slot of the frame with count c holds it
abbrev pub holds : ℕ → List ℕ → ℕ → Bool
holds limit slots c = eqb (slot_at limit slots (c - 1) 0) c

-- Load: 7, 8 for the current frame or a later one, 9 for one more than the limit before it, 10 where the slot does not hold it
unfoldable pub load_refusal : LayerState → List ℕ → ℕ → ℕ
load_refusal y slots c =
    pick (eqb c 0)
    frame_below_zero
    (pick (ltb y.current_frame c)
    load_not_past
    (pick (leb (c + y.max_prediction) y.current_frame) load_too_old (pick (holds y.max_prediction slots c) done slot_holds_another)))

unfoldable pub loaded : LayerState → List ℕ → ℤ → Loaded
loaded y slots f =
    pick (eqb (load_refusal y slots (count_of f)) 0)
    (record { no = done; state = state_in y.max_prediction slots (count_of f - 1); layer = with_current y (count_of f - 1) })
    (record { no = load_refusal y slots (count_of f); state = start; layer = y })

-- Saved lookup: 7, 10
unfoldable pub saved_refusal : ℕ → List ℕ → ℕ → ℕ
saved_refusal limit slots c = pick (eqb c 0) frame_below_zero (pick (holds limit slots c) done slot_holds_another)

unfoldable pub saved_by : LayerState → List ℕ → ℤ → Saved
saved_by y slots f =
    pick (eqb (saved_refusal y.max_prediction slots (count_of f)) 0)
    (record { no = done; state = state_in y.max_prediction slots (count_of f - 1) })
    (record { no = saved_refusal y.max_prediction slots (count_of f); state = start })

-- Latest saved in a range: 7 for either end; the highest frame held within it, or -1
unfoldable pub latest : LayerState → List ℕ → ℤ → ℤ → Latest
latest y slots f g =
    pick (eqb (count_of f) 0)
    (record { no = frame_below_zero; frame = null_frame })
    (pick (eqb (count_of g) 0)
    (record { no = frame_below_zero; frame = null_frame })
    (record { no = done; frame = frame_of (highest_in (suc y.max_prediction) slots (count_of f) (count_of g)) }))
