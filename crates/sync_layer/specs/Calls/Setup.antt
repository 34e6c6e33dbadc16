-- Setup: what it refuses, and the fresh layer that it hands back.
use Rattle.std.specs.Prelude.{ℕ, suc, Bool, true, false, List, [], ◌∷◌, length, get_or, ltb, leb, eqb}
use Rattle.frame_info.specs.Choice.{pick}
use Rattle.frame_info.specs.Frame.{max_delay, predictors}
use Rattle.frame_info.specs.Refusal.{done, out_of_range}
use Rattle.input_queue.specs.Queue.{fresh_state}
use Rattle.sync_layer.specs.declared.LayerState.{LayerState}
use Rattle.sync_layer.specs.Answer.{Opened}
use Rattle.sync_layer.specs.Seats.{max_seats, map_seats}
use Rattle.sync_layer.specs.Slots.{max_limit, clear_slots}

-- every delay is in range
abbrev pub delays_in_range : List ℕ → Bool
delays_in_range [] = true
delays_in_range (d ∷ l) = pick (leb d max_delay) (delays_in_range l) false

-- 1 where the seats, the limit, a delay or the predictor is out of range; there is one delay for each seat
unfoldable pub fits : ℕ → ℕ → List ℕ → Bool
fits limit p delays =
    pick (eqb (length delays) 0)
    false
    (pick (leb (length delays) max_seats) (pick (leb limit max_limit) (pick (ltb p predictors) (delays_in_range delays) false) false) false)

abbrev pub fresh_layer : ℕ → ℕ → ℕ → LayerState
fresh_layer n limit p =
    record {
      num_players = n;
      max_prediction = limit;
      predictor = p;
      current_frame = 0;
      last_saved_count = 0;
      last_confirmed_count = 0;
    }

-- every seat fresh with its own delay
abbrev pub fresh_seats : List ℕ → List ℕ → List ℕ
fresh_seats delays l = map_seats (length delays) (λ i q. fresh_state (get_or delays i 0)) l

-- a refused setup hands back a fresh layer of one seat with limit, delay and predictor 0
unfoldable pub opened : ℕ → ℕ → List ℕ → Opened
opened limit p delays =
    pick (fits limit p delays)
    (record { no = done; layer = fresh_layer (length delays) limit p })
    (record { no = out_of_range; layer = fresh_layer 1 0 0 })

unfoldable pub opened_seats : ℕ → ℕ → List ℕ → List ℕ → List ℕ
opened_seats limit p delays l = pick (fits limit p delays) (fresh_seats delays l) (fresh_seats (0 ∷ []) l)

unfoldable pub opened_slots : ℕ → ℕ → List ℕ → List ℕ → List ℕ
opened_slots limit p delays l = pick (fits limit p delays) (clear_slots (suc limit) l) (clear_slots 1 l)
