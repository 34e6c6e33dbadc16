-- Consistency and confirm.
use Rattle.std.specs.Prelude.{ℕ, ◌+◌, ◌-◌, min, Bool, List, ltb, eqb, ℤ}
use Rattle.frame_info.specs.Choice.{pick}
use Rattle.frame_info.specs.Frame.{count_of, frame_of}
use Rattle.frame_info.specs.Refusal.{done, frame_below_zero, above_mismatch}
use Rattle.input_queue.specs.Queue.{discard}
use Rattle.sync_layer.specs.declared.LayerState.{LayerState}
use Rattle.sync_layer.specs.Answer.{Confirmed}
use Rattle.sync_layer.specs.Lists.{lowest_of}
use Rattle.sync_layer.specs.Seats.{seat_at, map_seats}

-- the lowest mismatch of the seats, as a count
abbrev pub mismatch_of : LayerState → List ℕ → ℕ
mismatch_of y seats = lowest_of y.num_players (λ i. (seat_at seats i).first_incorrect_count)

-- Consistency is the lowest mismatch, or -1.
abbrev pub lowest_mismatch : LayerState → List ℕ → ℤ
lowest_mismatch y seats = frame_of (mismatch_of y seats)

-- Confirm takes the least of f, last saved if sparse, and current. All three, and what is taken, are counts.
abbrev pub confirm_cap : LayerState → ℕ → Bool → ℕ
confirm_cap y c sparse = min (pick sparse (min c y.last_saved_count) c) (y.current_frame + 1)

-- 7, and 15 where that is above any seat's mismatch
unfoldable pub cap_refusal : LayerState → List ℕ → ℕ → ℕ → ℕ
cap_refusal y seats c cap =
    pick (eqb c 0)
    frame_below_zero
    (pick (eqb (mismatch_of y seats) 0) done (pick (ltb (mismatch_of y seats) cap) above_mismatch done))

abbrev pub confirm_refusal : LayerState → List ℕ → ℕ → Bool → ℕ
confirm_refusal y seats c sparse = cap_refusal y seats c (confirm_cap y c sparse)

abbrev pub with_confirmed : LayerState → ℕ → LayerState
with_confirmed y c =
    record {
      num_players = y.num_players;
      max_prediction = y.max_prediction;
      predictor = y.predictor;
      current_frame = y.current_frame;
      last_saved_count = y.last_saved_count;
      last_confirmed_count = c;
    }

unfoldable pub confirmed : LayerState → List ℕ → ℤ → Bool → Confirmed
confirmed y seats f sparse =
    pick (eqb (confirm_refusal y seats (count_of f) sparse) 0)
    (record { no = done; layer = with_confirmed y (confirm_cap y (count_of f) sparse) })
    (record { no = confirm_refusal y seats (count_of f) sparse; layer = y })

-- where the frame f that is confirmed is positive, every queue discards to one less
abbrev pub discard_below : LayerState → ℕ → List ℕ → List ℕ
discard_below y f seats = pick (ltb 0 f) (map_seats y.num_players (λ i q. discard q (f - 1)) seats) seats

unfoldable pub confirmed_seats : LayerState → List ℕ → ℤ → Bool → List ℕ
confirmed_seats y seats f sparse =
    pick (eqb (confirm_refusal y seats (count_of f) sparse) 0) (discard_below y (confirm_cap y (count_of f) sparse - 1) seats) seats
