-- What a call that is not refused says of what it was given. Assumes nothing.
use Prim.Native.Nat.{ℕ, ◌<◌, ◌≤◌}
use native.Mathlib.Omega.{arith}
use mathlib.Core.Path.{◌≡◌}
use mathlib.Core.Bool.{true}
use mathlib.Core.List.{List, [], ◌∷◌}
use lib.ListN.{length}
use lib.Dec.{leb}
use Rattle.std.specs.List.{list_all}
use Rattle.frame_info.specs.Frame.{predictors, max_delay}
use Rattle.input_queue.specs.Whole as queues
use Rattle.sync_layer.specs.declared.LayerState.{LayerState}
use Rattle.sync_layer.specs.Seats.{max_seats, ring_of, seat_at}
use Rattle.sync_layer.specs.Slots.{max_limit}
use Rattle.sync_layer.specs.Calls as calls
use Rattle.sync_layer.specs.Whole.{Seated, WordRoom}

-- the delays are in range where each is
pub all_in_range : (l : List ℕ) → list_all (λ d. leb d max_delay) l ≡ calls.delays_in_range l
all_in_range [] = grind arith
all_in_range (d ∷ l) = grind (arith, all_in_range l)

-- what fits is within its ranges
pub record Fits (limit p : ℕ) (l : List ℕ) : Type 0 where
  pub some : 0 < length l
  pub few : length l ≤ max_seats
  pub near : limit ≤ max_limit
  pub guess : p < predictors
  pub late : calls.delays_in_range l ≡ true

pub fits_in : (limit p : ℕ) (l : List ℕ) → calls.fits limit p l ≡ true → Fits limit p l
unfolding calls.fits
fits_in limit p l e =
    record { some = grind arith; few = grind arith; near = grind arith; guess = grind arith; late = grind arith }

pub load_past : (y : LayerState) (slots : List ℕ) (c : ℕ) → calls.load_refusal y slots c ≡ 0 → c ≤ y.current_frame
unfolding calls.load_refusal
load_past y slots c z = grind arith

module _ (y : LayerState) (l : List ℕ) (i : ℕ) where
  pub remote_seat : (c : ℕ) → calls.remote_refusal y l i c ≡ 0 → i < y.num_players
  unfolding calls.remote_refusal
  remote_seat c z = grind arith

  pub local_seat : (c : ℕ) → calls.local_refusal y l i c ≡ 0 → i < y.num_players
  unfolding calls.local_refusal
  local_seat c z = grind arith

  pub seated_whole : (words : List ℕ) → Seated y l → i < y.num_players → WordRoom words → queues.Whole words (ring_of i) (seat_at l i)
  seated_whole words g p w = record { room = omega (arith, g.ready.few); numbers = g.seat i p }
