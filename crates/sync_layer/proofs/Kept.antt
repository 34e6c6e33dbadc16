-- What a call presumes of a layer is given by a setup and kept by every call, refused or not. Assumes nothing.
use Prim.Native.Nat.{ℕ, zero, suc, ◌+◌, ◌-◌, ◌<◌, ◌≤◌}
use native.Mathlib.Omega.{arith}
use mathlib.Core.Path.{◌≡◌, refl}
use mathlib.Core.Bool.{Bool, true, false}
use mathlib.Core.Logic.{⊎_elim}
use mathlib.Core.List.{List, [], ◌∷◌}
use lib.ListN.{length, get_or, length-set}
use lib.Dec.{eqb}
use lib.IntN.{ℤ}
use borrow.Author.Tests.{le-leb}
use Rattle.frame_info.specs.Choice.{pick}
use Rattle.frame_info.proofs.Split.{split_eqb, split_ltb, split_bool}
use Rattle.frame_info.specs.Frame.{last_count, max_delay, count_of}
use Rattle.frame_info.specs.Word.{predicted}
use Rattle.frame_info.specs.declared.PlayerInput.{PlayerInput}
use Rattle.console.specs.declared.Console.{Console}
use Rattle.input_queue.specs.declared.QueueState.{QueueState}
use Rattle.input_queue.specs.Queue.{fresh_state, reset, discard}
use Rattle.input_queue.specs.Ring.{word_at}
use Rattle.input_queue.specs.Calls as queue
use Rattle.input_queue.specs.Whole.{Sane}
use Rattle.input_queue.proofs.Kept.{fresh_sane, asked_sane, discard_sane, reset_sane, add_long, add_whole, delayed_whole}
use Rattle.sync_layer.specs.declared.LayerState.{LayerState}
use Rattle.sync_layer.specs.Seats.{ring_of, seat_at, set_seat, map_seats}
use Rattle.sync_layer.specs.Slots.{served_from, slot_of, save_slot, clear_slots}
use Rattle.sync_layer.specs.Calls as calls
use Rattle.sync_layer.specs.Whole.{SeatRoom, WordRoom, SlotRoom, Ready, Seated, Whole}
use Rattle.sync_layer.specs.Runs as runs
use Rattle.sync_layer.specs.Runs.{Layer, WholeLayer, Call, advance_call, save_call, load_call, local_call, remote_call, delay_call, reset_call, request_call, confirm_call}
use Rattle.sync_layer.proofs.Rows.{row_long}
use Rattle.sync_layer.proofs.Seating.{seat_long, seat_same, seat_other, map_long, map_at}
use Rattle.sync_layer.proofs.Answers.{Fits, fits_in, load_past, remote_seat, local_seat, seated_whole}

-- The lists keep their lengths
pub save_long : (limit : ℕ) (l : List ℕ) (f : ℕ) (c : Console) → length (save_slot limit l f c) ≡ length l
unfolding save_slot
save_long limit l f c = row_long served_from l (slot_of limit f) (λ k. get_or ((f + 1) ∷ c.head ∷ c.kind ∷ c.seal ∷ []) k 0)

pub clear_long : (n : ℕ) (l : List ℕ) → length (clear_slots n l) ≡ length l
unfolding clear_slots
clear_long zero l = refl
clear_long (suc n) l = simp length-set (clear_long n l)

input_long : (l : List ℕ) (base : ℕ) (s : QueueState) (x : PlayerInput) → length (queue.input_words l base s x) ≡ length l
unfolding queue.input_words
input_long l base s x = grind (arith, add_long)

placed_long : (t : Bool) (l words : List ℕ) (i : ℕ) (x : PlayerInput) → length (pick t (calls.placed_words l words i x) words) ≡ length words
placed_long true l words i x = input_long words (ring_of i) (seat_at l i) x
placed_long false l words i x = refl

-- One seat, and every seat
module _ (y : LayerState) (l : List ℕ) (h : Seated y l) where
  set_seated : (i : ℕ) (s : QueueState) → i < y.num_players → Sane s → Seated y (set_seat l i s)
  set_seated i s p k = record { ready = h.ready; room = rw (seat_long l i s) h.room; seat = each }
    where
      each : (j : ℕ) → j < y.num_players → Sane (seat_at (set_seat l i s) j)
      each j q =
          ⊎_elim
          (λ e. rw (e.0, seat_same l i s (omega (arith, h.ready.few, h.room))) k)
          (λ e. rw (seat_other l i j s e.0) (h.seat j q))
          (split_eqb j i)

  map_seated : (g : ℕ → QueueState → QueueState) → ((i : ℕ) (q : QueueState) → Sane q → Sane (g i q)) → Seated y (map_seats y.num_players g l)
  map_seated g k =
      record {
        ready = h.ready;
        room = rw (map_long g y.num_players l) h.room;
        seat = λ i p. rw (map_at g y.num_players l i (omega (arith, h.ready.few, h.room)) p) (k i (seat_at l i) (h.seat i p));
      }

  -- with other numbers of its own, and as many seats
  as_seated : (z : LayerState) → z.num_players ≡ y.num_players → Ready z → Seated z l
  as_seated z e r = record { ready = r; room = h.room; seat = λ i p. h.seat i (omega (arith, e)) }

-- Setup
-- delays in range are in range one by one, past the last too, where 0 is read
pub range_each : (l : List ℕ) → calls.delays_in_range l ≡ true → (i : ℕ) → get_or l i 0 ≤ max_delay
range_each [] e i = omega arith
range_each (d ∷ l) e zero = grind arith
range_each (d ∷ l) e (suc i) = range_each l (grind arith) i

-- and back
pub each_range : (l : List ℕ) → ((i : ℕ) → i < length l → get_or l i 0 ≤ max_delay) → calls.delays_in_range l ≡ true
each_range [] h = refl
each_range (d ∷ l) h = simp (le-leb d max_delay (h 0 (omega arith))) (each_range l (λ i p. h (suc i) (omega arith)))

fresh_whole : (limit p : ℕ) (delays seats words slots : List ℕ) → Fits limit p delays → SeatRoom seats → WordRoom words → SlotRoom slots
    → Whole (calls.fresh_layer (length delays) limit p) (calls.fresh_seats delays seats) words slots
fresh_whole limit p delays seats words slots f a b d =
    record {
      seated = record {
        ready = record { one = f.some; few = f.few; near = f.near; guess = f.guess; early = omega arith };
        room = rw (map_long fresh (length delays) seats) a;
        seat = λ i q. rw (map_at fresh (length delays) seats i (omega (arith, f.few)) q) (fresh_sane (get_or delays i 0) (range_each delays f.late i));
      };
      wide = b;
      deep = d;
    }
  where
    fresh : ℕ → QueueState → QueueState
    fresh i q = fresh_state (get_or delays i 0)

one_fits : Fits 0 0 (0 ∷ [])
one_fits = record { some = omega arith; few = omega arith; near = omega arith; guess = omega arith; late = refl }

pub opened_whole : (limit p : ℕ) (delays seats words slots : List ℕ) → SeatRoom seats → WordRoom words → SlotRoom slots
    → WholeLayer (runs.opening limit p delays seats words slots)
unfolding runs.opening calls.opened calls.opened_seats calls.opened_slots
opened_whole limit p delays seats words slots a b d =
    ⊎_elim
    (λ e. rw e (fresh_whole limit p delays seats words (clear_slots (suc limit) slots) (fits_in limit p delays e) a b (rw (clear_long (suc limit) slots) d)))
    (λ e. rw e (fresh_whole 0 0 (0 ∷ []) seats words (clear_slots 1 slots) one_fits a b (rw (clear_long 1 slots) d)))
    (split_bool (calls.fits limit p delays))

-- The layer's own numbers
module _ (y : LayerState) (h : Ready y) where
  current_ready : (f : ℕ) → f < last_count → Ready (calls.with_current y f)
  current_ready f p = record { one = h.one; few = h.few; near = h.near; guess = h.guess; early = p }

  advanced_ready : Ready (calls.advanced y).layer
  unfolding calls.advanced
  advanced_ready =
      ⊎_elim (λ a. simp a.1 (current_ready (y.current_frame + 1) a.0)) (λ a. simp a.1 h) (split_ltb (y.current_frame + 1) last_count)

  loaded_ready : (slots : List ℕ) (f : ℤ) → Ready (calls.loaded y slots f).layer
  unfolding calls.loaded
  loaded_ready slots f =
      ⊎_elim
      (λ a. simp a.1 (current_ready (count_of f - 1) (omega (arith, load_past y slots (count_of f) a.0, h.early))))
      (λ a. simp a.1 h)
      (split_eqb (calls.load_refusal y slots (count_of f)) 0)

-- what a setup fixes, no call changes
pub record Same (y z : LayerState) : Type 0 where
  pub seats : z.num_players ≡ y.num_players
  pub limit : z.max_prediction ≡ y.max_prediction
  pub predictor : z.predictor ≡ y.predictor

same : (y : LayerState) → Same y y
same y = record { seats = refl; limit = refl; predictor = refl }

advanced_same : (y : LayerState) → Same y (calls.advanced y).layer
unfolding calls.advanced
advanced_same y = record { seats = grind arith; limit = grind arith; predictor = grind arith }

loaded_same : (y : LayerState) (slots : List ℕ) (f : ℤ) → Same y (calls.loaded y slots f).layer
unfolding calls.loaded
loaded_same y slots f = record { seats = grind arith; limit = grind arith; predictor = grind arith }

confirmed_same : (y : LayerState) (l : List ℕ) (f : ℤ) (sparse : Bool) → Same y (calls.confirmed y l f sparse).layer
unfolding calls.confirmed
confirmed_same y l f sparse = record { seats = grind arith; limit = grind arith; predictor = grind arith }

-- Inputs
module _ (y : LayerState) (l : List ℕ) (h : Seated y l) where
  placed_seated : (n : ℕ) (words : List ℕ) (i : ℕ) (x : PlayerInput) → WordRoom words → (n ≡ 0 → i < y.num_players)
      → Seated y (pick (eqb n 0) (calls.placed_seats l words i x) l)
  placed_seated n words i x w p =
      ⊎_elim
      (λ a. rw a.1
      (set_seated y l h i (queue.add_input words (ring_of i) (seat_at l i) x).state (p a.0)
      (add_whole words (ring_of i) (seat_at l i) (seated_whole y l i words h (p a.0) w) x).numbers))
      (λ a. rw a.1 h)
      (split_eqb n 0)

  delayed_seated : (words : List ℕ) (i d : ℕ) → WordRoom words → Seated y (calls.delayed_seats y l words i d)
  unfolding calls.delayed_seats
  delayed_seated words i d w =
      ⊎_elim
      (λ a. simp a.1
      (set_seated y l h i (queue.delayed_to words (ring_of i) (seat_at l i) d).state a.0
      (delayed_whole words (ring_of i) (seat_at l i) (seated_whole y l i words h a.0 w) d).numbers))
      (λ a. simp a.1 h)
      (split_ltb i y.num_players)

  reset_seated : Seated y (calls.reset_seats y l)
  reset_seated = map_seated y l h (λ i q. reset q) (λ i q k. reset_sane q k)

  served_seated : (words : List ℕ) (gone : List Bool) (last : List ℤ) → Seated y (calls.served_seats y l words gone last)
  unfolding calls.served_seats
  served_seated words gone last =
      ⊎_elim
      (λ a. simp a.1 (map_seated y l h (calls.asked_seat y l words gone last) asks))
      (λ a. simp a.1 h)
      (split_eqb (calls.request_refusal y l gone last) 0)
    where
      asks : (i : ℕ) (q : QueueState) → Sane q → Sane (calls.asked_seat y l words gone last i q)
      asks i q k =
          ⊎_elim
          (λ e. rw e k)
          (λ e. rw e (asked_sane (predicted y.predictor) (word_at words (ring_of i)) q y.current_frame k))
          (split_bool (calls.gone_below y.current_frame gone last i))

  -- Confirm
  discard_seated : (f : ℕ) → Seated y (calls.discard_below y f l)
  discard_seated f =
      ⊎_elim
      (λ a. simp a.1 (map_seated y l h (λ i q. discard q (f - 1)) (λ i q k. discard_sane q (f - 1) k)))
      (λ a. simp a.1 h)
      (split_ltb 0 f)

  confirmed_seated : (f : ℤ) (sparse : Bool) → Seated (calls.confirmed y l f sparse).layer (calls.confirmed_seats y l f sparse)
  unfolding calls.confirmed calls.confirmed_seats
  confirmed_seated f sparse =
      ⊎_elim
      (λ a. simp a.1 (as_seated y (calls.discard_below y (cap - 1) l) (discard_seated (cap - 1)) (calls.with_confirmed y cap) refl ready))
      (λ a. simp a.1 h)
      (split_eqb (calls.confirm_refusal y l (count_of f) sparse) 0)
    where
      cap : ℕ
      cap = calls.confirm_cap y (count_of f) sparse

      ready : Ready (calls.with_confirmed y cap)
      ready = let r = h.ready in record { one = r.one; few = r.few; near = r.near; guess = r.guess; early = r.early }

-- So it holds after every call, and after any run of them.
module _ (y : Layer) (h : WholeLayer y) where
  inputs_whole : (n i : ℕ) (x : PlayerInput) → (n ≡ 0 → i < y.state.num_players)
      → WholeLayer (runs.with_queues y (pick (eqb n 0) (calls.placed_seats y.seats y.words i x) y.seats) (pick (eqb n 0) (calls.placed_words y.seats y.words i x) y.words))
  inputs_whole n i x p =
      record {
        seated = placed_seated y.state y.seats h.seated n y.words i x h.wide p;
        wide = rw (placed_long (eqb n 0) y.seats y.words i x) h.wide;
        deep = h.deep;
      }

  seats_whole : (l : List ℕ) → Seated y.state l → WholeLayer (runs.with_queues y l y.words)
  seats_whole l k = record { seated = k; wide = h.wide; deep = h.deep }

  state_whole : (z : LayerState) → z.num_players ≡ y.state.num_players → Ready z → WholeLayer (runs.with_state y z)
  state_whole z e r = record { seated = as_seated y.state y.seats h.seated z e r; wide = h.wide; deep = h.deep }

pub after_same : (y : Layer) (x : Call) → Same y.state (runs.after y x).state
unfolding runs.after
after_same y advance_call = advanced_same y.state
after_same y (save_call c) = record { seats = refl; limit = refl; predictor = refl }
after_same y (load_call f) = loaded_same y.state y.slots f
after_same y (local_call i x) = same y.state
after_same y (remote_call i x) = same y.state
after_same y (delay_call i d) = same y.state
after_same y reset_call = same y.state
after_same y (request_call gone last) = same y.state
after_same y (confirm_call f sparse) = confirmed_same y.state y.seats f sparse

pub after_whole : (y : Layer) (x : Call) → WholeLayer y → WholeLayer (runs.after y x)
unfolding runs.after calls.local_seats calls.local_words calls.remote_seats calls.remote_words
after_whole y advance_call h =
    state_whole y h (calls.advanced y.state).layer (advanced_same y.state).seats (advanced_ready y.state h.seated.ready)
after_whole y (save_call c) h =
    let r = h.seated.ready in
    record {
      seated = as_seated y.state y.seats h.seated (calls.saved_layer y.state) refl
          (record { one = r.one; few = r.few; near = r.near; guess = r.guess; early = r.early });
      wide = h.wide;
      deep = rw (save_long y.state.max_prediction y.slots y.state.current_frame c) h.deep;
    }
after_whole y (load_call f) h =
    state_whole y h (calls.loaded y.state y.slots f).layer (loaded_same y.state y.slots f).seats (loaded_ready y.state h.seated.ready y.slots f)
after_whole y (local_call i x) h =
    inputs_whole y h (calls.local_refusal y.state y.seats i (count_of x.frame)) i x (local_seat y.state y.seats i (count_of x.frame))
after_whole y (remote_call i x) h =
    inputs_whole y h (calls.remote_refusal y.state y.seats i (count_of x.frame)) i x (remote_seat y.state y.seats i (count_of x.frame))
after_whole y (delay_call i d) h =
    seats_whole y h (calls.delayed_seats y.state y.seats y.words i d) (delayed_seated y.state y.seats h.seated y.words i d h.wide)
after_whole y reset_call h =
    seats_whole y h (calls.reset_seats y.state y.seats) (reset_seated y.state y.seats h.seated)
after_whole y (request_call gone last) h =
    seats_whole y h (calls.served_seats y.state y.seats y.words gone last) (served_seated y.state y.seats h.seated y.words gone last)
after_whole y (confirm_call f sparse) h =
    record { seated = confirmed_seated y.state y.seats h.seated f sparse; wide = h.wide; deep = h.deep }

pub run_whole : (y : Layer) (l : List Call) → WholeLayer y → WholeLayer (runs.run y l)
unfolding runs.run
run_whole y [] h = h
run_whole y (x ∷ l) h = run_whole (runs.after y x) l (after_whole y x h)

-- THE CLAIM: whatever a setup and any run of calls lead to, on lists with room, is whole.
pub reached_whole : (limit p : ℕ) (delays seats words slots : List ℕ) (l : List Call) → SeatRoom seats → WordRoom words → SlotRoom slots
    → WholeLayer (runs.run (runs.opening limit p delays seats words slots) l)
reached_whole limit p delays seats words slots l a b d =
    run_whole (runs.opening limit p delays seats words slots) l (opened_whole limit p delays seats words slots a b d)
