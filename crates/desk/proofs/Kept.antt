-- What a call presumes of a desk is given by a setup and kept by every call. Assumes nothing.
use Prim.Native.Nat.{ℕ, zero, suc, ◌+◌, ◌-◌, ◌<◌, ◌≤◌, min}
use native.Mathlib.Omega.{arith}
use mathlib.Core.Path.{◌≡◌, refl, ap, sym, ◌∙◌}
use mathlib.Core.Bool.{true, false}
use mathlib.Core.Logic.{◌⊎◌, ⊎_elim}
use Prim.{absurd}
use mathlib.Core.List.{List, [], ◌∷◌}
use lib.ListN.{length, get_or}
use borrow.Author.Tests.{le-leb, lt-ltb, ne_eqb}
use Rattle.frame_info.proofs.Split.{split_eqb, split_ltb, split_leb, split_bool}
use Rattle.frame_info.specs.Frame.{last_count, count_of}
use Rattle.console.specs.declared.Console.{Console}
use Rattle.input_queue.specs.declared.QueueState.{QueueState}
use Rattle.input_queue.specs.Queue as queue
use Rattle.input_queue.specs.Queue.{fresh_state, put, fill, used, add, asked, newest, reset, discard}
use Rattle.input_queue.specs.Ring.{word_at}
use Rattle.input_queue.specs.Calls.{overfull}
use Rattle.input_queue.proofs.Cases.{wrong_idle, wrong_stands, wrong_matched, wrong_begins, predicting_idle, predicting_on, predicting_ends}
use Rattle.input_queue.proofs.Kept.{fresh_sane, not_over, add_sane, asked_sane, discard_sane, reset_sane, add_long}
use Rattle.sync_layer.specs.Lists.{lowest_of}
use Rattle.sync_layer.specs.Seats.{ring_of, seat_at, map_seats}
use Rattle.sync_layer.specs.Slots.{slot_of, served_from, save_slot}
use Rattle.sync_layer.specs.Calls as layer
use Rattle.sync_layer.specs.Whole.{SeatRoom, WordRoom, SlotRoom}
use Rattle.sync_layer.proofs.Rows.{row_long}
use Rattle.sync_layer.proofs.Answers.{fits_in}
use Rattle.sync_layer.proofs.Kept.{save_long, clear_long, range_each, each_range}
use Rattle.sync_layer.proofs.Seating.{seat_long, seat_same, seat_other, map_long, map_at}
use Rattle.desk.specs.declared.DeskState.{DeskState}
use Rattle.desk.specs.Desk.{Desk, Setup, queue_of, known_of, mismatch_of, setup_state, setup_of, take_answer, taken, take, load, reset_all, discard_all, confirm, advance_answer, serve, one_frame, replay, corrected, settle, advance}
use Rattle.desk.specs.Runs.{Call, take_call, settle_call, advance_call, show_call, log_call, after, run_from, run, Fit}
use Rattle.desk.specs.Whole.{Guessing, Seat, Seated, Whole}

-- One seat ----------------------------------------------------------------------------------------------------------------------

-- what a seat's mismatch and prediction are to the current frame
record Follows (c : ℕ) (q : QueueState) : Type 0 where
  past : q.first_incorrect_count ≤ c
  guessing : (q.prediction_count ≡ 0 → ⊥) → q.first_incorrect_count ≡ 0 → Guessing c q

wrong_past : (c : ℕ) (q : QueueState) (w : ℕ) → Follows c q → queue.wrong_after q w ≤ c
wrong_past c q w h =
    ⊎_elim
    (λ a. rw (← wrong_idle q w a.0) h.past)
    (λ a. ⊎_elim
    (λ b. ⊎_elim
    (λ d. rw (← wrong_matched q w a.0 b.0 d.0) (omega arith))
    (λ d. rw (← wrong_begins q w a.0 b.0 d.0) (omega (arith, (h.guessing a.0 b.0).past)))
    (split_eqb q.prediction w))
    (λ b. rw (← wrong_stands q w a.0 b.0) h.past)
    (split_eqb q.first_incorrect_count 0))
    (split_eqb q.prediction_count 0)

wrong_none : (q : QueueState) (w : ℕ) → (q.prediction_count ≡ 0 → ⊥) → queue.wrong_after q w ≡ 0 → q.first_incorrect_count ≡ 0
wrong_none q w a e =
    ⊎_elim (λ b. b.0) (λ b. wrong_stands q w a b.0 ∙ e) (split_eqb q.first_incorrect_count 0)

-- a word that is stored
module _ (c : ℕ) (q : QueueState) (w : ℕ) (h : Follows c q) where
  put_guessing : (queue.predicting_after q (queue.wrong_after q w) ≡ 0 → ⊥) → queue.wrong_after q w ≡ 0
      → (queue.predicting_after q (queue.wrong_after q w) ≡ q.last_added_count + 1 + 1) × (q.last_requested_count ≡ c) × (q.last_added_count + 1 < c)
  put_guessing z e =
      ⊎_elim
      (λ a. absurd (z (sym (predicting_idle q (queue.wrong_after q w) a.0))))
      (λ a.
      let g = h.guessing a.0 (wrong_none q w a.0 e) in
      ⊎_elim
      (λ b. absurd (z (sym (predicting_ends q (queue.wrong_after q w) a.0 b.0 e))))
      (λ b. (
        sym (predicting_on q (queue.wrong_after q w) a.0 b.0) ∙ ap (λ (x : ℕ). x + 1) g.next,
        g.last,
        omega (arith, g.next, g.last, g.past, b.0),
      ))
      (split_eqb q.prediction_count q.last_requested_count))
      (split_eqb q.prediction_count 0)

  put_follows : Follows c (put q w)
  unfolding put
  put_follows =
      record {
        past = wrong_past c q w h;
        guessing = λ z e. let g = put_guessing z e in record { next = g.0; last = g.1; past = g.2 };
      }

fill_follows : (c n : ℕ) (q : QueueState) (w : ℕ) → Follows c q → Follows c (fill n q w)
unfolding fill
fill_follows c zero q w h = h
fill_follows c (suc n) q w h = put_follows c (fill n q w) w (fill_follows c n q w h)

used_follows : (c : ℕ) (q : QueueState) (f : ℕ) → Follows c q → Follows c (used q f)
used_follows c q f h =
    record {
      past = h.past;
      guessing = λ z e. let g = h.guessing z e in record { next = g.next; last = g.last; past = g.past };
    }

add_follows : (c : ℕ) (at : ℕ → ℕ) (q : QueueState) (f w : ℕ) → Follows c q → Follows c (add at q f w)
unfolding add
add_follows c at q f w h =
    ⊎_elim
    (λ a. simp a.1 (used_follows c q f h))
    (λ a. simp a.1
    (put_follows c (fill (f + q.frame_delay - q.last_added_count) (used q f) (newest at q.last_added_count)) w
    (fill_follows c (f + q.frame_delay - q.last_added_count) (used q f) (newest at q.last_added_count) (used_follows c q f h))))
    (split_ltb (f + q.frame_delay) q.last_added_count)

follows : (c : ℕ) (q : QueueState) → Seat c q → Follows c q
follows c q h = record { past = h.past; guessing = h.guessing }

pub fresh_seat : (d : ℕ) → d ≤ 60 → Seat 0 (fresh_state d)
fresh_seat d h = record { sane = fresh_sane d h; past = omega arith; guessing = λ z e. absurd (z refl) }

pub add_seat : (c : ℕ) (at : ℕ → ℕ) (q : QueueState) (f w : ℕ) → Seat c q → f < last_count → (f + q.frame_delay < q.last_added_count) ⊎ (f + q.frame_delay < q.oldest + 128)
    → Seat c (add at q f w)
add_seat c at q f w h a b =
    let g = add_follows c at q f w (follows c q h) in
    record { sane = add_sane at q f w h.sane a b; past = g.past; guessing = g.guessing }

pub reset_seat : (c c' : ℕ) (q : QueueState) → Seat c q → Seat c' (reset q)
unfolding reset
reset_seat c c' q h = record { sane = reset_sane q h.sane; past = omega arith; guessing = λ z e. absurd (z refl) }

pub discard_seat : (c f : ℕ) (q : QueueState) → Seat c q → Seat c (discard q f)
unfolding discard
discard_seat c f q h =
    record {
      sane = discard_sane q f h.sane;
      past = h.past;
      guessing = λ z e. let g = h.guessing z e in record { next = g.next; last = g.last; past = g.past };
    }

-- a request of the current frame, which is then one more
asked_next : (c : ℕ) (q : QueueState) → Follows c q → (queue.predicting_asked q c ≡ 0 → ⊥) → q.first_incorrect_count ≡ 0
    → (queue.predicting_asked q c ≡ q.last_added_count + 1) × (q.last_added_count < c + 1)
asked_next c q h z e =
    ⊎_elim
    (λ a. ⊎_elim
    (λ b. absurd (z (simp (a.1, b.1))))
    (λ b. (simp (a.1, b.1), omega (arith, b.0)))
    (split_ltb c q.last_added_count))
    (λ a. let g = h.guessing a.0 e in (simp a.1 g.next, omega (arith, g.past)))
    (split_eqb q.prediction_count 0)

pub asked-seat : (c : ℕ) (p at : ℕ → ℕ) (q : QueueState) → Seat c q → Seat (c + 1) (asked p at q c)
unfolding asked
asked-seat c p at q h =
    record {
      sane = asked_sane p at q c h.sane;
      past = omega (arith, h.past);
      guessing = λ z e. let g = asked_next c q (follows c q h) z e in record { next = g.0; last = refl; past = g.1 };
    }

-- Every seat --------------------------------------------------------------------------------------------------------------------

module _ (c c' n : ℕ) (h : ℕ → QueueState → QueueState) (l : List ℕ) (few : n ≤ 4) (room : SeatRoom l) where
  map-seats : ((s : ℕ) (q : QueueState) → Seat c q → Seat c' (h s q)) → ((s : ℕ) → s < n → Seat c (seat_at l s))
      → (s : ℕ) → s < n → Seat c' (seat_at (map_seats n h l) s)
  map-seats k a s x = rw (map_at h n l s (omega arith) x) (k s (seat_at l s) (a s x))

  map_room : SeatRoom (map_seats n h l)
  map_room = rw (map_long h n l) room

-- the lowest of counts is not above what none is above
pub lowest_within : (n : ℕ) (g : ℕ → ℕ) (c : ℕ) → ((s : ℕ) → s < n → g s ≤ c) → lowest_of n g ≤ c
unfolding lowest_of
lowest_within zero g c h = omega arith
lowest_within (suc n) g c h =
    let k = lowest_within n g c (λ s x. h s (omega arith)) in
    let m = h n (omega arith) in
    ⊎_elim
    (λ a. simp a.1 m)
    (λ a. ⊎_elim (λ b. simp (a.1, b.1) k) (λ b. simp (a.1, b.1) (omega arith)) (split_eqb (g n) 0))
    (split_eqb (lowest_of n g) 0)

-- a mismatch is past
pub mismatch_past : (y : DeskState) (l : List ℕ) → Seated y l → lowest_of y.seats (λ s. (seat_at l s).first_incorrect_count) ≤ y.current
mismatch_past y l h = lowest_within y.seats (λ s. (seat_at l s).first_incorrect_count) y.current (λ s x. (h.seat s x).past)

-- The steps of a settle ---------------------------------------------------------------------------------------------------------

pub back_whole : (d : Desk) (f : ℕ) → Whole d → f < last_count → Whole (reset_all (load d f))
unfolding reset_all load
back_whole d f h e =
    let r = h.seated.ready in
    record {
      seated = record {
        ready = record { one = r.one; few = r.few; near = r.near; guess = r.guess; early = e };
        room = map_room d.state.current f d.state.seats (λ s q. reset q) d.seats r.few h.seated.room;
        seat = map-seats d.state.current f d.state.seats (λ s q. reset q) d.seats r.few h.seated.room (λ s q. reset_seat d.state.current f q) h.seated.seat;
      };
      wide = h.wide;
      deep = h.deep;
    }

discard_whole : (d : Desk) (f : ℕ) → Whole d → Whole (discard_all d f)
unfolding discard_all
discard_whole d f h =
    let c = d.state.current in
    let r = h.seated.ready in
    record {
      seated = record {
        ready = r;
        room = map_room c c d.state.seats (λ s q. discard q f) d.seats r.few h.seated.room;
        seat = map-seats c c d.state.seats (λ s q. discard q f) d.seats r.few h.seated.room (λ s q. discard_seat c f q) h.seated.seat;
      };
      wide = h.wide;
      deep = h.deep;
    }

pub confirm_whole : (d : Desk) → Whole d → Whole (confirm d)
unfolding confirm
confirm_whole d h =
    ⊎_elim
    (λ a. simp a.1 h)
    (λ a. ⊎_elim
    (λ b. simp (a.1, b.1) h)
    (λ b. simp (a.1, b.1) (discard_whole d (min (known_of d - 1) d.state.current - 1) h))
    (split_eqb (min (known_of d - 1) d.state.current) 0))
    (split_eqb (known_of d) 0)

module _ (step : Console → List ℕ → Console) (p : ℕ → ℕ) where
  frame_long : (d : Desk) → length (one_frame step p d).slots ≡ length d.slots
  unfolding one_frame
  frame_long d =
      row_long d.state.seats (save_slot d.state.limit d.slots d.state.current d.state.console) (slot_of d.state.limit d.state.current + served_from) (serve step p d)
      ∙ save_long d.state.limit d.slots d.state.current d.state.console

  pub frame_whole : (d : Desk) → Whole d → d.state.current + 1 < last_count → Whole (one_frame step p d)
  unfolding one_frame
  frame_whole d h e =
      let c = d.state.current in
      let r = h.seated.ready in
      let ask : ℕ → QueueState → QueueState = λ s q. asked p (word_at d.words (ring_of s)) q c in
      record {
        seated = record {
          ready = record { one = r.one; few = r.few; near = r.near; guess = r.guess; early = e };
          room = map_room c (c + 1) d.state.seats ask d.seats r.few h.seated.room;
          seat = map-seats c (c + 1) d.state.seats ask d.seats r.few h.seated.room (λ s q. asked-seat c p (word_at d.words (ring_of s)) q) h.seated.seat;
        };
        wide = h.wide;
        deep = rw (frame_long d) h.deep;
      }

  pub frame_current : (d : Desk) → (one_frame step p d).state.current ≡ d.state.current + 1
  unfolding one_frame
  frame_current d = refl

  pub replay_whole : (n : ℕ) (d : Desk) → Whole d → d.state.current + n < last_count → Whole (replay step p n d)
  unfolding replay
  replay_whole zero d h e = h
  replay_whole (suc n) d h e =
      replay_whole n (one_frame step p d) (frame_whole d h (omega arith)) (omega (arith, frame_current d))

  pub replay_current : (n : ℕ) (d : Desk) → (replay step p n d).state.current ≡ d.state.current + n
  unfolding replay
  replay_current zero d = omega arith
  replay_current (suc n) d = replay_current n (one_frame step p d) ∙ omega (arith, frame_current d)

  back_current : (d : Desk) (f : ℕ) → (reset_all (load d f)).state.current ≡ f
  unfolding reset_all load
  back_current d f = refl

  pub corrected_whole : (d : Desk) → Whole d → Whole (corrected step p d)
  unfolding corrected
  corrected_whole d h =
      let m = mismatch_past d.state d.seats h.seated in
      let f = mismatch_of d - 1 in
      let c = h.seated.ready.early in
      ⊎_elim
      (λ a. simp a.1 h)
      (λ a. simp a.1
      (replay_whole (d.state.current - f) (reset_all (load d f)) (back_whole d f h (omega arith)) (omega (arith, back_current d f))))
      (split_eqb (mismatch_of d) 0)

  pub settle_whole : (d : Desk) → Whole d → Whole (settle step p d)
  unfolding settle
  settle_whole d h = confirm_whole (corrected step p d) (corrected_whole d h)

  pub corrected_current : (d : Desk) → Whole d → (corrected step p d).state.current ≡ d.state.current
  unfolding corrected
  corrected_current d h =
      let m = mismatch_past d.state d.seats h.seated in
      let f = mismatch_of d - 1 in
      ⊎_elim
      (λ a. simp a.1)
      (λ a. simp a.1 (replay_current (d.state.current - f) (reset_all (load d f)) ∙ omega (arith, back_current d f, a.0)))
      (split_eqb (mismatch_of d) 0)

-- a confirm changes the queues alone
pub confirm_state : (d : Desk) → (confirm d).state ≡ d.state
unfolding confirm discard_all
confirm_state d =
    ⊎_elim
    (λ a. simp a.1)
    (λ a. ⊎_elim (λ b. simp (a.1, b.1)) (λ b. simp (a.1, b.1)) (split_eqb (min (known_of d - 1) d.state.current) 0))
    (split_eqb (known_of d) 0)

module _ (step : Console → List ℕ → Console) (p : ℕ → ℕ) where
  pub settle_current : (d : Desk) → Whole d → (settle step p d).state.current ≡ d.state.current
  unfolding settle
  settle_current d h = ap (λ (y : DeskState). y.current) (confirm_state (corrected step p d)) ∙ corrected_current step p d h

-- an advance that is not refused is not at the last frame
pub advance_early : (d : Desk) → advance_answer d ≡ 0 → d.state.current + 1 < last_count
unfolding advance_answer
advance_early d z =
    ⊎_elim (λ a. absurd (omega (arith, simp a.1 at z))) (λ a. a.0) (split_leb last_count (d.state.current + 1))

module _ (step : Console → List ℕ → Console) (p : ℕ → ℕ) where
  pub advance_whole : (d : Desk) → Whole d → Whole (advance step p d)
  unfolding advance
  advance_whole d h =
      ⊎_elim
      (λ a. simp a.1
      (frame_whole step p (settle step p d) (settle_whole step p d h) (omega (arith, settle_current step p d h, advance_early d a.0))))
      (λ a. simp a.1 h)
      (split_eqb (advance_answer d) 0)

-- A word ------------------------------------------------------------------------------------------------------------------------

-- what a word that is not refused has
pub record Accepts (d : Desk) (s n : ℕ) : Type 0 where
  pub here : s < d.state.seats
  pub some : 1 ≤ n
  pub low : n ≤ last_count
  pub next : n - 1 ≡ (queue_of d s).last_user_count
  pub fits : overfull (queue_of d s) (n - 1) ≡ false

pub take_accepts : (d : Desk) (s n : ℕ) → take_answer d s n ≡ 0 → Accepts d s n
unfolding take_answer
take_accepts d s n z =
    ⊎_elim
    (λ a. absurd (omega (arith, simp a.1 at z)))
    (λ a. ⊎_elim
    (λ b. absurd (omega (arith, simp (a.1, b.1) at z)))
    (λ b. ⊎_elim
    (λ e. absurd (omega (arith, simp (a.1, b.1, e.1) at z)))
    (λ e. ⊎_elim
    (λ f. ⊎_elim
    (λ g. absurd (omega (arith, simp (a.1, b.1, e.1, f.1, g) at z)))
    (λ g. record { here = a.0; some = omega (arith, b.0); low = e.0; next = f.0; fits = g })
    (split_bool (overfull (queue_of d s) (n - 1))))
    (λ f. absurd (omega (arith, simp (a.1, b.1, e.1, f.1) at z)))
    (split_eqb (n - 1) (queue_of d s).last_user_count))
    (split_ltb last_count n))
    (split_eqb n 0))
    (split_leb d.state.seats s)

taken_whole : (d : Desk) (s n w : ℕ) → Whole d → Accepts d s n → Whole (taken d s (n - 1) w)
unfolding taken
taken_whole d s n w h a =
    let q = add (word_at d.words (ring_of s)) (queue_of d s) (n - 1) w in
    let r = h.seated.ready in
    record {
      seated = record {
        ready = r;
        room = rw (seat_long d.seats s q) h.seated.room;
        seat = λ t x.
            ⊎_elim
            (λ e. rw (e.0, seat_same d.seats s q (omega (arith, a.here, r.few, h.seated.room)))
            (add_seat d.state.current (word_at d.words (ring_of s)) (queue_of d s) (n - 1) w (h.seated.seat s a.here) (omega (arith, a.low, a.some)) (not_over (queue_of d s) (n - 1) a.fits)))
            (λ e. rw (seat_other d.seats s t q e.0) (h.seated.seat t x))
            (split_eqb t s);
      };
      wide = rw (add_long d.words (ring_of s) (queue_of d s) (n - 1) w) h.wide;
      deep = h.deep;
    }

pub take_whole : (d : Desk) (s n w : ℕ) → Whole d → Whole (take d s n w)
unfolding take
take_whole d s n w h =
    ⊎_elim
    (λ a. simp a.1 (taken_whole d s n w h (take_accepts d s n a.0)))
    (λ a. simp a.1 h)
    (split_eqb (take_answer d s n) 0)

-- Setup -------------------------------------------------------------------------------------------------------------------------

-- a setup that is not refused is one within its ranges
module _ (u : Setup) where
  pub fit_fits : Fit u → layer.fits u.limit u.predictor u.delays ≡ true
  unfolding layer.fits
  fit_fits h =
      let z : length u.delays ≡ 0 → ⊥ = λ e. omega (arith, h.some_seat) in
      simp (ne_eqb _ _ z, le-leb _ _ h.seats_in_range, le-leb _ _ h.limit_in_range, lt-ltb _ _ h.predictor_in_range)
      (each_range u.delays h.delays-in-range)

  module _ (a : SeatRoom u.seats) (b : WordRoom u.words) (c : SlotRoom u.slots) where
    pub fits_fit : layer.fits u.limit u.predictor u.delays ≡ true → Fit u
    fits_fit y =
        let f = fits_in u.limit u.predictor u.delays y in
        record {
          some_seat = f.some;
          seats_in_range = f.few;
          limit_in_range = f.near;
          delays-in-range = λ s x. range_each u.delays f.late s;
          predictor_in_range = f.guess;
          seats_room = a;
          words_room = b;
          slots_room = c;
        }

module _ (delays l : List ℕ) (few : length delays ≤ 4) (room : SeatRoom l) where
  fresh-seats : ((s : ℕ) → s < length delays → get_or delays s 0 ≤ 60) → (s : ℕ) → s < length delays → Seat 0 (seat_at (layer.fresh_seats delays l) s)
  fresh-seats h s x =
      rw (map_at (λ i q. fresh_state (get_or delays i 0)) (length delays) l s (omega arith) x) (fresh_seat (get_or delays s 0) (h s x))

  fresh_room : SeatRoom (layer.fresh_seats delays l)
  fresh_room = rw (map_long (λ i q. fresh_state (get_or delays i 0)) (length delays) l) room

pub setup_whole : (u : Setup) → SeatRoom u.seats → WordRoom u.words → SlotRoom u.slots → Whole (setup_of u)
unfolding setup_of setup_state layer.opened_seats layer.opened_slots
setup_whole u a b c = ⊎_elim fitting shut (split_bool (layer.fits u.limit u.predictor u.delays))
  where
    fitting : layer.fits u.limit u.predictor u.delays ≡ true → Whole (setup_of u)
    fitting e =
        let h = fits_fit u a b c e in
        simp e
        (record {
          seated = record {
            ready = record {
              one = h.some_seat;
              few = h.seats_in_range;
              near = h.limit_in_range;
              guess = h.predictor_in_range;
              early = omega arith;
            };
            room = fresh_room u.delays u.seats h.seats_in_range a;
            seat = fresh-seats u.delays u.seats h.seats_in_range a h.delays-in-range;
          };
          wide = b;
          deep = rw (clear_long (suc u.limit) u.slots) c;
        })

    shut : layer.fits u.limit u.predictor u.delays ≡ false → Whole (setup_of u)
    shut e =
        simp e
        (record {
          seated = record {
            ready = record { one = omega arith; few = omega arith; near = omega arith; guess = omega arith; early = omega arith };
            room = fresh_room (0 ∷ []) u.seats (omega arith) a;
            seat = fresh-seats (0 ∷ []) u.seats (omega arith) a none;
          };
          wide = b;
          deep = rw (clear_long 1 u.slots) c;
        })
      where
        none : (s : ℕ) → s < 1 → get_or (0 ∷ []) s 0 ≤ 60
        none zero x = omega arith
        none (suc s) x = absurd (omega arith)

-- Runs: so it holds after every call, and after any run of them.
module _ (step : Console → List ℕ → Console) (p : ℕ → ℕ) where
  pub after_whole : (d : Desk) (x : Call) → Whole d → Whole (after step p d x)
  unfolding after
  after_whole d (take_call s f w) h = take_whole d s (count_of f) w h
  after_whole d settle_call h = settle_whole step p d h
  after_whole d advance_call h = advance_whole step p d h
  after_whole d (show_call f) h = h
  after_whole d (log_call f room) h = h

  pub from_whole : (d : Desk) (l : List Call) → Whole d → Whole (run_from step p d l)
  unfolding run_from
  from_whole d [] h = h
  from_whole d (x ∷ l) h = from_whole (after step p d x) l (after_whole d x h)

  pub run_whole : (u : Setup) (l : List Call) → SeatRoom u.seats → WordRoom u.words → SlotRoom u.slots → Whole (run step p u l)
  unfolding run
  run_whole u l a b c = from_whole (setup_of u) l (setup_whole u a b c)
