-- Every run of the desk is sound; what a settled frame shows; demand 3. Assumes nothing.
use Prim.Native.Nat.{ℕ, suc, ◌+◌, ◌-◌, ◌*◌, ◌<◌, ◌≤◌}
use native.Mathlib.Omega.{arith}
use mathlib.Core.Path.{◌≡◌, refl, ap, sym, ◌∙◌, fun_ext}
use mathlib.Core.Logic.{◌⊎◌, inl, ⊎_elim, ◌≢◌}
use mathlib.Core.List.{List, [], ◌∷◌, ◌++◌, append_assoc, append-nil}
use Prim.{absurd}
use lib.ListN.{length, get_or}
use lib.Dec.{eqb}
use borrow.Author.Tests.{eq-eqb, ne_eqb}
use Rattle.frame_info.specs.Choice.{pick}
use Rattle.frame_info.specs.Frame.{last_count, count_of}
use Rattle.frame_info.proofs.Split.{split_eqb}
use Rattle.console.specs.declared.Console.{Console}
use Rattle.console.specs.Step.{start}
use Rattle.input_queue.specs.declared.QueueState.{QueueState}
use Rattle.input_queue.specs.Queue.{fresh_state, add}
use Rattle.input_queue.specs.Ring.{add_words}
use Rattle.input_queue.specs.Runs.{placed}
use Rattle.input_queue.proofs.Kept.{add_long, not_over}
use Rattle.sync_layer.specs.Seats.{ring_of, seat_at, map_seats}
use Rattle.sync_layer.specs.Slots.{clear_slots}
use Rattle.sync_layer.specs.Calls.{opened_seats, opened_slots}
use Rattle.sync_layer.proofs.Kept.{clear_long}
use Rattle.sync_layer.proofs.Seating.{seat_long, seat_same, seat_other, map_long, map_at}
use Rattle.desk.specs.declared.DeskState.{DeskState}
use Rattle.desk.specs.Desk.{Desk, Setup, queue_of, take_answer, taken, take, setup_state, setup_of}
use Rattle.desk.specs.Runs.{Call, take_call, settle_call, advance_call, show_call, log_call, after, run_from, run, gained, accepted_from, accepted, Fit}
use Rattle.desk.proofs.Kept.{take_accepts, fit_fits}
use Rattle.agreement.specs.Reference.{state_before}
use Rattle.agreement.proofs.Sound.{ref_same, Sound, stepping}
use Rattle.agreement.proofs.Steps.{words_of, view_of, Shape, state_now, Next, advance_next, settle_next}
use Rattle.agreement.proofs.Take.{read_at, snoc_length, add_words_other, Added, add_added, seat_add}
use Rattle.agreement.proofs.Stored.{grown_placed, stored_from, stored, stored_snoc}

-- a queue and the words that it accepted
pub record Counted (delay : ℕ) (l : List ℕ) (q : QueueState) : Type 0 where
  pub delay_is : q.frame_delay ≡ delay
  pub last_user_count : q.last_user_count ≡ length l
  pub last_added_count : q.last_added_count ≡ length (stored delay l)
  pub few : q.last_user_count ≤ last_count

-- a desk with limit L and the words A that its seats accepted
pub record Good (step : Console → List ℕ → Console) (p : ℕ → ℕ) (n L : ℕ) (delay : ℕ → ℕ) (A : ℕ → List ℕ) (d : Desk) : Type 0 where
  pub shape : Shape n L d
  pub early : d.state.current < last_count
  pub counted : (s : ℕ) → s < n → Counted (delay s) (A s) (queue_of d s)
  pub sound : Sound n L (stepping step) p (λ s. read_at (stored (delay s) (A s))) (view_of d)

module _ (d : Desk) (t f w : ℕ) where
  taken_same : (t + 1) * 8 ≤ length d.seats → queue_of (taken d t f w) t ≡ add (words_of d.words t) (queue_of d t) f w
  unfolding taken
  taken_same h = seat_same d.seats t (add (words_of d.words t) (queue_of d t) f w) h

  taken_other : (s : ℕ) → s ≢ t → queue_of (taken d t f w) s ≡ queue_of d s
  unfolding taken
  taken_other s h = seat_other d.seats t s (add (words_of d.words t) (queue_of d t) f w) h

  taken_shape : {n L : ℕ} → Shape n L d → Shape n L (taken d t f w)
  unfolding taken
  taken_shape s = record {
    seats = s.seats;
    limit = s.limit;
    one = s.one;
    few = s.few;
    near = s.near;
    queues = omega (arith, seat_long d.seats t (add (words_of d.words t) (queue_of d t) f w), s.queues);
    words = omega (arith, add_long d.words (ring_of t) (queue_of d t) f w, s.words);
    slots = s.slots;
  }

module _ {step : Console → List ℕ → Console} {p : ℕ → ℕ} {n L : ℕ} {delay : ℕ → ℕ} {A : ℕ → List ℕ} {d : Desk} (z : p 0 ≡ 0) (i : (v : ℕ) → p (p v) ≡ p v) where
  pub taken_good : Good step p n L delay A d → (t w : ℕ) (A' : ℕ → List ℕ)
      → t < n
      → length (A t) < last_count
      → (length (A t) + (queue_of d t).frame_delay < (queue_of d t).last_added_count) ⊎ (length (A t) + (queue_of d t).frame_delay < (queue_of d t).oldest + 128)
      → A' t ≡ A t ++ (w ∷ [])
      → ((s : ℕ) → s ≢ t → A' s ≡ A s)
      → Good step p n L delay A' (taken d t (length (A t)) w)
  unfolding taken
  taken_good g t w A' tn few room new old = record {
    shape = taken_shape d t f w g.shape;
    early = g.early;
    counted = λ s sn. ⊎_elim
        (λ e. rw (e.0, here)
        (record { delay_is = ad.frame_delay ∙ k.delay_is; last_user_count = ad.last_user_count ∙ sym (snoc_length (A t) w) ∙ ap length (sym new); last_added_count = ad.last_added_count ∙ ap length (sym now); few = omega (arith, ad.last_user_count) }))
        (λ e. rw (old s e.0, taken_other d t f w s e.0) (g.counted s sn))
        (split_eqb s t);
    sound = record {
      floor = g.sound.floor;
      low = g.sound.low;
      seat = λ s sn. ⊎_elim
          (λ e. rw (e.0, here, now) (seat_add z i a q d.words t f w k.last_added_count (g.sound.seat t tn) (omega (arith, tn, g.shape.few, g.shape.words)) room))
          (λ e. rw (old s e.0, taken_other d t f w s e.0, others s e.0) (g.sound.seat s sn))
          (split_eqb s t);
      window = record {
        chain = g.sound.window.chain;
        base = g.sound.window.base
            ∙ ref_same n (stepping step) (λ s. read_at (stored (delay s) (A s))) (λ s. read_at (stored (delay s) (A' s))) (d.state.current - suc L) (λ s x sn lt. ⊎_elim
            (λ e. rw (e.0, now) (sym ((grown_placed a (f + q.frame_delay) w).same x (omega (arith, lt, (g.sound.seat t tn).store.near, k.last_added_count)))))
            (λ e. rw (old s e.0))
            (split_eqb s t));
        held = g.sound.window.held;
      };
    };
  }
    where
      f : ℕ
      f = length (A t)

      q : QueueState
      q = queue_of d t

      a : List ℕ
      a = stored (delay t) (A t)

      k : Counted (delay t) (A t) q
      k = g.counted t tn

      ad : Added q (add (words_of d.words t) q f w) (placed a (f + q.frame_delay) w) f
      ad = add_added q a (words_of d.words t) f w k.last_added_count

      now : stored (delay t) (A' t) ≡ placed a (f + q.frame_delay) w
      now = ap (stored (delay t)) new ∙ stored_snoc (delay t) (A t) w ∙ ap (λ (x : ℕ). placed a (f + x) w) (sym k.delay_is)

      here : queue_of (taken d t f w) t ≡ add (words_of d.words t) q f w
      here = taken_same d t f w (omega (arith, tn, g.shape.few, g.shape.queues))

      others : (s : ℕ) → s ≢ t → words_of (add_words d.words (ring_of t) q f w) s ≡ words_of d.words s
      others s h = fun_ext (λ x. add_words_other d.words t q f w s x h)

  -- a take, refused or not
  pub take_good : Good step p n L delay A d → (t k w : ℕ) → Good step p n L delay (λ s. A s ++ pick (eqb (take_answer d t k) 0) (pick (eqb t s) (w ∷ []) []) []) (take d t k w)
  unfolding take
  take_good g t k w =
      ⊎_elim
      (λ a.
      let h = take_accepts d t k a.0 in
      let tn : t < n = omega (arith, h.here, g.shape.seats) in
      let c = g.counted t tn in
      let e : k - 1 ≡ length (A t) = h.next ∙ c.last_user_count in
      simp (a.1, e)
      (taken_good g t w (λ s. A s ++ pick (eqb t s) (w ∷ []) []) tn (omega (arith, h.low, h.some, e)) (rw e at (not_over (queue_of d t) (k - 1) h.fits))
      (simp (eq-eqb t t refl))
      (λ s x. simp (ne_eqb t s (λ o. x (sym o))) (append-nil (A s)))))
      (λ a. simp (a.1, append-nil) g)
      (split_eqb (take_answer d t k) 0)

  next_good : {e : Desk} → Good step p n L delay A d → Next step p n L (λ s. read_at (stored (delay s) (A s))) d e → Good step p n L delay A e
  next_good g x = record {
    shape = x.shape;
    early = x.early g.early;
    counted = λ s sn.
        let k = x.kept s sn in
        let c = g.counted s sn in
        record {
          delay_is = k.frame_delay ∙ c.delay_is;
          last_user_count = k.last_user_count ∙ c.last_user_count;
          last_added_count = k.last_added_count ∙ c.last_added_count;
          few = omega (arith, k.last_user_count, c.few);
        };
    sound = x.sound;
  }

  -- any call
  pub after_good : Good step p n L delay A d → (x : Call) → Good step p n L delay (λ s. A s ++ gained d x s) (after step p d x)
  unfolding after gained
  after_good g (take_call t f w) = take_good g t (count_of f) w
  after_good g settle_call = simp append-nil (next_good g (settle_next step p n L (λ s. read_at (stored (delay s) (A s))) d g.shape g.sound))
  after_good g (show_call f) = simp append-nil g
  after_good g (log_call f room) = simp append-nil g
  after_good g advance_call = simp append-nil (next_good g (advance_next step p n L (λ s. read_at (stored (delay s) (A s))) d g.shape g.sound))

module _ {step : Console → List ℕ → Console} {p : ℕ → ℕ} {n L : ℕ} {delay : ℕ → ℕ} (z : p 0 ≡ 0) (i : (v : ℕ) → p (p v) ≡ p v) where
  pub run_from_good : (l : List Call) (A : ℕ → List ℕ) (d : Desk) → Good step p n L delay A d → Good step p n L delay (λ s. A s ++ accepted_from step p d l s) (run_from step p d l)
  unfolding run_from accepted_from
  run_from_good [] A d g = simp append-nil g
  run_from_good (x ∷ l) A d g =
      let k = run_from_good l (λ s. A s ++ gained d x s) (after step p d x) (after_good z i g x) in
      simp append_assoc at k

-- A setup that is not refused ----------------------------------------------------------------------------------------------------------

module _ (u : Setup) (h : Fit u) where
  -- the delay of seat s
  abbrev pub delay_of : ℕ → ℕ
  delay_of s = get_or u.delays s 0

  abbrev opening : ℕ → QueueState → QueueState
  opening s q = fresh_state (delay_of s)

  pub setup_seats : (setup_of u).seats ≡ map_seats (length u.delays) opening u.seats
  unfolding setup_of opened_seats
  setup_seats = simp (fit_fits u h)

  pub setup_slots : (setup_of u).slots ≡ clear_slots (suc u.limit) u.slots
  unfolding setup_of opened_slots
  setup_slots = simp (fit_fits u h)

  pub setup_words : (setup_of u).words ≡ u.words
  unfolding setup_of
  setup_words = refl

  pub setup-state : (setup_of u).state ≡ record { seats = length u.delays; limit = u.limit; predictor = u.predictor; current = 0; console = start }
  unfolding setup_of setup_state
  setup-state = simp (fit_fits u h)

  setup_current : (setup_of u).state.current ≡ 0
  setup_current = ap (λ (y : DeskState). y.current) setup-state

  setup_queue : (s : ℕ) → s < length u.delays → queue_of (setup_of u) s ≡ fresh_state (delay_of s)
  setup_queue s sn =
      ap (λ (l : List ℕ). seat_at l s) setup_seats
      ∙ map_at opening (length u.delays) u.seats s (omega (arith, h.seats_in_range, h.seats_room)) sn

  pub setup_shape : Shape (length u.delays) u.limit (setup_of u)
  setup_shape = record {
    seats = ap (λ (y : DeskState). y.seats) setup-state;
    limit = ap (λ (y : DeskState). y.limit) setup-state;
    one = h.some_seat;
    few = h.seats_in_range;
    near = h.limit_in_range;
    queues = rw (setup_seats, map_long opening (length u.delays) u.seats) h.seats_room;
    words = rw setup_words h.words_room;
    slots = rw (setup_slots, clear_long (suc u.limit) u.slots) h.slots_room;
  }

  module _ (step : Console → List ℕ → Console) (p : ℕ → ℕ) where
    setup_sound : Sound (length u.delays) u.limit (stepping step) p (λ s. read_at (stored (delay_of s) [])) (view_of (setup_of u))
    unfolding state_before
    setup_sound =
        let z = setup_current in
        record {
          floor = 0;
          low = omega arith;
          seat = λ s sn. rw (setup_queue s sn) (record {
            store = record { ring = omega arith; thrown = omega arith; floor = omega arith; near = omega (arith, z); ahead = omega arith; at_is = λ f x y. absurd (omega arith) };
            kind = inl (record {
              right = refl;
              mode = inl (refl, omega (arith, z));
              served = record { below = λ f x y v. absurd (omega arith); above = λ f x y v. absurd (omega (arith, z, y)) };
            });
          });
          window = record {
            chain = λ f x y. absurd (omega (arith, z, y));
            base =
                let e : (setup_of u).state.current - suc u.limit ≡ 0 = omega (arith, z) in
                rw e (state_now (setup_of u) 0 (omega (arith, z)) ∙ ap (λ (y : DeskState). y.console) setup-state);
            held = λ f x y. absurd (omega (arith, z, y));
          };
        }

    setup_good : Good step p (length u.delays) u.limit delay_of (λ s. []) (setup_of u)
    unfolding stored_from
    setup_good = record {
      shape = setup_shape;
      early = omega (arith, setup_current);
      counted = λ s sn. rw (setup_queue s sn) (record { delay_is = refl; last_user_count = refl; last_added_count = refl; few = omega arith });
      sound = setup_sound;
    }

    -- every run is sound
    pub run_good : p 0 ≡ 0 → ((v : ℕ) → p (p v) ≡ p v) → (l : List Call)
        → Good step p (length u.delays) u.limit delay_of (accepted step p u l) (run step p u l)
    unfolding run accepted
    run_good z i l = run_from_good z i l (λ s. []) (setup_of u) setup_good
