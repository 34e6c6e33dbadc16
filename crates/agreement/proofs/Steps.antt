-- The flat desk, viewed: one frame, the load, the confirm, the settle and the advance keep it sound. Assumes nothing.
use Prim.Native.Nat.{ℕ, zero, suc, ◌+◌, ◌-◌, ◌%◌, ◌<◌, ◌≤◌, min}
use native.Mathlib.Omega.{arith}
use native.Mathlib.Numerals.{add-one}
use mathlib.Core.Path.{◌≡◌, refl, ap, ap₂, sym, ◌∙◌, subst}
use mathlib.Core.Logic.{⊎_elim, ◌≢◌}
use mathlib.Core.List.{List}
use mathlib.Core.Bool.{true, false}
use Prim.{absurd}
use lib.Dec.{ltb, leb, eqb}
use borrow.Author.Tests.{lt-ltb, le-ltb}
use Rattle.frame_info.specs.Choice.{pick}
use Rattle.frame_info.specs.Frame.{last_count}
use Rattle.frame_info.proofs.Split.{split_eqb, split_ltb, split_leb}
use Rattle.console.specs.declared.Console.{Console}
use Rattle.input_queue.specs.declared.QueueState.{QueueState}
use Rattle.input_queue.specs.Queue.{asked, reset, discard}
use Rattle.input_queue.specs.Ring.{word_at}
use Rattle.sync_layer.specs.Seats.{max_seats, ring_of}
use Rattle.sync_layer.specs.Slots.{max_limit, slot_words, served_from, slot_at, state_in}
use Rattle.sync_layer.specs.Whole.{SeatRoom, WordRoom, SlotRoom}
use Rattle.sync_layer.proofs.Seating.{map_long, map_at}
use Rattle.desk.specs.Lists.{row_of}
use Rattle.desk.specs.Desk.{Desk, queue_of, known_of, mismatch_of, load, reset_all, discard_all, confirm, serve, one_frame, replay, corrected, settle, advance_answer, advance}
use Rattle.desk.specs.Settled.{shown_word}
use Rattle.agreement.proofs.Seat.{neat_clean}
use Rattle.agreement.proofs.Flat.{least_le, lowest_none, lowest_le, lowest_who, slots_apart, frame_long, frame_other, frame_frame, frame_state, frame_word}
use Rattle.agreement.proofs.Sound.{View, row_same, Sound, Mid, Neats, Framed, framed_neat, framed_mid, Quiet, Loaded, Lowest, Discarded, Going, quiet_sound, sound_quiet, lowest_going, loaded_mid, loaded_clean, discarded_quiet, quiet_next, quiet_at, stepping}

-- the state before frame f: saved, or for the current frame the console's
abbrev pub state_at : Desk → ℕ → Console
state_at d f = pick (ltb f d.state.current) (state_in d.state.limit d.slots f) d.state.console

-- the words of seat s
abbrev pub words_of : List ℕ → ℕ → ℕ → ℕ
words_of l s = word_at l (ring_of s)

abbrev pub view_of : Desk → View Console
view_of d = record {
  current = d.state.current;
  queue = queue_of d;
  at = words_of d.words;
  row = shown_word d;
  state = state_at d;
  holds = λ f. slot_at d.state.limit d.slots f 0;
}

-- the numbers are small enough, and the lists long enough
pub record Shape (n L : ℕ) (d : Desk) : Type 0 where
  pub seats : d.state.seats ≡ n
  pub limit : d.state.limit ≡ L
  pub one : 0 < n
  pub few : n ≤ max_seats
  pub near : L ≤ max_limit
  pub queues : SeatRoom d.seats
  pub words : WordRoom d.words
  pub slots : SlotRoom d.slots

pub state_saved : (d : Desk) (f : ℕ) → f < d.state.current → state_at d f ≡ state_in d.state.limit d.slots f
state_saved d f h = simp (lt-ltb _ _ h)

pub state_now : (d : Desk) (f : ℕ) → d.state.current ≤ f → state_at d f ≡ d.state.console
state_now d f h = simp (le-ltb _ _ h)

module _ (step : Console → List ℕ → Console) (p : ℕ → ℕ) where
  -- what one frame does to seat s's queue
  abbrev ask : Desk → ℕ → QueueState → QueueState
  ask d s q = asked p (words_of d.words s) q d.state.current

  pub frame_shape : {n L : ℕ} (d : Desk) → Shape n L d → Shape n L (one_frame step p d)
  unfolding one_frame
  frame_shape d s = record {
    seats = s.seats;
    limit = s.limit;
    one = s.one;
    few = s.few;
    near = s.near;
    queues = omega (arith, map_long (ask d) d.state.seats d.seats, s.queues);
    words = s.words;
    slots = omega (arith, frame_long d.state.limit d.slots d.state.current d.state.console d.state.seats (serve step p d) (omega (arith, s.seats, s.few)) (omega (arith, s.limit, s.near)) s.slots, s.slots);
  }

  module _ (d : Desk) (s : Shape d.state.seats d.state.limit d) where
    abbrev L : ℕ
    L = d.state.limit

    abbrev c : ℕ
    c = d.state.current

    abbrev d' : Desk
    d' = one_frame step p d

    frame_current : d'.state.current ≡ suc c
    unfolding one_frame
    frame_current = add-one c

    pub frame_limit : d'.state.limit ≡ L
    unfolding one_frame
    frame_limit = refl

    frame_queue : (t : ℕ) → t < d.state.seats → queue_of d' t ≡ ask d t (queue_of d t)
    unfolding one_frame
    frame_queue t h = map_at (ask d) d.state.seats d.seats t (omega (arith, s.few, s.queues)) h

    frame_words : d'.words ≡ d.words
    unfolding one_frame
    frame_words = refl

    pub frame_keeps : (f j : ℕ) → f % (L + 1) ≢ c % (L + 1) → j < slot_words → slot_at L d'.slots f j ≡ slot_at L d.slots f j
    unfolding one_frame
    frame_keeps f j x z = frame_other L d.slots c d.state.console d.state.seats (serve step p d) s.few s.near s.slots f j x z

    frame_holds : slot_at L d'.slots c 0 ≡ suc c
    unfolding one_frame
    frame_holds = frame_frame L d.slots c d.state.console d.state.seats (serve step p d) s.few s.near s.slots

    frame_saved : state_in L d'.slots c ≡ d.state.console
    unfolding one_frame
    frame_saved = frame_state L d.slots c d.state.console d.state.seats (serve step p d) s.few s.near s.slots

    frame_row : (t : ℕ) → t < d.state.seats → slot_at L d'.slots c (served_from + t) ≡ serve step p d t
    unfolding one_frame
    frame_row t h = frame_word L d.slots c d.state.console d.state.seats (serve step p d) s.few s.near s.slots t h

    frame_console : d'.state.console ≡ step d.state.console (row_of d.state.seats (serve step p d))
    unfolding one_frame
    frame_console = refl

    saved_kept : (f : ℕ) → f < c → c ≤ f + L → state_in L d'.slots f ≡ state_in L d.slots f
    saved_kept f x y = λ i. record {
      head = frame_keeps f 1 (slots_apart L f c x y) (omega arith) i;
      kind = frame_keeps f 2 (slots_apart L f c x y) (omega arith) i;
      seal = frame_keeps f 3 (slots_apart L f c x y) (omega arith) i;
    }

    pub framed : Framed d.state.seats L (stepping step) p (view_of d) (view_of d')
    framed = record {
      current = frame_current;
      queue = frame_queue;
      at = λ t h. ap (λ (l : List ℕ). words_of l t) frame_words;
      row_kept = λ f t h x y. rw frame_limit (frame_keeps f (served_from + t) (slots_apart L f c x y) (omega (arith, s.few)));
      row_new = λ t h. rw frame_limit (frame_row t h);
      state_kept = λ f x y.
          ⊎_elim
          (λ a.
          state_saved d' f (omega (arith, frame_current)) ∙ rw frame_limit (saved_kept f a.0 y) ∙ sym (state_saved d f a.0))
          (λ a.
          let e : f ≡ c = omega (arith, a.0) in
          state_saved d' f (omega (arith, frame_current)) ∙ rw (frame_limit, e) (frame_saved) ∙ sym (state_now d f a.0))
          (split_ltb f c);
      state_new =
          state_now d' (suc c) (omega (arith, frame_current)) ∙ frame_console
          ∙ ap₂ step (sym (state_now d c (omega arith))) (row_same d.state.seats (serve step p d) (λ t. slot_at d'.state.limit d'.slots c (served_from + t)) (λ t h. rw frame_limit (sym (frame_row t h))));
      holds_kept = λ f x y. rw frame_limit (frame_keeps f 0 (slots_apart L f c x y) (omega arith));
      holds_new = rw frame_limit frame_holds;
    }

-- what the desk's own work leaves alone in a queue
pub record Alike (q t : QueueState) : Type 0 where
  pub frame_delay : t.frame_delay ≡ q.frame_delay
  pub last_user_count : t.last_user_count ≡ q.last_user_count
  pub last_added_count : t.last_added_count ≡ q.last_added_count

abbrev pub Kept : ℕ → Desk → Desk → Type 0
Kept n d e = (s : ℕ) → s < n → Alike (queue_of d s) (queue_of e s)

alike_refl : (q : QueueState) → Alike q q
alike_refl q = record { frame_delay = refl; last_user_count = refl; last_added_count = refl }

alike_via : {q r t : QueueState} → Alike q r → Alike r t → Alike q t
alike_via a b = record { frame_delay = b.frame_delay ∙ a.frame_delay; last_user_count = b.last_user_count ∙ a.last_user_count; last_added_count = b.last_added_count ∙ a.last_added_count }

alike_asked : (p at : ℕ → ℕ) (q : QueueState) (f : ℕ) → Alike q (asked p at q f)
unfolding asked
alike_asked p at q f = record { frame_delay = refl; last_user_count = refl; last_added_count = refl }

alike_reset : (q : QueueState) → Alike q (reset q)
unfolding reset
alike_reset q = record { frame_delay = refl; last_user_count = refl; last_added_count = refl }

alike_discard : (q : QueueState) (f : ℕ) → Alike q (discard q f)
unfolding discard
alike_discard q f = record { frame_delay = refl; last_user_count = refl; last_added_count = refl }

pub own_shape : {n L : ℕ} (d : Desk) → Shape n L d → Shape d.state.seats d.state.limit d
own_shape d s = record {
  seats = refl;
  limit = refl;
  one = omega (arith, s.one, s.seats);
  few = omega (arith, s.few, s.seats);
  near = omega (arith, s.near, s.limit);
  queues = s.queues;
  words = s.words;
  slots = s.slots;
}

-- the limit is the desk's own
pub own_limit : (step : Console → List ℕ → Console) (p : ℕ → ℕ) {n L : ℕ} {R : ℕ → ℕ → ℕ} (d : Desk) → Shape n L d → Sound n L (stepping step) p R (view_of d)
    → Shape n d.state.limit d × Sound n d.state.limit (stepping step) p R (view_of d)
own_limit step p {n} {L} {R} d s h =
    (subst (λ (x : ℕ). Shape n x d) (sym s.limit) s, subst (λ (x : ℕ). Sound n x (stepping step) p R (view_of d)) (sym s.limit) h)

-- the load of frame m, and the reset
abbrev pub back_to : Desk → ℕ → Desk
back_to d m = reset_all (load d m)

le_via : {a b c : ℕ} → a ≤ b → b ≤ c → a ≤ c
le_via x y = omega arith

below_last : {n m : ℕ} (t : ℕ) → t < n → m ≡ n → t ≤ m - 1
below_last t x e = omega arith

module _ (step : Console → List ℕ → Console) (p : ℕ → ℕ) (n L : ℕ) where
  pub framed_at : (d : Desk) → Shape n L d → Framed n L (stepping step) p (view_of d) (view_of (one_frame step p d))
  framed_at d s = subst (λ (m : ℕ). Framed m L (stepping step) p (view_of d) (view_of (one_frame step p d))) s.seats
      (subst (λ (m : ℕ). Framed d.state.seats m (stepping step) p (view_of d) (view_of (one_frame step p d))) s.limit (framed step p d (own_shape d s)))

  frame_kept : (d : Desk) → Shape n L d → Kept n d (one_frame step p d)
  frame_kept d s t h = rw ((framed_at d s).queue t h) (alike_asked p (words_of d.words t) (queue_of d t) d.state.current)

  -- a replay of k frames
  pub record Replayed (R : ℕ → ℕ → ℕ) (b T B k : ℕ) (d e : Desk) : Type 0 where
    pub shape : Shape n L e
    pub mid : Mid n L (stepping step) p R b T B (view_of e)
    pub neat : Neats n p R b (view_of e)
    pub current : e.state.current ≡ d.state.current + k
    pub kept : Kept n d e

  module _ {R : ℕ → ℕ → ℕ} {b T B : ℕ} where
    pub replayed : (k : ℕ) (d : Desk) → Shape n L d → Mid n L (stepping step) p R b T B (view_of d) → Neats n p R b (view_of d) → d.state.current + k ≤ T
        → Replayed R b T B k d (replay step p k d)
    unfolding replay
    replayed zero d s m ne h = record { shape = s; mid = m; neat = ne; current = omega arith; kept = λ t x. alike_refl (queue_of d t) }
    replayed (suc k) d s m ne h =
        let f = framed_at d s in
        let lt : d.state.current < T = omega arith in
        let r = replayed k (one_frame step p d) (frame_shape step p d s) (framed_mid m lt f) (framed_neat m (λ t x. neat_clean (ne t x)) lt f) (omega (arith, f.current)) in
        record {
          shape = r.shape;
          mid = r.mid;
          neat = r.neat;
          current = omega (arith, r.current, f.current);
          kept = λ t x. alike_via (frame_kept d s t x) (r.kept t x);
        }

  pub back_shape : (d : Desk) (m : ℕ) → Shape n L d → Shape n L (back_to d m)
  unfolding reset_all load
  back_shape d m s = record {
    seats = s.seats;
    limit = s.limit;
    one = s.one;
    few = s.few;
    near = s.near;
    queues = omega (arith, map_long (λ t q. reset q) d.state.seats d.seats, s.queues);
    words = s.words;
    slots = s.slots;
  }

  back_queue : (d : Desk) (m : ℕ) → Shape n L d → (t : ℕ) → t < n → queue_of (back_to d m) t ≡ reset (queue_of d t)
  unfolding reset_all load
  back_queue d m s t h = map_at (λ t q. reset q) d.state.seats d.seats t (omega (arith, s.seats, s.few, s.queues)) (omega (arith, s.seats))

  back_fields : (d : Desk) (m : ℕ) → ((back_to d m).state.current ≡ m) × ((back_to d m).words ≡ d.words) × ((back_to d m).slots ≡ d.slots) × ((back_to d m).state.limit ≡ d.state.limit)
      × ((back_to d m).state.console ≡ state_in d.state.limit d.slots m)
  unfolding reset_all load
  back_fields d m = (refl, refl, refl, refl, refl)

  pub back_loaded : (d : Desk) (m : ℕ) → Shape n L d → m < d.state.current → Loaded n m (view_of d) (view_of (back_to d m))
  back_loaded d m s h =
      let k = back_fields d m in
      record {
        current = k.0;
        queue = back_queue d m s;
        at = λ t x. ap (λ (l : List ℕ). words_of l t) k.1;
        row = λ f t x y. rw (k.2, k.3);
        state = λ f x.
            ⊎_elim
            (λ a. state_saved (back_to d m) f (omega (arith, k.0, a.0)) ∙ rw (k.2, k.3) (sym (state_saved d f (omega (arith, a.0)))))
            (λ a.
            let e : f ≡ m = omega (arith, a.0) in
            state_now (back_to d m) f (omega (arith, k.0, a.0)) ∙ k.4 ∙ rw e (sym (state_saved d m h)))
            (split_ltb f m);
        holds = λ f x. rw (k.2, k.3);
      }

  -- the lowest mismatch
  pub lowest-of : (d : Desk) → Shape n L d → mismatch_of d ≢ 0 → Lowest n (mismatch_of d - 1) (view_of d)
  lowest-of d s z =
      let w = lowest_who d.state.seats (λ t. (queue_of d t).first_incorrect_count) z in
      record {
        who = w.0;
        seat = omega (arith, w.1, s.seats);
        first_incorrect_count = omega (arith, w.2);
        least = λ t h o. omega (arith, lowest_le d.state.seats (λ t. (queue_of d t).first_incorrect_count) t (omega (arith, s.seats)) o);
      }

  discard_shape : (d : Desk) (g : ℕ) → Shape n L d → Shape n L (discard_all d g)
  unfolding discard_all
  discard_shape d g s = record {
    seats = s.seats;
    limit = s.limit;
    one = s.one;
    few = s.few;
    near = s.near;
    queues = omega (arith, map_long (λ t q. discard q g) d.state.seats d.seats, s.queues);
    words = s.words;
    slots = s.slots;
  }

  discard_view : (d : Desk) (g : ℕ) → Shape n L d → Discarded n g (view_of d) (view_of (discard_all d g))
  unfolding discard_all
  discard_view d g s = record {
    current = refl;
    queue = λ t h. map_at (λ t q. discard q g) d.state.seats d.seats t (omega (arith, s.seats, s.few, s.queues)) (omega (arith, s.seats));
    at = λ t h. refl;
    row = refl;
    state = refl;
    holds = refl;
  }

  pub record Done (R : ℕ → ℕ → ℕ) (d e : Desk) : Type 0 where
    pub shape : Shape n L e
    pub quiet : Quiet n L (stepping step) p R (view_of e)
    pub current : e.state.current ≡ d.state.current
    pub kept : Kept n d e

  module _ {R : ℕ → ℕ → ℕ} where
    pub corrected_done : (d : Desk) → Shape n L d → Sound n L (stepping step) p R (view_of d) → Done R d (corrected step p d)
    unfolding corrected replay
    corrected_done d s h = ⊎_elim still back (split_eqb (mismatch_of d) 0)
      where
        still : (mismatch_of d ≡ 0) × (eqb (mismatch_of d) 0 ≡ true) → Done R d (corrected step p d)
        still a =
            simp a.1
            (record {
              shape = s;
              quiet = sound_quiet h (λ t x. lowest_none d.state.seats (λ t. (queue_of d t).first_incorrect_count) a.0 t (omega (arith, s.seats)));
              current = refl;
              kept = λ t x. alike_refl (queue_of d t);
            })

        back : (mismatch_of d ≢ 0) × (eqb (mismatch_of d) 0 ≡ false) → Done R d (corrected step p d)
        back a = simp a.1 (ended (d.state.current - m) (omega (arith, g.past)) (omega (arith, g.past)))
          where
            m : ℕ
            m = mismatch_of d - 1

            low : Lowest n m (view_of d)
            low = lowest-of d s a.0

            g : Going L m h.floor d.state.current
            g = lowest_going h m low

            ended : (k : ℕ) → 0 < k → m + k ≡ d.state.current → Done R d (replay step p k (back_to d m))
            ended zero x y = absurd (omega arith)
            ended (suc k) x y =
                let l = back_loaded d m s g.past in
                let m₀ = loaded_mid h m (view_of (back_to d m)) low l in
                let c₀ = loaded_clean h m (view_of (back_to d m)) low l in
                let s₀ = back_shape d m s in
                let f = framed_at (back_to d m) s₀ in
                let lt : (back_to d m).state.current < d.state.current = omega (arith, l.current, g.past) in
                let r = replayed k (one_frame step p (back_to d m)) (frame_shape step p (back_to d m) s₀) (framed_mid m₀ lt f) (framed_neat m₀ c₀ lt f) (omega (arith, f.current, l.current)) in
                let e : (replay step p k (one_frame step p (back_to d m))).state.current ≡ d.state.current = omega (arith, r.current, f.current, l.current) in
                record {
                  shape = r.shape;
                  quiet = quiet_at d.state.current h.floor e r.mid r.neat;
                  current = e;
                  kept = λ t x.
                      alike_via (rw (back_queue d m s t x) (alike_reset (queue_of d t)))
                      (alike_via (frame_kept (back_to d m) s₀ t x) (r.kept t x));
                }

    -- confirming
    pub confirm_done : (d : Desk) → Shape n L d → Quiet n L (stepping step) p R (view_of d) → Done R d (confirm d)
    unfolding confirm
    confirm_done d s q = ⊎_elim (λ a. simp a.1 same) some (split_eqb (known_of d) 0)
      where
        same : Done R d d
        same = record { shape = s; quiet = q; current = refl; kept = λ t x. alike_refl (queue_of d t) }

        thrown : (g : ℕ) → g ≤ known_of d → g ≤ d.state.current → Done R d (discard_all d g)
        thrown g x y = record {
          shape = discard_shape d g s;
          quiet = discarded_quiet g (view_of (discard_all d g)) q
              (λ t h. le_via x (least_le (d.state.seats - 1) (λ t. (queue_of d t).last_added_count) t (below_last t h s.seats)))
              y
              (discard_view d g s);
          current = (discard_view d g s).current;
          kept = λ t h. rw ((discard_view d g s).queue t h) (alike_discard (queue_of d t) g);
        }

        some : (known_of d ≢ 0) × (eqb (known_of d) 0 ≡ false) → Done R d (confirm d)
        some a =
            ⊎_elim
            (λ b. simp (a.1, b.1) same)
            (λ b. simp (a.1, b.1) (thrown _ (omega (arith, a.0, b.0)) (omega (arith, a.0, b.0))))
            (split_eqb (min (known_of d - 1) d.state.current) 0)

    pub settle_done : (d : Desk) → Shape n L d → Sound n L (stepping step) p R (view_of d) → Done R d (settle step p d)
    unfolding settle
    settle_done d s h =
        let a = corrected_done d s h in
        let b = confirm_done (corrected step p d) a.shape a.quiet in
        record {
          shape = b.shape;
          quiet = b.quiet;
          current = b.current ∙ a.current;
          kept = λ t x. alike_via (a.kept t x) (b.kept t x);
        }

-- an advance that is not refused
pub record Allowed (d : Desk) : Type 0 where
  pub early : d.state.current + 1 < last_count
  pub near : suc d.state.current ≤ d.state.limit + known_of d

pub allowed : (d : Desk) → advance_answer d ≡ 0 → Allowed d
unfolding advance_answer
allowed d e = ⊎_elim late early (split_leb last_count (d.state.current + 1))
  where
    late : (last_count ≤ d.state.current + 1) × (leb last_count (d.state.current + 1) ≡ true) → Allowed d
    late a = let z : ◌≡◌ {A = ℕ} 6 0 = simp a.1 at e in absurd (omega arith)

    early : (d.state.current + 1 < last_count) × (leb last_count (d.state.current + 1) ≡ false) → Allowed d
    early a =
        ⊎_elim
        (λ b. let z : ◌≡◌ {A = ℕ} 5 0 = simp (a.1, b.1) at e in absurd (omega arith))
        (λ b. record { early = a.0; near = omega (arith, b.0) })
        (split_ltb (d.state.limit + known_of d) (d.state.current + 1))

module _ (step : Console → List ℕ → Console) (p : ℕ → ℕ) (n L : ℕ) (R : ℕ → ℕ → ℕ) where
  -- a call that stores nothing
  pub record Next (d e : Desk) : Type 0 where
    pub shape : Shape n L e
    pub sound : Sound n L (stepping step) p R (view_of e)
    pub early : d.state.current < last_count → e.state.current < last_count
    pub kept : Kept n d e

  -- every seat is within the limit, after the settle too
  pub settled_near : (d : Desk) → Shape n L d → Allowed d → (t : ℕ) → t < n → suc d.state.current ≤ (queue_of d t).last_added_count + L
  settled_near d s a t x =
      omega (arith, a.near, s.limit, least_le (d.state.seats - 1) (λ t. (queue_of d t).last_added_count) t (below_last t x s.seats))

  pub advance_next : (d : Desk) → Shape n L d → Sound n L (stepping step) p R (view_of d) → Next d (advance step p d)
  unfolding advance
  advance_next d s h =
      ⊎_elim
      (λ a. simp a.1 (moves (allowed d a.0)))
      (λ a. simp a.1 (record { shape = s; sound = h; early = λ x. x; kept = λ t x. alike_refl (queue_of d t) }))
      (split_eqb (advance_answer d) 0)
    where
      moves : Allowed d → Next d (one_frame step p (settle step p d))
      moves a =
          let r = settle_done step p n L d s h in
          let e = settle step p d in
          let k = quiet_next r.quiet (λ t x. omega (arith, settled_near d s a t x, r.current, (r.kept t x).last_added_count)) in
          let f = framed_at step p n L e r.shape in
          let lt : e.state.current < suc e.state.current = omega arith in
          record {
            shape = frame_shape step p e r.shape;
            sound = quiet_sound (quiet_at (suc e.state.current) r.quiet.floor f.current (framed_mid k.0 lt f) (framed_neat k.0 k.1 lt f));
            early = λ x. omega (arith, f.current, r.current, a.early);
            kept = λ t x. alike_via (r.kept t x) (frame_kept step p n L e r.shape t x);
          }

  pub settle_next : (d : Desk) → Shape n L d → Sound n L (stepping step) p R (view_of d) → Next d (settle step p d)
  settle_next d s h = let r = settle_done step p n L d s h in record { shape = r.shape; sound = quiet_sound r.quiet; early = λ x. omega (arith, r.current); kept = r.kept }
