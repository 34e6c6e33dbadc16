-- Taking a word keeps the desk sound, for the accepted words with that word behind them. Assumes nothing.
use Prim.Native.Nat.{ℕ, zero, suc, ◌+◌, ◌-◌, ◌*◌, ◌<◌, ◌≤◌}
use native.Mathlib.Omega.{arith}
use native.Mathlib.Numerals.{add-one}
use mathlib.Core.Path.{◌≡◌, refl, ap, sym, ◌∙◌}
use mathlib.Core.Logic.{◌⊎◌, inl, inr, ⊎_elim, ◌≢◌}
use mathlib.Core.List.{List, [], ◌∷◌, ◌++◌, append_assoc, append-nil}
use Prim.{absurd}
use lib.ListN.{length, get_or, length-set, length-append, get_or-append, replicate}
use lib.Seq.{get_or-set_same, get_or-set_other, get_or-append_seam}
use borrow.Author.Tests.{lt-ltb, le-ltb}
use Rattle.frame_info.specs.Word.{blank}
use Rattle.frame_info.proofs.Split.{split_ltb}
use Rattle.input_queue.specs.declared.QueueState.{QueueState}
use Rattle.input_queue.specs.Queue.{fresh, newest, put, fill, used, add}
use Rattle.input_queue.specs.Ring.{spot, put_word, fill_words, add_words}
use Rattle.input_queue.specs.Runs.{placed}
use Rattle.input_queue.proofs.Fills.{fill_added}
use Rattle.sync_layer.specs.Seats.{ring_of}
use Rattle.agreement.proofs.Seat.{put_added, Same, put_same, newest_some, Neat, Broken, Seat, fresh_same, put_stored, put_kind}
use Rattle.agreement.proofs.Steps.{words_of}

-- what is known of a seat depends on the reference's words below its newest place alone ----------------------------------------------

module _ {p R at S : ℕ → ℕ} {b c L B : ℕ} {q : QueueState} (Q : ℕ → ℕ) (same : (f : ℕ) → f < q.last_added_count → Q f ≡ R f) where
  seat_agree : Seat p R at S b c L B q → Seat p Q at S b c L B q
  seat_agree h = record {
    store = record {
      ring = h.store.ring;
      thrown = h.store.thrown;
      floor = h.store.floor;
      near = h.store.near;
      ahead = h.store.ahead;
      at_is = λ f x y. h.store.at_is f x y ∙ sym (same f x);
    };
    kind = ⊎_elim (λ n. inl (neat n)) (λ n. inr (broken n)) h.kind;
  }
    where
      guess : fresh p R q.last_added_count ≡ fresh p Q q.last_added_count
      guess = fresh_same p Q R q.last_added_count (λ f x y. sym (same f x))

      neat : Neat p R S b c q → Neat p Q S b c q
      neat n = record {
        right = n.right;
        mode = ⊎_elim (λ a. inl a) (λ a. inr (a.0, a.1, record { at_frame = a.2.at_frame; missing = a.2.missing; word = a.2.word ∙ guess })) n.mode;
        served = record {
          below = λ f x y z. n.served.below f x y z ∙ sym (same f z);
          above = λ f x y z. n.served.above f x y z ∙ guess;
        };
      }

      broken : Broken R S b c L B q → Broken Q S b c L B q
      broken n = record {
        m = n.m;
        first_incorrect_count = n.first_incorrect_count;
        stored = n.stored;
        past = n.past;
        near = n.near;
        kept = n.kept;
        below = λ f x y. n.below f x y ∙ sym (same f (omega (arith, n.stored)));
      }

-- the user's frame plays no part
seat_used : {p R at S : ℕ → ℕ} {b c L B : ℕ} {q : QueueState} (f : ℕ) → Seat p R at S b c L B q → Seat p R at S b c L B (used q f)
seat_used f h = record {
  store = record { ring = h.store.ring; thrown = h.store.thrown; floor = h.store.floor; near = h.store.near; ahead = h.store.ahead; at_is = h.store.at_is };
  kind = ⊎_elim
      (λ n. inl (record {
        right = n.right;
        mode = ⊎_elim (λ a. inl a) (λ a. inr (a.0, a.1, record { at_frame = a.2.at_frame; missing = a.2.missing; word = a.2.word })) n.mode;
        served = record { below = n.served.below; above = n.served.above };
      }))
      (λ n. inr (record { m = n.m; first_incorrect_count = n.first_incorrect_count; stored = n.stored; past = n.past; near = n.near; kept = n.kept; below = n.below }))
      h.kind;
}

-- storing in the ring ----------------------------------------------------------------------------------------------------------------

pub fill_same : (k : ℕ) (q : QueueState) (w : ℕ) → Same q (fill k q w)
unfolding fill
fill_same zero q w = record { frame_delay = refl; last_user_count = refl; oldest = refl; last_requested_count = refl; prediction = refl }
fill_same (suc k) q w =
    let a = fill_same k q w in
    let b = put_same (fill k q w) w in
    record { frame_delay = b.frame_delay ∙ a.frame_delay; last_user_count = b.last_user_count ∙ a.last_user_count; oldest = b.oldest ∙ a.oldest; last_requested_count = b.last_requested_count ∙ a.last_requested_count; prediction = b.prediction ∙ a.prediction }

pub fill_length : (k : ℕ) (l : List ℕ) (s n w : ℕ) → length (fill_words k l (ring_of s) n w) ≡ length l
unfolding fill_words
fill_length zero l s n w = refl
fill_length (suc k) l s n w = length-set (fill_words k l (ring_of s) n w) (spot (ring_of s) (n + k)) w ∙ fill_length k l s n w

-- another seat's ring
pub fill_other : (k : ℕ) (l : List ℕ) (s n w t f : ℕ) → t ≢ s → words_of (fill_words k l (ring_of s) n w) t f ≡ words_of l t f
unfolding fill_words
fill_other zero l s n w t f d = refl
fill_other (suc k) l s n w t f d =
    get_or-set_other (fill_words k l (ring_of s) n w) (spot (ring_of s) (n + k)) (spot (ring_of t) f) w 0 (λ e. omega (arith, d)) ∙ fill_other k l s n w t f d

-- the lists of stored words
abbrev pub read_at : List ℕ → ℕ → ℕ
read_at l f = get_or l f blank

-- a list with k copies of a word behind it
unfoldable pub fill_list : ℕ → ℕ → List ℕ → List ℕ
fill_list zero w l = l
fill_list (suc k) w l = fill_list k w l ++ (w ∷ [])

pub snoc_length : (l : List ℕ) (w : ℕ) → length (l ++ (w ∷ [])) ≡ suc (length l)
snoc_length l w = length-append l (w ∷ []) ∙ add-one (length l)

pub fill_list_length : (k w : ℕ) (l : List ℕ) → length (fill_list k w l) ≡ length l + k
unfolding fill_list
fill_list_length zero w l = omega arith
fill_list_length (suc k) w l = omega (arith, snoc_length (fill_list k w l) w, fill_list_length k w l)

repeat_snoc : (k w : ℕ) → replicate (suc k) w ≡ replicate k w ++ (w ∷ [])
repeat_snoc zero w = refl
repeat_snoc (suc k) w = ap (λ (l : List ℕ). w ∷ l) (repeat_snoc k w)

fill-list : (k w : ℕ) (l : List ℕ) → l ++ replicate k w ≡ fill_list k w l
unfolding fill_list
fill-list zero w l = append-nil l
fill-list (suc k) w l =
    ap (λ (x : List ℕ). l ++ x) (repeat_snoc k w) ∙ sym (append_assoc l (replicate k w) (w ∷ []))
    ∙ ap (λ (x : List ℕ). x ++ (w ∷ [])) (fill-list k w l)

module _ {p S : ℕ → ℕ} {b c L B : ℕ} (z : p 0 ≡ 0) (i : (v : ℕ) → p (p v) ≡ p v) where
  -- storing w behind the words a, in the next place
  seat_put : {q : QueueState} (a l : List ℕ) (s n w : ℕ)
      → Seat p (read_at a) (words_of l s) S b c L B q
      → q.last_added_count ≡ length a
      → length a ≡ n
      → s * 128 + 128 ≤ length l
      → n < q.oldest + 128
      → Seat p (read_at (a ++ (w ∷ []))) (words_of (put_word l (ring_of s) n w) s) S b c L B (put q w)
  seat_put {q} a l s n w h e e' long room =
      let R = read_at (a ++ (w ∷ [])) in
      let h' = seat_agree R (λ f x. get_or-append a (w ∷ []) 0 f (omega arith)) h in
      let r : R q.last_added_count ≡ w = rw e (get_or-append_seam a w [] 0) in
      let n' : q.last_added_count ≡ n = e ∙ e' in
      record {
        store = put_stored w (words_of (put_word l (ring_of s) n w) s) h'.store (omega arith) r
            (λ f x y. get_or-set_other l (spot (ring_of s) n) (spot (ring_of s) f) w 0 (λ o. omega arith))
            (rw n' (get_or-set_same l (spot (ring_of s) n) w 0 (omega arith)));
        kind = put_kind w z i h'.store r h'.kind;
      }

  seat_fill : (k : ℕ) {q : QueueState} (a l : List ℕ) (s n w : ℕ)
      → Seat p (read_at a) (words_of l s) S b c L B q
      → q.last_added_count ≡ length a
      → length a ≡ n
      → s * 128 + 128 ≤ length l
      → n + k ≤ q.oldest + 128
      → Seat p (read_at (fill_list k w a)) (words_of (fill_words k l (ring_of s) n w) s) S b c L B (fill k q w)
  unfolding fill_words fill fill_list
  seat_fill zero a l s n w h e e' long room = h
  seat_fill (suc k) {q} a l s n w h e e' long room =
      seat_put {q = fill k q w} (fill_list k w a) (fill_words k l (ring_of s) n w) s (n + k) w
      (seat_fill k a l s n w h e e' long (omega arith))
      (omega (arith, fill_added k q w, fill_list_length k w a))
      (omega (arith, fill_list_length k w a))
      (omega (arith, fill_length k l s n w))
      (omega (arith, (fill_same k q w).oldest))

-- accepting a word -------------------------------------------------------------------------------------------------------------------

-- tossed, or stored
add_tossed : (at : ℕ → ℕ) (q : QueueState) (f w : ℕ) → f + q.frame_delay < q.last_added_count → add at q f w ≡ used q f
unfolding add
add_tossed at q f w h = simp (lt-ltb _ _ h)

add_stored : (at : ℕ → ℕ) (q : QueueState) (f w : ℕ) → q.last_added_count ≤ f + q.frame_delay
    → add at q f w ≡ put (fill (f + q.frame_delay - q.last_added_count) (used q f) (newest at q.last_added_count)) w
unfolding add
add_stored at q f w h = simp (le-ltb _ _ h)

add_words_tossed : (l : List ℕ) (s : ℕ) (q : QueueState) (f w : ℕ) → f + q.frame_delay < q.last_added_count → add_words l (ring_of s) q f w ≡ l
unfolding add_words
add_words_tossed l s q f w h = simp (lt-ltb _ _ h)

add_words_stored : (l : List ℕ) (s : ℕ) (q : QueueState) (f w : ℕ) → q.last_added_count ≤ f + q.frame_delay
    → add_words l (ring_of s) q f w ≡ put_word (fill_words (f + q.frame_delay - q.last_added_count) l (ring_of s) q.last_added_count (newest (words_of l s) q.last_added_count)) (ring_of s) (f + q.frame_delay) w
unfolding add_words
add_words_stored l s q f w h = simp (le-ltb _ _ h)

pub placed_tossed : (a : List ℕ) (k w : ℕ) → k < length a → placed a k w ≡ a
unfolding placed
placed_tossed a k w h = simp (lt-ltb _ _ h)

pub placed_stored : (a : List ℕ) (k w : ℕ) → length a ≤ k → placed a k w ≡ fill_list (k - length a) (newest (read_at a) (length a)) a ++ (w ∷ [])
unfolding placed
placed_stored a k w h = simp (le-ltb _ _ h) (ap (λ (x : List ℕ). x ++ (w ∷ [])) (fill-list (k - length a) (newest (read_at a) (length a)) a))

pub add_words_other : (l : List ℕ) (s : ℕ) (q : QueueState) (f w t g : ℕ) → t ≢ s → words_of (add_words l (ring_of s) q f w) t g ≡ words_of l t g
add_words_other l s q f w t g d =
    ⊎_elim
    (λ a. rw (add_words_tossed l s q f w a.0))
    (λ a.
    rw (add_words_stored l s q f w a.0)
    (get_or-set_other (fill_words (f + q.frame_delay - q.last_added_count) l (ring_of s) q.last_added_count (newest (words_of l s) q.last_added_count)) (spot (ring_of s) (f + q.frame_delay)) (spot (ring_of t) g) w 0 (λ e. omega (arith, d))
    ∙ fill_other (f + q.frame_delay - q.last_added_count) l s q.last_added_count (newest (words_of l s) q.last_added_count) t g d))
    (split_ltb (f + q.frame_delay) q.last_added_count)

-- the newest word alone counts
newest_same : (R at : ℕ → ℕ) (n : ℕ) → ((f : ℕ) → f < n → n ≤ f + 128 → at f ≡ R f) → newest at n ≡ newest R n
newest_same R at zero h = refl
newest_same R at (suc n) h = newest_some at n ∙ h n (omega arith) (omega arith) ∙ sym (newest_some R n)

pub record Added (q t : QueueState) (a : List ℕ) (f : ℕ) : Type 0 where
  pub frame_delay : t.frame_delay ≡ q.frame_delay
  pub last_user_count : t.last_user_count ≡ suc f
  pub last_added_count : t.last_added_count ≡ length a

module _ (q : QueueState) (a : List ℕ) (at : ℕ → ℕ) (f w : ℕ) (e : q.last_added_count ≡ length a) where
  pub add_added : Added q (add at q f w) (placed a (f + q.frame_delay) w) f
  add_added =
      ⊎_elim
      (λ x.
      let y : f + q.frame_delay < length a = omega (arith, x.0) in
      rw (add_tossed at q f w x.0, placed_tossed a (f + q.frame_delay) w y)
      (record { frame_delay = refl; last_user_count = add-one f; last_added_count = e }))
      (λ x.
      let y : length a ≤ f + q.frame_delay = omega (arith, x.0) in
      let v = newest at q.last_added_count in
      let v' = newest (read_at a) (length a) in
      let n = f + q.frame_delay - q.last_added_count in
      let m = f + q.frame_delay - length a in
      let t = fill n (used q f) v in
      let k = put_same t w in
      let k' = fill_same n (used q f) v in
      rw (add_stored at q f w x.0, placed_stored a (f + q.frame_delay) w y)
      (record {
        frame_delay = k.frame_delay ∙ k'.frame_delay;
        last_user_count = k.last_user_count ∙ k'.last_user_count ∙ add-one f;
        last_added_count = omega (arith, put_added t w, fill_added n (used q f) v, snoc_length (fill_list m v' a) w, fill_list_length m v' a);
      }))
      (split_ltb (f + q.frame_delay) q.last_added_count)

module _ {p S : ℕ → ℕ} {b c L B : ℕ} (z : p 0 ≡ 0) (i : (v : ℕ) → p (p v) ≡ p v) where
  -- a word for frame f, tossed or stored
  pub seat_add : (a : List ℕ) (q : QueueState) (l : List ℕ) (s f w : ℕ)
      → q.last_added_count ≡ length a
      → Seat p (read_at a) (words_of l s) S b c L B q
      → s * 128 + 128 ≤ length l
      → (f + q.frame_delay < q.last_added_count) ⊎ (f + q.frame_delay < q.oldest + 128)
      → Seat p (read_at (placed a (f + q.frame_delay) w)) (words_of (add_words l (ring_of s) q f w) s) S b c L B (add (words_of l s) q f w)
  seat_add a q l s f w e h long may =
      ⊎_elim
      (λ x.
      let y : f + q.frame_delay < length a = omega (arith, x.0) in
      rw (add_tossed (words_of l s) q f w x.0, add_words_tossed l s q f w x.0, placed_tossed a (f + q.frame_delay) w y) (seat_used f h))
      (λ x.
      let y : length a ≤ f + q.frame_delay = omega (arith, x.0) in
      let room : f + q.frame_delay < q.oldest + 128 = ⊎_elim (λ o. absurd (omega (arith, o, x.0))) (λ o. o) may in
      let v = newest (words_of l s) q.last_added_count in
      let n = f + q.frame_delay - q.last_added_count in
      let ev : newest (read_at a) (length a) ≡ v = sym (newest_same (read_at a) (words_of l s) q.last_added_count h.store.at_is ∙ ap (newest (read_at a)) e) in
      let en : f + q.frame_delay - length a ≡ n = omega arith in
      rw (add_stored (words_of l s) q f w x.0, add_words_stored l s q f w x.0, placed_stored a (f + q.frame_delay) w y, ev, en)
      (seat_put z i {q = fill n (used q f) v} (fill_list n v a) (fill_words n l (ring_of s) q.last_added_count v) s (f + q.frame_delay) w
      (seat_fill z i n a l s q.last_added_count v (seat_used f h) e (sym e) long (omega (arith, x.0)))
      (omega (arith, fill_added n (used q f) v, fill_list_length n v a))
      (omega (arith, fill_list_length n v a, x.0))
      (omega (arith, fill_length n l s q.last_added_count v))
      (omega (arith, (fill_same n (used q f) v).oldest))))
      (split_ltb (f + q.frame_delay) q.last_added_count)
