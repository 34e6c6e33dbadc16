-- What a call presumes of a queue is given by a setup and kept by every call. Assumes nothing.
use Prim.Native.Nat.{ℕ, zero, suc, ◌+◌, ◌-◌, ◌<◌, ◌≤◌}
use native.Mathlib.Omega.{arith}
use mathlib.Core.Path.{◌≡◌, refl, sym, ◌∙◌}
use mathlib.Core.Bool.{true, false}
use mathlib.Core.Logic.{◌⊎◌, ⊎_elim}
use mathlib.Core.List.{List, [], ◌∷◌}
use lib.ListN.{length, length-set}
use lib.Dec.{ltb}
use lib.IntN.{ℤ}
use Rattle.frame_info.proofs.Split.{split_eqb, split_ltb, split_leb, split_bool}
use Rattle.frame_info.specs.Frame.{count_of, last_count}
use Rattle.frame_info.specs.Word.{predicted}
use Rattle.frame_info.specs.declared.PlayerInput.{PlayerInput}
use Rattle.input_queue.specs.declared.QueueState.{QueueState}
use Rattle.input_queue.specs.Queue.{fresh_state, newest, put, fill, used, add, asked, predicting_asked, reset, capped, oldest_after, discard, delayed}
use Rattle.input_queue.specs.Ring.{queue_length, word_at, fill_words, add_words}
use Rattle.input_queue.specs.Calls as calls
use Rattle.input_queue.specs.Whole.{Sane, Whole}
use Rattle.input_queue.specs.Runs as runs
use Rattle.input_queue.specs.Runs.{Queue, Call, add_call, input_call, discard_call, reset_call, delay_call}
use Rattle.input_queue.proofs.Answers.{add_low}
use Rattle.input_queue.proofs.Fills.{put_added, put_ahead, fill_added, fill_ahead}
use Rattle.std.proofs.lemmas.Bool.Decides.{nat_tests}

-- Setup
pub fresh_sane : (d : ℕ) → d ≤ 60 → Sane (fresh_state d)
fresh_sane d h =
    record { late = h; users = omega arith; few = omega arith; kept = omega arith; ring = omega arith; ahead = omega arith }

pub opened_sane : (p d : ℕ) → Sane (calls.opened p d).state
unfolding calls.opened
opened_sane p d =
    ⊎_elim
    (λ a. ⊎_elim
    (λ b. simp (a.1, b.1) (fresh_sane d b.0))
    (λ b. simp (a.1, b.1) (fresh_sane 0 (omega arith)))
    (split_leb d 60))
    (λ a. simp a.1 (fresh_sane 0 (omega arith)))
    (split_ltb p 3)

-- the fields that storing leaves alone
record Same (s t : QueueState) : Type 0 where
  frame_delay : t.frame_delay ≡ s.frame_delay
  last_user_count : t.last_user_count ≡ s.last_user_count
  oldest : t.oldest ≡ s.oldest

put_same : (s : QueueState) (w : ℕ) → Same s (put s w)
unfolding put
put_same s w = record { frame_delay = refl; last_user_count = refl; oldest = refl }

fill_same : (n : ℕ) (s : QueueState) (w : ℕ) → Same s (fill n s w)
unfolding fill
fill_same zero s w = record { frame_delay = refl; last_user_count = refl; oldest = refl }
fill_same (suc n) s w =
    let a = fill_same n s w in
    let b = put_same (fill n s w) w in
    record { frame_delay = b.frame_delay ∙ a.frame_delay; last_user_count = b.last_user_count ∙ a.last_user_count; oldest = b.oldest ∙ a.oldest }

-- An input with room
pub add_sane : (at : ℕ → ℕ) (s : QueueState) (f w : ℕ) → Sane s → f < last_count → (f + s.frame_delay < s.last_added_count) ⊎ (f + s.frame_delay < s.oldest + queue_length)
    → Sane (add at s f w)
unfolding add
add_sane at s f w h g room = ⊎_elim thrown stored (split_ltb (f + s.frame_delay) s.last_added_count)
  where
    thrown : (f + s.frame_delay < s.last_added_count) × (ltb (f + s.frame_delay) s.last_added_count ≡ true) → Sane (add at s f w)
    thrown a =
        simp a.1
        (record { late = h.late; users = omega arith; few = h.few; kept = h.kept; ring = h.ring; ahead = h.ahead })

    stored : (s.last_added_count ≤ f + s.frame_delay) × (ltb (f + s.frame_delay) s.last_added_count ≡ false) → Sane (add at s f w)
    stored a =
        let c = newest at s.last_added_count in
        let n = f + s.frame_delay - s.last_added_count in
        let t = fill n (used s f) c in
        let k = fill_same n (used s f) c in
        let j = put_same t w in
        let e = fill_added n (used s f) c in
        let i = put_added t w in
        let r : f + s.frame_delay < s.oldest + queue_length = ⊎_elim (λ x. omega arith) (λ x. x) room in
        simp a.1
        (record {
          late = omega arith;
          users = omega arith;
          few = omega arith;
          kept = omega arith;
          ring = omega arith;
          ahead = put_ahead t w (fill_ahead n (used s f) c h.ahead);
        })

-- what does not overfill a queue is tossed, or has room
pub not_over : (s : QueueState) (f : ℕ) → calls.overfull s f ≡ false → (f + s.frame_delay < s.last_added_count) ⊎ (f + s.frame_delay < s.oldest + queue_length)
not_over s f o = grind (arith, nat_tests)

-- and so is or has what is not refused
add_room : (s : QueueState) (c : ℕ) → calls.add_refusal s c ≡ 0 → (c - 1 + s.frame_delay < s.last_added_count) ⊎ (c - 1 + s.frame_delay < s.oldest + queue_length)
unfolding calls.add_refusal
add_room s c z = grind (arith, nat_tests)

pub asked_sane : (p at : ℕ → ℕ) (s : QueueState) (f : ℕ) → Sane s → Sane (asked p at s f)
unfolding asked
asked_sane p at s f h =
    record { late = h.late; users = h.users; few = h.few; kept = h.kept; ring = h.ring; ahead = within }
  where
    within : predicting_asked s f ≤ s.last_added_count + 1
    within = grind (arith, nat_tests)

pub discard_sane : (s : QueueState) (f : ℕ) → Sane s → Sane (discard s f)
unfolding discard
discard_sane s f h =
    let o = within (capped s f) in
    record { late = h.late; users = h.users; few = h.few; kept = o.0; ring = o.1; ahead = h.ahead }
  where
    within : (g : ℕ) → (oldest_after s g ≤ s.last_added_count) × (s.last_added_count ≤ oldest_after s g + queue_length)
    within g = (omega (arith, h.kept), omega (arith, h.ring))

pub reset_sane : (s : QueueState) → Sane s → Sane (reset s)
unfolding reset
reset_sane s h =
    record { late = h.late; users = h.users; few = h.few; kept = h.kept; ring = h.ring; ahead = omega arith }

pub delayed_sane : (s : QueueState) (d : ℕ) → d ≤ 60 → Sane s → Sane (delayed s d)
unfolding delayed
delayed_sane s d e h =
    record { late = e; users = h.users; few = h.few; kept = h.kept; ring = h.ring; ahead = h.ahead }

-- the lent words keep their number
fill_long : (k : ℕ) (l : List ℕ) (base n w : ℕ) → length (fill_words k l base n w) ≡ length l
unfolding fill_words
fill_long zero l base n w = refl
fill_long (suc k) l base n w = simp length-set (fill_long k l base n w)

pub add_long : (l : List ℕ) (base : ℕ) (s : QueueState) (f w : ℕ) → length (add_words l base s f w) ≡ length l
unfolding add_words
add_long l base s f w =
    ⊎_elim
    (λ a. simp a.1)
    (λ a. simp (a.1, length-set) (fill_long (f + s.frame_delay - s.last_added_count) l base s.last_added_count (newest (word_at l base) s.last_added_count)))
    (split_ltb (f + s.frame_delay) s.last_added_count)

module _ (l : List ℕ) (base : ℕ) (s : QueueState) (h : Whole l base s) where
  pub add_whole : (i : PlayerInput) → Whole (calls.input_words l base s i) base (calls.add_input l base s i).state
  unfolding calls.input_words calls.add_input
  add_whole i =
      ⊎_elim
      (λ a. simp a.1
      (record {
        room = rw (add_long l base s (count_of i.frame - 1) i.input) h.room;
        numbers = add_sane (word_at l base) s (count_of i.frame - 1) i.input h.numbers (add_low s (count_of i.frame) 0 (sym a.0) refl) (add_room s (count_of i.frame) a.0);
      }))
      (λ a. simp a.1 h)
      (split_eqb (calls.add_refusal s (count_of i.frame)) 0)

  pub served_whole : (p : ℕ) (f : ℤ) → Whole l base (calls.served l base s p f).state
  unfolding calls.served
  served_whole p f =
      ⊎_elim
      (λ a. simp a.1 (record { room = h.room; numbers = asked_sane (predicted p) (word_at l base) s (count_of f - 1) h.numbers }))
      (λ a. simp a.1 h)
      (split_eqb (calls.input_refusal s (count_of f)) 0)

  pub discarded_whole : (f : ℤ) → Whole l base (calls.discarded s f).state
  unfolding calls.discarded
  discarded_whole f =
      ⊎_elim
      (λ a. simp a.1 h)
      (λ a. simp a.1 (record { room = h.room; numbers = discard_sane s (count_of f - 1) h.numbers }))
      (split_eqb (count_of f) 0)

  pub reset_whole : Whole l base (reset s)
  reset_whole = record { room = h.room; numbers = reset_sane s h.numbers }

  pub delayed_whole : (d : ℕ) → Whole l base (calls.delayed_to l base s d).state
  unfolding calls.delayed_to
  delayed_whole d =
      ⊎_elim
      (λ a. simp a.1 h)
      (λ a.
      let w : Whole l base (delayed s d) = record { room = h.room; numbers = delayed_sane s d a.0 h.numbers } in
      ⊎_elim (λ b. simp (a.1, b) w) (λ b. simp (a.1, b) w) (split_bool (calls.announces s d)))
      (split_ltb 60 d)

-- So it holds after every call, and after any run of them.
module _ (base p : ℕ) where
  pub after_whole : (q : Queue) (x : Call) → Whole q.words base q.state → Whole (runs.after base p q x).words base (runs.after base p q x).state
  unfolding runs.after
  after_whole q (add_call i) h = add_whole q.words base q.state h i
  after_whole q (input_call f) h = served_whole q.words base q.state h p f
  after_whole q (discard_call f) h = discarded_whole q.words base q.state h f
  after_whole q reset_call h = reset_whole q.words base q.state h
  after_whole q (delay_call d) h = delayed_whole q.words base q.state h d

  pub run_whole : (q : Queue) (l : List Call) → Whole q.words base q.state → Whole (runs.run base p q l).words base (runs.run base p q l).state
  unfolding runs.run
  run_whole q [] h = h
  run_whole q (x ∷ l) h = run_whole (runs.after base p q x) l (after_whole q x h)
