-- Seat i's calls leave every other seat's queue and ring alone, over the seat's number. Assumes nothing.
use Prim.Native.Nat.{ℕ, zero, suc, ◌+◌, ◌-◌, ◌<◌, ◌≤◌}
use native.Mathlib.Omega.{arith}
use mathlib.Core.Path.{◌≡◌, refl, ◌∙◌}
use mathlib.Core.Logic.{◌≢◌, ◌⊎◌, inl, inr, ⊎_elim}
use mathlib.Core.Bool.{Bool, true, false}
use mathlib.Core.List.{List}
use lib.ListN.{get_or}
use lib.Seq.{get_or-set_other}
use lib.Dec.{eqb}
use Rattle.frame_info.specs.Choice.{pick}
use Rattle.frame_info.proofs.Split.{split_eqb, split_ltb}
use Rattle.frame_info.specs.Frame.{count_of}
use Rattle.frame_info.specs.declared.PlayerInput.{PlayerInput}
use Rattle.input_queue.specs.declared.QueueState.{QueueState}
use Rattle.input_queue.specs.Queue.{newest}
use Rattle.input_queue.specs.Ring.{queue_length, spot, word_at, put_word, fill_words, add_words}
use Rattle.input_queue.specs.Calls as queue
use Rattle.sync_layer.specs.declared.LayerState.{LayerState}
use Rattle.sync_layer.specs.Seats.{ring_of, seat_at}
use Rattle.sync_layer.specs.Calls as calls
use Rattle.sync_layer.proofs.Seating.{seat_other}

-- Of queues: an input writes nothing outside its ring.
abbrev pub Outside : ℕ → ℕ → Type 0
Outside base k = (k < base) ⊎ (base + queue_length ≤ k)

module _ (base k : ℕ) (o : Outside base k) where
  put_outside : (l : List ℕ) (f w : ℕ) → get_or (put_word l base f w) k 0 ≡ get_or l k 0
  put_outside l f w =
      get_or-set_other l (spot base f) k w 0 (λ e. ⊎_elim (λ a. omega arith) (λ a. omega arith) o)

  fill_outside : (n : ℕ) (l : List ℕ) (f w : ℕ) → get_or (fill_words n l base f w) k 0 ≡ get_or l k 0
  unfolding fill_words
  fill_outside zero l f w = refl
  fill_outside (suc n) l f w = put_outside (fill_words n l base f w) (f + n) w ∙ fill_outside n l f w

  add_outside : (l : List ℕ) (s : QueueState) (f w : ℕ) → get_or (add_words l base s f w) k 0 ≡ get_or l k 0
  unfolding add_words
  add_outside l s f w =
      ⊎_elim
      (λ a. simp a.1)
      (λ a. simp a.1
      (put_outside (fill_words (f + s.frame_delay - s.last_added_count) l base s.last_added_count (newest (word_at l base) s.last_added_count)) (f + s.frame_delay) w
      ∙ fill_outside (f + s.frame_delay - s.last_added_count) l s.last_added_count (newest (word_at l base) s.last_added_count)))
      (split_ltb (f + s.frame_delay) s.last_added_count)

  pub input_outside : (l : List ℕ) (s : QueueState) (x : PlayerInput) → get_or (queue.input_words l base s x) k 0 ≡ get_or l k 0
  unfolding queue.input_words
  input_outside l s x =
      ⊎_elim
      (λ a. simp a.1 (add_outside l s (count_of x.frame - 1) x.input))
      (λ a. simp a.1)
      (split_eqb (queue.add_refusal s (count_of x.frame)) 0)

-- Of the layer, for an input of either kind, whether it is refused or not.
module _ (l words : List ℕ) (i : ℕ) (x : PlayerInput) where
  placed_other : (t : Bool) (j : ℕ) → j ≢ i → seat_at (pick t (calls.placed_seats l words i x) l) j ≡ seat_at l j
  placed_other true j d = seat_other l i j (queue.add_input words (ring_of i) (seat_at l i) x).state d
  placed_other false j d = refl

  -- each word of another seat's ring
  placed_ring : (t : Bool) (j f : ℕ) → j ≢ i → word_at (pick t (calls.placed_words l words i x) words) (ring_of j) f ≡ word_at words (ring_of j) f
  placed_ring true j f d =
      input_outside (ring_of i) (spot (ring_of j) f)
      (⊎_elim (λ a. inl (omega (arith, a.0))) (λ a. inr (omega (arith, a.0, d))) (split_ltb j i))
      words (seat_at l i) x
  placed_ring false j f d = refl

-- THE CLAIM, for an input of either kind and for a delay change, which is lent no word to write
module _ (y : LayerState) (l words : List ℕ) (i j : ℕ) (d : j ≢ i) where
  module _ (x : PlayerInput) where
    pub local_other : seat_at (calls.local_seats y l words i x) j ≡ seat_at l j
    unfolding calls.local_seats
    local_other = placed_other l words i x (eqb (calls.local_refusal y l i (count_of x.frame)) 0) j d

    pub local_ring : (f : ℕ) → word_at (calls.local_words y l words i x) (ring_of j) f ≡ word_at words (ring_of j) f
    unfolding calls.local_words
    local_ring f = placed_ring l words i x (eqb (calls.local_refusal y l i (count_of x.frame)) 0) j f d

    pub remote_other : seat_at (calls.remote_seats y l words i x) j ≡ seat_at l j
    unfolding calls.remote_seats
    remote_other = placed_other l words i x (eqb (calls.remote_refusal y l i (count_of x.frame)) 0) j d

    pub remote_ring : (f : ℕ) → word_at (calls.remote_words y l words i x) (ring_of j) f ≡ word_at words (ring_of j) f
    unfolding calls.remote_words
    remote_ring f = placed_ring l words i x (eqb (calls.remote_refusal y l i (count_of x.frame)) 0) j f d

  pub delayed_other : (n : ℕ) → seat_at (calls.delayed_seats y l words i n) j ≡ seat_at l j
  unfolding calls.delayed_seats
  delayed_other n =
      ⊎_elim
      (λ a. simp a.1 (seat_other l i j (queue.delayed_to words (ring_of i) (seat_at l i) n).state d))
      (λ a. simp a.1)
      (split_ltb i y.num_players)
