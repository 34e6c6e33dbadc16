-- The seats' queues, read and written, over the seat's number. Assumes nothing.
use Prim.Native.Nat.{ℕ, zero, suc, ◌+◌, ◌*◌, ◌<◌, ◌≤◌}
use native.Mathlib.Omega.{arith}
use native.Mathlib.Numerals.{add-one}
use mathlib.Core.Path.{◌≡◌, refl, ◌∙◌}
use mathlib.Core.Logic.{◌≢◌, ⊎_elim}
use Prim.{absurd}
use mathlib.Core.List.{List}
use lib.ListN.{length, get_or}
use lib.Seq.{set-get_or}
use Rattle.frame_info.proofs.Split.{split_eqb}
use Rattle.input_queue.specs.declared.QueueState.{QueueState}
use Rattle.sync_layer.specs.Lists.{write_row}
use Rattle.sync_layer.specs.Seats.{seat_words, numbers_of, queue_of, seat_at, set_seat, map_seats}
use Rattle.sync_layer.proofs.Rows.{row_long, row_same, row_other}

pub seat_long : (l : List ℕ) (i : ℕ) (s : QueueState) → length (set_seat l i s) ≡ length l
unfolding set_seat
seat_long l i s = row_long seat_words l (i * seat_words) (λ k. get_or (numbers_of s) k 0)

pub seat_same : (l : List ℕ) (i : ℕ) (s : QueueState) → (i + 1) * seat_words ≤ length l → seat_at (set_seat l i s) i ≡ s
unfolding seat_at set_seat
seat_same l i s p =
    let e : (k : ℕ) → k < seat_words → get_or (write_row seat_words l (i * seat_words) (λ k. get_or (numbers_of s) k 0)) (i * seat_words + k) 0 ≡ get_or (numbers_of s) k 0
    = λ k q. row_same seat_words l (i * seat_words) (λ k. get_or (numbers_of s) k 0) k 0 (omega arith) q in
    rw (e 0 (omega arith), e 1 (omega arith), e 2 (omega arith), e 3 (omega arith), e 4 (omega arith), e 5 (omega arith), e 6 (omega arith), e 7 (omega arith))

pub seat_other : (l : List ℕ) (i j : ℕ) (s : QueueState) → j ≢ i → seat_at (set_seat l i s) j ≡ seat_at l j
unfolding seat_at set_seat
seat_other l i j s d =
    let e : (k : ℕ) → k < seat_words → get_or (write_row seat_words l (i * seat_words) (λ k. get_or (numbers_of s) k 0)) (j * seat_words + k) 0 ≡ get_or l (j * seat_words + k) 0
    = λ k q. row_other seat_words l (i * seat_words) (λ k. get_or (numbers_of s) k 0) (j * seat_words + k) 0 (λ m r z. d (omega arith)) in
    rw (e 0 (omega arith), e 1 (omega arith), e 2 (omega arith), e 3 (omega arith), e 4 (omega arith), e 5 (omega arith), e 6 (omega arith), e 7 (omega arith))

-- Over the seats: each in turn.
module _ (h : ℕ → QueueState → QueueState) where
  pub map_long : (n : ℕ) (l : List ℕ) → length (map_seats n h l) ≡ length l
  unfolding map_seats
  map_long zero l = refl
  map_long (suc n) l = seat_long (map_seats n h l) n (h n (seat_at l n)) ∙ map_long n l

  pub map_past : (n : ℕ) (l : List ℕ) (i : ℕ) → n ≤ i → seat_at (map_seats n h l) i ≡ seat_at l i
  unfolding map_seats
  map_past zero l i p = refl
  map_past (suc n) l i p =
      seat_other (map_seats n h l) n i (h n (seat_at l n)) (λ e. omega arith) ∙ map_past n l i (omega arith)

  pub map_at : (n : ℕ) (l : List ℕ) (i : ℕ) → n * seat_words ≤ length l → i < n → seat_at (map_seats n h l) i ≡ h i (seat_at l i)
  unfolding map_seats
  map_at zero l i r p = absurd (omega arith)
  map_at (suc n) l i r p =
      ⊎_elim
      (λ e. rw e.0 (seat_same (map_seats n h l) n (h n (seat_at l n)) (omega (arith, map_long n l))))
      (λ e. seat_other (map_seats n h l) n i (h n (seat_at l n)) e.0 ∙ map_at n l i (omega arith) (omega (arith, e.0)))
      (split_eqb i n)

  -- one seat more
  pub map_turn : (n : ℕ) (l₀ l l' : List ℕ) (s r : QueueState) → l ≡ map_seats n h l₀ → s ≡ seat_at l n → r ≡ h n s → l' ≡ set_seat l n r → l' ≡ map_seats (n + 1) h l₀
  unfolding map_seats
  map_turn n l₀ l l' s r e a b g =
      let d : s ≡ seat_at l₀ n = a ∙ rw e (map_past n l₀ n (omega arith)) in
      rw add-one (g ∙ rw (b, d, e))

-- what is written where it already stands
kept_row : (n : ℕ) (l : List ℕ) (base : ℕ) (g : ℕ → ℕ) → ((k : ℕ) → k < n → g k ≡ get_or l (base + k) 0) → write_row n l base g ≡ l
unfolding write_row
kept_row zero l base g e = refl
kept_row (suc n) l base g e =
    rw (kept_row n l base g (λ k p. e k (omega arith)), e n (omega arith)) (set-get_or l (base + n) 0)

pub seat_kept : (l : List ℕ) (i : ℕ) → set_seat l i (seat_at l i) ≡ l
unfolding set_seat seat_at
seat_kept l i = kept_row seat_words l (i * seat_words) (λ k. get_or (numbers_of (queue_of (λ j. get_or l (i * seat_words + j) 0))) k 0) fields
  where
    fields : (k : ℕ) → k < seat_words → get_or (numbers_of (queue_of (λ j. get_or l (i * seat_words + j) 0))) k 0 ≡ get_or l (i * seat_words + k) 0
    fields zero p = refl
    fields (suc zero) p = refl
    fields (suc (suc zero)) p = refl
    fields (suc (suc (suc zero))) p = refl
    fields (suc (suc (suc (suc zero)))) p = refl
    fields (suc (suc (suc (suc (suc zero))))) p = refl
    fields (suc (suc (suc (suc (suc (suc zero)))))) p = refl
    fields (suc (suc (suc (suc (suc (suc (suc zero))))))) p = refl
    fields (suc (suc (suc (suc (suc (suc (suc (suc k)))))))) p = absurd (omega arith)
