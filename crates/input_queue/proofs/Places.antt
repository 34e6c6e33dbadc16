-- After any run of calls the ring holds exactly the newest 128 places. Assumes nothing.
use Prim.Native.Nat.{ℕ, zero, suc, ◌+◌, ◌-◌, ◌<◌, ◌≤◌}
use native.Mathlib.Omega.{arith}
use mathlib.Core.Path.{◌≡◌, refl, ap, ◌∙◌}
use mathlib.Core.Logic.{◌≢◌, ◌⊎◌, ⊎_elim}
use Prim.{absurd}
use mathlib.Core.List.{List, [], ◌∷◌, ◌++◌, append_assoc, append-nil}
use lib.ListN.{length, get_or, set, replicate, length-set, length-append, length-replicate, get_or-append}
use lib.Seq.{get_or-set_same, get_or-set_other, get_or-append_seam}
use lib.IntN.{ℤ, pos}
use Rattle.frame_info.proofs.Split.{split_eqb, split_ltb}
use Rattle.frame_info.specs.Frame.{count_of}
use Rattle.frame_info.specs.Word.{player_input}
use Rattle.frame_info.specs.declared.PlayerInput.{PlayerInput}
use Rattle.input_queue.specs.declared.QueueState.{QueueState}
use Rattle.input_queue.specs.Queue.{newest, add, asked, reset, discard, delayed}
use Rattle.input_queue.specs.Ring.{spot, word_at, put_word, fill_words, add_words}
use Rattle.input_queue.specs.Calls as calls
use Rattle.input_queue.specs.Whole.{Whole}
use Rattle.input_queue.specs.Runs as runs
use Rattle.input_queue.specs.Runs.{Queue, Call, Holds, placed, placed_by, add_call, input_call, discard_call, reset_call, delay_call}
use Rattle.std.proofs.Common.{add-one, sym}
use Rattle.std.proofs.lemmas.Bool.Decides.{nat_tests}
use Rattle.std.proofs.lemmas.List.{replicate-append-replicate}
use Rattle.input_queue.proofs.Fills.{put_added, fill_added}
use Rattle.input_queue.proofs.Kept.{opened_sane, after_whole}

-- the words alone: the newest 128 of h stand at their spots
record Stands (l : List ℕ) (base : ℕ) (h : List ℕ) : Type 0 where
  room : base + 128 ≤ length l
  at : (f : ℕ) → f < length h → length h ≤ f + 128 → word_at l base f ≡ get_or h f 0

-- two places less than 128 apart do not share a spot
spots_differ : (base f n : ℕ) → f < n → n < f + 128 → spot base f ≢ spot base n
spots_differ base f n p q e = omega arith

-- a word at the next place
stands_put : (l : List ℕ) (base : ℕ) (h : List ℕ) (w : ℕ) → Stands l base h → Stands (put_word l base (length h) w) base (h ++ (w ∷ []))
stands_put l base h w k =
    record { room = simp length-set k.room; at = λ f p q. last f (rw length-append at p) (rw length-append at q) }
  where
    last : (f : ℕ) → f < length h + 1 → length h + 1 ≤ f + 128 → get_or (set l (spot base (length h)) w) (spot base f) 0 ≡ get_or (h ++ (w ∷ [])) f 0
    last f p q =
        ⊎_elim
        (λ e. rw (e.0, get_or-append_seam) (get_or-set_same l (spot base (length h)) w 0 (omega (arith, k.room))))
        (λ e.
        let lt : f < length h = omega (arith, e.0) in
        rw (get_or-set_other l (spot base (length h)) (spot base f) w 0 (spots_differ base f (length h) lt (omega arith)), get_or-append)
        (k.at f lt (omega arith)))
        (split_eqb f (length h))

-- copies from the next place on
stands_fill : (n : ℕ) (l : List ℕ) (base : ℕ) (h : List ℕ) (w : ℕ) → Stands l base h → Stands (fill_words n l base (length h) w) base (h ++ replicate n w)
unfolding fill_words
stands_fill zero l base h w k = rw append-nil k
stands_fill (suc n) l base h w k =
    let e : length (h ++ replicate n w) ≡ length h + n = simp (length-append, length-replicate) in
    let r : replicate (suc n) w ≡ replicate n w ++ (w ∷ []) = ap (λ (k : ℕ). replicate k w) (sym (add-one n)) ∙ sym (replicate-append-replicate n 1 w) in
    let g : h ++ replicate (suc n) w ≡ (h ++ replicate n w) ++ (w ∷ []) = rw (r, append_assoc) in
    rw g (rw e at (stands_put (fill_words n l base (length h) w) base (h ++ replicate n w) w (stands_fill n l base h w k)))

-- the newest word, in the ring and in the list
newest_same : (l : List ℕ) (base : ℕ) (h : List ℕ) → Stands l base h → newest (word_at l base) (length h) ≡ newest (λ f. get_or h f 0) (length h)
newest_same l base h k = grind (arith, nat_tests, k.at (length h - 1))

-- an input that is stored: its fills, and then its word
stands_stored : (l : List ℕ) (base : ℕ) (h : List ℕ) (k n w : ℕ) → length h ≤ k → Stands l base h
    → Stands (put_word (fill_words (k - length h) l base (length h) n) base k w) base (h ++ replicate (k - length h) n ++ (w ∷ []))
stands_stored l base h k n w p s =
    let e : length (h ++ replicate (k - length h) n) ≡ k = simp (length-append, length-replicate) (omega arith) in
    let t = stands_put (fill_words (k - length h) l base (length h) n) base (h ++ replicate (k - length h) n) w (stands_fill (k - length h) l base h n s) in
    rw e at t

stored_long : (h : List ℕ) (k n w : ℕ) → length h ≤ k → length (h ++ replicate (k - length h) n ++ (w ∷ [])) ≡ k + 1
stored_long h k n w p = simp (length-append, length-replicate) (omega arith)

module _ (l : List ℕ) (base : ℕ) (h : List ℕ) (s : QueueState) (f w : ℕ) (c : s.last_added_count ≡ length h) where
  stands_add : Stands l base h → Stands (add_words l base s f w) base (placed h (f + s.frame_delay) w)
  unfolding add_words placed
  stands_add k =
      ⊎_elim
      (λ a. rw c (simp a.1 k))
      (λ a. rw c (simp a.1
      (rw (newest_same l base h k) (stands_stored l base h (f + s.frame_delay) (newest (λ g. get_or h g 0) (length h)) w a.0 k))))
      (split_ltb (f + s.frame_delay) (length h))

  count_add : (at : ℕ → ℕ) → (add at s f w).last_added_count ≡ length (placed h (f + s.frame_delay) w)
  unfolding add placed
  count_add at = grind (arith, nat_tests, c, fill_added, put_added, stored_long)

-- the other calls store nothing
served_added : (l : List ℕ) (base : ℕ) (s : QueueState) (p : ℕ) (f : ℤ) → (calls.served l base s p f).state.last_added_count ≡ s.last_added_count
unfolding calls.served asked
served_added l base s p f = grind (arith, nat_tests)

discarded_added : (s : QueueState) (f : ℤ) → (calls.discarded s f).state.last_added_count ≡ s.last_added_count
unfolding calls.discarded discard
discarded_added s f = grind (arith, nat_tests)

reset_added : (s : QueueState) → (reset s).last_added_count ≡ s.last_added_count
unfolding reset
reset_added s = refl

delayed_added : (l : List ℕ) (base : ℕ) (s : QueueState) (d : ℕ) → (calls.delayed_to l base s d).state.last_added_count ≡ s.last_added_count
unfolding calls.delayed_to delayed
delayed_added l base s d = grind (arith, nat_tests)

still_holds : (base : ℕ) (q : Queue) (h : List ℕ) (s : QueueState) → s.last_added_count ≡ q.state.last_added_count → Holds base q h → Holds base (record { state = s; words = q.words }) h
still_holds base q h s e b = record { count = e ∙ b.count; newest_held = b.newest_held }

-- an input
add_holds : (base : ℕ) (q : Queue) (h : List ℕ) (i : PlayerInput) → Whole q.words base q.state → Holds base q h
    → Holds base (record { state = (calls.add_input q.words base q.state i).state; words = calls.input_words q.words base q.state i }) (placed_by q h (add_call i))
unfolding placed_by calls.add_input calls.input_words
add_holds base q h i a b =
    ⊎_elim
    (λ z. simp z.1 (record { count = count_add q.words base h q.state g i.input b.count (word_at q.words base); newest_held = stands.at }))
    (λ z. simp z.1 (record { count = b.count; newest_held = b.newest_held }))
    (split_eqb (calls.add_refusal q.state (count_of i.frame)) 0)
  where
    g : ℕ
    g = count_of i.frame - 1

    stands : Stands (add_words q.words base q.state g i.input) base (placed h (g + q.state.frame_delay) i.input)
    stands = stands_add q.words base h q.state g i.input b.count (record { room = a.room; at = b.newest_held })

opened_added : (p d : ℕ) → (calls.opened p d).state.last_added_count ≡ 0
unfolding calls.opened
opened_added p d = grind (arith, nat_tests)

-- So after every call, and after any run of them.
module _ (base p : ℕ) where
  pub after_holds : (q : Queue) (h : List ℕ) (x : Call) → Whole q.words base q.state → Holds base q h → Holds base (runs.after base p q x) (placed_by q h x)
  unfolding runs.after placed_by
  after_holds q h (add_call i) a b = add_holds base q h i a b
  after_holds q h (input_call f) a b =
      still_holds base q h (calls.served q.words base q.state p f).state (served_added q.words base q.state p f) b
  after_holds q h (discard_call f) a b =
      still_holds base q h (calls.discarded q.state f).state (discarded_added q.state f) b
  after_holds q h reset_call a b = still_holds base q h (reset q.state) (reset_added q.state) b
  after_holds q h (delay_call d) a b =
      still_holds base q h (calls.delayed_to q.words base q.state d).state (delayed_added q.words base q.state d) b

  pub run_holds : (q : Queue) (h : List ℕ) (l : List Call) → Whole q.words base q.state → Holds base q h → Holds base (runs.run base p q l) (runs.stored base p q h l)
  unfolding runs.run runs.stored
  run_holds q h [] a b = b
  run_holds q h (x ∷ l) a b =
      run_holds (runs.after base p q x) (placed_by q h x) l (after_whole base p q x a) (after_holds q h x a b)

  -- THE CLAIM: from a setup, with any words lent, any run of calls leaves the newest 128 of the places that it stored in the ring.
  pub ring_holds : (d : ℕ) (words : List ℕ) (l : List Call) → base + 128 ≤ length words
      → Holds base (runs.run base p (runs.opening p d words) l) (runs.stored base p (runs.opening p d words) [] l)
  unfolding runs.opening
  ring_holds d words l room =
      run_holds
      (record { state = (calls.opened p d).state; words = words })
      []
      l
      (record { room = room; numbers = opened_sane p d })
      (record { count = opened_added p d; newest_held = λ f k m. absurd (omega arith) })

-- And no others: a lookup finds just these.
module _ (base : ℕ) (q : Queue) (h : List ℕ) (b : Holds base q h) (f : ℕ) where
  pub lookup_held : f < length h → length h ≤ f + 128 → calls.found q.words base q.state (pos f) ≡ record { no = 0; input = player_input (pos f) (get_or h f 0) }
  unfolding calls.found calls.found_refusal
  lookup_held p k = grind (arith, nat_tests, b.count, b.newest_held f p k)

  pub lookup_gone : (length h ≤ f) ⊎ (f + 128 < length h) → (calls.found q.words base q.state (pos f)).no ≡ 11
  unfolding calls.found calls.found_refusal
  lookup_gone g = grind (arith, nat_tests)
