-- Storing a word, and the loop that fills a gap. Assumes nothing.
use Rattle.std.proofs.Common.{ℕ, zero, suc, ◌+◌, ◌≤◌, ◌≡◌, List, refl, arith, add-one}
use Rattle.std.proofs.lemmas.Bool.Decides.{nat_tests}
use Rattle.input_queue.specs.declared.QueueState.{QueueState}
use Rattle.input_queue.specs.Queue.{wrong_after, predicting_after, put, fill}
use Rattle.input_queue.specs.Ring.{put_word, fill_words}

-- storing a word takes a prediction at most one place on
predicting_le : (s : QueueState) (wrong : ℕ) → predicting_after s wrong ≤ s.prediction_count + 1
unfolding predicting_after
predicting_le s wrong = grind (arith, nat_tests)

pub put_ahead : (s : QueueState) (w : ℕ) → s.prediction_count ≤ s.last_added_count + 1 → (put s w).prediction_count ≤ (put s w).last_added_count + 1
unfolding put
put_ahead s w h = omega (arith, predicting_le s (wrong_after s w))

pub put_added : (s : QueueState) (w : ℕ) → (put s w).last_added_count ≡ s.last_added_count + 1
unfolding put
put_added s w = refl

pub fill_added : (n : ℕ) (s : QueueState) (w : ℕ) → (fill n s w).last_added_count ≡ s.last_added_count + n
unfolding fill
fill_added zero s w = omega arith
fill_added (suc n) s w = omega (arith, put_added (fill n s w) w, fill_added n s w)

pub fill_ahead : (n : ℕ) (s : QueueState) (w : ℕ) → s.prediction_count ≤ s.last_added_count + 1 → (fill n s w).prediction_count ≤ (fill n s w).last_added_count + 1
unfolding fill
fill_ahead zero s w h = h
fill_ahead (suc n) s w h = put_ahead (fill n s w) w (fill_ahead n s w h)

-- one copy more
pub fill_more : (k n : ℕ) (s : QueueState) (w : ℕ) → k ≡ n + 1 → fill k s w ≡ put (fill n s w) w
unfolding fill
fill_more k n s w e = rw (e, add-one)

pub words_more : (k n : ℕ) (l : List ℕ) (base m w : ℕ) → k ≡ n + 1 → fill_words k l base m w ≡ put_word (fill_words n l base m w) base (m + n) w
unfolding fill_words
words_more k n l base m w e = rw (e, add-one)

pub ruleset fills = (put_added, put_ahead, fill_more, words_more)

-- what the word after the fills presumes
pub ruleset filled = (fill_added, fill_ahead)
