-- A queue after any run of calls, and the places that the run stored.
use Rattle.std.specs.Prelude.{ℕ, ◌+◌, ◌-◌, ◌≤◌, ◌<◌, ◌≡◌, List, [], ◌∷◌, ◌++◌, length, get_or, replicate, ltb, eqb, ℤ}
use Rattle.frame_info.specs.Choice.{pick}
use Rattle.frame_info.specs.Frame.{count_of}
use Rattle.frame_info.specs.Word.{blank}
use Rattle.frame_info.specs.declared.PlayerInput.{PlayerInput}
use Rattle.input_queue.specs.declared.QueueState.{QueueState}
use Rattle.input_queue.specs.Queue.{newest, reset}
use Rattle.input_queue.specs.Ring.{queue_length, word_at}
use Rattle.input_queue.specs.Calls.{opened, add_refusal, add_input, input_words, served, discarded, delayed_to}

-- a queue's numbers, and the lent words that hold its ring
pub record Queue : Type 0 where
  pub state : QueueState
  pub words : List ℕ

-- the calls that hand back a queue; a confirmed lookup and a look at the first mismatch do not
pub data Call : Type 0 where
  add_call : PlayerInput → Call
  input_call : ℤ → Call
  discard_call : ℤ → Call
  reset_call : Call
  delay_call : ℕ → Call

-- What is stored, as the list of the words of places 0, 1, ..: a word at place k is tossed below the next place; above it, the gap is
-- filled with the newest word, blank if there is none.
unfoldable pub placed : List ℕ → ℕ → ℕ → List ℕ
placed h k w =
    pick (ltb k (length h)) h (h ++ replicate (k - length h) (newest (λ f. get_or h f blank) (length h)) ++ (w ∷ []))

-- what one call stores: an accepted input at its frame + the delay in force, and nothing else
unfoldable pub placed_by : Queue → List ℕ → Call → List ℕ
placed_by q h (add_call i) =
    pick (eqb (add_refusal q.state (count_of i.frame)) 0)
    (placed h (count_of i.frame - 1 + q.state.frame_delay) i.input)
    h
placed_by q h (input_call f) = h
placed_by q h (discard_call f) = h
placed_by q h reset_call = h
placed_by q h (delay_call d) = h

-- with the ring from base on, and predictor p
module _ (base p : ℕ) where
  unfoldable pub after : Queue → Call → Queue
  after q (add_call i) =
      record { state = (add_input q.words base q.state i).state; words = input_words q.words base q.state i }
  after q (input_call f) = record { state = (served q.words base q.state p f).state; words = q.words }
  after q (discard_call f) = record { state = (discarded q.state f).state; words = q.words }
  after q reset_call = record { state = reset q.state; words = q.words }
  after q (delay_call d) = record { state = (delayed_to q.words base q.state d).state; words = q.words }

  unfoldable pub run : Queue → List Call → Queue
  run q [] = q
  run q (x ∷ l) = run (after q x) l

  unfoldable pub stored : Queue → List ℕ → List Call → List ℕ
  stored q h [] = h
  stored q h (x ∷ l) = stored (after q x) (placed_by q h x) l

-- a queue as a setup hands it out, on words that need not be cleared
unfoldable pub opening : ℕ → ℕ → List ℕ → Queue
opening p d words = record { state = (opened p d).state; words = words }

-- The ring holds the newest 128 of the places h, each at its slot, and the queue counts them all.
pub record Holds (base : ℕ) (q : Queue) (h : List ℕ) : Type 0 where
  pub count : q.state.last_added_count ≡ length h
  pub newest_held : (f : ℕ) → f < length h → length h ≤ f + queue_length → word_at q.words base f ≡ get_or h f blank
