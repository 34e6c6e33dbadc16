-- The queue as one value, its ring inside: each answer is that of the lent call on its own ring, from 0 on.
use Rattle.std.specs.Prelude.{ℕ, ℤ, replicate}
use Rattle.frame_info.specs.Word.{blank}
use Rattle.frame_info.specs.declared.PlayerInput.{PlayerInput}
use Rattle.input_queue.specs.declared.QueueState.{QueueState}
use Rattle.input_queue_value.specs.declared.InputQueue.{InputQueue}
use Rattle.input_queue_value.specs.Answer.{OpenedQueue, AddedQueue, ServedQueue, DiscardedQueue, AnnouncedQueue}
use Rattle.input_queue.specs.Queue as queue
use Rattle.input_queue.specs.Ring.{queue_length}
use Rattle.input_queue.specs.Calls as calls
use Rattle.input_queue.specs.Whole as bounds

abbrev pub Whole : InputQueue → Type 0
Whole q = bounds.Whole q.inputs 0 q.state

-- the queue with other numbers
abbrev pub with_state : InputQueue → QueueState → InputQueue
with_state q s = record { predictor = q.predictor; state = s; inputs = q.inputs }

unfoldable pub opened : ℕ → ℕ → OpenedQueue
opened p d =
    record {
      no = (calls.opened p d).no;
      queue = record { predictor = (calls.opened p d).predictor; state = (calls.opened p d).state; inputs = replicate queue_length blank };
    }

unfoldable pub add_input : InputQueue → PlayerInput → AddedQueue
add_input q i =
    record {
      no = (calls.add_input q.inputs 0 q.state i).no;
      place = (calls.add_input q.inputs 0 q.state i).place;
      queue = record {
        predictor = q.predictor;
        state = (calls.add_input q.inputs 0 q.state i).state;
        inputs = calls.input_words q.inputs 0 q.state i;
      };
    }

unfoldable pub served : InputQueue → ℤ → ServedQueue
served q f =
    record {
      no = (calls.served q.inputs 0 q.state q.predictor f).no;
      word = (calls.served q.inputs 0 q.state q.predictor f).word;
      confirmed = (calls.served q.inputs 0 q.state q.predictor f).confirmed;
      queue = with_state q (calls.served q.inputs 0 q.state q.predictor f).state;
    }

unfoldable pub discarded : InputQueue → ℤ → DiscardedQueue
discarded q f = record { no = (calls.discarded q.state f).no; queue = with_state q (calls.discarded q.state f).state }

abbrev pub reset : InputQueue → InputQueue
reset q = with_state q (queue.reset q.state)

unfoldable pub delayed_to : InputQueue → ℕ → AnnouncedQueue
delayed_to q d =
    record {
      no = (calls.delayed_to q.inputs 0 q.state d).no;
      first = (calls.delayed_to q.inputs 0 q.state d).first;
      count = (calls.delayed_to q.inputs 0 q.state d).count;
      word = (calls.delayed_to q.inputs 0 q.state d).word;
      queue = with_state q (calls.delayed_to q.inputs 0 q.state d).state;
    }
