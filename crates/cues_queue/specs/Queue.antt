-- The queue in force: what a call on it leaves, and what is printed. The fields' values are in a, one each.
use Rattle.std.specs.Prelude.{ℕ, List, [], eqb}
use Rattle.frame_info.specs.Choice.{pick}
use Rattle.frame_info.specs.Word.{player_input}
use Rattle.frame_info.specs.declared.PlayerInput.{PlayerInput}
use Rattle.input_queue.specs.Calls as calls
use Rattle.input_queue_value.specs.declared.InputQueue.{InputQueue}
use Rattle.input_queue_value.specs.Answer.{AddedQueue, ServedQueue, AnnouncedQueue}
use Rattle.input_queue_value.specs.Value as held
use Rattle.cues_text.specs.Args.{number_arg, frame_arg}
use Rattle.cues_text.specs.Text.{answer_text, frame_value, word_value, served_value, fills_value}

-- the input of q.add
abbrev pub input_arg : List ℕ → PlayerInput
input_arg a = player_input (frame_arg a 0) (number_arg a 1)

-- an answer's text
abbrev pub add_text : AddedQueue → List ℕ
add_text r = answer_text r.no (frame_value r.place)

abbrev pub serve_text : ServedQueue → List ℕ
serve_text r = answer_text r.no (served_value r.word r.confirmed)

abbrev pub delay_text : AnnouncedQueue → List ℕ
delay_text r = answer_text r.no (fills_value r.first r.count r.word)

module _ (a : List ℕ) where
  -- queue PREDICTOR DELAY
  abbrev pub opened : InputQueue
  opened = (held.opened (number_arg a 0) (number_arg a 1)).queue

  abbrev pub opened_text : List ℕ
  opened_text = answer_text (held.opened (number_arg a 0) (number_arg a 1)).no []

  module _ (q : InputQueue) where
    -- q.add FRAME WORD
    abbrev pub added : InputQueue
    added = (held.add_input q (input_arg a)).queue

    abbrev pub added_text : List ℕ
    added_text = add_text (held.add_input q (input_arg a))

    -- q.request FRAME
    abbrev pub requested : InputQueue
    requested = (held.served q (frame_arg a 0)).queue

    abbrev pub requested_text : List ℕ
    requested_text = serve_text (held.served q (frame_arg a 0))

    -- q.confirmed FRAME
    abbrev pub confirmed_text : List ℕ
    confirmed_text = answer_text (calls.found q.inputs 0 q.state (frame_arg a 0)).no (word_value (calls.found q.inputs 0 q.state (frame_arg a 0)).input.input)

    -- q.discard FRAME
    abbrev pub discarded : InputQueue
    discarded = (held.discarded q (frame_arg a 0)).queue

    abbrev pub discarded_text : List ℕ
    discarded_text = answer_text (held.discarded q (frame_arg a 0)).no []

    -- q.delay DELAY
    abbrev pub delayed : InputQueue
    delayed = (held.delayed_to q (number_arg a 0)).queue

    abbrev pub delayed_text : List ℕ
    delayed_text = delay_text (held.delayed_to q (number_arg a 0))

-- q.reset
abbrev pub cleared : InputQueue → InputQueue
cleared q = held.reset q

abbrev pub cleared_text : List ℕ
cleared_text = answer_text 0 []

-- q.wrong
abbrev pub wrong_text : InputQueue → List ℕ
wrong_text q = answer_text 0 (frame_value (calls.first_incorrect q.state))

-- Any call of the queue, by its number within the part.
unfoldable pub queue_after : ℕ → List ℕ → InputQueue → InputQueue
queue_after call a q =
    pick (eqb call 0) (opened a)
    (pick (eqb call 1) (added a q)
    (pick (eqb call 2) (requested a q)
    (pick (eqb call 3) q
    (pick (eqb call 4) (discarded a q)
    (pick (eqb call 5) (cleared q)
    (pick (eqb call 6) (delayed a q)
    q))))))

unfoldable pub text_after : ℕ → List ℕ → InputQueue → List ℕ
text_after call a q =
    pick (eqb call 0) (opened_text a)
    (pick (eqb call 1) (added_text a q)
    (pick (eqb call 2) (requested_text a q)
    (pick (eqb call 3) (confirmed_text a q)
    (pick (eqb call 4) (discarded_text a q)
    (pick (eqb call 5) cleared_text
    (pick (eqb call 6) (delayed_text a q)
    (wrong_text q)))))))
