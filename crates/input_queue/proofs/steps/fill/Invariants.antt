use Rattle.std.proofs.Common.{◌≡◌, ◌+◌, ◌-◌, ◌≤◌}
use Rattle.input_queue.specs.Queue as queue
use Rattle.input_queue.specs.Ring.{fill_words}
use Rattle.input_queue.proofs.steps.fill.Given as goal

abbrev pub invariant-loop : goal.invariant-loop
invariant-loop l =
    record {
      state : l.q ≡ queue.fill (l.counter - l.fn.s.last_added_count) l.fn.s l.word;
      words : l.words ≡ fill_words (l.counter - l.fn.s.last_added_count) l.fn.words l.base l.fn.s.last_added_count l.word;
      added : l.q.last_added_count ≡ l.counter;
      ahead : l.q.prediction_count ≤ l.counter + 1;
    }
