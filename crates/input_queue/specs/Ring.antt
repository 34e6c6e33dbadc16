-- The words of one seat, in a lent list from base on: 128 places, frame f at f mod 128.
use Rattle.std.specs.Prelude.{ℕ, zero, suc, ◌+◌, ◌-◌, ◌%◌, List, get_or, set}
use Rattle.frame_info.specs.Choice.{pick}
use Rattle.frame_info.specs.Word.{blank}
use Rattle.input_queue.specs.declared.QueueState.{QueueState}
use Rattle.input_queue.specs.Queue.{newest, tossed}

abbrev pub queue_length : ℕ
queue_length = 128

abbrev pub spot : ℕ → ℕ → ℕ
spot base f = base + f % queue_length

abbrev pub word_at : List ℕ → ℕ → ℕ → ℕ
word_at l base f = get_or l (spot base f) blank

abbrev pub put_word : List ℕ → ℕ → ℕ → ℕ → List ℕ
put_word l base f w = set l (spot base f) w

-- k copies of a word, from place n on
unfoldable pub fill_words : ℕ → List ℕ → ℕ → ℕ → ℕ → List ℕ
fill_words zero l base n w = l
fill_words (suc k) l base n w = put_word (fill_words k l base n w) base (n + k) w

-- the words after an input: the fills, and then the word at its place; a tossed one writes nothing
unfoldable pub add_words : List ℕ → ℕ → QueueState → ℕ → ℕ → List ℕ
add_words l base s f w =
    pick (tossed s f)
    l
    (put_word
    (fill_words (f + s.frame_delay - s.last_added_count) l base s.last_added_count (newest (word_at l base) s.last_added_count))
    base
    (f + s.frame_delay)
    w)
