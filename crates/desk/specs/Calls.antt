-- What each call of the desk answers, refusals too, and what it leaves in the lent lists.
use Rattle.std.specs.Prelude.{ℕ, ◌+◌, ◌-◌, List, length, ltb, eqb, ℤ}
use Rattle.std.proofs.lemmas.List.Edits.{sets}
use Rattle.frame_info.specs.Choice.{pick}
use Rattle.frame_info.specs.Frame.{null_frame, count_of, frame_of}
use Rattle.frame_info.specs.Word.{predicted}
use Rattle.frame_info.specs.Refusal.{done, out_of_range, frame_below_zero, no_room_for_bytes, not_settled}
use Rattle.console.specs.Step.{start, step_of}
use Rattle.input_queue.specs.Queue.{place_count, confirms}
use Rattle.sync_layer.specs.Lists.{write_row}
use Rattle.sync_layer.specs.Calls as layer
use Rattle.desk.specs.declared.DeskState.{DeskState}
use Rattle.desk.specs.declared.Report.{Report}
use Rattle.desk.specs.Answer.{Taken, Shown, Logged}
use Rattle.desk.specs.Desk.{Desk, queue_of, known_of, mismatch_of, take_answer, advance_answer, serve, one_frame, settle, advance}
use Rattle.desk.specs.Settled.{is_settled, shown_word, shown_words, shown_state}
use Rattle.desk.specs.Line.{line_of, line_length}

-- the desk's calls with our console's step, and the predictor that it was set up with
abbrev pub frame_on : Desk → Desk
frame_on d = one_frame step_of (predicted d.state.predictor) d

abbrev pub settle_of : Desk → Desk
settle_of d = settle step_of (predicted d.state.predictor) d

abbrev pub advance_of : Desk → Desk
advance_of d = advance step_of (predicted d.state.predictor) d

-- Setup: 1 where the seats, the limit, a delay or the predictor is out of range.
unfoldable pub setup_answer : ℕ → ℕ → List ℕ → ℕ
setup_answer limit p delays = pick (layer.fits limit p delays) done out_of_range

-- Take answers the place, -1 where the word is tossed.
unfoldable pub take_says : Desk → ℕ → ℤ → Taken
take_says d s f =
    pick (eqb (take_answer d s (count_of f)) 0)
    (record { no = done; place = frame_of (place_count (queue_of d s) (count_of f - 1)) })
    (record { no = take_answer d s (count_of f); place = null_frame })

-- Settle reports the lowest mismatch and the count current - lowest; -1 and 0 where no mismatch stood.
abbrev pub report_at : ℕ → ℕ → Report
report_at lowest current = record { frame = frame_of lowest; count = pick (eqb lowest 0) 0 (current - (lowest - 1)) }

abbrev pub report_of : Desk → Report
report_of d = report_at (mismatch_of d) d.state.current

-- Advance answers settle's report, the words served, and whether each was confirmed or predicted.
unfoldable pub advance_report : Desk → Report
advance_report d = pick (eqb (advance_answer d) 0) (report_of d) (report_at 0 0)

abbrev pub served_word : Desk → ℕ → ℕ
served_word d = serve step_of (predicted d.state.predictor) d

abbrev pub status_of : Desk → ℕ → ℕ
status_of d s = layer.status_of (confirms (queue_of d s) d.state.current)

unfoldable pub advance_served : Desk → List ℕ → List ℕ
advance_served d l = pick (eqb (advance_answer d) 0) (write_row d.state.seats l 0 (served_word (settle_of d))) l

unfoldable pub advance_statuses : Desk → List ℕ → List ℕ
advance_statuses d l = pick (eqb (advance_answer d) 0) (write_row d.state.seats l 0 (status_of (settle_of d))) l

-- Show: 7, 21. n is the frame's count.
unfoldable pub show_answer : Desk → ℕ → ℕ
show_answer d n = pick (eqb n 0) frame_below_zero (pick (is_settled d (n - 1)) done not_settled)

unfoldable pub show_says : Desk → ℤ → Shown
show_says d f =
    pick (eqb (show_answer d (count_of f)) 0)
    (record { no = done; console = shown_state step_of d (count_of f - 1) })
    (record { no = show_answer d (count_of f); console = start })

unfoldable pub show_words : Desk → ℤ → List ℕ → List ℕ
show_words d f l =
    pick (eqb (show_answer d (count_of f)) 0) (write_row d.state.seats l 0 (shown_word d (count_of f - 1))) l

-- Log: 7, 21, and 20 where the line does not fit into the lent bytes. Answers how many were written.
unfoldable pub log_answer : Desk → ℕ → ℕ → ℕ
log_answer d n room =
    pick (eqb (show_answer d n) 0) (pick (ltb room (line_length d.state.seats)) no_room_for_bytes done) (show_answer d n)

abbrev pub log_line : Desk → ℕ → List ℕ
log_line d f = line_of f (shown_words d f) (shown_state step_of d f).seal

unfoldable pub log_says : Desk → ℤ → List ℕ → Logged
log_says d f l =
    pick (eqb (log_answer d (count_of f) (length l)) 0)
    (record { no = done; count = line_length d.state.seats })
    (record { no = log_answer d (count_of f) (length l); count = 0 })

unfoldable pub log_bytes : Desk → ℤ → List ℕ → List ℕ
log_bytes d f l = pick (eqb (log_answer d (count_of f) (length l)) 0) (sets l 0 (log_line d (count_of f - 1))) l

-- what a caller may look at: the current frame, and K
abbrev pub current_frame_of : DeskState → ℤ
current_frame_of y = frame_of (y.current + 1)

abbrev pub known_frame : Desk → ℤ
known_frame d = frame_of (known_of d)
