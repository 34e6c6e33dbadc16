-- The marked examples, each computed from the definitions, and the one claim. Assumes nothing.
use mathlib.Core.Path.{refl}
use native.Mathlib.Omega.{arith}
use lib.ListN.{length}
use borrow.Author.Tests.{le-leb}
use Rattle.frame_info.specs.Word.{predicted}
use Rattle.console.specs.Step.{step_of, moved, sealed}
use Rattle.input_queue.specs.Queue.{wrong_after, predicting_after, put, fill, add, place_count, answer, confirms, asked, discard, delayed}
use Rattle.input_queue.specs.Ring.{fill_words, add_words}
use Rattle.input_queue.specs.Calls as queue
use Rattle.input_queue.specs.Runs as queues
use Rattle.sync_layer.specs.Lists.{write_row, lowest_of}
use Rattle.sync_layer.specs.Seats.{seat_at, set_seat, map_seats}
use Rattle.sync_layer.specs.Slots.{save_slot, clear_slots}
use Rattle.sync_layer.specs.Calls as layer
use Rattle.sync_layer.specs.Runs as layers
use Rattle.compression.specs.Layout.{masked, record_of, packed, records_in, records, restored, unpacked_by, unpacked, joined, lengths_of, split, total}
use Rattle.compression.specs.Promise.{left, pack_answer, pack_out, unpack_answer, inputs_of, unpack_out, unpack_lengths}
use Rattle.time_sync.proofs.Marked.{m10_both, m10_remote, m10_local, m11_sum, m11_answer}
use Rattle.digits.specs.Digits.{digit_byte, last_digits, word_text}
use Rattle.sheet.specs.Calls.{bytes_of}
use Rattle.desk.specs.Lists.{least_of, row_of}
use Rattle.desk.specs.Line.{spaced, line_of}
use Rattle.desk.specs.Desk.{setup_state, setup_of, take_answer, taken, take, discard_all, confirm, one_frame, corrected, settle, advance_answer, advance}
use Rattle.desk.specs.Settled.{is_settled}
use Rattle.desk.specs.Calls.{show_answer, show_says, log_answer, log_says, log_bytes}
use Rattle.desk.specs.Runs as desks
use Rattle.marked.specs.Marked.{M1, M2, M3, M4, M5, M6, M7, M8, M9, M10, M11, M12, marked, All}

m1 : M1
unfolding wrong_after predicting_after put fill add answer asked discard fill_words add_words write_row lowest_of seat_at set_seat map_seats save_slot clear_slots layer.fits layer.opened_seats layer.opened_slots least_of row_of setup_state setup_of take_answer taken take discard_all confirm one_frame corrected settle advance_answer advance desks.after desks.run_from desks.run step_of moved sealed is_settled show_answer show_says log_answer log_says log_bytes spaced line_of digit_byte last_digits word_text bytes_of
m1 = record {
  frame-0 = record { says = refl; bytes = refl; head-after = refl };
  frame-1 = record { says = refl; bytes = refl; head-after = refl };
  frame-2 = record { says = refl; bytes = refl; head-after = refl };
}

m2 : M2
unfolding queue.opened queue.add_refusal queue.add_input queue.input_words queue.input_refusal queue.served queue.found_refusal queue.found queues.opening queues.after queues.run wrong_after predicting_after put fill add place_count answer confirms fill_words add_words
m2 = record {
  place = record { accepted = refl; answered = refl };
  frame-0 = record { found = refl; request = refl; confirmed = refl };
  frame-1 = record { found = refl; request = refl; confirmed = refl };
  frame-2 = record { found = refl; request = refl; confirmed = refl };
}

m3 : M3
unfolding queue.opened queue.add_refusal queue.add_input queue.input_words queue.input_refusal queue.served queues.opening queues.after queues.run wrong_after predicting_after put fill add place_count answer confirms asked fill_words add_words predicted
m3 = record {
  placed = record { accepted = refl; answered = refl };
  accepted = refl;
  guess = refl;
  predicted = refl;
  same_placed = record { accepted = refl; answered = refl };
  same = refl;
  other_placed = record { accepted = refl; answered = refl };
  other = refl;
}

m4 : M4
unfolding queue.opened queue.add_refusal queue.add_input queue.input_words queue.delayed_to queues.opening queues.after queues.run delayed put fill add place_count add_words
m4 = record {
  input-0 = record { accepted = refl; answered = refl };
  changed = refl;
  input-1 = record { nowhere = record { accepted = refl; answered = refl }; unwritten = refl };
  input-2 = record { nowhere = record { accepted = refl; answered = refl }; unwritten = refl };
  input-3 = record { accepted = refl; answered = refl };
}

m5 : M5
unfolding queue.opened queue.add_refusal queue.add_input queue.input_words queues.opening queues.after queues.run put fill add
m5 w = record { stored = refl; kept = refl; refused = refl; unwritten = refl }

m6 : M6
unfolding layer.fits layer.opened layer.opened_slots layer.advanced layer.load_refusal layer.loaded layer.saved_refusal layer.saved_by layers.opening layers.after layers.run write_row save_slot clear_slots
m6 = record { current = refl; saved = (refl, refl, refl); load-1 = refl; load-2 = refl; load-0 = refl; load-3 = refl; load_none = refl }

m7 : M7
unfolding masked record_of packed joined lengths_of split total left pack_answer pack_out
m7 = record { says = refl; bytes = refl }

m8 : M8
unfolding masked record_of packed joined lengths_of split total left pack_answer pack_out
m8 = record { says = refl; bytes = refl }

m9 : M9
unfolding records_in records restored unpacked_by unpacked joined lengths_of left unpack_answer inputs_of unpack_out unpack_lengths
m9 reference out lengths =
    let places = le-leb 0 (length lengths) (omega arith) in
    let room = le-leb 0 (length out) (omega arith) in
    record {
      half = record { says = refl; no_bytes = refl; no_lengths = refl };
      short = record { says = refl; no_bytes = refl; no_lengths = refl };
      none = record { says = rw (places, room); no_bytes = rw (places, room); no_lengths = rw (places, room) };
    }

m10 : M10
m10 = record { both = m10_both; divided = refl; remote_alone = m10_remote; local_alone = m10_local }

m11 : M11
m11 = record { sum = m11_sum; answer = m11_answer }

m12 : M12
unfolding asked write_row lowest_of seat_at set_seat map_seats layer.fits layer.opened_seats least_of setup_state setup_of confirm one_frame corrected settle advance_answer advance desks.after desks.run_from desks.run
m12 = record { first = refl; second = refl; third = refl; unchanged = refl }

-- All twelve hold.
pub our_marked : All marked
our_marked = (m1, (m2, (m3, (m4, (m5, (m6, (m7, (m8, (m9, (m10, (m11, (m12, tt))))))))))))
