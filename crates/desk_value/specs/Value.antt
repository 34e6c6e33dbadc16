-- The desk as one value, its lists inside: each answer is that of the lent call on its own lists.
use Rattle.std.specs.Prelude.{ℕ, ◌*◌, suc, List, [], ◌∷◌, ℤ, replicate}
use Rattle.frame_info.specs.Frame.{count_of}
use Rattle.frame_info.specs.Word.{blank}
use Rattle.input_queue.specs.Ring.{queue_length}
use Rattle.sync_layer.specs.Seats.{max_seats, seat_words}
use Rattle.sync_layer.specs.Slots.{max_limit, slot_words}
use Rattle.desk.specs.Desk as m
use Rattle.desk.specs.Calls as calls
use Rattle.desk.specs.Whole as bounds
use Rattle.desk.specs.Runs.{Call, take_call, settle_call, advance_call, show_call, log_call}
use Rattle.desk_value.specs.declared.Desk.{Desk}
use Rattle.desk_value.specs.declared.SettledDesk.{SettledDesk}
use Rattle.desk_value.specs.Answer.{OpenedDesk, TakenDesk, AdvancedDesk, ShownDesk}

-- the same desk with its lists lent, and a lent one that keeps its lists
abbrev pub lent : Desk → m.Desk
lent y = m.desk_of y.state y.seats y.words y.slots

abbrev pub own : m.Desk → Desk
own d = record { state = d.state; seats = d.seats; words = d.words; slots = d.slots }

abbrev pub Whole : Desk → Type 0
Whole y = bounds.Whole (lent y)

-- one place for each seat, 0 where there is none
abbrev pub blanks : List ℕ
blanks = replicate max_seats blank

-- setup, on lists of zeros
abbrev pub cleared : ℕ → ℕ → List ℕ → m.Setup
cleared limit p delays =
    m.setup_with limit p delays (replicate (max_seats * seat_words) 0) (replicate (max_seats * queue_length) blank) (replicate (suc max_limit * slot_words) 0)

unfoldable pub opened : ℕ → ℕ → List ℕ → OpenedDesk
opened limit p delays = record { no = calls.setup_answer limit p delays; desk = own (m.setup_of (cleared limit p delays)) }

unfoldable pub taken : Desk → ℕ → ℤ → ℕ → TakenDesk
taken y s f w =
    record {
      no = (calls.take_says (lent y) s f).no;
      place = (calls.take_says (lent y) s f).place;
      desk = own (m.take (lent y) s (count_of f) w);
    }

unfoldable pub settled : Desk → SettledDesk
settled y = record { report = calls.report_of (lent y); desk = own (calls.settle_of (lent y)) }

unfoldable pub advanced : Desk → AdvancedDesk
advanced y =
    record {
      no = m.advance_answer (lent y);
      report = calls.advance_report (lent y);
      served = calls.advance_served (lent y) blanks;
      statuses = calls.advance_statuses (lent y) blanks;
      desk = own (calls.advance_of (lent y));
    }

unfoldable pub shown : Desk → ℤ → ShownDesk
shown y f =
    record {
      no = (calls.show_says (lent y) f).no;
      words = calls.show_words (lent y) f blanks;
      console = (calls.show_says (lent y) f).console;
    }

-- the desk that a call hands back, and after any run of calls
unfoldable pub after : Desk → Call → Desk
after y (take_call s f w) = (taken y s f w).desk
after y settle_call = (settled y).desk
after y advance_call = (advanced y).desk
after y (show_call f) = y
after y (log_call f room) = y

unfoldable pub run : Desk → List Call → Desk
run y [] = y
run y (x ∷ l) = run (after y x) l
