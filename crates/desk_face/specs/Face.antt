-- What each call in C leaves of the lists that it is lent, and the number that it answers.
use Rattle.std.specs.Prelude.{ℕ, suc, ◌*◌, Bool, true, false, List, length, ltb, eqb, ℤ}
use Rattle.frame_info.specs.Choice.{pick}
use Rattle.frame_info.specs.Frame.{count_of}
use Rattle.frame_info.specs.Refusal.{done, no_room_for_bytes}
use Rattle.input_queue.specs.Ring.{queue_length}
use Rattle.sync_layer.specs.Seats.{max_seats, seat_words}
use Rattle.sync_layer.specs.Slots.{max_limit, slot_words}
use Rattle.desk.specs.Desk.{Desk, desk_of, setup_with, setup_of, take, advance_answer}
use Rattle.desk.specs.Calls as calls
use Rattle.desk_face.specs.Lists.{state_words, desk_at, set_desk, set_one, set_report, set_console}

-- the lists that a call is lent; one that it is not lent stands as []. `row` has the words served or shown, or the bytes of a line.
pub record Lent : Type 0 where
  pub state : List ℕ
  pub seats : List ℕ
  pub words : List ℕ
  pub slots : List ℕ
  pub row : List ℕ
  pub statuses : List ℕ
  pub said : List ℕ

abbrev pub lent : List ℕ → List ℕ → List ℕ → List ℕ → List ℕ → List ℕ → List ℕ → Lent
lent state seats words slots row statuses said =
    record { state = state; seats = seats; words = words; slots = slots; row = row; statuses = statuses; said = said }

-- the desk that they hold
abbrev pub desk_in : Lent → Desk
desk_in l = desk_of (desk_at l.state) l.seats l.words l.slots

-- what a call answers, and leaves of the lists
pub record Left : Type 0 where
  pub no : ℕ
  pub lists : Lent

abbrev pub left : ℕ → Lent → Left
left n l = record { no = n; lists = l }

-- Long enough: a list of k numbers where n are needed, and the lists before it too.
abbrev pub room_for : ℕ → ℕ → Bool → Bool
room_for n k before = pick (ltb k n) false before

-- how many numbers the seats' queues, their words and the slots have
abbrev pub seats_length : ℕ
seats_length = max_seats * seat_words

abbrev pub words_length : ℕ
words_length = max_seats * queue_length

abbrev pub slots_length : ℕ
slots_length = suc max_limit * slot_words

abbrev pub desk_room : ℕ → ℕ → Bool
desk_room state seats = room_for seats_length seats (room_for state_words state true)

-- which lists each call tests, by their lengths; `looks` for those that only look and say so many numbers
unfoldable pub setup_room : ℕ → ℕ → ℕ → Bool
setup_room state seats slots = room_for slots_length slots (desk_room state seats)

unfoldable pub take_room : ℕ → ℕ → ℕ → ℕ → Bool
take_room state seats words said = room_for 1 said (room_for words_length words (desk_room state seats))

unfoldable pub settle_room : ℕ → ℕ → ℕ → ℕ → ℕ → Bool
settle_room state seats words slots said =
    room_for 2 said (room_for slots_length slots (room_for words_length words (desk_room state seats)))

unfoldable pub look_room : ℕ → ℕ → ℕ → ℕ → ℕ → Bool
look_room says state seats slots said = room_for says said (room_for slots_length slots (desk_room state seats))

unfoldable pub known_room : ℕ → ℕ → ℕ → Bool
known_room state seats said = room_for 1 said (desk_room state seats)

-- one place for each of n seats
unfoldable pub room_of_row : ℕ → ℕ → Bool
room_of_row n row = room_for n row true

unfoldable pub rows_room : ℕ → ℕ → ℕ → Bool
rows_room n row statuses = room_for n statuses (room_of_row n row)

-- Where the lists are long enough, a call answers the desk's number, and writes where that is 0. Else it answers 20.
unfoldable pub does : ℕ → Lent → Lent → Left
does n new old = left n (pick (eqb n 0) new old)

abbrev pub leaves : Bool → Lent → Left → Left
leaves room old new = pick room new (left no_room_for_bytes old)

-- the lists with other ones in the places that a call writes
abbrev pub with_desk : Lent → Desk → Lent
with_desk l d =
    record {
      state = set_desk l.state d.state;
      seats = d.seats;
      words = d.words;
      slots = d.slots;
      row = l.row;
      statuses = l.statuses;
      said = l.said;
    }

abbrev pub with_said : Lent → List ℕ → Lent
with_said l said =
    record {
      state = l.state;
      seats = l.seats;
      words = l.words;
      slots = l.slots;
      row = l.row;
      statuses = l.statuses;
      said = said;
    }

abbrev pub with_rows : Lent → List ℕ → List ℕ → Lent
with_rows l row statuses =
    record {
      state = l.state;
      seats = l.seats;
      words = l.words;
      slots = l.slots;
      row = row;
      statuses = statuses;
      said = l.said;
    }

abbrev pub with_queues : Lent → Desk → Lent
with_queues l d =
    record {
      state = l.state;
      seats = d.seats;
      words = d.words;
      slots = l.slots;
      row = l.row;
      statuses = l.statuses;
      said = l.said;
    }

-- Setup, the one call that writes though it refuses: a fresh desk of one seat.
abbrev pub setup_fits : Lent → Bool
setup_fits l = setup_room (length l.state) (length l.seats) (length l.slots)

unfoldable pub setup_on : ℕ → ℕ → List ℕ → Lent → Left
setup_on limit p delays l =
    left (calls.setup_answer limit p delays) (with_desk l (setup_of (setup_with limit p delays l.seats l.words l.slots)))

abbrev pub setup_leaves : ℕ → ℕ → List ℕ → Lent → Left
setup_leaves limit p delays l = leaves (setup_fits l) l (setup_on limit p delays l)

-- Take: `said` has the place.
abbrev pub take_fits : Lent → Bool
take_fits l = take_room (length l.state) (length l.seats) (length l.words) (length l.said)

unfoldable pub take_on : Desk → ℕ → ℤ → ℕ → Lent → Left
take_on d s f w l =
    does (calls.take_says d s f).no
    (with_said (with_queues l (take d s (count_of f) w)) (set_one l.said (count_of (calls.take_says d s f).place)))
    l

abbrev pub take_leaves : ℕ → ℤ → ℕ → Lent → Left
take_leaves s f w l = leaves (take_fits l) l (take_on (desk_in l) s f w l)

-- Settle: `said` has the report.
abbrev pub settle_fits : Lent → Bool
settle_fits l = settle_room (length l.state) (length l.seats) (length l.words) (length l.slots) (length l.said)

unfoldable pub settle_on : Desk → Lent → Left
settle_on d l = left done (with_said (with_desk l (calls.settle_of d)) (set_report l.said (calls.report_of d)))

abbrev pub settle_leaves : Lent → Left
settle_leaves l = leaves (settle_fits l) l (settle_on (desk_in l) l)

-- Advance: `said` has the report, and the words served and their statuses stand in lists of their own.
abbrev pub advance_fits : Lent → Bool
advance_fits l = pick (settle_fits l) (rows_room (desk_at l.state).seats (length l.row) (length l.statuses)) false

unfoldable pub advance_on : Desk → Lent → Left
advance_on d l =
    does (advance_answer d)
    (with_said
    (with_rows
    (with_desk l (calls.advance_of d))
    (calls.advance_served d l.row)
    (calls.advance_statuses d l.statuses))
    (set_report l.said (calls.report_of d)))
    l

abbrev pub advance_in : Lent → Left
advance_in l = advance_on (desk_in l) l

abbrev pub advance_leaves : Lent → Left
advance_leaves l = leaves (advance_fits l) l (advance_in l)

-- Show: `said` has the console after the frame.
abbrev pub show_fits : Lent → Bool
show_fits l = pick (look_room 3 (length l.state) (length l.seats) (length l.slots) (length l.said)) (room_of_row (desk_at l.state).seats (length l.row)) false

unfoldable pub show_on : Desk → ℤ → Lent → Left
show_on d f l =
    does (calls.show_says d f).no
    (with_said
    (with_rows l (calls.show_words d f l.row) l.statuses)
    (set_console l.said (calls.show_says d f).console))
    l

abbrev pub show_in : ℤ → Lent → Left
show_in f l = show_on (desk_in l) f l

abbrev pub show_leaves : ℤ → Lent → Left
show_leaves f l = leaves (show_fits l) l (show_in f l)

-- Log: `said` has the number of bytes. A line that is too short for them is the desk's own 20.
abbrev pub log_fits : Lent → Bool
log_fits l = look_room 1 (length l.state) (length l.seats) (length l.slots) (length l.said)

unfoldable pub log_on : Desk → ℤ → Lent → Left
log_on d f l =
    does (calls.log_says d f l.row).no
    (with_said
    (with_rows l (calls.log_bytes d f l.row) l.statuses)
    (set_one l.said (calls.log_says d f l.row).count))
    l

abbrev pub log_leaves : ℤ → Lent → Left
log_leaves f l = leaves (log_fits l) l (log_on (desk_in l) f l)

-- Known: `said` has K, as a count.
abbrev pub known_fits : Lent → Bool
known_fits l = known_room (length l.state) (length l.seats) (length l.said)

unfoldable pub known_on : Desk → Lent → Left
known_on d l = left done (with_said l (set_one l.said (count_of (calls.known_frame d))))

abbrev pub known_leaves : Lent → Left
known_leaves l = leaves (known_fits l) l (known_on (desk_in l) l)
