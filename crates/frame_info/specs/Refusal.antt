-- The numbers by which a call says no, as the promises cite them, and the sentence that is printed of each.
use Rattle.std.specs.Prelude.{ℕ, List, codes, Option, Some, None, Result, Ok, Err}
use Rattle.frame_info.specs.declared.refusal.Refusal.{Refusal}
use Rattle.frame_info.specs.declared.refusal.Refusal.TheVariants.{OutOfRange, NoSuchSeat, NotNextFrame, QueueFull, TooFarAhead, FrameTooHigh, FrameBelowZero}
use Rattle.frame_info.specs.declared.refusal.Refusal.TheVariants.{LoadNotPast, LoadTooOld, SlotHoldsAnother, NotConfirmed, NotCurrentFrame, MismatchStands, BelowOldest}
use Rattle.frame_info.specs.declared.refusal.Refusal.TheVariants.{AboveMismatch, HalfLength, FewerBytes, LengthsDiffer, NoRoomForLengths, NoRoomForBytes, NotSettled}

abbrev pub done : ℕ
done = 0

abbrev pub out_of_range : ℕ
out_of_range = 1

abbrev pub no_such_seat : ℕ
no_such_seat = 2

abbrev pub not_next_frame : ℕ
not_next_frame = 3

abbrev pub queue_full : ℕ
queue_full = 4

abbrev pub too_far_ahead : ℕ
too_far_ahead = 5

abbrev pub frame_too_high : ℕ
frame_too_high = 6

abbrev pub frame_below_zero : ℕ
frame_below_zero = 7

abbrev pub load_not_past : ℕ
load_not_past = 8

abbrev pub load_too_old : ℕ
load_too_old = 9

abbrev pub slot_holds_another : ℕ
slot_holds_another = 10

abbrev pub not_confirmed : ℕ
not_confirmed = 11

abbrev pub not_current_frame : ℕ
not_current_frame = 12

abbrev pub mismatch_stands : ℕ
mismatch_stands = 13

abbrev pub below_oldest : ℕ
below_oldest = 14

abbrev pub above_mismatch : ℕ
above_mismatch = 15

abbrev pub half_length : ℕ
half_length = 16

abbrev pub fewer_bytes : ℕ
fewer_bytes = 17

abbrev pub lengths_differ : ℕ
lengths_differ = 18

abbrev pub no_room_for_lengths : ℕ
no_room_for_lengths = 19

abbrev pub no_room_for_bytes : ℕ
no_room_for_bytes = 20

abbrev pub not_settled : ℕ
not_settled = 21

-- the number of each
abbrev pub number_of : Refusal → ℕ
number_of OutOfRange = out_of_range
number_of NoSuchSeat = no_such_seat
number_of NotNextFrame = not_next_frame
number_of QueueFull = queue_full
number_of TooFarAhead = too_far_ahead
number_of FrameTooHigh = frame_too_high
number_of FrameBelowZero = frame_below_zero
number_of LoadNotPast = load_not_past
number_of LoadTooOld = load_too_old
number_of SlotHoldsAnother = slot_holds_another
number_of NotConfirmed = not_confirmed
number_of NotCurrentFrame = not_current_frame
number_of MismatchStands = mismatch_stands
number_of BelowOldest = below_oldest
number_of AboveMismatch = above_mismatch
number_of HalfLength = half_length
number_of FewerBytes = fewer_bytes
number_of LengthsDiffer = lengths_differ
number_of NoRoomForLengths = no_room_for_lengths
number_of NoRoomForBytes = no_room_for_bytes
number_of NotSettled = not_settled

-- the sentence of each, as bytes: what is printed of a refusal
abbrev pub sentence_of : Refusal → List ℕ
sentence_of OutOfRange = codes "a setup with seats, limit, delay or predictor out of range, or a delay change above 60"
sentence_of NoSuchSeat = codes "there is no such seat"
sentence_of NotNextFrame = codes "the input is not for the frame after the last one"
sentence_of QueueFull = codes "the word and its fills would make more than 128 undiscarded"
sentence_of TooFarAhead = codes "the current frame is more than the limit past K"
sentence_of FrameTooHigh = codes "the frame is above 1,000,000,000, or an advance would go above it"
sentence_of FrameBelowZero = codes "the frame is below 0"
sentence_of LoadNotPast = codes "a load of the current frame or a later one"
sentence_of LoadTooOld = codes "a load of a frame more than the limit before the current one"
sentence_of SlotHoldsAnother = codes "the frame's slot does not hold it"
sentence_of NotConfirmed = codes "there is no confirmed word for the frame"
sentence_of NotCurrentFrame = codes "a local input that is not for the current frame"
sentence_of MismatchStands = codes "a request while a mismatch stands"
sentence_of BelowOldest = codes "a request below the oldest frame that is kept"
sentence_of AboveMismatch = codes "a confirm, after its caps, above some seat's mismatch"
sentence_of HalfLength = codes "one byte stands where a length should be"
sentence_of FewerBytes = codes "there are fewer bytes than the length says"
sentence_of LengthsDiffer = codes "the lengths do not sum to the pending bytes"
sentence_of NoRoomForLengths = codes "there is no room for the lengths"
sentence_of NoRoomForBytes = codes "there is no room for the bytes"
sentence_of NotSettled = codes "the frame is not settled"

-- the number by which a call answers: 0 where it is done
abbrev pub number_in : {A : Type 0} → Result A Refusal → ℕ
number_in (Ok a) = done
number_in (Err e) = number_of e

-- and by which a setup does, whose answer stands beside its refusal
abbrev pub number_given : Option Refusal → ℕ
number_given None = done
number_given (Some e) = number_of e
