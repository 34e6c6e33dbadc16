-- What each call of the layer answers, refusals too, and what it leaves in the lent lists: by subject, in document 01's order.
pub mod Setup
pub mod Frames
pub mod Confirm
pub mod Inputs
pub mod Requests
unfoldable pub use Setup.{delays_in_range, fits, fresh_layer, fresh_seats, opened, opened_seats, opened_slots}
unfoldable pub use Frames.{current_frame_of, last_saved, last_confirmed, with_current, advanced}
unfoldable pub use Frames.{saved_layer, holds, load_refusal, loaded, saved_refusal, saved_by, latest}
unfoldable pub use Confirm.{mismatch_of, lowest_mismatch, confirm_cap, cap_refusal, confirm_refusal, with_confirmed, confirmed, discard_below, confirmed_seats}
unfoldable pub use Inputs.{remote_refusal, local_refusal, placed, placed_seats, placed_words, unplaced}
unfoldable pub use Inputs.{remote, remote_seats, remote_words, local, local_seats, local_words}
unfoldable pub use Inputs.{delayed_to, delayed_seats, reset_seats}
unfoldable pub use Requests.{one_each, gone_below, status_of}
unfoldable pub use Requests.{ask_refusal, request_refusal, asked_seat, served_word, status, served_seats, served_words, statuses}
unfoldable pub use Requests.{find_refusal, confirmed_refusal, confirmed_frame, confirmed_word, confirmed_number, confirmed_frames, confirmed_words}
