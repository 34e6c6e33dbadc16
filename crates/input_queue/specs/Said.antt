-- A call's `Result`, read as the answer that its definition gives: 0 beside what it found, or the number of its refusal beside the state as it was
-- given. No two of them read alike, so the answer is determined.
use Rattle.std.specs.Prelude.{Result, Ok, Err, false}
use Rattle.frame_info.specs.Frame.{null_frame}
use Rattle.frame_info.specs.Word.{blank, player_input}
use Rattle.frame_info.specs.Refusal.{done, number_of, number_given}
use Rattle.frame_info.specs.declared.refusal.Refusal.{Refusal}
use Rattle.frame_info.specs.declared.PlayerInput.{PlayerInput}
use Rattle.input_queue.specs.declared.QueueState.{QueueState}
use Rattle.input_queue.specs.declared.Opened as declared_opened
use Rattle.input_queue.specs.declared.Added as declared_added
use Rattle.input_queue.specs.declared.Asked.{Asked}
use Rattle.input_queue.specs.declared.Announced as declared_announced
use Rattle.input_queue.specs.Answer.{Opened, Added, Served, Found, Discarded, Announced}

abbrev pub opened_said : declared_opened.Opened → Opened
opened_said o = record { no = number_given o.refused; predictor = o.predictor; state = o.state }

abbrev pub added_said : QueueState → Result declared_added.Added Refusal → Added
added_said s (Ok a) = record { no = done; place = a.place; state = a.state }
added_said s (Err e) = record { no = number_of e; place = null_frame; state = s }

abbrev pub served_said : QueueState → Result Asked Refusal → Served
served_said s (Ok a) = record { no = done; word = a.word; confirmed = a.confirmed; state = a.state }
served_said s (Err e) = record { no = number_of e; word = blank; confirmed = false; state = s }

abbrev pub found_said : Result PlayerInput Refusal → Found
found_said (Ok i) = record { no = done; input = i }
found_said (Err e) = record { no = number_of e; input = player_input null_frame blank }

abbrev pub discarded_said : QueueState → Result QueueState Refusal → Discarded
discarded_said s (Ok q) = record { no = done; state = q }
discarded_said s (Err e) = record { no = number_of e; state = s }

abbrev pub announced_in : declared_announced.Announced → Announced
announced_in a = record { no = done; first = a.fills.first; count = a.fills.count; word = a.fills.word; state = a.state }

abbrev pub announced_said : QueueState → Result declared_announced.Announced Refusal → Announced
announced_said s (Ok a) = announced_in a
announced_said s (Err e) = record { no = number_of e; first = null_frame; count = 0; word = blank; state = s }
