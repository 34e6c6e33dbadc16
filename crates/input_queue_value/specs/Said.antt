-- A call's `Result`, read as the answer that its definition gives: 0 beside what it found, or the number of its refusal beside the queue as it was
-- given. No two of them read alike, so the answer is determined.
use Rattle.std.specs.Prelude.{Result, Ok, Err, false}
use Rattle.frame_info.specs.Frame.{null_frame}
use Rattle.frame_info.specs.Word.{blank}
use Rattle.frame_info.specs.Refusal.{done, number_of, number_given}
use Rattle.frame_info.specs.declared.refusal.Refusal.{Refusal}
use Rattle.input_queue_value.specs.declared.InputQueue.{InputQueue}
use Rattle.input_queue_value.specs.declared.OpenedQueue as declared_opened
use Rattle.input_queue_value.specs.declared.AddedQueue as declared_added
use Rattle.input_queue_value.specs.declared.ServedQueue as declared_served
use Rattle.input_queue_value.specs.declared.AnnouncedQueue as declared_announced
use Rattle.input_queue_value.specs.Answer.{OpenedQueue, AddedQueue, ServedQueue, DiscardedQueue, AnnouncedQueue}

abbrev pub opened_said : declared_opened.OpenedQueue → OpenedQueue
opened_said o = record { no = number_given o.refused; queue = o.queue }

abbrev pub added_said : InputQueue → Result declared_added.AddedQueue Refusal → AddedQueue
added_said q (Ok a) = record { no = done; place = a.place; queue = a.queue }
added_said q (Err e) = record { no = number_of e; place = null_frame; queue = q }

abbrev pub served_said : InputQueue → Result declared_served.ServedQueue Refusal → ServedQueue
served_said q (Ok a) = record { no = done; word = a.word; confirmed = a.confirmed; queue = a.queue }
served_said q (Err e) = record { no = number_of e; word = blank; confirmed = false; queue = q }

abbrev pub discarded_said : InputQueue → Result InputQueue Refusal → DiscardedQueue
discarded_said q (Ok a) = record { no = done; queue = a }
discarded_said q (Err e) = record { no = number_of e; queue = q }

abbrev pub announced_said : InputQueue → Result declared_announced.AnnouncedQueue Refusal → AnnouncedQueue
announced_said q (Ok a) = record { no = done; first = a.fills.first; count = a.fills.count; word = a.fills.word; queue = a.queue }
announced_said q (Err e) = record { no = number_of e; first = null_frame; count = 0; word = blank; queue = q }
