-- A call's `Result`, read as the answer that its definition gives: 0 beside what it found, or the number of its refusal beside the layer as it was
-- given. No two of them read alike, so the answer is determined.
use Rattle.std.specs.Prelude.{ℤ, Result, Ok, Err}
use Rattle.frame_info.specs.Frame.{null_frame}
use Rattle.frame_info.specs.Word.{blank}
use Rattle.frame_info.specs.Refusal.{done, number_of, number_given}
use Rattle.frame_info.specs.declared.refusal.Refusal.{Refusal}
use Rattle.console.specs.declared.Console.{Console}
use Rattle.console.specs.Step.{start}
use Rattle.sync_layer.specs.declared.LayerState.{LayerState}
use Rattle.sync_layer.specs.declared.Opened as declared_opened
use Rattle.sync_layer.specs.declared.Loaded as declared_loaded
use Rattle.frame_info.specs.declared.Fills.{Fills}
use Rattle.sync_layer.specs.Answer.{Opened, Advanced, Confirmed, Loaded, Saved, Latest, Placed, Announced}

abbrev pub opened_said : declared_opened.Opened → Opened
opened_said o = record { no = number_given o.refused; layer = o.layer }

abbrev pub advanced_said : LayerState → Result LayerState Refusal → Advanced
advanced_said y (Ok a) = record { no = done; layer = a }
advanced_said y (Err e) = record { no = number_of e; layer = y }

abbrev pub confirmed_said : LayerState → Result LayerState Refusal → Confirmed
confirmed_said y (Ok a) = record { no = done; layer = a }
confirmed_said y (Err e) = record { no = number_of e; layer = y }

abbrev pub loaded_said : LayerState → Result declared_loaded.Loaded Refusal → Loaded
loaded_said y (Ok a) = record { no = done; state = a.state; layer = a.layer }
loaded_said y (Err e) = record { no = number_of e; state = start; layer = y }

abbrev pub saved_said : Result Console Refusal → Saved
saved_said (Ok s) = record { no = done; state = s }
saved_said (Err e) = record { no = number_of e; state = start }

abbrev pub latest_said : Result ℤ Refusal → Latest
latest_said (Ok f) = record { no = done; frame = f }
latest_said (Err e) = record { no = number_of e; frame = null_frame }

abbrev pub placed_said : Result ℤ Refusal → Placed
placed_said (Ok f) = record { no = done; place = f }
placed_said (Err e) = record { no = number_of e; place = null_frame }

abbrev pub announced_said : Result Fills Refusal → Announced
announced_said (Ok a) = record { no = done; first = a.first; count = a.count; word = a.word }
announced_said (Err e) = record { no = number_of e; first = null_frame; count = 0; word = blank }
