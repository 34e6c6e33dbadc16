-- A call's `Result`, read as the answer that its definition gives: 0 beside what it found, or the number of its refusal beside the layer as it was
-- given. No two of them read alike, so the answer is determined.
use Rattle.std.specs.Prelude.{Result, Ok, Err}
use Rattle.frame_info.specs.Frame.{null_frame}
use Rattle.frame_info.specs.Word.{blank}
use Rattle.frame_info.specs.Refusal.{done, number_of, number_given}
use Rattle.frame_info.specs.declared.refusal.Refusal.{Refusal}
use Rattle.console.specs.Step.{start}
use Rattle.sync_layer_value.specs.declared.SyncLayer.{SyncLayer}
use Rattle.sync_layer_value.specs.declared.OpenedLayer as declared_opened
use Rattle.sync_layer_value.specs.declared.LoadedLayer as declared_loaded
use Rattle.sync_layer_value.specs.declared.PlacedLayer as declared_placed
use Rattle.sync_layer_value.specs.declared.AnnouncedLayer as declared_announced
use Rattle.sync_layer_value.specs.declared.ServedLayer as declared_served
use Rattle.sync_layer_value.specs.declared.ConfirmedInputs as declared_found
use Rattle.sync_layer_value.specs.Answer.{OpenedLayer, AdvancedLayer, ConfirmedLayer, LoadedLayer, PlacedLayer, AnnouncedLayer, ServedLayer, ConfirmedInputs}
use Rattle.sync_layer_value.specs.Value.{blanks, zero_frames}

abbrev pub opened_said : declared_opened.OpenedLayer → OpenedLayer
opened_said o = record { no = number_given o.refused; layer = o.layer }

abbrev pub advanced_said : SyncLayer → Result SyncLayer Refusal → AdvancedLayer
advanced_said y (Ok a) = record { no = done; layer = a }
advanced_said y (Err e) = record { no = number_of e; layer = y }

abbrev pub confirmed_said : SyncLayer → Result SyncLayer Refusal → ConfirmedLayer
confirmed_said y (Ok a) = record { no = done; layer = a }
confirmed_said y (Err e) = record { no = number_of e; layer = y }

abbrev pub loaded_said : SyncLayer → Result declared_loaded.LoadedLayer Refusal → LoadedLayer
loaded_said y (Ok a) = record { no = done; state = a.state; layer = a.layer }
loaded_said y (Err e) = record { no = number_of e; state = start; layer = y }

abbrev pub placed_said : SyncLayer → Result declared_placed.PlacedLayer Refusal → PlacedLayer
placed_said y (Ok a) = record { no = done; place = a.place; layer = a.layer }
placed_said y (Err e) = record { no = number_of e; place = null_frame; layer = y }

abbrev pub announced_said : SyncLayer → Result declared_announced.AnnouncedLayer Refusal → AnnouncedLayer
announced_said y (Ok a) = record { no = done; first = a.fills.first; count = a.fills.count; word = a.fills.word; layer = a.layer }
announced_said y (Err e) = record { no = number_of e; first = null_frame; count = 0; word = blank; layer = y }

abbrev pub served_said : SyncLayer → Result declared_served.ServedLayer Refusal → ServedLayer
served_said y (Ok a) = record { no = done; inputs = a.inputs; statuses = a.statuses; layer = a.layer }
served_said y (Err e) = record { no = number_of e; inputs = blanks; statuses = blanks; layer = y }

abbrev pub inputs_said : Result declared_found.ConfirmedInputs Refusal → ConfirmedInputs
inputs_said (Ok a) = record { no = done; frames = a.frames; inputs = a.inputs }
inputs_said (Err e) = record { no = number_of e; frames = zero_frames; inputs = blanks }
