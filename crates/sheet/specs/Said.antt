-- The numbers of the calls and of the kinds of fields, by which a line's answer and a row of the table read as their definitions give them. No two answers
-- read alike (`line_told`), so the answer is determined.
use Rattle.std.specs.Prelude.{ℕ, ◌+◌, map}
use Rattle.sheet.specs.declared.calls.QueueCall.{QueueCall}
use Rattle.sheet.specs.declared.calls.QueueCall.TheVariants as queue
use Rattle.sheet.specs.declared.calls.LayerCall.{LayerCall}
use Rattle.sheet.specs.declared.calls.LayerCall.TheVariants as layer
use Rattle.sheet.specs.declared.calls.SyncCall.{SyncCall}
use Rattle.sheet.specs.declared.calls.SyncCall.TheVariants as sync
use Rattle.sheet.specs.declared.calls.DeltaCall.{DeltaCall}
use Rattle.sheet.specs.declared.calls.DeltaCall.TheVariants as delta
use Rattle.sheet.specs.declared.calls.DeskCall.{DeskCall}
use Rattle.sheet.specs.declared.calls.DeskCall.TheVariants as desk
use Rattle.sheet.specs.declared.calls.Call as declared_call
use Rattle.sheet.specs.declared.calls.Call.TheVariants.{Queue, Layer, Sync, Delta, Desk}
use Rattle.sheet.specs.declared.calls.Kind.{Kind}
use Rattle.sheet.specs.declared.calls.Kind.TheVariants as kind
use Rattle.sheet.specs.declared.calls.Row as declared_row
use Rattle.sheet.specs.declared.Line as declared_line
use Rattle.sheet.specs.declared.Line.TheVariants.{Passed, Bad, Asks}
use Rattle.sheet.specs.Answer.{Line, Call}
use Rattle.sheet.specs.Calls.{NONE, NUMBER, FRAME, WORD, ROOM, LENS, LEN, FLAG, STATUS, BYTES, BAD, PASSED}

-- a part has 64 numbers from its first call's on, so that a call more renumbers nothing
abbrev pub number_of_queue_call : QueueCall → ℕ
number_of_queue_call queue.Open = 0
number_of_queue_call queue.Add = 1
number_of_queue_call queue.Request = 2
number_of_queue_call queue.Confirmed = 3
number_of_queue_call queue.Discard = 4
number_of_queue_call queue.Reset = 5
number_of_queue_call queue.Delay = 6
number_of_queue_call queue.Wrong = 7

abbrev pub number_of_layer_call : LayerCall → ℕ
number_of_layer_call layer.Open = 0
number_of_layer_call layer.Local = 1
number_of_layer_call layer.Remote = 2
number_of_layer_call layer.Save = 3
number_of_layer_call layer.Load = 4
number_of_layer_call layer.Advance = 5
number_of_layer_call layer.Request = 6
number_of_layer_call layer.Confirmed = 7
number_of_layer_call layer.Confirm = 8
number_of_layer_call layer.Consistent = 9
number_of_layer_call layer.Saved = 10
number_of_layer_call layer.Latest = 11
number_of_layer_call layer.Delay = 12
number_of_layer_call layer.Reset = 13
number_of_layer_call layer.Now = 14

abbrev pub number_of_sync_call : SyncCall → ℕ
number_of_sync_call sync.Open = 0
number_of_sync_call sync.Advance = 1
number_of_sync_call sync.Average = 2
number_of_sync_call sync.Averages = 3
number_of_sync_call sync.Reading = 4

abbrev pub number_of_delta_call : DeltaCall → ℕ
number_of_delta_call delta.Pack = 0
number_of_delta_call delta.Unpack = 1

abbrev pub number_of_desk_call : DeskCall → ℕ
number_of_desk_call desk.Open = 0
number_of_desk_call desk.Take = 1
number_of_desk_call desk.Settle = 2
number_of_desk_call desk.Advance = 3
number_of_desk_call desk.Show = 4
number_of_desk_call desk.Log = 5
number_of_desk_call desk.Now = 6

abbrev pub number_of_call : declared_call.Call → ℕ
number_of_call (Queue c) = number_of_queue_call c
number_of_call (Layer c) = 64 + number_of_layer_call c
number_of_call (Sync c) = 128 + number_of_sync_call c
number_of_call (Delta c) = 192 + number_of_delta_call c
number_of_call (Desk c) = 256 + number_of_desk_call c

abbrev pub letter_of : Kind → ℕ
letter_of kind.Unused = NONE
letter_of kind.Number = NUMBER
letter_of kind.Frame = FRAME
letter_of kind.Word = WORD
letter_of kind.Room = ROOM
letter_of kind.Lens = LENS
letter_of kind.Len = LEN
letter_of kind.Flag = FLAG
letter_of kind.Status = STATUS
letter_of kind.Bytes = BYTES

-- what follows a row's name
abbrev pub call_said : declared_row.Row → Call
call_said row = record { number = number_of_call row.call; least = row.least; most = row.most; kinds = map letter_of row.kinds }

abbrev pub line_said : declared_line.Line → Line
line_said Passed = record { call = PASSED; count = 0 }
line_said Bad = record { call = BAD; count = 0 }
line_said (Asks c n) = record { call = number_of_call c; count = n }
