-- Document 01's marked examples, M1 to M12, as one list. Each is of the definitions that the calls' promises cite, and a run hands what one call
-- leaves to the next. `done` is 0, and any other number is a refusal of document 01's table. A frame is a whole number, as the calls take it;
-- -1 is `null_frame`.
use Rattle.std.specs.Prelude.{ℕ, zero, suc, true, false, List, [], ◌∷◌, ◌++◌, ◌≡◌, length, replicate, ℤ, pos, negsuc, ◌-ℤ◌}
use Prim.Native.String.{String}
use Rattle.std.specs.Int.Signed.{quot_z}
use Rattle.frame_info.specs.Frame.{null_frame}
use Rattle.frame_info.specs.Word.{blank, player_input, predicted}
use Rattle.frame_info.specs.Refusal.{done}
use Rattle.frame_info.specs.declared.PlayerInput.{PlayerInput}
use Rattle.console.specs.declared.Console.{Console}
use Rattle.console.specs.Step.{start, step_of}
use Rattle.input_queue.specs.Calls as queue
use Rattle.input_queue.specs.Runs as queues
use Rattle.input_queue.specs.Runs.{Queue, add_call, input_call, delay_call}
use Rattle.sync_layer.specs.Calls as layer
use Rattle.sync_layer.specs.Runs as layers
use Rattle.sync_layer.specs.Runs.{Layer}
use Rattle.compression.specs.Layout.{joined, lengths_of, unpacked}
use Rattle.compression.specs.Promise.{pack_answer, pack_out, unpack_answer, unpack_out, unpack_lengths, unpack_refused}
use Rattle.compression.specs.Answer.{Unpacked}
use Rattle.time_sync.specs.declared.TimeSync.{TimeSync}
use Rattle.time_sync.specs.Windows.{fresh, advanced}
use Rattle.time_sync.specs.Sums.{window_sum}
use Rattle.time_sync.specs.Answer.{frame_advantage}
use Rattle.sheet.specs.Calls.{bytes_of}
use Rattle.desk.specs.Line.{newline}
use Rattle.desk.specs.Desk.{Desk, setup_with, advance_answer}
use Rattle.desk.specs.Calls.{show_says, log_says, log_bytes}
use Rattle.desk.specs.Runs as desks
use Rattle.desk.specs.Runs.{take_call, advance_call}

-- ---- the log

-- a desk of one seat with predictor 0, after some calls. The lists that it is lent need not be cleared.
abbrev pub desk_after : ℕ → ℕ → List desks.Call → Desk
desk_after limit delay calls =
    desks.run step_of (predicted 0) (setup_with limit 0 (delay ∷ []) (replicate 32 7) (replicate 512 7) (replicate 256 9)) calls

-- a frame logs this line into bytes that just hold it, and the head after the frame is this
pub record Logs (d : Desk) (f : ℤ) (line : String) (head : ℕ) : Type 0 where
  pub says : log_says d f (replicate 27 0) ≡ record { no = done; count = 27 }
  pub bytes : log_bytes d f (replicate 27 0) ≡ bytes_of line ++ (newline ∷ [])
  pub head-after : (show_says d f).console.head ≡ head

-- two words are taken, and three frames served; the limit leaves all three their slots
abbrev pub three_frames : Desk
three_frames =
    desk_after 2 1 (take_call 0 (pos 0) 0x105 ∷ take_call 0 (pos 1) 0x1ff ∷ advance_call ∷ advance_call ∷ advance_call ∷ [])

-- M1. One seat with delay 1 is given 00000105 and 000001ff: the log of three frames is these three lines, and the heads are 0, 5, 4.
pub record M1 : Type 0 where
  pub frame-0 : Logs three_frames (pos 0) "00000000 00000000 00000000" 0
  pub frame-1 : Logs three_frames (pos 1) "00000001 00000105 00000105" 5
  pub frame-2 : Logs three_frames (pos 2) "00000002 000001ff 0000215f" 4

-- ---- the queue

-- a queue with predictor 0 on 128 lent words, after some calls
abbrev pub queue_after : ℕ → List queues.Call → Queue
queue_after delay calls = queues.run 0 0 (queues.opening 0 delay (replicate 128 9)) calls

abbrev pub word : ℤ → ℕ → queues.Call
word f w = add_call (player_input f w)

-- a word is accepted, and this is the place that is answered
pub record Places (q : Queue) (f : ℤ) (w : ℕ) (place : ℤ) : Type 0 where
  pub accepted : (queue.add_input q.words 0 q.state (player_input f w)).no ≡ done
  pub answered : (queue.add_input q.words 0 q.state (player_input f w)).place ≡ place

-- a word is tossed: accepted, with -1 as its place, and nothing is written
pub record Tosses (q : Queue) (f : ℤ) (w : ℕ) : Type 0 where
  pub nowhere : Places q f w null_frame
  pub unwritten : queue.input_words q.words 0 q.state (player_input f w) ≡ q.words

-- a frame's confirmed word, by lookup and by request
pub record Confirms (q : Queue) (f : ℤ) (w : ℕ) : Type 0 where
  pub found : queue.found q.words 0 q.state f ≡ record { no = done; input = player_input f w }
  pub request : (queue.served q.words 0 q.state 0 f).word ≡ w
  pub confirmed : (queue.served q.words 0 q.state 0 f).confirmed ≡ true

abbrev pub seven_late : Queue
seven_late = queue_after 2 (word (pos 0) 7 ∷ [])

-- M2. With delay 2 the first word, 7 at frame 0, goes to place 2, and frames 0 and 1 are blank.
pub record M2 : Type 0 where
  pub place : Places (queue_after 2 []) (pos 0) 7 (pos 2)
  pub frame-0 : Confirms seven_late (pos 0) blank
  pub frame-1 : Confirms seven_late (pos 1) blank
  pub frame-2 : Confirms seven_late (pos 2) 7

-- 5 at frame 0
abbrev pub five : Queue
five = queue_after 0 (word (pos 0) 5 ∷ [])

-- and then frame 1 is asked for
abbrev pub five_asked : Queue
five_asked = queue_after 0 (word (pos 0) 5 ∷ input_call (pos 1) ∷ [])

-- and its word comes
abbrev pub five_then : ℕ → Queue
five_then w = queue_after 0 (word (pos 0) 5 ∷ input_call (pos 1) ∷ word (pos 1) w ∷ [])

-- M3. 5 at frame 0 is placed there, and 5 is predicted for frame 1. If 5 comes for it, that is placed and there is no mismatch; if 6 does, that
-- is placed and the mismatch is at 1.
pub record M3 : Type 0 where
  pub placed : Places (queue_after 0 []) (pos 0) 5 (pos 0)
  pub accepted : (queue.served five.words 0 five.state 0 (pos 1)).no ≡ done
  pub guess : (queue.served five.words 0 five.state 0 (pos 1)).word ≡ 5
  pub predicted : (queue.served five.words 0 five.state 0 (pos 1)).confirmed ≡ false
  pub same_placed : Places five_asked (pos 1) 5 (pos 1)
  pub same : queue.first_incorrect (five_then 5).state ≡ null_frame
  pub other_placed : Places five_asked (pos 1) 6 (pos 1)
  pub other : queue.first_incorrect (five_then 6).state ≡ pos 1

-- delay 3, and a word at 0
abbrev pub late : Queue
late = queue_after 3 (word (pos 0) 7 ∷ [])

-- and then delay 1, and some words
abbrev pub shortened : List queues.Call → Queue
shortened l = queue_after 3 (word (pos 0) 7 ∷ delay_call 1 ∷ l)

-- M4. The word goes to place 3, and the delay change is done. Inputs 1 and 2 are tossed, and input 3 goes to place 4.
pub record M4 : Type 0 where
  pub input-0 : Places (queue_after 3 []) (pos 0) 7 (pos 3)
  pub changed : (queue.delayed_to late.words 0 late.state 1).no ≡ done
  pub input-1 : Tosses (shortened []) (pos 1) 8
  pub input-2 : Tosses (shortened (word (pos 1) 8 ∷ [])) (pos 2) 9
  pub input-3 : Places (shortened (word (pos 1) 8 ∷ word (pos 2) 9 ∷ [])) (pos 3) 10 (pos 4)

-- the words that w gives for frames 0 to n - 1
abbrev pub words_to : (ℕ → ℕ) → ℕ → List queues.Call
words_to w zero = []
words_to w (suc n) = words_to w n ++ (word (pos n) (w n) ∷ [])

abbrev pub full : (ℕ → ℕ) → Queue
full w = queue_after 0 (words_to w 128)

-- 128 places are stored and none is discarded; the next word gives 4, and the queue is handed back as it was
pub record Overflows (q : Queue) (i : PlayerInput) : Type 0 where
  pub stored : q.state.last_added_count ≡ 128
  pub kept : q.state.oldest ≡ 0
  pub refused : queue.add_input q.words 0 q.state i ≡ record { no = 4; place = null_frame; state = q.state }
  pub unwritten : queue.input_words q.words 0 q.state i ≡ q.words

-- M5. With 128 words undiscarded, whichever they are, the next one gives 4.
abbrev pub M5 : Type 0
M5 = (w : ℕ → ℕ) → Overflows (full w) (player_input (pos 128) (w 128))

-- ---- the sync layer

abbrev pub console_at : ℕ → Console
console_at head = record { head = head; kind = 0; seal = 0 }

-- limit 2, frames 0, 1 and 2 saved, and 3 is current
abbrev pub all_saved : Layer
all_saved =
    layers.run (layers.opening 2 0 (0 ∷ []) (replicate 32 7) (replicate 512 7) (replicate 256 9))
    (layers.save_call (console_at 10) ∷ layers.advance_call ∷ layers.save_call (console_at 11) ∷ layers.advance_call ∷ layers.save_call (console_at 12) ∷ layers.advance_call ∷ [])

-- a lookup finds the state saved for the frame
abbrev pub Holds : ℕ → Console → Type 0
Holds f c = layer.saved_by all_saved.state all_saved.slots (pos f) ≡ record { no = done; state = c }

-- a load that is done: the state saved for the frame, which becomes the current one
abbrev pub Loads : ℕ → Console → Type 0
Loads f c =
    layer.loaded all_saved.state all_saved.slots (pos f) ≡ record { no = done; state = c; layer = layer.with_current all_saved.state f }

-- a load that is refused: its number, and the layer as it was
abbrev pub LoadRefused : ℤ → ℕ → Type 0
LoadRefused f n = layer.loaded all_saved.state all_saved.slots f ≡ record { no = n; state = start; layer = all_saved.state }

-- M6. Each load is tried from there: 1 and 2 are done, 0 gives 9, 3 gives 8, -1 gives 7.
pub record M6 : Type 0 where
  pub current : layer.current_frame_of all_saved.state ≡ pos 3
  pub saved : Holds 0 (console_at 10) × Holds 1 (console_at 11) × Holds 2 (console_at 12)
  pub load-1 : Loads 1 (console_at 11)
  pub load-2 : Loads 2 (console_at 12)
  pub load-0 : LoadRefused (pos 0) 9
  pub load-3 : LoadRefused (pos 3) 8
  pub load_none : LoadRefused null_frame 7

-- ---- packets

-- inputs, packed by a reference into bytes that just hold them, are these bytes
pub record Packs (reference : List ℕ) (inputs : List (List ℕ)) (packet : List ℕ) : Type 0 where
  pub says : pack_answer reference (joined inputs) (lengths_of inputs) (length packet) ≡ record { no = done; bytes = length packet }
  pub bytes : pack_out reference (joined inputs) (lengths_of inputs) (replicate (length packet) 0) ≡ packet

-- M7. Reference 01 02 03, inputs 01 02 03 and FF.
abbrev pub M7 : Type 0
M7 = Packs (0x01 ∷ 0x02 ∷ 0x03 ∷ []) ((0x01 ∷ 0x02 ∷ 0x03 ∷ []) ∷ (0xff ∷ []) ∷ []) (0x03 ∷ 0x00 ∷ 0x00 ∷ 0x00 ∷ 0x00 ∷ 0x01 ∷ 0x00 ∷ 0xfe ∷ [])

-- M8. Reference AA, inputs empty and AA 55.
abbrev pub M8 : Type 0
M8 = Packs (0xaa ∷ []) ([] ∷ (0xaa ∷ 0x55 ∷ []) ∷ []) (0x00 ∷ 0x00 ∷ 0x02 ∷ 0x00 ∷ 0xaa ∷ 0x55 ∷ [])

-- a packet gives this answer by a reference, with lists lent for the bytes and the lengths, and both stay as they were
pub record Gives (reference out lengths packet : List ℕ) (answer : Unpacked) : Type 0 where
  pub says : unpack_answer (unpacked reference packet) (length out) (length lengths) ≡ answer
  pub no_bytes : unpack_out (unpacked reference packet) out (length lengths) ≡ out
  pub no_lengths : unpack_lengths (unpacked reference packet) (length out) lengths ≡ lengths

pub record ThreePackets (reference out lengths : List ℕ) : Type 0 where
  pub half : Gives reference out lengths (0x05 ∷ []) (unpack_refused 16)
  pub short : Gives reference out lengths (0x02 ∷ 0x00 ∷ 0xaa ∷ []) (unpack_refused 17)
  pub none : Gives reference out lengths [] (record { no = done; bytes = 0; lengths = 0 })

-- M9. The packet 05 gives 16, and 02 00 AA gives 17; the empty one gives no inputs. Nothing is written. So by any reference, whatever is lent.
abbrev pub M9 : Type 0
M9 = (reference out lengths : List ℕ) → ThreePackets reference out lengths

-- ---- time sync

-- fresh windows with a local and a remote entry for frame 0; an entry 0 is as good as none
abbrev pub entered : ℤ → ℤ → TimeSync
entered l r = (advanced fresh (pos 0) l r).sync

-- M10. Remote 62 and local 2 answer 0, though (62 - 2) / 60 is 1; remote 60 alone answers 1, and local 90 alone -1.
pub record M10 : Type 0 where
  pub both : frame_advantage (entered (pos 2) (pos 62)) ≡ pos 0
  pub divided : quot_z (pos 62 -ℤ pos 2) (pos 60) ≡ pos 1
  pub remote_alone : frame_advantage (entered (pos 0) (pos 60)) ≡ pos 1
  pub local_alone : frame_advantage (entered (pos 90) (pos 0)) ≡ negsuc 0

-- two remote entries of the highest number
abbrev pub highest : TimeSync
highest = (advanced (entered (pos 0) (pos 2147483647)) (pos 1) (pos 0) (pos 2147483647)).sync

-- M11. Their sum is -2, and the answer 0.
pub record M11 : Type 0 where
  pub sum : window_sum highest.remote ≡ negsuc 1
  pub answer : frame_advantage highest ≡ pos 0

-- ---- the desk's limit

-- M12. One seat, limit 2 and no words: two advances are done, and the third gives 5, which changes nothing.
pub record M12 : Type 0 where
  pub first : advance_answer (desk_after 2 0 []) ≡ done
  pub second : advance_answer (desk_after 2 0 (advance_call ∷ [])) ≡ done
  pub third : advance_answer (desk_after 2 0 (advance_call ∷ advance_call ∷ [])) ≡ 5
  pub unchanged : desk_after 2 0 (advance_call ∷ advance_call ∷ advance_call ∷ []) ≡ desk_after 2 0 (advance_call ∷ advance_call ∷ [])

-- ---- the list

abbrev pub marked : List (Type 0)
marked = M1 ∷ M2 ∷ M3 ∷ M4 ∷ M5 ∷ M6 ∷ M7 ∷ M8 ∷ M9 ∷ M10 ∷ M11 ∷ M12 ∷ []

-- every proposition of a list holds
abbrev pub All : List (Type 0) → Type 0
All [] = Unit
All (m ∷ l) = m × All l
