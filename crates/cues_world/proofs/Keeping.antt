-- A line keeps what is in force whole, and one that makes no call leaves it as it is. Assumes nothing.
use Prim.Native.Nat.{ℕ, ◌+◌, ◌<◌}
use native.Mathlib.Omega.{arith}
use mathlib.Core.Path.{◌≡◌, refl, ap}
use mathlib.Core.List.{List, [], ◌∷◌}
use native.Mathlib.Nat.{add-zero}
use lib.ListN.{length}
use lib.Seq.{sets, length-sets}
use Rattle.sync_layer_value.proofs.Kept as keptlayer
use Rattle.desk_value.proofs.Kept as keptdesk
use Rattle.sheet.specs.declared.calls.Call.{Call}
use Rattle.sheet.specs.declared.calls.Call.TheVariants.{Queue, Layer, Sync, Delta, Desk}
use Rattle.sheet.specs.declared.calls.QueueCall.TheVariants as queue
use Rattle.sheet.specs.declared.calls.LayerCall.TheVariants as layer
use Rattle.sheet.specs.declared.calls.SyncCall.TheVariants as sync
use Rattle.sheet.specs.declared.calls.DeltaCall.TheVariants as delta
use Rattle.sheet.specs.declared.calls.DeskCall.TheVariants as desk
use Rattle.sheet.specs.declared.Line as declared_line
use Rattle.sheet.specs.declared.Line.TheVariants.{Passed, Bad, Asks}
use Rattle.sheet.specs.Said.{number_of_queue_call, number_of_layer_call, number_of_sync_call, number_of_delta_call, number_of_desk_call, number_of_call, line_said}
use Rattle.sheet.specs.Calls.{PASSED}
use Rattle.sheet.specs.Reading.{reading_of, args_after}
use Rattle.sheet.proofs.Counts.{count_few}
use Rattle.cues_queue.proofs.Kept.{held_opened_whole, made_whole}
use Rattle.cues_world.specs.declared.World.{World}
use Rattle.cues_world.specs.Force.{start, Whole, with_filled, idle_text, bad_text, Idle}

-- THE CLAIM: all that is in force at the start is whole.
pub start_whole : Whole start
unfolding start
start_whole = record { queue = held_opened_whole 0 0; layer = keptlayer.held_opened_whole 0 0 (0 ∷ []); desk = keptdesk.held_opened_whole 0 0 (0 ∷ []) }

-- ---- reading a line keeps the fields' list as long as it was

pub args_same : (line a : List ℕ) → length (args_after line a) ≡ length a
unfolding args_after
args_same line a = length-sets a 0 (reading_of line).values

-- ---- no call has the number of a line that makes none

queue_low : (c : _) → number_of_queue_call c < 64
queue_low queue.Open = omega arith
queue_low c = omega arith

layer_low : (c : _) → number_of_layer_call c < 64
layer_low layer.Open = omega arith
layer_low c = omega arith

sync_low : (c : _) → number_of_sync_call c < 64
sync_low sync.Open = omega arith
sync_low c = omega arith

delta_low : (c : _) → number_of_delta_call c < 64
delta_low delta.Pack = omega arith
delta_low c = omega arith

desk_low : (c : _) → number_of_desk_call c < 64
desk_low desk.Open = omega arith
desk_low c = omega arith

call_low : (c : Call) → number_of_call c < PASSED
call_low (Queue c) = omega (arith, queue_low c)
call_low (Layer c) = omega (arith, layer_low c)
call_low (Sync c) = omega (arith, sync_low c)
call_low (Delta c) = omega (arith, delta_low c)
call_low (Desk c) = omega (arith, desk_low c)

-- ---- what a line leaves, by what was read

module _ (l : List ℕ) (d : declared_line.Line) (e : line_said d ≡ (reading_of l).line) (x : World) (out : List ℕ) where
  call_is : (line_said d).call ≡ (reading_of l).line.call
  call_is = ap (λ q. q.call) e

  pub passed_told : d ≡ Passed → Idle (reading_of l).line.call out out x x
  unfolding idle_text
  passed_told p = let k : PASSED ≡ (reading_of l).line.call = rw p at call_is in rw (← k) (record { same_world = rw add-zero; text = refl })

  pub bad_told : d ≡ Bad → (out₁ : List ℕ) (n : ℕ) → n ≡ x.filled + 4 → out₁ ≡ sets out x.filled bad_text → Idle (reading_of l).line.call out out₁ x (with_filled x n)
  unfolding idle_text
  bad_told p out₁ n a b = let k = rw p at call_is in rw (← k) (record { same_world = rw a; text = b })

  module _ (c : Call) (n : ℕ) (p : d ≡ Asks c n) where
    pub asks_low : (reading_of l).line.call < PASSED
    asks_low = let k = rw p at call_is in omega (arith, k, call_low c)

    pub asks_few : n < 2048
    asks_few = count_few l (line_said (Asks c n)) (rw p at e)

pub ruleset keeping = (made_whole, args_same, asks_low, asks_few)
