-- What is in force, and a line that makes no call.
use Rattle.std.specs.Prelude.{ℕ, ◌+◌, ◌≡◌, List, [], ◌∷◌, eqb, length}
use Rattle.std.proofs.lemmas.List.Edits.{sets}
use Rattle.frame_info.specs.Choice.{pick}
use Rattle.sheet.specs.Calls.{PASSED}
use Rattle.input_queue_value.specs.Value as queues
use Rattle.sync_layer_value.specs.Value as layers
use Rattle.desk_value.specs.Value as desks
use Rattle.input_queue_value.specs.declared.InputQueue.{InputQueue}
use Rattle.sync_layer_value.specs.declared.SyncLayer.{SyncLayer}
use Rattle.time_sync.specs.Windows.{fresh}
use Rattle.time_sync.specs.declared.TimeSync.{TimeSync}
use Rattle.desk_value.specs.declared.Desk.{Desk}
use Rattle.cues_world.specs.declared.World.{World}

-- at the start each part is fresh: one seat, with limit, delay and predictor 0
unfoldable pub start : World
start =
    record {
      queue = (queues.opened 0 0).queue;
      layer = (layers.opened 0 0 (0 ∷ [])).layer;
      sync = fresh;
      desk = (desks.opened 0 0 (0 ∷ [])).desk;
      filled = 0;
    }

-- each thing in force is whole
pub record Whole (w : World) : Type 0 where
  pub queue : queues.Whole w.queue
  pub layer : layers.Whole w.layer
  pub desk : desks.Whole w.desk

module _ (w : World) where
  abbrev pub with_filled : ℕ → World
  with_filled n = record { queue = w.queue; layer = w.layer; sync = w.sync; desk = w.desk; filled = n }

  abbrev pub with_queue : InputQueue → ℕ → World
  with_queue q n = record { queue = q; layer = w.layer; sync = w.sync; desk = w.desk; filled = n }

  abbrev pub with_layer : SyncLayer → ℕ → World
  with_layer y n = record { queue = w.queue; layer = y; sync = w.sync; desk = w.desk; filled = n }

  abbrev pub with_sync : TimeSync → ℕ → World
  with_sync t n = record { queue = w.queue; layer = w.layer; sync = t; desk = w.desk; filled = n }

  abbrev pub with_desk : Desk → ℕ → World
  with_desk d n = record { queue = w.queue; layer = w.layer; sync = w.sync; desk = d; filled = n }

-- `bad`, and a newline
abbrev pub bad_text : List ℕ
bad_text = 98 ∷ 97 ∷ 100 ∷ 10 ∷ []

-- nothing for a line that is passed over, `bad` for one that is bad
unfoldable pub idle_text : ℕ → List ℕ
idle_text call = pick (eqb call PASSED) [] bad_text

-- it changes nothing: what is in force is as it was, and its text alone is written
pub record Idle (call : ℕ) (out out₁ : List ℕ) (w r : World) : Type 0 where
  pub same_world : r ≡ with_filled w (w.filled + length (idle_text call))
  pub text : out₁ ≡ sets out w.filled (idle_text call)
