-- What is claimed of every run of the desk: `Agree`, `Kept`, `Alive` and `Never`.
use Rattle.std.specs.Prelude.{ℕ, ◌+◌, ◌≤◌, ◌<◌, List, ◌⊎◌, ◌≡◌, ℤ, length, get_or}
use Rattle.frame_info.specs.Frame.{count_of}
use Rattle.frame_info.specs.Word.{blank, predicted}
use Rattle.frame_info.specs.Refusal.{done, load_not_past, above_mismatch}
use Rattle.console.specs.declared.Console.{Console}
use Rattle.console.specs.Step.{start}
use Rattle.sync_layer.specs.Slots.{slot_at}
use Rattle.desk.specs.Desk.{Desk, Setup, queue_of, known_of, mismatch_of, take_answer, take, advance_answer, settle, advance}
use Rattle.desk.specs.Settled.{Settles, shown_words, shown_state}
use Rattle.desk.specs.Runs.{Call, after, run, accepted, EitherBegins, Fit}
use Rattle.agreement.specs.Reference.{ref_row, state_before, places_of}
use Rattle.agreement.specs.Tried.{driven, tried_take, tried_settle, tried_advance, answer_of, ComesTo}

-- A predictor gives blank from blank, and changes nothing when applied twice.
pub record Steady (p : ℕ → ℕ) : Type 0 where
  pub blank_stays : p blank ≡ blank
  pub twice_once : (w : ℕ) → p (p w) ≡ p w

-- frame f was served, and its slot holds it
pub record Held (d : Desk) (f : ℕ) : Type 0 where
  pub served : f < d.state.current
  pub holds : slot_at d.state.limit d.slots f 0 ≡ f + 1

-- A frame served is held while it is one of the last limit + 1; and if a call gives its slot to another frame, the settle inside that
-- call has settled it.
pub record Keeps (step : Console → List ℕ → Console) (p : ℕ → ℕ) (d : Desk) : Type 0 where
  pub held : (f : ℕ) → f < d.state.current → d.state.current ≤ f + 1 + d.state.limit → Held d f
  pub settled : (x : Call) (f : ℕ) → Held d f → (Held (after step p d x) f → ⊥) → Settles (settle step p d) f

-- The desk lives. An advance that is not refused goes one frame on. A settle stays at its frame, keeps K and leaves no mismatch standing.
-- Every word that a seat accepted has its place. So after a settle every frame of the window at or below K is settled.
pub record Lives (step : Console → List ℕ → Console) (p : ℕ → ℕ) (delays : List ℕ) (words : ℕ → List ℕ) (d : Desk) : Type 0 where
  pub goes : advance_answer d ≡ 0 → (advance step p d).state.current ≡ d.state.current + 1
  pub stays : (settle step p d).state.current ≡ d.state.current
  pub known : known_of (settle step p d) ≡ known_of d
  pub quiet : mismatch_of (settle step p d) ≡ 0
  pub places : (s : ℕ) → s < length delays → (queue_of d s).last_added_count ≡ places_of (get_or delays s 0) (words s)
  pub settled : (f : ℕ) → f < d.state.current → d.state.current ≤ f + 1 + d.state.limit → f < known_of d → Settles (settle step p d) f

-- a number that is none of 8 to 15
abbrev pub Other : ℕ → Type 0
Other n = (n < load_not_past) ⊎ (above_mismatch < n)

-- Take, settle and advance come to what is promised when they are made of the layer's calls, whatever the layer's last saved and last confirmed
-- frames are: so none of those calls refuses. And no call of the desk answers 8 to 15.
pub record Plain (step : Console → List ℕ → Console) (d : Desk) : Type 0 where
  pub takes : (saved sure s : ℕ) (f : ℤ) (w : ℕ)
      → ComesTo (take_answer d s (count_of f)) (take d s (count_of f) w) (tried_take s f w (driven saved sure d))
  pub settles : (saved sure : ℕ)
      → ComesTo done (settle step (predicted d.state.predictor) d) (tried_settle step (driven saved sure d))
  pub advances : (saved sure : ℕ)
      → ComesTo (advance_answer d) (advance step (predicted d.state.predictor) d) (tried_advance step (driven saved sure d))
  pub numbers : (x : Call) → Other (answer_of d x)

-- `step` is the console's rule, and `guess k` the predictor with number k.
module _ (step : Console → List ℕ → Console) (guess : ℕ → ℕ → ℕ) where
  -- the desk after a setup and a list of calls, refused ones included, and the words that each seat accepted
  abbrev pub run_of : Setup → List Call → Desk
  run_of u l = run step (guess u.predictor) u l

  abbrev pub accepted_of : Setup → List Call → ℕ → List ℕ
  accepted_of u l = accepted step (guess u.predictor) u l

  -- Frame f shows the same words and the same console state after two runs, and these are what the desk that never guesses works out
  -- from words and delays.
  pub record Same (u v : Setup) (l m : List Call) (f : ℕ) : Type 0 where
    pub words : shown_words (run_of u l) f ≡ shown_words (run_of v m) f
    pub state : shown_state step (run_of u l) f ≡ shown_state step (run_of v m) f
    pub words_right : shown_words (run_of u l) f ≡ ref_row u.delays (accepted_of u l) f
    pub state_right : shown_state step (run_of u l) f ≡ state_before start step (ref_row u.delays (accepted_of u l)) (f + 1)

  -- Two fresh desks with the same seats and delays, each with its own limit and predictor. Each has any list of calls. Where, seat
  -- by seat, one accepted list begins the other, every frame settled on both is the same on both.
  abbrev pub Agree : Type 0
  Agree = (u v : Setup) → Fit u → Fit v → u.delays ≡ v.delays → (l m : List Call)
      → ((s : ℕ) → s < length u.delays → EitherBegins (accepted_of u l s) (accepted_of v m s))
      → (f : ℕ) → Settles (run_of u l) f → Settles (run_of v m) f → Same u v l m f

  -- Every frame served is settled before its slot goes to another frame.
  abbrev pub Kept : Type 0
  Kept = (u : Setup) → Fit u → (l : List Call) → Keeps step (guess u.predictor) (run_of u l)

  -- The desk goes on, a settle corrects, and what is known gets settled.
  abbrev pub Alive : Type 0
  Alive = (u : Setup) → Fit u → (l : List Call) → Lives step (guess u.predictor) u.delays (accepted_of u l) (run_of u l)

-- 8 to 15 come up in no call after any run. The layer's calls know the predictors by their numbers, so this is of ours.
abbrev pub Never : (Console → List ℕ → Console) → Type 0
Never step = (u : Setup) → Fit u → (l : List Call) → Plain step (run_of step predicted u l)
