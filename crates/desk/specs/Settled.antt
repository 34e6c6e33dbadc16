-- Which frames are settled, and what they show.
use Rattle.std.specs.Prelude.{ℕ, ◌+◌, ◌≤◌, ◌<◌, Bool, true, false, List, ◌⊎◌, ◌≡◌, ltb, leb, eqb}
use Rattle.frame_info.specs.Choice.{pick}
use Rattle.console.specs.declared.Console.{Console}
use Rattle.sync_layer.specs.Slots.{served_from, slot_at, state_in}
use Rattle.desk.specs.Lists.{row_of}
use Rattle.desk.specs.Desk.{Desk, known_of, mismatch_of}

-- A frame f is settled when 0 <= f < current, f >= current - 1 - limit, f <= K, and no mismatch stands at or below f.
pub record Settles (d : Desk) (f : ℕ) : Type 0 where
  pub past : f < d.state.current
  pub slot : d.state.current ≤ f + 1 + d.state.limit
  pub known : f < known_of d
  pub right : (mismatch_of d ≡ 0) ⊎ (f + 1 < mismatch_of d)

-- the same as a test, as the calls make it
abbrev pub right_up_to : Desk → ℕ → Bool
right_up_to d f = pick (eqb (mismatch_of d) 0) true (ltb (f + 1) (mismatch_of d))

unfoldable pub is_settled : Desk → ℕ → Bool
is_settled d f =
    pick (ltb f d.state.current)
    (pick (leb d.state.current (f + 1 + d.state.limit)) (pick (ltb f (known_of d)) (right_up_to d f) false) false)
    false

-- It shows its slot's words,
abbrev pub shown_word : Desk → ℕ → ℕ → ℕ
shown_word d f s = slot_at d.state.limit d.slots f (served_from + s)

abbrev pub shown_words : Desk → ℕ → List ℕ
shown_words d f = row_of d.state.seats (shown_word d f)

-- and the slot's state stepped once with them.
abbrev pub shown_state : (Console → List ℕ → Console) → Desk → ℕ → Console
shown_state step d f = step (state_in d.state.limit d.slots f) (shown_words d f)
