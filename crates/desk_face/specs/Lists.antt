-- The structs of the desk and of the layer as lists of numbers.
use Rattle.std.specs.Prelude.{ℕ, List, [], ◌∷◌, get_or, set}
use Rattle.frame_info.specs.Frame.{count_of}
use Rattle.console.specs.declared.Console.{Console}
use Rattle.sync_layer.specs.declared.LayerState.{LayerState}
use Rattle.sync_layer.specs.Lists.{write_row}
use Rattle.desk.specs.declared.DeskState.{DeskState}
use Rattle.desk.specs.declared.Report.{Report}

-- how many numbers a desk has of its own
abbrev pub state_words : ℕ
state_words = 7

-- in the order of the record's fields, the console's three last
abbrev pub numbers_of : DeskState → List ℕ
numbers_of y =
    y.seats ∷ y.limit ∷ y.predictor ∷ y.current ∷ y.console.head ∷ y.console.kind ∷ y.console.seal ∷ []

unfoldable pub desk_at : List ℕ → DeskState
desk_at l =
    record {
      seats = get_or l 0 0;
      limit = get_or l 1 0;
      predictor = get_or l 2 0;
      current = get_or l 3 0;
      console = record { head = get_or l 4 0; kind = get_or l 5 0; seal = get_or l 6 0 };
    }

unfoldable pub set_desk : List ℕ → DeskState → List ℕ
set_desk l y = write_row state_words l 0 (λ k. get_or (numbers_of y) k 0)

abbrev pub set_one : List ℕ → ℕ → List ℕ
set_one l n = set l 0 n

-- the frame as a count, then the number of frames played again
unfoldable pub set_report : List ℕ → Report → List ℕ
set_report l r = set (set l 0 (count_of r.frame)) 1 r.count

unfoldable pub set_console : List ℕ → Console → List ℕ
set_console l c = set (set (set l 0 c.head) 1 c.kind) 2 c.seal

-- the layer's own numbers, in the order of the record's fields
abbrev pub layer_words : ℕ
layer_words = 6

abbrev pub layer_numbers : LayerState → List ℕ
layer_numbers y = y.num_players ∷ y.max_prediction ∷ y.predictor ∷ y.current_frame ∷ y.last_saved_count ∷ y.last_confirmed_count ∷ []

unfoldable pub layer_at : List ℕ → LayerState
layer_at l =
    record {
      num_players = get_or l 0 0;
      max_prediction = get_or l 1 0;
      predictor = get_or l 2 0;
      current_frame = get_or l 3 0;
      last_saved_count = get_or l 4 0;
      last_confirmed_count = get_or l 5 0;
    }

unfoldable pub set_layer : List ℕ → LayerState → List ℕ
set_layer l y = write_row layer_words l 0 (λ k. get_or (layer_numbers y) k 0)

abbrev pub console_of : ℕ → ℕ → ℕ → Console
console_of head kind seal = record { head = head; kind = kind; seal = seal }
