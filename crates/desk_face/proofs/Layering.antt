-- The layer's own numbers in a list, read back. Assumes nothing.
use Prim.Native.Nat.{ℕ, ◌+◌, ◌≤◌, ◌<◌}
use native.Mathlib.Omega.{arith}
use mathlib.Core.Path.{◌≡◌}
use mathlib.Core.List.{List}
use lib.ListN.{length, get_or}
use Rattle.sync_layer.specs.declared.LayerState.{LayerState}
use Rattle.sync_layer.specs.Lists.{write_row}
use Rattle.sync_layer.proofs.Rows.{row_same}
use Rattle.desk_face.specs.Lists.{layer_words, layer_numbers, layer_at, set_layer}

-- what was written is read back
pub layer_back : (l : List ℕ) (y : LayerState) → layer_words ≤ length l → layer_at (set_layer l y) ≡ y
unfolding layer_at set_layer
layer_back l y p =
    let e : (k : ℕ) → k < layer_words → get_or (write_row layer_words l 0 (λ k. get_or (layer_numbers y) k 0)) (0 + k) 0 ≡ get_or (layer_numbers y) k 0
    = λ k q. row_same layer_words l 0 (λ k. get_or (layer_numbers y) k 0) k 0 (omega arith) q in
    rw (e 0 (omega arith), e 1 (omega arith), e 2 (omega arith), e 3 (omega arith), e 4 (omega arith), e 5 (omega arith))
