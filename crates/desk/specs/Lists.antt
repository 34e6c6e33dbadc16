-- Numbers of every seat, taken together.
use Rattle.std.specs.Prelude.{ℕ, zero, suc, min, List, [], ◌∷◌, ◌++◌}

-- the least of g 0 to g n
unfoldable pub least_of : ℕ → (ℕ → ℕ) → ℕ
least_of zero g = g 0
least_of (suc n) g = min (least_of n g) (g (suc n))

-- g 0 to g (n - 1), in order: a row of words, one for each seat
unfoldable pub row_of : ℕ → (ℕ → ℕ) → List ℕ
row_of zero g = []
row_of (suc n) g = row_of n g ++ (g n ∷ [])
