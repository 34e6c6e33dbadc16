-- Lent lists, as the layer writes and reads them.
use Rattle.std.specs.Prelude.{ℕ, zero, suc, ◌+◌, min, List, set, eqb}
use Rattle.frame_info.specs.Choice.{pick}

-- n values in a row, from a place on
unfoldable pub write_row : {A : Type 0} → ℕ → List A → ℕ → (ℕ → A) → List A
write_row zero l base g = l
write_row (suc n) l base g = set (write_row n l base g) (base + n) (g n)

-- the lower of two counts, where 0 is none
abbrev pub lower : ℕ → ℕ → ℕ
lower a b = pick (eqb a 0) b (pick (eqb b 0) a (min a b))

-- the lowest count of g 0 to g (n - 1), 0 where there is none
unfoldable pub lowest_of : ℕ → (ℕ → ℕ) → ℕ
lowest_of zero g = 0
lowest_of (suc n) g = lower (lowest_of n g) (g n)

-- the number of the lowest seat that refuses, of refusals g 0 to g (n - 1)
unfoldable pub first_refusal : ℕ → (ℕ → ℕ) → ℕ
first_refusal zero g = 0
first_refusal (suc n) g = pick (eqb (first_refusal n g) 0) (g n) (first_refusal n g)
