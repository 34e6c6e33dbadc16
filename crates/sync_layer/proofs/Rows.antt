-- A row of values written into a list. Assumes nothing.
use Prim.Native.Nat.{ℕ, zero, suc, ◌+◌, ◌<◌, ◌≤◌}
use native.Mathlib.Omega.{arith}
use mathlib.Core.Path.{◌≡◌, refl}
use mathlib.Core.Logic.{◌≢◌, ⊎_elim}
use Prim.{absurd}
use mathlib.Core.List.{List}
use lib.ListN.{length, get_or, length-set}
use lib.Seq.{get_or-set_same, get_or-set_other}
use Rattle.frame_info.proofs.Split.{split_eqb}
use Rattle.sync_layer.specs.Lists.{write_row}

module _ {A : Type 0} where
  pub row_long : (n : ℕ) (l : List A) (base : ℕ) (g : ℕ → A) → length (write_row n l base g) ≡ length l
  unfolding write_row
  row_long zero l base g = refl
  row_long (suc n) l base g = simp length-set (row_long n l base g)

  -- within the row
  pub row_same : (n : ℕ) (l : List A) (base : ℕ) (g : ℕ → A) (k : ℕ) (d : A) → base + n ≤ length l → k < n → get_or (write_row n l base g) (base + k) d ≡ g k
  unfolding write_row
  row_same zero l base g k d p q = absurd (omega arith)
  row_same (suc n) l base g k d p q =
      ⊎_elim
      (λ e. rw e.0 (get_or-set_same (write_row n l base g) (base + n) (g n) d (omega (arith, row_long n l base g))))
      (λ e.
      rw (get_or-set_other (write_row n l base g) (base + n) (base + k) (g n) d (λ z. e.0 (omega arith)))
      (row_same n l base g k d (omega arith) (omega (arith, e.0))))
      (split_eqb k n)

  -- elsewhere
  pub row_other : (n : ℕ) (l : List A) (base : ℕ) (g : ℕ → A) (i : ℕ) (d : A) → ((k : ℕ) → k < n → i ≢ base + k) → get_or (write_row n l base g) i d ≡ get_or l i d
  unfolding write_row
  row_other zero l base g i d p = refl
  row_other (suc n) l base g i d p =
      rw (get_or-set_other (write_row n l base g) (base + n) i (g n) d (p n (omega arith)))
      (row_other n l base g i d (λ k q. p k (omega arith)))
