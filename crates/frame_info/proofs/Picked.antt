-- Of two, whichever is picked. Assumes nothing.
use mathlib.Core.Path.{◌≡◌, refl}
use mathlib.Core.Bool.{Bool, true, false}
use Rattle.frame_info.specs.Choice.{pick}

module _ {A : Type 0} (P : A → Type 0) where
  pub picked : (t : Bool) (a b : A) → P a → P b → P (pick t a b)
  picked true a b p q = p
  picked false a b p q = q

  -- the first may rest on the test
  pub picked_if : (t : Bool) (a b : A) → (t ≡ true → P a) → P b → P (pick t a b)
  picked_if true a b p q = p refl
  picked_if false a b p q = q
