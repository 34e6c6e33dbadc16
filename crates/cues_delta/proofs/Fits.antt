-- A field's bytes fit where they are put. Assumes nothing.
use Prim.Native.Nat.{ℕ, ◌≤◌}
use native.Mathlib.Omega.{arith}
use mathlib.Core.Path.{◌≡◌}
use mathlib.Core.List.{List, []}
use lib.ListN.{length, get_or}
use lib.Dec.{leb}
use borrow.Author.Tests.{leb-true}
use Rattle.frame_info.proofs.Picked.{picked_if}
use Rattle.sheet.specs.Fields.{fields_of}
use Rattle.sheet.specs.Bytes.{bytes_in, fitting, bytes_at}

pub bytes_fit : (room : ℕ) (line : List ℕ) (field r : ℕ) → r ≡ length (bytes_at room line field) → r ≤ room
unfolding bytes_at fitting
bytes_fit room line field r e =
    let bs = bytes_in (get_or (fields_of line) field []) in
    rw e (picked_if (λ (l : List ℕ). length l ≤ room) (leb (length bs) room) bs [] (λ h. leb-true (length bs) room h) (omega arith))
