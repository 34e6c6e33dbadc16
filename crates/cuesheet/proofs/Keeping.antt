-- What the program's loop keeps. Assumes nothing.
use Prim.Native.Nat.{ℕ, ◌+◌, ◌≤◌}
use mathlib.Core.Path.{◌≡◌}
use mathlib.Core.List.{List}
use lib.ListN.{length}
use Rattle.cues_world.specs.declared.World.{World}
use Rattle.cues_world.specs.Force.{Whole}
use Rattle.cuesheet.specs.declared.reading.Reader.{Reader}

-- ---- between two lines there is room for an answer, and every lent list has the length that it had

pub record Fed (bytes₀ line₀ args₀ out₀ bytes line args out : List ℕ) (x : World) (r : Reader) : Type 0 where
  pub whole : Whole x
  pub room : r.filled + 16385 ≤ 65536
  pub within : r.len ≤ length bytes₀
  pub same_bytes : length bytes ≡ length bytes₀
  pub same_lines : length line ≡ length line₀
  pub same_fields : length args ≡ length args₀
  pub same_outs : length out ≡ length out₀
