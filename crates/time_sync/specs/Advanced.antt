-- The answer of an advance: its number, and the windows after it.
use Rattle.std.specs.Prelude.{ℕ}
use Rattle.time_sync.specs.declared.TimeSync.{TimeSync}

pub record Advanced : Type 0 where
  pub no : ℕ
  pub sync : TimeSync
