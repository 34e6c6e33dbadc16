-- What each call answers, as one record: its number, and what stands beside it. A refused call answers its number alone.
use Rattle.std.specs.Prelude.{ℕ}

pub record Packed : Type 0 where
  pub no : ℕ
  pub bytes : ℕ

pub record Unpacked : Type 0 where
  pub no : ℕ
  pub bytes : ℕ
  pub lengths : ℕ
