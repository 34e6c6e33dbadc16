-- What each call answers, as one record: its number, and what stands beside it. A refused call answers its number, and hands the desk back as it was given.
use Rattle.std.specs.Prelude.{ℕ, ℤ}
use Rattle.console.specs.declared.Console.{Console}
use Rattle.desk.specs.declared.DeskState.{DeskState}
use Rattle.desk.specs.declared.Report.{Report}

pub record Opened : Type 0 where
  pub no : ℕ
  pub desk : DeskState

pub record Taken : Type 0 where
  pub no : ℕ
  pub place : ℤ

pub record Advanced : Type 0 where
  pub no : ℕ
  pub report : Report
  pub desk : DeskState

pub record Shown : Type 0 where
  pub no : ℕ
  pub console : Console

pub record Logged : Type 0 where
  pub no : ℕ
  pub count : ℕ
