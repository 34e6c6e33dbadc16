-- What each call answers, as one record: its number, and what stands beside it. A refused call answers its number, and hands the desk back as it was given.
use Rattle.std.specs.Prelude.{ℕ, List, ℤ}
use Rattle.console.specs.declared.Console.{Console}
use Rattle.desk.specs.declared.Report.{Report}
use Rattle.desk_value.specs.declared.Desk.{Desk}

pub record OpenedDesk : Type 0 where
  pub no : ℕ
  pub desk : Desk

pub record TakenDesk : Type 0 where
  pub no : ℕ
  pub place : ℤ
  pub desk : Desk

pub record AdvancedDesk : Type 0 where
  pub no : ℕ
  pub report : Report
  pub served : List ℕ
  pub statuses : List ℕ
  pub desk : Desk

pub record ShownDesk : Type 0 where
  pub no : ℕ
  pub words : List ℕ
  pub console : Console
