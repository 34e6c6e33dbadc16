-- What each call answers, as one record: its number, and what stands beside it. A refused call answers its number, and hands the layer back as it was given.
use Rattle.std.specs.Prelude.{ℕ, ℤ}
use Rattle.console.specs.declared.Console.{Console}
use Rattle.sync_layer.specs.declared.LayerState.{LayerState}

pub record Opened : Type 0 where
  pub no : ℕ
  pub layer : LayerState

pub record Advanced : Type 0 where
  pub no : ℕ
  pub layer : LayerState

pub record Confirmed : Type 0 where
  pub no : ℕ
  pub layer : LayerState

pub record Loaded : Type 0 where
  pub no : ℕ
  pub state : Console
  pub layer : LayerState

pub record Saved : Type 0 where
  pub no : ℕ
  pub state : Console

pub record Latest : Type 0 where
  pub no : ℕ
  pub frame : ℤ

pub record Placed : Type 0 where
  pub no : ℕ
  pub place : ℤ

pub record Announced : Type 0 where
  pub no : ℕ
  pub first : ℤ
  pub count : ℕ
  pub word : ℕ
