-- What each call answers, as one record: its number, and what stands beside it. A refused call answers its number, and hands the layer back as it was given.
use Rattle.std.specs.Prelude.{ℕ, List, ℤ}
use Rattle.console.specs.declared.Console.{Console}
use Rattle.sync_layer_value.specs.declared.SyncLayer.{SyncLayer}

pub record OpenedLayer : Type 0 where
  pub no : ℕ
  pub layer : SyncLayer

pub record AdvancedLayer : Type 0 where
  pub no : ℕ
  pub layer : SyncLayer

pub record ConfirmedLayer : Type 0 where
  pub no : ℕ
  pub layer : SyncLayer

pub record LoadedLayer : Type 0 where
  pub no : ℕ
  pub state : Console
  pub layer : SyncLayer

pub record PlacedLayer : Type 0 where
  pub no : ℕ
  pub place : ℤ
  pub layer : SyncLayer

pub record AnnouncedLayer : Type 0 where
  pub no : ℕ
  pub first : ℤ
  pub count : ℕ
  pub word : ℕ
  pub layer : SyncLayer

-- The words and their statuses, seat by seat; 0 past the layer's seats.
pub record ServedLayer : Type 0 where
  pub no : ℕ
  pub inputs : List ℕ
  pub statuses : List ℕ
  pub layer : SyncLayer

pub record ConfirmedInputs : Type 0 where
  pub no : ℕ
  pub frames : List ℤ
  pub inputs : List ℕ
