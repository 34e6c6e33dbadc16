-- What each call answers, as one record: its number, and what stands beside it. A refused call answers its number, and hands the state back as it was given.
use Rattle.std.specs.Prelude.{ℕ, Bool, ℤ}
use Rattle.frame_info.specs.declared.PlayerInput.{PlayerInput}
use Rattle.input_queue.specs.declared.QueueState.{QueueState}

pub record Opened : Type 0 where
  pub no : ℕ
  pub predictor : ℕ
  pub state : QueueState

pub record Added : Type 0 where
  pub no : ℕ
  pub place : ℤ
  pub state : QueueState

pub record Served : Type 0 where
  pub no : ℕ
  pub word : ℕ
  pub confirmed : Bool
  pub state : QueueState

pub record Found : Type 0 where
  pub no : ℕ
  pub input : PlayerInput

pub record Discarded : Type 0 where
  pub no : ℕ
  pub state : QueueState

pub record Announced : Type 0 where
  pub no : ℕ
  pub first : ℤ
  pub count : ℕ
  pub word : ℕ
  pub state : QueueState
