-- What each call answers, as one record: its number, and what stands beside it. A refused call answers its number, and hands the queue back as it was given.
use Rattle.std.specs.Prelude.{ℕ, Bool, ℤ}
use Rattle.input_queue_value.specs.declared.InputQueue.{InputQueue}

pub record OpenedQueue : Type 0 where
  pub no : ℕ
  pub queue : InputQueue

pub record AddedQueue : Type 0 where
  pub no : ℕ
  pub place : ℤ
  pub queue : InputQueue

pub record ServedQueue : Type 0 where
  pub no : ℕ
  pub word : ℕ
  pub confirmed : Bool
  pub queue : InputQueue

pub record DiscardedQueue : Type 0 where
  pub no : ℕ
  pub queue : InputQueue

pub record AnnouncedQueue : Type 0 where
  pub no : ℕ
  pub first : ℤ
  pub count : ℕ
  pub word : ℕ
  pub queue : InputQueue
