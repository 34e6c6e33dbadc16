-- Every call keeps a layer by value whole. Assumes nothing.
use Prim.Native.Nat.{ℕ, ◌≤◌}
use mathlib.Core.Bool.{Bool}
use mathlib.Core.List.{List}
use lib.IntN.{ℤ}
use Rattle.frame_info.specs.declared.PlayerInput.{PlayerInput}
use Rattle.console.specs.declared.Console.{Console}
use Rattle.sync_layer.specs.Runs.{advance_call, save_call, load_call, local_call, remote_call, delay_call, reset_call, request_call, confirm_call}
use Rattle.sync_layer.specs.Seats.{max_seats}
use Rattle.sync_layer_value.specs.declared.SyncLayer.{SyncLayer}
use Rattle.sync_layer_value.specs.Value as held
use Rattle.sync_layer_value.proofs.Kept.{held_opened_whole, held_after_whole}

module _ (y : SyncLayer) (h : held.Whole y) where
  pub local_kept : (i : ℕ) (x : PlayerInput) → held.Whole (held.local y i x).layer
  unfolding held.after
  local_kept i x = held_after_whole y (local_call i x) h

  pub remote_kept : (i : ℕ) (x : PlayerInput) → held.Whole (held.remote y i x).layer
  unfolding held.after
  remote_kept i x = held_after_whole y (remote_call i x) h

  pub delay_kept : (i d : ℕ) → held.Whole (held.delayed_to y i d).layer
  unfolding held.after
  delay_kept i d = held_after_whole y (delay_call i d) h

  pub reset_kept : held.Whole (held.reset y)
  unfolding held.after
  reset_kept = held_after_whole y reset_call h

  pub request_kept : (gone : List Bool) (last : List ℤ) → held.Whole (held.served y gone last).layer
  unfolding held.after
  request_kept gone last = held_after_whole y (request_call gone last) h

  pub confirm_kept : (f : ℤ) (sparse : Bool) → held.Whole (held.confirmed y f sparse).layer
  unfolding held.after
  confirm_kept f sparse = held_after_whole y (confirm_call f sparse) h

  pub save_kept : (c : Console) → held.Whole (held.saved y c)
  unfolding held.after
  save_kept c = held_after_whole y (save_call c) h

  pub load_kept : (f : ℤ) → held.Whole (held.loaded y f).layer
  unfolding held.after
  load_kept f = held_after_whole y (load_call f) h

  pub advance_kept : held.Whole (held.advanced y).layer
  unfolding held.after
  advance_kept = held_after_whole y advance_call h

  -- what is told of every seat is told of no more than there can be
  pub few_seats : y.state.num_players ≤ max_seats
  few_seats = h.seated.ready.few

pub ruleset keeping = (held_opened_whole, local_kept, remote_kept, delay_kept, reset_kept, request_kept, confirm_kept, save_kept, load_kept, advance_kept, few_seats)
