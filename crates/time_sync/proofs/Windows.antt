-- What an advance makes of the windows, by the frame's slot. Assumes nothing.
use Rattle.std.proofs.Common.{◌≡◌, ℕ, ◌%◌, ◌<◌, Option, Some, None, set, ℤ, pos, negsuc, refl, ap, arith, to_z-of_z, lt-ltb}
use Prim.{absurd}
use Rattle.frame_info.specs.Refusal.{number_of}
use Rattle.frame_info.specs.declared.refusal.Refusal.{Refusal}
use Rattle.frame_info.proofs.Refusals.{number_some}
use Rattle.time_sync.specs.Windows.{slot_of, written, advanced}
use Rattle.time_sync.specs.Said.{slot_in}
use Rattle.time_sync.specs.Advanced.{Advanced}
use Rattle.time_sync.specs.declared.TimeSync.{TimeSync}

-- the record with one slot of each window written
abbrev pub put : TimeSync → ℕ → ℤ → ℤ → TimeSync
put s i l r = record { local = set s.local i l; remote = set s.remote i r }

module _ (s : TimeSync) (l r : ℤ) where
  pub advanced_none : (f : ℤ) → None ≡ slot_in (slot_of f) → ◌≡◌ {A = Advanced} (record { no = 7; sync = s }) (advanced s f l r)
  unfolding advanced
  advanced_none (pos n) e = let h : n % 30 < 30 = omega arith in let k = rw (lt-ltb (n % 30) 30 h) at e in cc
  advanced_none (negsuc n) e = refl

  pub advanced_some : (f : ℤ) (i : ℕ) → Some i ≡ slot_in (slot_of f) → ◌≡◌ {A = Advanced} (record { no = 0; sync = put s i l r }) (advanced s f l r)
  unfolding advanced written
  advanced_some (pos n) i e =
      let h : n % 30 < 30 = omega arith in
      let k = rw (lt-ltb (n % 30) 30 h) at e in
      let j : i ≡ n % 30 = cc in
      rw j
  advanced_some (negsuc n) i e = let h : ⊥ = cc in absurd h

  -- the same, number and windows apart
  pub none_no : (f : ℤ) → None ≡ slot_in (slot_of f) → 7 ≡ (advanced s f l r).no
  none_no f e = ap (λ (a : Advanced). a.no) (advanced_none f e)

  pub none_sync : (f : ℤ) → None ≡ slot_in (slot_of f) → s ≡ (advanced s f l r).sync
  none_sync f e = ap (λ (a : Advanced). a.sync) (advanced_none f e)

  pub some_no : (f : ℤ) (i : ℕ) → Some i ≡ slot_in (slot_of f) → 0 ≡ (advanced s f l r).no
  some_no f i e = ap (λ (a : Advanced). a.no) (advanced_some f i e)

  pub some_sync : (f : ℤ) (i : ℕ) → Some i ≡ slot_in (slot_of f) → put s i l r ≡ (advanced s f l r).sync
  some_sync f i e = ap (λ (a : Advanced). a.sync) (advanced_some f i e)

  -- what is refused leaves the windows as they were
  pub refused_is : (f : ℤ) (e : Refusal) → number_of e ≡ (advanced s f l r).no → ◌≡◌ {A = Advanced} (record { no = number_of e; sync = s }) (advanced s f l r)
  unfolding advanced
  refused_is (pos n) e h = absurd (number_some e h)
  refused_is (negsuc n) e h = rw h

pub ruleset advances = (none_no, none_sync, some_no, some_sync, to_z-of_z)
