-- The averages, the half and the reading, from what the code's steps give. Assumes nothing.
use Rattle.std.proofs.Common.{◌≡◌, ℕ, true, false, not, T, eqb, List, ℤ, refl, ap, T_not, eq-eqb, w32, to_z, of_z, to_z-of_z}
use Prim.{absurd}
use lib.Ieee.{Float, binary32, of_bits, of_int, div, sub, neg, eq, lt}
use Rattle.time_sync.specs.Sums.{window_sum}
use Rattle.time_sync.specs.Averages.{average, averages_of, half}
use Rattle.time_sync.specs.Readings.{Shown, even, over_by, under_by, shown, reading_of}
use Rattle.time_sync.specs.declared.TimeSync.{TimeSync}
use Rattle.time_sync.specs.declared.Averages.{Averages}
use Rattle.time_sync.specs.declared.Reading.{Reading}
use Rattle.time_sync.specs.declared.Reading.TheVariants.{Even, Over, Under}
use Rattle.time_sync.proofs.Sums.{sum_fits}
use Rattle.time_sync.proofs.Constants.{bits_thirty, bits_two, bits_none}

pub average_is : (w : List ℤ) (x : Float) → x ≡ of_int binary32 (to_z w32 (of_z w32 (window_sum w))) → div binary32 x (of_bits binary32 0x41f0_0000) ≡ average w
unfolding average
average_is w x e = let f = sum_fits w in rw (bits_thirty, e, to_z-of_z f)

pub averages_are : (s : TimeSync) (x y : Float) → x ≡ average s.local → y ≡ average s.remote → ◌≡◌ {A = Averages} (record { local = x; remote = y }) (averages_of s)
unfolding averages_of
averages_are s x y a b = rw (a, b)

pub half_is : (s : TimeSync) (x y : Float) → x ≡ average s.remote → y ≡ average s.local → div binary32 (sub binary32 x y) (of_bits binary32 0x4000_0000) ≡ half s
unfolding half
half_is s x y a b = rw (bits_two, a, b)

module _ (s : TimeSync) (h : Float) (e : h ≡ half s) where
  pub reading_even : eq h (of_bits binary32 0) ≡ true → even ≡ reading_of s
  unfolding reading_of
  reading_even a = rw (← e, ← bits_none, a)

  pub reading_over : eq h (of_bits binary32 0) ≡ false → lt (of_bits binary32 0) h ≡ true → over_by h ≡ reading_of s
  unfolding reading_of
  reading_over a b = rw (← e, ← bits_none, a, b)

  pub reading_under : eq h (of_bits binary32 0) ≡ false → lt (of_bits binary32 0) h ≡ false → under_by (neg h) ≡ reading_of s
  unfolding reading_of
  reading_under a b = rw (← e, ← bits_none, a, b)

pub ruleset halves = (average_is, averages_are, half_is, reading_even, reading_over, reading_under, to_z-of_z)

apart : {X : Type 0} (m n : ℕ) → m ≡ n → T (not (eqb m n)) → X
apart m n e t = absurd (T_not (eqb m n) t (rw (eq-eqb m n e) tt))

-- readings that show the same are the same, so what a reading shows leaves no second answer
pub shown_once : (a b : Reading) → shown a ≡ shown b → a ≡ b
shown_once Even Even e = refl
shown_once (Over x) (Over y) e = ap Over (ap (λ (r : Shown). r.size) e)
shown_once (Under x) (Under y) e = ap Under (ap (λ (r : Shown). r.size) e)
shown_once Even (Over y) e = apart 0 1 (ap (λ (r : Shown). r.number) e) tt
shown_once Even (Under y) e = apart 0 2 (ap (λ (r : Shown). r.number) e) tt
shown_once (Over x) Even e = apart 1 0 (ap (λ (r : Shown). r.number) e) tt
shown_once (Over x) (Under y) e = apart 1 2 (ap (λ (r : Shown). r.number) e) tt
shown_once (Under x) Even e = apart 2 0 (ap (λ (r : Shown). r.number) e) tt
shown_once (Under x) (Over y) e = apart 2 1 (ap (λ (r : Shown). r.number) e) tt
