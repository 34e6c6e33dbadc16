-- Every number that is told by its bits is a number. Assumes nothing.
use mathlib.Core.Path.{◌≡◌, ap, sym, subst, ◌∙◌}
use mathlib.Core.Bool.{not}
use lib.Dec.{T}
use lib.IntN.{pos}
use lib.Ieee.{Float, nan, inf, fin, is_nan, neg, eq, lt, of_int}
use Rattle.frame_info.proofs.Picked.{picked}
use Rattle.time_sync.specs.declared.TimeSync.{TimeSync}
use Rattle.time_sync.specs.declared.Averages.{Averages}
use Rattle.time_sync.specs.declared.Reading.{Reading}
use Rattle.time_sync.specs.declared.Reading.TheVariants.{Over, Under}
use Rattle.time_sync.specs.Averages.{averages_of, half, in_binary32}
use Rattle.time_sync.specs.Readings.{Shown, shown, reading_of, even, over_by, under_by}
use Rattle.time_sync.proofs.Bits.{under_no_nan}
use Rattle.time_sync.proofs.Bounds.{average_under, half_under}

-- ---- both averages

pub local_plain : (s : TimeSync) (b : Averages) → b ≡ averages_of s → T (not (is_nan b.local))
unfolding averages_of
local_plain s b e = rw e (under_no_nan _ (average_under s.local))

pub remote_plain : (s : TimeSync) (b : Averages) → b ≡ averages_of s → T (not (is_nan b.remote))
unfolding averages_of
remote_plain s b e = rw e (under_no_nan _ (average_under s.remote))

-- ---- the reading's size

turned : (x : Float) → T (not (is_nan x)) → T (not (is_nan (neg x)))
unfolding is_nan neg
turned nan h = h
turned (inf s) h = h
turned (fin s m e) h = h

abbrev Plain : Shown → Type 0
Plain a = T (not (is_nan a.size))

even_plain : T (not (is_nan even.size))
unfolding is_nan of_int
even_plain = tt

size_plain : (s : TimeSync) → T (not (is_nan (reading_of s).size))
unfolding reading_of
size_plain s =
    let h = under_no_nan (half s) (half_under s) in
    picked Plain (eq (half s) (in_binary32 (pos 0))) even _ even_plain
    (picked Plain (lt (in_binary32 (pos 0)) (half s)) (over_by (half s)) (under_by (neg (half s))) h (turned (half s) h))

module _ (s : TimeSync) (r : Reading) (x : Float) (e : shown r ≡ reading_of s) where
  pub over_plain : r ≡ Over x → T (not (is_nan x))
  over_plain d = subst (λ (z : Shown). T (not (is_nan z.size))) (sym e ∙ ap shown d) (size_plain s)

  pub under_plain : r ≡ Under x → T (not (is_nan x))
  under_plain d = subst (λ (z : Shown). T (not (is_nan z.size))) (sym e ∙ ap shown d) (size_plain s)

pub ruleset plain = (local_plain, remote_plain, over_plain, under_plain)
