-- Whatever the windows hold, the half is finite and less than 2^31 in size, so that its whole part fits an i32. Assumes nothing.
use Rattle.std.proofs.Common.{◌≡◌, ℕ, ◌+◌, ◌*◌, ◌^◌, ◌<◌, ◌≤◌, Bool, false, List, ℤ, pos, nat_abs, sym, subst, arith, lit<, lit≤}
use lib.Signed.{nat_abs-le}
use lib.Ieee.{Float, fin, binary32, round, div, sub}
use lib.Ieee.Exact.{HasValue}
use Rattle.time_sync.specs.Sums.{window_sum}
use Rattle.time_sync.specs.Averages.{in_binary32, average, half}
use Rattle.time_sync.specs.Answer.{frame_advantage}
use Rattle.time_sync.specs.Bits.{Under31, IsWholePart}
use Rattle.time_sync.specs.declared.TimeSync.{TimeSync}
use Rattle.time_sync.proofs.Sums.{sum_fits}
use Rattle.time_sync.proofs.Constants.{thirty, two}
use Rattle.time_sync.proofs.Values.{under_of_value, whole_part}
use Rattle.time_sync.proofs.Rounding.{unit, grain, unit_grain, unit_pos, grain_pos, Near, rounded, near_le}
use Rattle.time_sync.proofs.Steps.{below, of-int, div_by}
use Rattle.time_sync.proofs.Meeting.{halved, halved_le}

-- an average, by the value of the sum in binary32
pub average_at : (w : List ℤ) (s : Bool) (a c : ℕ) → 0 < c → HasValue (in_binary32 (window_sum w)) s a c → average w ≡ round binary32 s a (30 * c)
unfolding average
average_at w s a c C h = rw thirty (div_by 14 (in_binary32 (window_sum w)) s a c C h)

module _ (w : List ℤ) where
  whole : Near (round binary32 (below (window_sum w)) (nat_abs (window_sum w)) 1) (below (window_sum w)) (nat_abs (window_sum w)) 1 (2 ^ 31 * grain)
  whole =
      rounded (below (window_sum w)) (nat_abs (window_sum w)) 1 31 (lit< tt) (lit≤ tt)
      (let h : nat_abs (window_sum w) ≤ 2 ^ 31 = nat_abs-le (window_sum w) (sum_fits w).sfits in omega arith)

  whole_le : whole.count ≤ 2 ^ 28 * (30 * unit)
  whole_le =
      let h : nat_abs (window_sum w) ≤ 2 ^ 31 = nat_abs-le (window_sum w) (sum_fits w).sfits in
      let l = near_le _ (below (window_sum w)) (nat_abs (window_sum w)) 1 (2 ^ 31 * grain) (2 ^ 31) whole (lit< tt) (omega arith) in
      omega (arith, unit_grain)

  mean : Near (average w) (below (window_sum w)) whole.count (30 * unit) (2 ^ 28 * grain)
  mean =
      subst (λ (z : Float). Near z (below (window_sum w)) whole.count (30 * unit) (2 ^ 28 * grain))
      (sym
      (average_at w (below (window_sum w)) whole.count unit unit_pos
      (subst (λ (z : Float). HasValue z (below (window_sum w)) whole.count unit) (sym (of-int (window_sum w))) whole.value)))
      (rounded (below (window_sum w)) whole.count (30 * unit) 28 (omega (arith, unit_pos)) (lit≤ tt) whole_le)

  mean_le : mean.count ≤ 2 ^ 28 * unit + 2 ^ 28 * grain
  mean_le = near_le _ (below (window_sum w)) whole.count (30 * unit) (2 ^ 28 * grain) (2 ^ 28) mean (omega (arith, unit_pos)) whole_le

-- an average is finite, and less than 2^31 in size
pub average_under : (w : List ℤ) → Under31 (average w)
average_under w =
    under_of_value (average w) (below (window_sum w)) (mean w).count unit (mean w).value (omega (arith, mean_le w, unit_grain, grain_pos))

pub half_under : (s : TimeSync) → Under31 (half s)
unfolding half
half_under s =
    let r = mean s.remote in
    let l = mean s.local in
    let h : r.count + l.count ≤ 2 ^ 30 * unit = omega (arith, mean_le s.remote, mean_le s.local, unit_grain) in
    let m = halved (average s.remote) (average s.local) (below (window_sum s.remote)) (below (window_sum s.local)) r.count l.count 30 (lit≤ tt) r.value l.value h in
    let v = div binary32 (sub binary32 (average s.remote) (average s.local)) (fin false 1 (pos 1)) in
    rw two
    (under_of_value v m.sign m.count unit m.value
    (omega (arith, halved_le v (below (window_sum s.remote)) r.count (below (window_sum s.local)) l.count (2 ^ 30 * grain) m, unit_grain, grain_pos)))

-- so the answer is all of the half's whole part
pub answer_whole : (s : TimeSync) → IsWholePart (half s) (frame_advantage s)
unfolding frame_advantage
answer_whole s = whole_part (half s) (half_under s)
