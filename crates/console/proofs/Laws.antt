-- The wrap and the rotation, over 2^32. Assumes nothing.
use Rattle.std.proofs.Common.{◌≡◌, ℕ, suc, ◌+◌, ◌-◌, ◌*◌, ◌/◌, ◌%◌, ◌^◌, ◌<◌, pos, negsuc, ◌+ℤ◌, ap, ⊎_elim, arith}
use Rattle.std.specs.Int.{w32, rotate_left}
use Rattle.std.proofs.lemmas.Nat.{or_shifted}
use Rattle.frame_info.proofs.Split.{split_ltb}
use Rattle.console.specs.Step.{wrapped, moved, extended, rotated}

-- adding a number below 0 modulo 2^32 is adding its 32 bits
wrap_below : (h n : ℕ) → h < 2 ^ 32 → n < 2 ^ 32 → (h + (2 ^ 32 - 1 - n)) % 2 ^ 32 ≡ wrapped (pos h +ℤ negsuc n)
wrap_below h n p q =
    ⊎_elim (λ a. simp a.1 (omega arith)) (λ a. simp a.1 (omega arith)) (split_ltb h (suc n))

-- the jog's 32 bits move the head as the jog does
pub moves : (h w : ℕ) → h < 2 ^ 32 → (h + extended w) % 2 ^ 32 ≡ moved h w
unfolding moved
moves h w p =
    ⊎_elim
    (λ a. simp a.1)
    (λ a. simp a.1 (rw (← wrap_below h (255 - w % 256) p (omega arith)) (ap (λ (n : ℕ). (h + n) % 2 ^ 32) (omega arith))))
    (split_ltb (w % 256) 128)

-- the parts that a rotation moves
pub turns : (x : ℕ) → x < 2 ^ 32 → rotate_left w32 x 5 ≡ rotated x
turns x p =
    let e : x * 2 ^ 5 % 2 ^ 32 ≡ x % 2 ^ 27 * 2 ^ 5 = omega arith in
    let h : x / 2 ^ 27 < 2 ^ 5 = omega arith in
    rw (e, or_shifted (x % 2 ^ 27) 5 (x / 2 ^ 27) h) (omega arith)
