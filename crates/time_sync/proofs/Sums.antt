-- Numbers modulo 2^32, and the sum of a window, entry by entry. Assumes nothing.
use Rattle.std.proofs.Common.{◌≡◌, ℕ, suc, ◌+◌, ◌%◌, ◌^◌, ◌<◌, List, get_or, ℤ, pos, negsuc, ◌+ℤ◌, refl, ap, ◌∙◌, ⊎_elim, add-one, arith, to_z, subst, SFits}
use Rattle.std.specs.Int.{w32, int_wrap}
use Rattle.std.proofs.lemmas.Int.{int_wrap-add_left, wraps, SFits-int_wrap}
use Rattle.frame_info.proofs.Split.{split_ltb}
use Rattle.time_sync.specs.Sums.{residue, wrapped, sum_to, window_sum}

-- a residue is below 2^32
pub residue_lt : (z : ℤ) → residue z < 2 ^ 32
residue_lt (pos n) = omega arith
residue_lt (negsuc n) = omega arith

-- the residue of a sum is the sum of the residues, modulo 2^32: once for two signs that are alike, once for two that are not
mixed : (a b : ℕ) → residue (pos a +ℤ negsuc b) ≡ (residue (pos a) + residue (negsuc b)) % 2 ^ 32
mixed a b =
    ⊎_elim
    (λ h. simp h.1 (omega (arith, h.0)))
    (λ h. simp h.1 (omega (arith, h.0)))
    (split_ltb a (suc b))

pub residue_add : (a b : ℤ) → residue (a +ℤ b) ≡ (residue a + residue b) % 2 ^ 32
residue_add (pos a) (pos b) = omega arith
residue_add (pos a) (negsuc b) = mixed a b
residue_add (negsuc a) (pos b) = mixed b a ∙ ap (λ (x : ℕ). x % 2 ^ 32) (omega arith)
residue_add (negsuc a) (negsuc b) = omega arith

-- a whole number wraps as an i32 does
pub wraps_as : (z : ℤ) → int_wrap w32 z ≡ wrapped z
unfolding int_wrap
wraps_as (pos n) = refl
wraps_as (negsuc n) = ap (to_z w32) (omega arith)

-- so a window's sum is an i32
pub sum_fits : (w : List ℤ) → SFits w32 (window_sum w)
unfolding window_sum
sum_fits w = subst (SFits w32) (wraps_as (sum_to 30 w)) (SFits-int_wrap w32 (sum_to 30 w))

-- no entry, one more, and all thirty
pub sum_none : (w : List ℤ) → pos 0 ≡ wrapped (sum_to 0 w)
unfolding sum_to
sum_none w = refl

pub sum_more : (n : ℕ) (w : List ℤ) (t : ℤ) → t ≡ wrapped (sum_to n w) → int_wrap w32 (t +ℤ get_or w n (pos 0)) ≡ wrapped (sum_to (n + 1) w)
unfolding sum_to
sum_more n w t e =
    let x = get_or w n (pos 0) in
    rw (add-one n, e, ← wraps_as (sum_to n w)) (int_wrap-add_left w32 (sum_to n w) x ∙ wraps_as (sum_to n w +ℤ x))

pub sum_all : (w : List ℤ) (n : ℕ) (t : ℤ) → n ≡ 30 → t ≡ wrapped (sum_to n w) → t ≡ window_sum w
unfolding window_sum
sum_all w n t h e = e ∙ ap (λ (k : ℕ). wrapped (sum_to k w)) h

pub ruleset sums = (wraps, sum_none, sum_more, sum_all)
