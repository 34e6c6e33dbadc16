-- Masked bytes, and the XOR's law that they stand on. Assumes nothing.
use Prim.Native.Nat.{ℕ, zero, suc, ◌<◌, min}
use native.Mathlib.Omega.{arith}
use mathlib.Core.Path.{◌≡◌, refl, ap, ap₂, sym, ◌∙◌}
use mathlib.Core.List.{List, [], ◌∷◌}
use Prim.{absurd}
use lib.ListN.{length, drop, get_or}
use lib.Bits.{bit_xor, xor_assoc, xor_self, xor_zero_l}
use Rattle.compression.specs.Layout.{masked}

-- the same byte twice gives the byte back
pub xor_twice : (b x : ℕ) → bit_xor b (bit_xor b x) ≡ x
xor_twice b x = sym (xor_assoc b b x) ∙ ap (λ (n : ℕ). bit_xor n x) (xor_self b) ∙ xor_zero_l x

-- and so do masked bytes, with the same base
pub mask_twice : (base bytes : List ℕ) → masked base (masked base bytes) ≡ bytes
unfolding masked
mask_twice [] bytes = refl
mask_twice (b ∷ base) [] = refl
mask_twice (b ∷ base) (x ∷ bytes) = ap₂ (λ (y : ℕ) (l : List ℕ). y ∷ l) (xor_twice b x) (mask_twice base bytes)

pub length_masked : (base bytes : List ℕ) → length (masked base bytes) ≡ length bytes
unfolding masked
length_masked [] bytes = refl
length_masked (b ∷ base) [] = refl
length_masked (b ∷ base) (x ∷ bytes) = ap suc (length_masked base bytes)

-- a byte that the base reaches
pub masked_at : (base bytes : List ℕ) (i : ℕ) → i < length base → i < length bytes
    → bit_xor (get_or base i 0) (get_or bytes i 0) ≡ get_or (masked base bytes) i 0
unfolding masked
masked_at [] bytes i h k = absurd (omega arith)
masked_at (b ∷ base) [] i h k = absurd (omega arith)
masked_at (b ∷ base) (x ∷ bytes) zero h k = refl
masked_at (b ∷ base) (x ∷ bytes) (suc i) h k = masked_at base bytes i (omega arith) (omega arith)

-- the bytes that it does not reach
pub masked_rest : (base bytes : List ℕ) (j : ℕ) → j ≡ min (length base) (length bytes) → drop j (masked base bytes) ≡ drop j bytes
unfolding masked
masked_rest [] bytes j e = refl
masked_rest (b ∷ base) [] j e = refl
masked_rest (b ∷ base) (x ∷ bytes) zero e = absurd (omega arith)
masked_rest (b ∷ base) (x ∷ bytes) (suc j) e = masked_rest base bytes j (omega arith)
