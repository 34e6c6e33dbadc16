-- What each float operation of the definitions rounds, by the values of its operands. Assumes nothing.
use Rattle.std.proofs.Common.{◌≡◌, ℕ, suc, ◌+◌, ◌-◌, ◌*◌, ◌<◌, Bool, true, false, not, ◌&&◌, ltb, ℤ, pos, negsuc, nat_abs, sym, refl, ap, ◌∙◌, ⊎_elim, le_trans, le_of_eq, lt_of_lt_of_le, lt_of_le_of_lt, mul-le-mul_right, zero-lt-suc, mul_assoc, mul_comm, add-mul, lt_of_mul-lt-mul_right, mul-lt-mul_of_pos_right, mul-pos, mul-one, mul_right_comm, le_of_mul-le-mul_right, mul_left_comm, le-ltb, lt-ltb}
use native.Mathlib.Nat.{mul-sub}
use Prim.{absurd}
use lib.Dec.{eqb-suc-zero}
use lib.Ieee.{Float, nan, inf, fin, binary32, up, down, unlike, round, of_int, div, sub, sum}
use lib.Ieee.Fits.{down_pos}
use lib.Ieee.Exact.{HasValue}
use lib.Ieee.Scale.{round_same}
use Rattle.frame_info.proofs.Split.{split_ltb}

-- a whole number is rounded as its size over 1, with its sign
abbrev pub below : ℤ → Bool
below (pos n) = false
below (negsuc n) = true

pub of-int : (z : ℤ) → of_int binary32 z ≡ round binary32 (below z) (nat_abs z) 1
unfolding of_int
of-int (pos n) = refl
of-int (negsuc n) = refl

-- a division by 2 * (q + 1)
crossed : (x d a c k : ℕ) → x * c ≡ a * d → x * 1 * (k * c) ≡ a * (k * d)
crossed x d a c k e =
    ap (λ (y : ℕ). y * (k * c)) (mul-one x) ∙ mul_left_comm x k c ∙ ap (λ (y : ℕ). k * y) e ∙ mul_left_comm k a d

twice_pos : (q : ℕ) → 0 < suc q * 2
twice_pos q = mul-pos (zero-lt-suc q) (zero-lt-suc 1)

unlike_plus : (s : Bool) → unlike s false ≡ s
unlike_plus true = refl
unlike_plus false = refl

pub div_by : (q : ℕ) (x : Float) (s : Bool) (a c : ℕ) → 0 < c → HasValue x s a c → div binary32 x (fin false (suc q) (pos 1)) ≡ round binary32 s a (suc q * 2 * c)
unfolding div
div_by q nan s a c C h = absurd h
div_by q (inf t) s a c C h = absurd h
div_by q (fin t m e) s a c C h =
    rw (eqb-suc-zero q)
    (ap (λ (u : Bool). round binary32 u (m * up e * 1) (suc q * 2 * down e)) (unlike_plus t ∙ h.0)
    ∙ round_same binary32 s (m * up e * 1) (suc q * 2 * down e) a (suc q * 2 * c) (mul-pos (twice_pos q) (down_pos e)) (mul-pos (twice_pos q) C)
    (crossed (m * up e) (down e) a c (suc q * 2) h.1))

-- a sum sees only the values of its fractions
sub_mul : (a b c : ℕ) → (a - b) * c ≡ a * c - b * c
sub_mul a b c = mul_comm (a - b) c ∙ mul-sub c a b ∙ ap (λ (x : ℕ). x - c * b) (mul_comm c a) ∙ ap (λ (x : ℕ). a * c - x) (mul_comm c b)

module _ (a b c a' b' c' : ℕ) (C : 0 < c) (C' : 0 < c') (p : a * c' ≡ a' * c) (q : b * c' ≡ b' * c) where
  plus_same : (a + b) * c' ≡ (a' + b') * c
  plus_same = add-mul a b c' ∙ ap (λ (x : ℕ). x + b * c') p ∙ ap (λ (x : ℕ). a' * c + x) q ∙ sym (add-mul a' b' c)

  minus_same : (a - b) * c' ≡ (a' - b') * c
  minus_same = sub_mul a b c' ∙ ap (λ (x : ℕ). x - b * c') p ∙ ap (λ (x : ℕ). a' * c - x) q ∙ sym (sub_mul a' b' c)

  less_same : ltb a b ≡ ltb a' b'
  less_same =
      ⊎_elim
      (λ w. w.1 ∙ sym (lt-ltb a' b' (lt_of_mul-lt-mul_right c (lt_of_le_of_lt (le_of_eq (sym p)) (lt_of_lt_of_le (mul-lt-mul_of_pos_right w.0 C') (le_of_eq q))))))
      (λ w. w.1 ∙ sym (le-ltb a' b' (le_of_mul-le-mul_right (le_trans (le_of_eq (sym q)) (le_trans (mul-le-mul_right c' w.0) (le_of_eq p))) C)))
      (split_ltb a b)

sum_same : (s t : Bool) (a b c a' b' c' : ℕ) → 0 < c → 0 < c' → a * c' ≡ a' * c → b * c' ≡ b' * c → sum binary32 s a t b c ≡ sum binary32 s a' t b' c'
unfolding sum
sum_same s t a b c a' b' c' C C' p q =
    let x = round_same binary32 s (a + b) c (a' + b') c' C C' (plus_same a b c a' b' c' C C' p q) in
    let y = round_same binary32 t (b - a) c (b' - a') c' C C' (minus_same b a c b' a' c' C C' q p) in
    let z = round_same binary32 (s && ltb b' a') (a - b) c (a' - b') c' C C' (minus_same a b c a' b' c' C C' p q) in
    rw (x, y, less_same a b c a' b' c' C C' p q, less_same b a c b' a' c' C C' q p, z)

-- the difference of two numbers that are a / c and b / c in size
spread : (x d a c k : ℕ) → x * c ≡ a * d → x * k * c ≡ a * (d * k)
spread x d a c k e = mul_right_comm x k c ∙ ap (λ (y : ℕ). y * k) e ∙ mul_assoc a d k

pub sub_at : (x y : Float) (s t : Bool) (a b c : ℕ) → 0 < c → HasValue x s a c → HasValue y t b c → sub binary32 x y ≡ sum binary32 s a (not t) b c
unfolding sub
sub_at nan y s t a b c C g h = absurd g
sub_at (inf u) y s t a b c C g h = absurd g
sub_at (fin u m e) nan s t a b c C g h = absurd h
sub_at (fin u m e) (inf v) s t a b c C g h = absurd h
sub_at (fin u m e) (fin v n d) s t a b c C g h =
    rw (h.0, g.0)
    (sum_same s (not t) (m * up e * down d) (n * up d * down e) (down e * down d) a b c (mul-pos (down_pos e) (down_pos d)) C
    (spread (m * up e) (down e) a c (down d) g.1)
    (spread (n * up d) (down d) b c (down e) h.1 ∙ ap (λ (k : ℕ). b * k) (mul_comm (down d) (down e))))
