-- Laws of writing: a run of digits from the last one back, and how many there are. Assumes nothing.
use Prim.Native.Nat.{ℕ, zero, suc, ◌+◌, ◌-◌, ◌/◌, ◌%◌, ◌^◌, ◌<◌, ◌≤◌}
use native.Mathlib.Omega.{arith}
use native.Mathlib.Nat.{pow-suc, mod-lt}
use mathlib.Core.Path.{◌≡◌, refl}
use Prim.{absurd}
use mathlib.Core.Bool.{true, false, true≢false}
use mathlib.Core.Logic.{⊎_elim}
use mathlib.Core.List.{List, [], ◌∷◌, ◌++◌, append_assoc}
use lib.ListN.{length, set, length-append}
use lib.Seq.{drop-drop, sets, set_comm}
use lib.IntN.{ℤ, pos, negsuc, nat_abs}
use lib.Signed.{lt_z}
use borrow.Rule.Slice.PartMut.{put_mid}
use borrow.Author.Tests.{lt-ltb, le-ltb, ltb-true}
use Rattle.std.proofs.lemmas.List.Edits.{sets-eq}
use Rattle.digits.specs.Digits.{digit_byte, last_digits, width_within, width_of, decimal_text, signed_text}
use Rattle.frame_info.proofs.Split.{split_ltb}

-- the last of a run may be stored first
pub sets_last : (vs l : List ℕ) (i a : ℕ) → sets l i (vs ++ (a ∷ [])) ≡ sets (set l (i + length vs) a) i vs
sets_last [] l i a = let e : i + 0 ≡ i = omega arith in rw e
sets_last (v ∷ vs) l i a =
    let e : i + suc (length vs) ≡ suc i + length vs = omega arith in
    rw (e, set_comm l (suc i + length vs) i a v (λ (h : suc i + length vs ≡ i). omega arith)) (sets_last vs (set l i v) (suc i) a)

pub length_digits : (base k n : ℕ) → length (last_digits base k n) ≡ k
unfolding last_digits
length_digits base zero n = refl
length_digits base (suc k) n = simp (length-append, length_digits base k (n / base)) (omega arith)

pub rem_small : (n base : ℕ) → 1 ≤ base → base ≤ 16 → n % base < 16
rem_small n base h g = omega (arith, mod-lt n h)

-- one turn of the loop of digits
pub digits_turn : (l : List ℕ) (at base left n : ℕ) → 0 < left
    → sets l at (last_digits base left n) ≡ sets (set l (at + (left - 1)) (digit_byte (n % base))) at (last_digits base (left - 1) (n / base))
unfolding last_digits
digits_turn l at base zero n h = elim h [ ]
digits_turn l at base (suc k) n h =
    let e : suc k - 1 ≡ k = omega arith in
    rw (e, sets_last (last_digits base k (n / base)) l at (digit_byte (n % base)), length_digits base k (n / base))

pub digits_none : (l : List ℕ) (at base left n : ℕ) → left ≤ 0 → sets l at (last_digits base left n) ≡ l
unfolding last_digits
digits_none l at base zero n h = refl
digits_none l at base (suc k) n h = absurd (omega arith)

pub ruleset written = (rem_small, digits_turn, digits_none)

-- how many digits: where the search has room, its room does not matter
width_room : (f g n : ℕ) → n ≤ f → n ≤ g → width_within f n ≡ width_within g n
unfolding width_within
width_room zero zero n h k = refl
width_room zero (suc g) n h k = simp (lt-ltb n 10 (omega arith))
width_room (suc f) zero n h k = simp (lt-ltb n 10 (omega arith))
width_room (suc f) (suc g) n h k =
    ⊎_elim
    (λ w. simp w.1)
    (λ w. simp (w.1, width_room f g (n / 10) (omega (arith, w.0)) (omega (arith, w.0))))
    (split_ltb n 10)

pub width_one : (n : ℕ) → n < 10 → width_of n ≡ 1
unfolding width_of width_within
width_one zero h = refl
width_one (suc n) h = simp (lt-ltb (suc n) 10 h)

pub width_more : (n : ℕ) → 10 ≤ n → width_of n ≡ width_of (n / 10) + 1
unfolding width_of width_within
width_more zero h = omega arith
width_more (suc n) h = simp (le-ltb (suc n) 10 h, width_room n (suc n / 10) (suc n / 10) (omega arith) (omega arith))

pub width_short : (k n : ℕ) → n < 10 ^ suc k → width_of n ≤ suc k
width_short zero n h = omega (arith, width_one n h)
width_short (suc k) n h =
    ⊎_elim
    (λ w. omega (arith, width_one n w.0))
    (λ w. omega (arith, width_more n w.0, width_short k (n / 10) (omega (arith, pow-suc 10 (suc k)))))
    (split_ltb n 10)

pub width_some : (n : ℕ) → 1 ≤ width_of n
width_some n =
    ⊎_elim
    (λ w. omega (arith, width_one n w.0))
    (λ w. omega (arith, width_more n w.0))
    (split_ltb n 10)

pub width_ten : (n : ℕ) → n < 2 ^ 32 → width_of n ≤ 10
width_ten n h = width_short 9 n (omega arith)

pub ruleset widths = (width_one, width_more, width_ten)

pub length_decimal : (n : ℕ) → length (decimal_text n) ≡ width_of n
unfolding decimal_text
length_decimal n = length_digits 10 (width_of n) n

-- the byte of a digit, by its range
pub byte_decimal : (d : ℕ) → d < 10 → d + 48 ≡ digit_byte d
unfolding digit_byte
byte_decimal d h = simp (lt-ltb d 10 h)

pub byte_letter : (d : ℕ) → 10 ≤ d → d + 87 ≡ digit_byte d
unfolding digit_byte
byte_letter d h = simp (le-ltb d 10 h)

-- a text over a part of its length
pub text_put : (l text part : List ℕ) (at : ℕ) → at + length text ≤ length l → part ≡ text → put_mid at (at + length text - at) l part ≡ sets l at text
text_put l text part at h e =
    let k : at + length text - at ≡ length text = omega arith in
    rw (k, e, sets-eq text l at h, drop-drop (length text) at l, append_assoc)

pub ruleset decimals = (length_decimal, width_ten)

-- a number of either sign
pub negative_text : (z : ℤ) → lt_z z (pos 0) ≡ true → signed_text z ≡ 45 ∷ decimal_text (nat_abs z)
unfolding signed_text
negative_text (pos n) h = absurd (below (ltb-true n 0 h))
  where
    below : n < 0 → ⊥
    below k = omega arith
negative_text (negsuc n) h = refl

pub positive_text : (z : ℤ) → lt_z z (pos 0) ≡ false → signed_text z ≡ decimal_text (nat_abs z)
unfolding signed_text
positive_text (pos n) h = refl
positive_text (negsuc n) h = absurd (true≢false h)

pub ruleset signs = (negative_text, positive_text)
