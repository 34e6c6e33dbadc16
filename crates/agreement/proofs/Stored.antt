-- The list of a seat's stored words: what is placed stays; with a fixed delay it is document 01's row. Assumes nothing.
use Prim.Native.Nat.{ℕ, zero, suc, ◌+◌, ◌-◌, ◌<◌, ◌≤◌}
use native.Mathlib.Omega.{arith}
use mathlib.Core.Path.{◌≡◌, refl, ap, sym, ◌∙◌}
use mathlib.Core.Logic.{⊎_elim}
use mathlib.Core.List.{List, [], ◌∷◌, ◌++◌, append_assoc, append-nil}
use Prim.{absurd}
use lib.ListN.{length, get_or, length-append, get_or-append}
use lib.Seq.{get_or-append_seam, get_or-append-add}
use Rattle.frame_info.proofs.Split.{split_eqb, split_ltb}
use Rattle.input_queue.specs.Queue.{newest}
use Rattle.input_queue.specs.Runs.{placed}
use Rattle.agreement.specs.Reference.{ref_word, places_of}
use Rattle.agreement.proofs.Take.{read_at, fill_list, snoc_length, fill_list_length, placed_tossed, placed_stored}

-- what is stored behind s after the words l of frames n, n + 1, .., with delay d
unfoldable pub stored_from : ℕ → ℕ → List ℕ → List ℕ → List ℕ
stored_from d n s [] = s
stored_from d n s (w ∷ l) = stored_from d (suc n) (placed s (n + d) w) l

abbrev pub stored : ℕ → List ℕ → List ℕ
stored d l = stored_from d 0 [] l

-- t is l with words behind it
pub record Grown (l t : List ℕ) : Type 0 where
  pub long : length l ≤ length t
  pub same : (f : ℕ) → f < length l → read_at t f ≡ read_at l f

grown_refl : (l : List ℕ) → Grown l l
grown_refl l = record { long = omega arith; same = λ f x. refl }

grown_via : {l t u : List ℕ} → Grown l t → Grown t u → Grown l u
grown_via a b = record { long = omega (arith, a.long, b.long); same = λ f x. b.same f (omega (arith, a.long)) ∙ a.same f x }

grown_snoc : (l : List ℕ) (w : ℕ) → Grown l (l ++ (w ∷ []))
grown_snoc l w = record { long = omega (arith, snoc_length l w); same = λ f x. get_or-append l (w ∷ []) 0 f x }

grown_fill : (k w : ℕ) (l : List ℕ) → Grown l (fill_list k w l)
unfolding fill_list
grown_fill zero w l = grown_refl l
grown_fill (suc k) w l = grown_via (grown_fill k w l) (grown_snoc (fill_list k w l) w)

pub grown_placed : (l : List ℕ) (k w : ℕ) → Grown l (placed l k w)
grown_placed l k w =
    ⊎_elim
    (λ a. rw (placed_tossed l k w a.0) (grown_refl l))
    (λ a. rw (placed_stored l k w a.0) (grown_via (grown_fill (k - length l) (newest (read_at l) (length l)) l) (grown_snoc (fill_list (k - length l) (newest (read_at l) (length l)) l) w)))
    (split_ltb k (length l))

pub grown_from : (d n : ℕ) (s l : List ℕ) → Grown s (stored_from d n s l)
unfolding stored_from
grown_from d n s [] = grown_refl s
grown_from d n s (w ∷ l) = grown_via (grown_placed s (n + d) w) (grown_from d (suc n) (placed s (n + d) w) l)

stored_append : (d n : ℕ) (s a x : List ℕ) → stored_from d n s (a ++ x) ≡ stored_from d (n + length a) (stored_from d n s a) x
unfolding stored_from
stored_append d n s [] x = let e : n + 0 ≡ n = omega arith in rw e
stored_append d n s (w ∷ a) x =
    let e : n + suc (length a) ≡ suc n + length a = omega arith in
    rw e (stored_append d (suc n) (placed s (n + d) w) a x)

-- one more word
pub stored_snoc : (d : ℕ) (l : List ℕ) (w : ℕ) → stored d (l ++ (w ∷ [])) ≡ placed (stored d l) (length l + d) w
unfolding stored_from
stored_snoc d l w = let e : 0 + length l ≡ length l = omega arith in stored_append d 0 [] l (w ∷ []) ∙ rw e

-- more words
pub grown_append : (d : ℕ) (a x : List ℕ) → Grown (stored d a) (stored d (a ++ x))
grown_append d a x = rw (stored_append d 0 [] a x) (grown_from d (0 + length a) (stored d a) x)

-- Document 01's row: nothing, or d blanks and the words.
unfoldable closed : ℕ → List ℕ → List ℕ
closed d [] = []
closed d (w ∷ l) = fill_list d 0 [] ++ (w ∷ l)

closed_placed : (d : ℕ) (l : List ℕ) (w : ℕ) → placed (closed d l) (length l + d) w ≡ closed d (l ++ (w ∷ []))
unfolding closed
closed_placed d [] w =
    let e : 0 + d - 0 ≡ d = omega arith in
    placed_stored [] (0 + d) w (omega arith) ∙ rw e
closed_placed d (x ∷ l) w =
    let t = fill_list d 0 [] ++ (x ∷ l) in
    let k : length t ≡ length (x ∷ l) + d = omega (arith, length-append (fill_list d 0 []) (x ∷ l), fill_list_length d 0 []) in
    let e : length (x ∷ l) + d - length t ≡ 0 = omega arith in
    placed_stored t (length (x ∷ l) + d) w (omega arith) ∙ rw e (unfold fill_list in append_assoc (fill_list d 0 []) (x ∷ l) (w ∷ []))

closed_from : (d : ℕ) (a l : List ℕ) → stored_from d (length a) (closed d a) l ≡ closed d (a ++ l)
unfolding stored_from
closed_from d a [] = rw (append-nil a)
closed_from d a (w ∷ l) =
    ap (λ (s : List ℕ). stored_from d (suc (length a)) s l) (closed_placed d a w)
    ∙ ap (λ (n : ℕ). stored_from d n (closed d (a ++ (w ∷ []))) l) (sym (snoc_length a w))
    ∙ closed_from d (a ++ (w ∷ [])) l
    ∙ ap (closed d) (append_assoc a (w ∷ []) l)

blanks : (n f : ℕ) → f < n → read_at (fill_list n 0 []) f ≡ 0
unfolding fill_list
blanks zero f h = absurd (omega arith)
blanks (suc n) f h =
    ⊎_elim
    (λ a.
    let k : length (fill_list n 0 []) ≡ n = omega (arith, fill_list_length n 0 []) in
    let e : f ≡ length (fill_list n 0 []) = a.0 ∙ sym k in
    rw e (get_or-append_seam (fill_list n 0 []) 0 [] 0))
    (λ a. get_or-append (fill_list n 0 []) (0 ∷ []) 0 f (omega (arith, a.0, fill_list_length n 0 [])) ∙ blanks n f (omega (arith, a.0)))
    (split_eqb f n)

closed_word : (d : ℕ) (l : List ℕ) (f : ℕ) → f < length (closed d l) → read_at (closed d l) f ≡ ref_word d l f
unfolding closed ref_word
closed_word d [] f h = absurd (omega arith)
closed_word d (w ∷ l) f h =
    let k : length (fill_list d 0 []) ≡ d = omega (arith, fill_list_length d 0 []) in
    ⊎_elim
    (λ a. simp a.1 (get_or-append (fill_list d 0 []) (w ∷ l) 0 f (omega (arith, a.0)) ∙ blanks d f a.0))
    (λ a.
    let e : f ≡ length (fill_list d 0 []) + (f - d) = omega (arith, a.0) in
    simp a.1 (ap (λ (x : ℕ). get_or (fill_list d 0 [] ++ (w ∷ l)) x 0) e ∙ get_or-append-add (fill_list d 0 []) (w ∷ l) (f - d) 0))
    (split_ltb f d)

stored_closed : (d : ℕ) (l : List ℕ) → stored d l ≡ closed d l
unfolding closed
stored_closed d l = closed_from d [] l

-- "at frame f a seat with delay d has blank if f < d, else its word f - d"
pub stored_word : (d : ℕ) (l : List ℕ) (f : ℕ) → f < length (stored d l) → read_at (stored d l) f ≡ ref_word d l f
stored_word d l f h = rw (stored_closed d l) (closed_word d l f (rw (stored_closed d l) at h))

-- and it has as many places
pub stored_places : (d : ℕ) (l : List ℕ) → length (stored d l) ≡ places_of d l
unfolding closed places_of
stored_places d [] = ap length (stored_closed d [])
stored_places d (w ∷ l) =
    ap length (stored_closed d (w ∷ l)) ∙ omega (arith, length-append (fill_list d 0 []) (w ∷ l), fill_list_length d 0 [])
