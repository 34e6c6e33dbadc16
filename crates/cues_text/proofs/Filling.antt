-- Values put one after another at the front of a list, each as its number. Assumes nothing.
use Prim.Native.Nat.{ℕ, ◌+◌, ◌<◌}
use native.Mathlib.Omega.{arith}
use mathlib.Core.Path.{◌≡◌}
use mathlib.Core.List.{List, [], ◌∷◌, map}
use lib.ListN.{length, get_or, set, take}
use Rattle.std.proofs.lemmas.List.{take_more, map-append, length-map, length-take-le}
use lib.Seq.{sets}
use Rattle.cues_text.specs.Args.{low_of}
use Rattle.cues_text.proofs.Texts.{sets_then}

module _ (l v : List ℕ) where
  pub filled_more : (m : List ℕ) (i x : ℕ) → i < length v → m ≡ sets l 0 (map low_of (take i v)) → x ≡ low_of (get_or v i 0) → set m i x ≡ sets l 0 (map low_of (take (i + 1) v))
  filled_more m i x h e d =
      let k : length (take i v) ≡ i = length-take-le i v (omega arith) in
      let j : 0 + length (map low_of (take i v)) ≡ i = simp length-map (omega (arith, k)) in
      rw (e, d, take_more v i 0 h, map-append low_of (take i v) (get_or v i 0 ∷ []), ← sets_then (map low_of (take i v)) l (low_of (get_or v i 0) ∷ []) 0, j)
