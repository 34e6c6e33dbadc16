-- Each case of unpacking's answer, and what it leaves in the lent lists. Assumes nothing.
use Prim.Native.Nat.{ℕ, ◌<◌, ◌≤◌}
use native.Mathlib.Omega.{arith}
use mathlib.Core.Path.{◌≡◌, refl, ap, sym, ◌∙◌}
use mathlib.Core.List.{List}
use lib.ListN.{length}
use Prim.{absurd}
use borrow.Author.Tests.{ne_eqb, le-leb, lt-leb}
use Rattle.std.specs.Prelude.{Ok}
use Rattle.frame_info.specs.Refusal.{done, number_of, no_room_for_lengths, no_room_for_bytes}
use Rattle.frame_info.specs.declared.refusal.Refusal.{Refusal}
use Rattle.frame_info.proofs.Refusals.{number_some}
use Rattle.compression.specs.Layout.{Reading, whole, half, short, records, restored, unpacked_by, unpacked, joined, lengths_of}
use Rattle.compression.specs.Promise.{over, left, unpack_refused, unpack_answer, unpack_out, unpack_lengths, inputs_of}
use Rattle.compression.specs.Said.{unpacked_said}
use Rattle.compression.specs.Inside.{counted}
use Rattle.compression.specs.Answer.{Unpacked}
use Rattle.compression.specs.declared.Unpacked as declared_unpacked
use Rattle.compression.proofs.Unpacking.{count_restored, joined_restored}

-- an answer, and what stands in the lists then
abbrev pub Answered : Reading → List ℕ → List ℕ → Unpacked → List ℕ → List ℕ → Type 0
Answered r out lengths answer out' lengths' =
    (answer ≡ unpack_answer r (length out) (length lengths))
    × (out' ≡ unpack_out r out (length lengths)) × (lengths' ≡ unpack_lengths r (length out) lengths)

-- a refusal leaves both lists as they were
refused : (r : Reading) (out lengths : List ℕ) (n : ℕ) → (n ≡ done → ⊥) → unpack_refused n ≡ unpack_answer r (length out) (length lengths)
    → Answered r out lengths (unpack_refused n) out lengths
unfolding unpack_out unpack_lengths left
refused r out lengths n h e = let f = ne_eqb n done h in (e, rw (← e) (simp f), rw (← e) (simp f))

-- what a first look counts in a packet that is read as r
broken : (reference : List ℕ) (r : Reading) (room places : ℕ) (w : Refusal) → unpack_refused (number_of w) ≡ counted r
    → unpack_refused (number_of w) ≡ unpack_answer (unpacked_by reference r) room places
unfolding counted unpacked_by unpack_answer
broken reference half room places w e = e
broken reference short room places w e = e
broken reference (whole bodies) room places w e = absurd (number_some w (ap (λ (u : Unpacked). u.no) e))

sound : (r : Reading) (seen : declared_unpacked.Unpacked) → unpacked_said (Ok seen) ≡ counted r
    → (r ≡ whole (inputs_of r)) × (seen.bytes ≡ length (joined (inputs_of r))) × (seen.lengths ≡ length (inputs_of r))
unfolding counted inputs_of
sound half seen e = absurd (let k : done ≡ 16 = ap (λ (u : Unpacked). u.no) e in omega arith)
sound short seen e = absurd (let k : done ≡ 17 = ap (λ (u : Unpacked). u.no) e in omega arith)
sound (whole bodies) seen e = (refl, ap (λ (u : Unpacked). u.bytes) e, ap (λ (u : Unpacked). u.lengths) e)

module _ (reference packet out lengths : List ℕ) where
  pub answer_broken : (w : Refusal) → unpack_refused (number_of w) ≡ counted (records packet)
      → Answered (unpacked reference packet) out lengths (unpack_refused (number_of w)) out lengths
  unfolding unpacked
  answer_broken w e =
      refused (unpacked reference packet) out lengths (number_of w) (number_some w)
      (broken reference (records packet) (length out) (length lengths) w e)

  module _ (seen : declared_unpacked.Unpacked) (e : unpacked_said (Ok seen) ≡ counted (records packet)) where
    abbrev bodies : List (List ℕ)
    bodies = inputs_of (records packet)

    pub seen_whole : (records packet ≡ whole bodies) × (seen.bytes ≡ length (joined bodies)) × (seen.lengths ≡ length bodies)
    seen_whole = sound (records packet) seen e

    unpacked_is : unpacked reference packet ≡ whole (restored reference bodies)
    unfolding unpacked unpacked_by
    unpacked_is = ap (unpacked_by reference) seen_whole.0

    long : length (joined (restored reference bodies)) ≡ seen.bytes
    long = joined_restored reference bodies ∙ sym seen_whole.1

    many : length (restored reference bodies) ≡ seen.lengths
    many = count_restored reference bodies ∙ sym seen_whole.2

    pub answer_no_place : length lengths < seen.lengths → Answered (unpacked reference packet) out lengths (unpack_refused no_room_for_lengths) out lengths
    unfolding unpack_answer
    answer_no_place k =
        refused (unpacked reference packet) out lengths no_room_for_lengths (λ z. omega arith)
        (rw (unpacked_is, many, lt-leb seen.lengths (length lengths) k))

    module _ (k : seen.lengths ≤ length lengths) where
      pub answer_no_room : length out < seen.bytes → Answered (unpacked reference packet) out lengths (unpack_refused no_room_for_bytes) out lengths
      unfolding unpack_answer
      answer_no_room m =
          refused (unpacked reference packet) out lengths no_room_for_bytes (λ z. omega arith)
          (rw (unpacked_is, many, le-leb seen.lengths (length lengths) k, long, lt-leb seen.bytes (length out) m))

      pub answer_done : seen.bytes ≤ length out → {out' lengths' : List ℕ} → out' ≡ over (joined (restored reference bodies)) out
          → lengths' ≡ over (lengths_of (restored reference bodies)) lengths → Answered (unpacked reference packet) out lengths (unpacked_said (Ok seen)) out' lengths'
      unfolding unpack_answer unpack_out unpack_lengths left inputs_of
      answer_done m o l =
          let f = le-leb seen.lengths (length lengths) k in
          let g = le-leb seen.bytes (length out) m in
          let d : unpacked_said (Ok seen) ≡ unpack_answer (unpacked reference packet) (length out) (length lengths) =
          rw (unpacked_is, many, f, long, g) in
          let i : inputs_of (unpacked reference packet) ≡ restored reference bodies = ap inputs_of unpacked_is in
          (d, rw (← d, i) o, rw (← d, i) l)
