-- Every frame served is settled before its slot goes to another frame; and the desk goes on. Assumes nothing.
use Prim.Native.Nat.{ℕ, zero, suc, ◌+◌, ◌-◌, ◌*◌, ◌%◌, ◌/◌, ◌<◌, ◌≤◌, min}
use native.Mathlib.Omega.{arith}
use native.Mathlib.Numerals.{add-one}
use native.Mathlib.Nat.{div-add-mod, mod-lt, add-mul-mod_self_left}
use mathlib.Core.Path.{◌≡◌, ap, ap₂, sym, ◌∙◌}
use mathlib.Core.Bool.{true}
use mathlib.Core.Logic.{inl, ⊎_elim, ◌≢◌}
use mathlib.Core.List.{List}
use Prim.{absurd}
use lib.ListN.{get_or}
use lib.Dec.{eqb}
use Rattle.frame_info.specs.Frame.{count_of}
use Rattle.frame_info.proofs.Split.{split_eqb, split_leb}
use Rattle.console.specs.declared.Console.{Console}
use Rattle.sync_layer.specs.Slots.{slot_words, slot_at}
use Rattle.desk.specs.Lists.{least_of}
use Rattle.desk.specs.Desk.{Desk, queue_of, known_of, mismatch_of, take_answer, taken, take, one_frame, settle, advance_answer, advance}
use Rattle.desk.specs.Settled.{Settles}
use Rattle.desk.specs.Runs.{Call, take_call, settle_call, advance_call, show_call, log_call, after}
use Rattle.agreement.specs.Statement.{Held, Keeps}
use Rattle.agreement.proofs.Sound.{Sound, stepping}
use Rattle.agreement.proofs.Flat.{slots_apart}
use Rattle.agreement.proofs.Steps.{view_of, Shape, own_shape, frame_limit, frame_keeps, framed_at, Done, settle_done, allowed}
use Rattle.agreement.proofs.Refusals.{quiet_none}

least_same : (n : ℕ) (g h : ℕ → ℕ) → ((s : ℕ) → s ≤ n → g s ≡ h s) → least_of n g ≡ least_of n h
unfolding least_of
least_same zero g h e = e 0 (omega arith)
least_same (suc n) g h e = ap₂ min (least_same n g h (λ s x. e s (omega arith))) (e (suc n) (omega arith))

-- of the last L + 1 frames below c, the one that shares its slot with f
pub record Sharing (L f c g : ℕ) : Type 0 where
  pub slot : g % (L + 1) ≡ f % (L + 1)
  pub past : g < c
  pub late : c ≤ g + suc L

sharing : (L f c : ℕ) → f < c → (g : ℕ) × Sharing L f c g
sharing L f c x =
    let z = (c - 1 - f) / (L + 1) in
    let e = div-add-mod (c - 1 - f) (L + 1) in
    let r = mod-lt (c - 1 - f) {m = L + 1} (omega arith) in
    (f + (L + 1) * z, record { slot = add-mul-mod_self_left f (L + 1) z; past = omega arith; late = omega arith })

-- a word that is taken moves no slot
module _ (d : Desk) (s n w f : ℕ) where
  take_held : Held d f → Held (take d s n w) f
  unfolding take taken
  take_held k =
      ⊎_elim
      (λ a. simp a.1 (record { served = k.served; holds = k.holds }))
      (λ a. simp a.1 k)
      (split_eqb (take_answer d s n) 0)

module _ (step : Console → List ℕ → Console) (p : ℕ → ℕ) (n : ℕ) {R : ℕ → ℕ → ℕ} (d : Desk) (s : Shape n d.state.limit d) (h : Sound n d.state.limit (stepping step) p R (view_of d)) where
  abbrev L : ℕ
  L = d.state.limit

  abbrev e : Desk
  e = settle step p d

  r : Done step p n L R d e
  r = settle_done step p n L d s h

  -- a settle leaves K as it was
  pub settle_known : known_of e ≡ known_of d
  settle_known =
      ap (λ (m : ℕ). least_of (m - 1) (λ t. (queue_of e t).last_added_count)) (r.shape.seats ∙ sym s.seats)
      ∙ least_same (d.state.seats - 1) (λ t. (queue_of e t).last_added_count) (λ t. (queue_of d t).last_added_count) (λ t x. (r.kept t (omega (arith, s.seats, s.one))).last_added_count)

  -- and leaves no mismatch
  pub settle_quiet : mismatch_of e ≡ 0
  settle_quiet = quiet_none step p n L e r.shape r.quiet

  pub settle_stays : e.state.current ≡ d.state.current
  settle_stays = r.current

  -- so what is known is settled by a settle
  pub window_settled : (f : ℕ) → f < d.state.current → d.state.current ≤ f + 1 + L → f < known_of d → Settles e f
  window_settled f x y z =
      record {
        past = omega (arith, r.current);
        slot = omega (arith, r.current, r.shape.limit);
        known = omega (arith, settle_known);
        right = inl settle_quiet;
      }

  pub advance_goes : advance_answer d ≡ 0 → (advance step p d).state.current ≡ d.state.current + 1
  unfolding advance
  advance_goes a =
      ⊎_elim
      (λ b. simp b.1 (omega (arith, (framed_at step p n L e r.shape).current, r.current)))
      (λ b. absurd (b.0 a))
      (split_eqb (advance_answer d) 0)

  -- the frame limit + 1 back is settled by the settle of an advance that is not refused
  oldest_settled : advance_answer d ≡ 0 → (f : ℕ) → f + suc L ≡ d.state.current → Settles e f
  oldest_settled a f k = let o = allowed d a in window_settled f (omega arith) (omega arith) (omega (arith, o.near))

  pub window_held : (f : ℕ) → f < d.state.current → d.state.current ≤ f + suc L → Held d f
  window_held f x y = record { served = x; holds = h.window.held f (omega arith) x ∙ sym (add-one f) }

  -- a frame that is still held is one of the last limit + 1
  held_window : (f : ℕ) → Held d f → d.state.current ≤ f + suc L
  held_window f k =
      let g = sharing L f d.state.current k.served in
      let one : slot_at L d.slots g.0 0 ≡ slot_at L d.slots f 0 = ap (λ (y : ℕ). get_or d.slots (y * slot_words + 0) 0) g.1.slot in
      omega (arith, (window_held g.0 g.1.past g.1.late).holds, one, k.holds, g.1.late)

  -- and is so after a settle
  settle_held : (f : ℕ) → Held d f → Held e f
  settle_held f k =
      let lt : f < e.state.current = omega (arith, r.current, k.served) in
      record { served = lt; holds = r.quiet.mid.window.held f (omega (arith, r.current, held_window f k)) lt ∙ sym (add-one f) }

  -- an advance: it keeps every slot but the current frame's
  frame_held : (f : ℕ) → f % (L + 1) ≢ d.state.current % (L + 1) → Held d f → Held (one_frame step p e) f
  frame_held f x k =
      let k' = settle_held f k in
      let w = framed_at step p n L e r.shape in
      let own = own_shape e r.shape in
      let el : e.state.limit ≡ L = r.shape.limit in
      let x' : f % (e.state.limit + 1) ≢ e.state.current % (e.state.limit + 1) = rw (el, r.current) x in
      record {
        served = omega (arith, w.current, k'.served);
        holds =
            ap (λ (y : ℕ). slot_at y (one_frame step p e).slots f 0) (frame_limit step p e own)
            ∙ frame_keeps step p e own f 0 x' (omega arith) ∙ k'.holds;
      }

  advance_held : (f : ℕ) → Held d f → (Held (advance step p d) f → ⊥) → Settles e f
  unfolding advance
  advance_held f k out = ⊎_elim moves (λ a. absurd (out (simp a.1 k))) (split_eqb (advance_answer d) 0)
    where
      moves : (advance_answer d ≡ 0) × (eqb (advance_answer d) 0 ≡ true) → Settles e f
      moves a =
          ⊎_elim
          (λ b.
          ⊎_elim
          (λ c. absurd (slots_apart L f d.state.current k.served c.0 b.0))
          (λ c. oldest_settled a.0 f (omega (arith, c.0, held_window f k)))
          (split_leb d.state.current (f + L)))
          (λ b. absurd (out (simp a.1 (frame_held f b.0 k))))
          (split_eqb (f % (L + 1)) (d.state.current % (L + 1)))

  pub keeps : Keeps step p d
  unfolding after
  keeps = record { held = λ f x y. window_held f x (omega arith); settled = call }
    where
      call : (x : Call) (f : ℕ) → Held d f → (Held (after step p d x) f → ⊥) → Settles e f
      call (take_call t c w) f k out = absurd (out (take_held d t (count_of c) w f k))
      call settle_call f k out = absurd (out (settle_held f k))
      call advance_call f k out = advance_held f k out
      call (show_call c) f k out = absurd (out k)
      call (log_call c room) f k out = absurd (out k)
