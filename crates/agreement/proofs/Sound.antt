-- A desk seen through readers of its rings and slots; what is sound; and that a frame, a load, a confirm and a stored word keep it.
-- Over any number of seats, any step of the console and any predictor that gives blank from blank and repeats itself. Assumes nothing.
use Prim.Native.Nat.{ℕ, zero, suc, ◌+◌, ◌-◌, ◌<◌, ◌≤◌}
use native.Mathlib.Omega.{arith}
use mathlib.Core.Path.{◌≡◌, refl, ap, ap₂, sym, ◌∙◌, subst}
use mathlib.Core.Logic.{◌⊎◌, inl, ⊎_elim, ◌≢◌}
use mathlib.Core.List.{List, [], ◌∷◌, ◌++◌}
use Prim.{absurd}
use Rattle.frame_info.proofs.Split.{split_eqb, split_ltb}
use Rattle.console.specs.declared.Console.{Console}
use Rattle.console.specs.Step.{start}
use Rattle.input_queue.specs.declared.QueueState.{QueueState}
use Rattle.input_queue.specs.Queue.{asked, answer, reset, discard}
use Rattle.desk.specs.Lists.{row_of}
use Rattle.agreement.specs.Reference.{state_before}
use Rattle.agreement.proofs.Seat.{Stored, Served, Clean, Neat, Seat, neat_clean, asked_stored, asked_neat, reset_clean, reset_stored, discard_stored, discard_neat}

-- any console: its state at the start, and its step by one row
pub record Machine (C : Type 0) : Type 0 where
  pub start : C
  pub step : C → List ℕ → C

-- our console with another step
abbrev pub stepping : (Console → List ℕ → Console) → Machine Console
stepping step = record { start = start; step = step }

-- the state before frame f, by the words R of seats 0 to n - 1
abbrev pub ref_state : {C : Type 0} → ℕ → Machine C → (ℕ → ℕ → ℕ) → ℕ → C
ref_state n K R f = state_before K.start K.step (λ g. row_of n (λ s. R s g)) f

-- current frame; queue of a seat; word of a seat at a place; word served for a frame to a seat; state before a frame (saved, or for the
-- current frame the console's); the frame that a frame's slot holds, as a count
pub record View (C : Type 0) : Type 0 where
  pub current : ℕ
  pub queue : ℕ → QueueState
  pub at : ℕ → ℕ → ℕ
  pub row : ℕ → ℕ → ℕ
  pub state : ℕ → C
  pub holds : ℕ → ℕ

pub row_same : (n : ℕ) (g h : ℕ → ℕ) → ((s : ℕ) → s < n → g s ≡ h s) → row_of n g ≡ row_of n h
unfolding row_of
row_same zero g h e = refl
row_same (suc n) g h e = ap₂ (λ (x : List ℕ) (y : ℕ). x ++ (y ∷ [])) (row_same n g h (λ s x. e s (omega arith))) (e n (omega arith))

-- the reference's state before f depends on the words below f alone
pub ref_same : (n : ℕ) {C : Type 0} (K : Machine C) (R Q : ℕ → ℕ → ℕ) (f : ℕ)
    → ((s g : ℕ) → s < n → g < f → R s g ≡ Q s g) → ref_state n K R f ≡ ref_state n K Q f
unfolding state_before
ref_same n K R Q zero e = refl
ref_same n K R Q (suc f) e = ap₂ K.step (ref_same n K R Q f (λ s g x y. e s g x (omega arith))) (row_same n (λ s. R s f) (λ s. Q s f) (λ s x. e s f x (omega arith)))

-- the saved states and slots of the frames from b on below the current one
pub record Window (n : ℕ) {C : Type 0} (K : Machine C) (R : ℕ → ℕ → ℕ) (b : ℕ) (D : View C) : Type 0 where
  pub chain : (f : ℕ) → b ≤ f → f < D.current → D.state (suc f) ≡ K.step (D.state f) (row_of n (D.row f))
  pub base : D.state b ≡ ref_state n K R b
  pub held : (f : ℕ) → b ≤ f → f < D.current → D.holds f ≡ suc f

-- what holds after every call
pub record Sound (n L : ℕ) {C : Type 0} (K : Machine C) (p : ℕ → ℕ) (R : ℕ → ℕ → ℕ) (D : View C) : Type 0 where
  pub floor : ℕ
  pub low : floor ≤ D.current
  pub seat : (s : ℕ) → s < n → Seat p (R s) (D.at s) (λ f. D.row f s) (D.current - suc L) D.current L floor (D.queue s)
  pub window : Window n K R (D.current - suc L) D

-- what holds during a replay up to T, and before the frame of an advance: no mismatch
pub record Mid (n L : ℕ) {C : Type 0} (K : Machine C) (p : ℕ → ℕ) (R : ℕ → ℕ → ℕ) (b T B : ℕ) (D : View C) : Type 0 where
  pub low : B ≤ D.current
  pub from : b ≤ D.current
  pub wide : T ≤ b + suc L
  pub store : (s : ℕ) → s < n → Stored (R s) (D.at s) T L B (D.queue s)
  pub window : Window n K R b D

abbrev pub Cleans : {C : Type 0} → ℕ → (ℕ → ℕ) → (ℕ → ℕ → ℕ) → ℕ → View C → Type 0
Cleans n p R b D = (s : ℕ) → s < n → Clean p (R s) (λ f. D.row f s) b D.current (D.queue s)

abbrev pub Neats : {C : Type 0} → ℕ → (ℕ → ℕ) → (ℕ → ℕ → ℕ) → ℕ → View C → Type 0
Neats n p R b D = (s : ℕ) → s < n → Neat p (R s) (λ f. D.row f s) b D.current (D.queue s)

-- one frame: save, request every seat, write the words into the slot, step, current + 1
pub record Framed (n L : ℕ) {C : Type 0} (K : Machine C) (p : ℕ → ℕ) (D E : View C) : Type 0 where
  pub current : E.current ≡ suc D.current
  pub queue : (s : ℕ) → s < n → E.queue s ≡ asked p (D.at s) (D.queue s) D.current
  pub at : (s : ℕ) → s < n → E.at s ≡ D.at s
  pub row_kept : (f s : ℕ) → s < n → f < D.current → D.current ≤ f + L → E.row f s ≡ D.row f s
  pub row_new : (s : ℕ) → s < n → E.row D.current s ≡ answer p (D.at s) (D.queue s) D.current
  pub state_kept : (f : ℕ) → f ≤ D.current → D.current ≤ f + L → E.state f ≡ D.state f
  pub state_new : E.state (suc D.current) ≡ K.step (D.state D.current) (row_of n (E.row D.current))
  pub holds_kept : (f : ℕ) → f < D.current → D.current ≤ f + L → E.holds f ≡ D.holds f
  pub holds_new : E.holds D.current ≡ suc D.current

module _ {n L : ℕ} {C : Type 0} {K : Machine C} {p : ℕ → ℕ} {R : ℕ → ℕ → ℕ} {b T B : ℕ} {D E : View C} where
  pub framed_neat : Mid n L K p R b T B D → Cleans n p R b D → D.current < T → Framed n L K p D E → Neats n p R b E
  framed_neat m cl lt fr s sn =
      rw (fr.current, fr.queue s sn)
      (asked_neat (λ f. E.row f s) (m.store s sn) m.low (cl s sn) (λ f x y. fr.row_kept f s sn y (omega (arith, m.wide))) (fr.row_new s sn))

  pub framed_mid : Mid n L K p R b T B D → D.current < T → Framed n L K p D E → Mid n L K p R b T B E
  framed_mid m lt fr = record {
    low = omega (arith, fr.current, m.low);
    from = omega (arith, fr.current, m.from);
    wide = m.wide;
    store = λ s sn. rw (fr.queue s sn, fr.at s sn) (asked_stored p D.current (m.store s sn));
    window = record {
      chain = λ f x y.
          ⊎_elim
          (λ d. rw d.0 (fr.state_new ∙ ap (λ (z : C). K.step z (row_of n (E.row D.current))) (sym (fr.state_kept D.current (omega arith) (omega arith)))))
          (λ d.
          let lt' : f < D.current = omega (arith, d.0, fr.current) in
          let near : D.current ≤ f + L = omega (arith, m.wide) in
          fr.state_kept (suc f) lt' (omega arith) ∙ m.window.chain f x lt'
          ∙ ap₂ K.step (sym (fr.state_kept f (omega arith) near)) (row_same n (D.row f) (E.row f) (λ s sn. sym (fr.row_kept f s sn lt' near))))
          (split_eqb f D.current);
      base = fr.state_kept b m.from (omega (arith, m.wide)) ∙ m.window.base;
      held = λ f x y.
          ⊎_elim
          (λ d. rw d.0 fr.holds_new)
          (λ d.
          let lt' : f < D.current = omega (arith, d.0, fr.current) in
          fr.holds_kept f lt' (omega (arith, m.wide)) ∙ m.window.held f x lt')
          (split_eqb f D.current);
    };
  }

module _ {n L : ℕ} {C : Type 0} {K : Machine C} {p : ℕ → ℕ} {R : ℕ → ℕ → ℕ} {B : ℕ} {D : View C} where
  -- the end of a replay, or of an advance
  pub mid_sound : Mid n L K p R (D.current - suc L) D.current B D → Neats n p R (D.current - suc L) D → Sound n L K p R D
  mid_sound m ne = record {
    floor = B;
    low = m.low;
    seat = λ s sn. record { store = m.store s sn; kind = inl (ne s sn) };
    window = m.window;
  }

-- the states are the reference's as far as the words served are
module _ {n : ℕ} {C : Type 0} {K : Machine C} {R : ℕ → ℕ → ℕ} {b : ℕ} {D : View C} (w : Window n K R b D) where
  pub right : (k : ℕ) → b + k ≤ D.current → ((f s : ℕ) → s < n → b ≤ f → f < b + k → D.row f s ≡ R s f) → D.state (b + k) ≡ ref_state n K R (b + k)
  unfolding state_before
  right zero h e = let z : b + 0 ≡ b = omega arith in rw z w.base
  right (suc k) h e =
      let z : b + suc k ≡ suc (b + k) = omega arith in
      rw z
      (w.chain (b + k) (omega arith) (omega arith)
      ∙ ap₂ K.step (right k (omega arith) (λ f s x y v. e f s x y (omega arith))) (row_same n (D.row (b + k)) (λ s. R s (b + k)) (λ s x. e (b + k) s x (omega arith) (omega arith))))

  pub right_at : (f : ℕ) → b ≤ f → f ≤ D.current → ((g s : ℕ) → s < n → b ≤ g → g < f → D.row g s ≡ R s g) → D.state f ≡ ref_state n K R f
  right_at f bf fc e =
      let z : f ≡ b + (f - b) = omega arith in
      rw z (right (f - b) (omega arith) (λ g s x y v. e g s x y (omega arith)))

-- a sound desk on which no mismatch stands
pub record Quiet (n L : ℕ) {C : Type 0} (K : Machine C) (p : ℕ → ℕ) (R : ℕ → ℕ → ℕ) (D : View C) : Type 0 where
  pub floor : ℕ
  pub mid : Mid n L K p R (D.current - suc L) D.current floor D
  pub neat : Neats n p R (D.current - suc L) D

-- the view after a load of frame m and a reset of every queue
pub record Loaded (n m : ℕ) {C : Type 0} (D E : View C) : Type 0 where
  pub current : E.current ≡ m
  pub queue : (s : ℕ) → s < n → E.queue s ≡ reset (D.queue s)
  pub at : (s : ℕ) → s < n → E.at s ≡ D.at s
  pub row : (f s : ℕ) → s < n → f < m → E.row f s ≡ D.row f s
  pub state : (f : ℕ) → f ≤ m → E.state f ≡ D.state f
  pub holds : (f : ℕ) → f < m → E.holds f ≡ D.holds f

-- m is the lowest mismatch
pub record Lowest (n m : ℕ) {C : Type 0} (D : View C) : Type 0 where
  pub who : ℕ
  pub seat : who < n
  pub first_incorrect_count : (D.queue who).first_incorrect_count ≡ suc m
  pub least : (s : ℕ) → s < n → (D.queue s).first_incorrect_count ≢ 0 → m < (D.queue s).first_incorrect_count

-- the view after a discard to g in every queue
pub record Discarded (n g : ℕ) {C : Type 0} (D E : View C) : Type 0 where
  pub current : E.current ≡ D.current
  pub queue : (s : ℕ) → s < n → E.queue s ≡ discard (D.queue s) g
  pub at : (s : ℕ) → s < n → E.at s ≡ D.at s
  pub row : E.row ≡ D.row
  pub state : E.state ≡ D.state
  pub holds : E.holds ≡ D.holds

-- a mismatch that can be loaded
pub record Going (L m B c : ℕ) : Type 0 where
  pub past : m < c
  pub near : c ≤ m + L
  pub kept : B ≤ m

-- a settled frame, seat by seat: stored, and served before any mismatch
pub record SeatsSettled (n L : ℕ) {C : Type 0} (D : View C) (f : ℕ) : Type 0 where
  pub past : f < D.current
  pub slot : D.current ≤ f + suc L
  pub known : (s : ℕ) → s < n → f < (D.queue s).last_added_count
  pub right : (s : ℕ) → s < n → ((D.queue s).first_incorrect_count ≡ 0) ⊎ (suc f < (D.queue s).first_incorrect_count)

-- a seat served from b on is served from a later frame on
served_later : {p R S : ℕ → ℕ} {b c : ℕ} {q : QueueState} (b' : ℕ) → b ≤ b' → Served p R S b c q → Served p R S b' c q
served_later b' h v = record { below = λ f x y z. v.below f (omega arith) y z; above = λ f x y z. v.above f (omega arith) y z }

module _ {n L : ℕ} {C : Type 0} {K : Machine C} {p : ℕ → ℕ} {R : ℕ → ℕ → ℕ} {D : View C} where
  pub quiet_sound : Quiet n L K p R D → Sound n L K p R D
  quiet_sound q = mid_sound q.mid q.neat

  pub sound_quiet : Sound n L K p R D → ((s : ℕ) → s < n → (D.queue s).first_incorrect_count ≡ 0) → Quiet n L K p R D
  sound_quiet h e = record {
    floor = h.floor;
    mid = record {
      low = h.low;
      from = omega arith;
      wide = omega arith;
      store = λ s sn. (h.seat s sn).store;
      window = h.window;
    };
    neat = λ s sn. ⊎_elim (λ a. a) (λ a. absurd (omega (arith, a.first_incorrect_count, e s sn))) (h.seat s sn).kind;
  }

  pub lowest_going : (h : Sound n L K p R D) (m : ℕ) → Lowest n m D → Going L m h.floor D.current
  lowest_going h m l =
      ⊎_elim
      (λ a. absurd (omega (arith, a.right, l.first_incorrect_count)))
      (λ a.
      let e : a.m ≡ m = omega (arith, a.first_incorrect_count, l.first_incorrect_count) in
      record { past = omega (arith, a.past); near = omega (arith, a.near); kept = omega (arith, a.kept) })
      (h.seat l.who l.seat).kind

  pub loaded_mid : (h : Sound n L K p R D) (m : ℕ) (E : View C) → Lowest n m D → Loaded n m D E → Mid n L K p R (D.current - suc L) D.current h.floor E
  loaded_mid h m E l k =
      let g = lowest_going h m l in
      let e = k.current in
      record {
        low = omega (arith, g.kept);
        from = omega (arith, g.near);
        wide = omega arith;
        store = λ s sn. rw (k.queue s sn, k.at s sn) (reset_stored (h.seat s sn).store);
        window = record {
          chain = λ f x y.
              k.state (suc f) (omega arith) ∙ h.window.chain f x (omega (arith, g.past))
              ∙ ap₂ K.step (sym (k.state f (omega arith))) (row_same n (D.row f) (E.row f) (λ s sn. sym (k.row f s sn (omega arith))));
          base = k.state (D.current - suc L) (omega (arith, g.near)) ∙ h.window.base;
          held = λ f x y. k.holds f (omega arith) ∙ h.window.held f x (omega (arith, g.past));
        };
      }

  pub loaded_clean : (h : Sound n L K p R D) (m : ℕ) (E : View C) → Lowest n m D → Loaded n m D E → Cleans n p R (D.current - suc L) E
  loaded_clean h m E l k s sn =
      let g = lowest_going h m l in
      rw (k.current, k.queue s sn)
      (reset_clean (λ f. E.row f s) m (omega (arith, g.past)) (l.least s sn) (λ f x y. k.row f s sn y) (h.seat s sn).kind)

  -- confirming
  pub discarded_quiet : (g : ℕ) (E : View C) → Quiet n L K p R D → ((s : ℕ) → s < n → g ≤ (D.queue s).last_added_count) → g ≤ D.current → Discarded n g D E → Quiet n L K p R E
  discarded_quiet g E q room gc k =
      ⊎_elim
      (λ a. made q.floor (omega (arith, a.0)) (omega arith) q.mid.low (λ s sn. (q.mid.store s sn).floor))
      (λ a. made g (omega arith) (omega (arith, a.0)) gc room)
      (split_ltb g q.floor)
    where
      made : (B : ℕ) → g ≤ B → q.floor ≤ B → B ≤ D.current → ((s : ℕ) → s < n → B ≤ (D.queue s).last_added_count) → Quiet n L K p R E
      made B x y z v = record {
        floor = B;
        mid = record {
          low = omega (arith, k.current);
          from = omega arith;
          wide = omega arith;
          store = λ s sn. rw (k.current, k.queue s sn, k.at s sn) (discard_stored g B (q.mid.store s sn) x y (v s sn));
          window = record {
            chain = λ f a b. rw (k.state, k.row) (q.mid.window.chain f (omega (arith, k.current)) (omega (arith, k.current)));
            base = rw (k.state, k.current) q.mid.window.base;
            held = λ f a b. rw k.holds (q.mid.window.held f (omega (arith, k.current)) (omega (arith, k.current)));
          };
        };
        neat = λ s sn. rw (k.current, k.queue s sn, k.row) (discard_neat g (q.neat s sn));
      }

  -- before the frame of an advance that is not refused: the window moves on
  pub quiet_next : (q : Quiet n L K p R D) → ((s : ℕ) → s < n → D.current < (D.queue s).last_added_count + L)
      → Mid n L K p R (suc D.current - suc L) (suc D.current) q.floor D × Cleans n p R (suc D.current - suc L) D
  quiet_next q near = (
    record {
      low = q.mid.low;
      from = omega arith;
      wide = omega arith;
      store = λ s sn.
          let o = q.mid.store s sn in
          record { ring = o.ring; thrown = o.thrown; floor = o.floor; near = near s sn; ahead = o.ahead; at_is = o.at_is };
      window = record {
        chain = λ f x y. q.mid.window.chain f (omega arith) y;
        base = right_at q.mid.window (suc D.current - suc L) (omega arith) (omega arith) (λ g s sn x y.
            (q.neat s sn).served.below g x (omega arith) (omega (arith, near s sn)));
        held = λ f x y. q.mid.window.held f (omega arith) y;
      };
    },
    λ s sn.
        let c = neat_clean (q.neat s sn) in
        record { right = c.right; mode = c.mode; served = served_later (suc D.current - suc L) (omega arith) c.served },
  )

  pub settled_word : Sound n L K p R D → (f : ℕ) → SeatsSettled n L D f → (g s : ℕ) → s < n → D.current - suc L ≤ g → g ≤ f → D.row g s ≡ R s g
  settled_word h f t g s sn x y =
      ⊎_elim
      (λ a. a.served.below g x (omega (arith, t.past)) (omega (arith, t.known s sn)))
      (λ a. a.below g x (⊎_elim (λ o. absurd (omega (arith, o, a.first_incorrect_count))) (λ o. omega (arith, o, a.first_incorrect_count)) (t.right s sn)))
      (h.seat s sn).kind

  pub settled_row : Sound n L K p R D → (f : ℕ) → SeatsSettled n L D f → row_of n (D.row f) ≡ row_of n (λ s. R s f)
  settled_row h f t = row_same n (D.row f) (λ s. R s f) (λ s sn. settled_word h f t f s sn (omega (arith, t.slot)) (omega arith))

  pub settled_state : Sound n L K p R D → (f : ℕ) → SeatsSettled n L D f → K.step (D.state f) (row_of n (D.row f)) ≡ ref_state n K R (suc f)
  unfolding state_before
  settled_state h f t =
      ap₂ K.step
      (right_at h.window f (omega (arith, t.slot)) (omega (arith, t.past)) (λ g s sn x y. settled_word h f t g s sn x (omega arith)))
      (settled_row h f t)

  -- the end of a replay
  pub quiet_at : (c B : ℕ) → D.current ≡ c → Mid n L K p R (c - suc L) c B D → Neats n p R (c - suc L) D → Quiet n L K p R D
  quiet_at c B e m ne = record {
    floor = B;
    mid = subst (λ (x : ℕ). Mid n L K p R (x - suc L) x B D) (sym e) m;
    neat = subst (λ (x : ℕ). Neats n p R (x - suc L) D) (sym e) ne;
  }
