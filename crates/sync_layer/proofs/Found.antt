-- A saved frame is found again until limit + 1 later saves. Assumes nothing.
use Prim.Native.Nat.{ℕ, ◌+◌, ◌-◌, ◌*◌, ◌%◌, ◌/◌, ◌<◌, ◌≤◌}
use native.Mathlib.Omega.{arith}
use native.Mathlib.Nat.{mod-lt, add-mod_right, div-add-mod, mul-le-mul_left}
use mathlib.Core.Path.{◌≡◌, ap, sym, ◌∙◌}
use mathlib.Core.Logic.{◌≢◌, ⊎_elim}
use Prim.{absurd}
use mathlib.Core.List.{List, [], ◌∷◌}
use lib.ListN.{length, get_or}
use lib.IntN.{pos}
use borrow.Author.Tests.{eq-eqb, ne_eqb}
use Rattle.frame_info.proofs.Split.{split_eqb, split_ltb}
use Rattle.frame_info.specs.Refusal.{slot_holds_another}
use Rattle.console.specs.declared.Console.{Console}
use Rattle.sync_layer.specs.declared.LayerState.{LayerState}
use Rattle.sync_layer.specs.Slots.{max_limit, slot_words, served_from, slot_of, slot_at, state_in, save_slot}
use Rattle.sync_layer.specs.Calls as calls
use Rattle.sync_layer.specs.Whole.{SlotRoom}
use Rattle.sync_layer.specs.Runs as runs
use Rattle.sync_layer.specs.Runs.{Layer, WholeLayer, Call, advance_call, save_call, load_call, local_call, remote_call, delay_call, reset_call, request_call, confirm_call}
use Rattle.sync_layer.proofs.Rows.{row_same, row_other}
use Rattle.sync_layer.proofs.Kept.{save_long, after_same}

-- Frames and slots: two frames at most limit apart do not share a slot, and the frame limit + 1 later does.
slots_differ : (limit f g : ℕ) → f < g → g ≤ f + limit → f % (limit + 1) ≢ g % (limit + 1)
slots_differ limit f g p q e =
    ⊎_elim
    (λ a. omega (arith, div-add-mod f (limit + 1), div-add-mod g (limit + 1), mul-le-mul_left (limit + 1) a.0))
    (λ a. omega (arith, div-add-mod f (limit + 1), div-add-mod g (limit + 1), mul-le-mul_left (limit + 1) a.0))
    (split_ltb (f / (limit + 1)) (g / (limit + 1)))

module _ (limit : ℕ) (l : List ℕ) (near : limit ≤ max_limit) (room : SlotRoom l) (f : ℕ) (c : Console) where
  saved_row : (k : ℕ) → k < served_from → slot_at limit (save_slot limit l f c) f k ≡ get_or ((f + 1) ∷ c.head ∷ c.kind ∷ c.seal ∷ []) k 0
  unfolding save_slot
  saved_row k p =
      row_same served_from l (slot_of limit f) (λ k. get_or ((f + 1) ∷ c.head ∷ c.kind ∷ c.seal ∷ []) k 0) k 0 (omega (arith, mod-lt f {m = limit + 1} (omega arith))) p

  -- frame and state stand in the frame's slot
  pub saved_count : slot_at limit (save_slot limit l f c) f 0 ≡ f + 1
  saved_count = saved_row 0 (omega arith)

  pub saved_state : state_in limit (save_slot limit l f c) f ≡ c
  saved_state = rw (saved_row 1 (omega arith), saved_row 2 (omega arith), saved_row 3 (omega arith))

-- and every number of another slot stays
pub saved_other : (limit : ℕ) (l : List ℕ) (f g : ℕ) (c : Console) (k : ℕ) → f % (limit + 1) ≢ g % (limit + 1) → k < slot_words
    → slot_at limit (save_slot limit l g c) f k ≡ slot_at limit l f k
unfolding save_slot
saved_other limit l f g c k d p =
    row_other served_from l (slot_of limit g) (λ k. get_or ((g + 1) ∷ c.head ∷ c.kind ∷ c.seal ∷ []) k 0) (slot_of limit f + k) 0
    (λ m q e. ⊎_elim (λ a. omega (arith, a.0)) (λ a. omega (arith, a.0, d)) (split_ltb (f % (limit + 1)) (g % (limit + 1))))

-- Frame f's slot holds it, with this state.
record Stands (limit : ℕ) (l : List ℕ) (f : ℕ) (c : Console) : Type 0 where
  count : slot_at limit l f 0 ≡ f + 1
  state : state_in limit l f ≡ c

save_stands : (limit : ℕ) (l : List ℕ) (f : ℕ) (c : Console) → limit ≤ max_limit → SlotRoom l → Stands limit (save_slot limit l f c) f c
save_stands limit l f c near room = record { count = saved_count limit l near room f c; state = saved_state limit l near room f c }

-- a save of one of the limit frames after it
near_stands : (limit : ℕ) (l : List ℕ) (f g : ℕ) (c b : Console) → f < g → g ≤ f + limit → Stands limit l f c → Stands limit (save_slot limit l g b) f c
near_stands limit l f g c b p q s =
    let o : (k : ℕ) → k < slot_words → slot_at limit (save_slot limit l g b) f k ≡ slot_at limit l f k
    = λ k x. saved_other limit l f g b k (slots_differ limit f g p q) x in
    record {
      count = o 0 (omega arith) ∙ s.count;
      state = rw (o 1 (omega arith), o 2 (omega arith), o 3 (omega arith)) s.state;
    }

-- as the saved lookup tells it
stands_found : (y : LayerState) (l : List ℕ) (f : ℕ) (c : Console) → Stands y.max_prediction l f c → calls.saved_by y l (pos f) ≡ record { no = 0; state = c }
unfolding calls.saved_by calls.saved_refusal
stands_found y l f c s =
    let e : f + 1 - 1 ≡ f = omega arith in
    rw e (simp (ne_eqb (f + 1) 0 (λ z. omega arith), eq-eqb (slot_at y.max_prediction l f 0) (f + 1) s.count) (ap (λ (b : Console). record { no = 0; state = b }) s.state))

later_refused : (y : LayerState) (l : List ℕ) (f : ℕ) → f + 1 < slot_at y.max_prediction l f 0 → (calls.saved_by y l (pos f)).no ≡ slot_holds_another
unfolding calls.saved_by calls.saved_refusal
later_refused y l f p =
    let e : f + 1 - 1 ≡ f = omega arith in
    rw e (simp (ne_eqb (f + 1) 0 (λ z. omega arith), ne_eqb (slot_at y.max_prediction l f 0) (f + 1) (λ z. omega arith)))

-- Over the frames that follow
all_stands : (limit : ℕ) (cs : List Console) (l : List ℕ) (f g : ℕ) (c : Console) → f < g → g + length cs ≤ f + limit + 1 → Stands limit l f c
    → Stands limit (runs.save_all limit l g cs) f c
unfolding runs.save_all
all_stands limit [] l f g c p q s = s
all_stands limit (b ∷ cs) l f g c p q s =
    all_stands limit cs (save_slot limit l g b) f (g + 1) c (omega arith) (omega arith) (near_stands limit l f g c b p (omega arith) s)

-- a save of a later frame leaves a later frame in f's slot, and one of frame f + limit + 1 puts it there
module _ (limit : ℕ) (near : limit ≤ max_limit) (f : ℕ) where
  over_later : (l : List ℕ) (g : ℕ) (b : Console) → SlotRoom l → f < g → f % (limit + 1) ≡ g % (limit + 1) → f + 1 < slot_at limit (save_slot limit l g b) f 0
  over_later l g b room p e =
      let o : slot_at limit (save_slot limit l g b) f 0 ≡ g + 1
      = ap (λ (m : ℕ). get_or (save_slot limit l g b) (m * slot_words + 0) 0) e ∙ saved_count limit l near room g b in
      omega (arith, o)

  later_later : (l : List ℕ) (g : ℕ) (b : Console) → SlotRoom l → f < g → f + 1 < slot_at limit l f 0 → f + 1 < slot_at limit (save_slot limit l g b) f 0
  later_later l g b room p h =
      ⊎_elim
      (λ e. over_later l g b room p e.0)
      (λ e. rw (saved_other limit l f g b 0 e.0 (omega arith)) h)
      (split_eqb (f % (limit + 1)) (g % (limit + 1)))

  all_later : (cs : List Console) (l : List ℕ) (g : ℕ) → SlotRoom l → f < g → f + 1 < slot_at limit l f 0 → f + 1 < slot_at limit (runs.save_all limit l g cs) f 0
  unfolding runs.save_all
  all_later [] l g room p h = h
  all_later (b ∷ cs) l g room p h =
      all_later cs (save_slot limit l g b) (g + 1) (rw (save_long limit l g b) room) (omega arith) (later_later l g b room p h)

  all_over : (cs : List Console) (l : List ℕ) (g : ℕ) → SlotRoom l → f < g → g ≤ f + (limit + 1) → f + (limit + 1) < g + length cs
      → f + 1 < slot_at limit (runs.save_all limit l g cs) f 0
  unfolding runs.save_all
  all_over [] l g room p q r = absurd (omega arith)
  all_over (b ∷ cs) l g room p q r =
      let room' : SlotRoom (save_slot limit l g b) = rw (save_long limit l g b) room in
      ⊎_elim
      (λ e.
      all_later cs (save_slot limit l g b) (g + 1) room' (omega arith)
      (over_later l g b room p (sym (ap (λ (m : ℕ). m % (limit + 1)) e.0 ∙ add-mod_right f (limit + 1)))))
      (λ e. all_over cs (save_slot limit l g b) (g + 1) room' (omega arith) (omega (arith, e.0)) (omega arith))
      (split_eqb g (f + (limit + 1)))

-- THE CLAIM: a frame, saved and then followed by the frames after it, is found again with its state up to limit of them, and no more
-- from limit + 1 on.
module _ (y : LayerState) (l : List ℕ) (near : y.max_prediction ≤ max_limit) (room : SlotRoom l) (f : ℕ) (c : Console) (cs : List Console) where
  pub found_again : length cs ≤ y.max_prediction → calls.saved_by y (runs.save_all y.max_prediction l f (c ∷ cs)) (pos f) ≡ record { no = 0; state = c }
  unfolding runs.save_all
  found_again p =
      stands_found y (runs.save_all y.max_prediction (save_slot y.max_prediction l f c) (f + 1) cs) f c
      (all_stands y.max_prediction cs (save_slot y.max_prediction l f c) f (f + 1) c (omega arith) (omega arith) (save_stands y.max_prediction l f c near room))

  pub found_no_more : y.max_prediction < length cs → (calls.saved_by y (runs.save_all y.max_prediction l f (c ∷ cs)) (pos f)).no ≡ slot_holds_another
  unfolding runs.save_all
  found_no_more p =
      later_refused y (runs.save_all y.max_prediction (save_slot y.max_prediction l f c) (f + 1) cs) f
      (all_over y.max_prediction near f cs (save_slot y.max_prediction l f c) (f + 1) (rw (save_long y.max_prediction l f c) room) (omega arith) (omega arith) (omega arith))

-- And through any run of calls, loads and frames saved anew among them, whose saves are all of the limit frames after it.
after_stands : (y : Layer) (x : Call) (f : ℕ) (c : Console) → runs.SavesNear f y x → Stands y.state.max_prediction y.slots f c
    → Stands y.state.max_prediction (runs.after y x).slots f c
unfolding runs.after runs.SavesNear
after_stands y advance_call f c n s = s
after_stands y (save_call b) f c n s = near_stands y.state.max_prediction y.slots f y.state.current_frame c b n.0 n.1 s
after_stands y (load_call g) f c n s = s
after_stands y (local_call i x) f c n s = s
after_stands y (remote_call i x) f c n s = s
after_stands y (delay_call i d) f c n s = s
after_stands y reset_call f c n s = s
after_stands y (request_call gone last) f c n s = s
after_stands y (confirm_call g sparse) f c n s = s

run_stands : (y : Layer) (l : List Call) (f : ℕ) (c : Console) → runs.AllSavesNear f y l → Stands y.state.max_prediction y.slots f c
    → Stands (runs.run y l).state.max_prediction (runs.run y l).slots f c
unfolding runs.run runs.AllSavesNear
run_stands y [] f c n s = s
run_stands y (x ∷ l) f c n s =
    run_stands (runs.after y x) l f c n.1 (rw (after_same y x).limit (after_stands y x f c n.0 s))

-- THE CLAIM
pub run_found : (y : Layer) (c : Console) (l : List Call) → WholeLayer y → runs.AllSavesNear y.state.current_frame (runs.after y (save_call c)) l
    → calls.saved_by (runs.run y (save_call c ∷ l)).state (runs.run y (save_call c ∷ l)).slots (pos y.state.current_frame) ≡ record { no = 0; state = c }
unfolding runs.run runs.after
run_found y c l h n =
    let z = runs.after y (save_call c) in
    stands_found (runs.run z l).state (runs.run z l).slots y.state.current_frame c
    (run_stands z l y.state.current_frame c n (save_stands y.state.max_prediction y.slots y.state.current_frame c h.seated.ready.near h.deep))
