-- Settle and advance are made of the layer's calls, and none of these refuses. Assumes nothing.
use Prim.Native.Nat.{ℕ, zero, suc, ◌+◌, ◌-◌, ◌<◌, ◌≤◌, min}
use native.Mathlib.Omega.{arith}
use mathlib.Core.Path.{◌≡◌, refl, ap, ap₂, sym, ◌∙◌, subst, fun_ext}
use mathlib.Core.Logic.{inl, inr, ⊎_elim, ◌≢◌}
use mathlib.Core.List.{List}
use Prim.{absurd}
use mathlib.Core.Bool.{Bool, true, false}
use lib.Dec.{ltb, leb, eqb}
use lib.IntN.{ℤ}
use lib.ListN.{get_or, replicate, length-replicate}
use borrow.Author.Tests.{eq-eqb, ne_eqb, lt-ltb, le-ltb, lt-leb}
use Rattle.frame_info.proofs.Picked.{picked}
use Rattle.frame_info.proofs.Counts.{count_frame}
use Rattle.frame_info.specs.Choice.{pick}
use Rattle.frame_info.specs.Frame.{null_frame, last_count, max_delay, count_of, frame_of}
use Rattle.frame_info.specs.Word.{blank, player_input, predicted}
use Rattle.frame_info.proofs.Split.{split_eqb}
use Rattle.console.specs.declared.Console.{Console}
use Rattle.input_queue.specs.declared.QueueState.{QueueState}
use Rattle.input_queue.specs.Queue.{add, asked, discard}
use Rattle.input_queue.specs.Ring.{word_at, add_words}
use Rattle.input_queue.specs.Calls.{out_of_turn, overfull, add_refusal, add_input, input_words, input_refusal}
use Rattle.input_queue.proofs.Cases.{input_done}
use Rattle.sync_layer.specs.declared.LayerState.{LayerState}
use Rattle.sync_layer.specs.Answer.{Loaded, Advanced, Confirmed}
use Rattle.sync_layer.specs.Lists.{write_row, lowest_of, first_refusal}
use Rattle.sync_layer.specs.Seats.{max_seats, ring_of, set_seat, map_seats}
use Rattle.sync_layer.specs.Slots.{served_from, slot_of, slot_at, state_in, save_slot}
use Rattle.sync_layer.specs.Calls as layer
use Rattle.sync_layer.specs.Runs as layers
use Rattle.sync_layer.proofs.Rows as rows
use Rattle.desk.specs.Lists.{row_of}
use Rattle.desk.specs.Desk.{Desk, with_seats, queue_of, known_of, mismatch_of, load, reset_all, discard_all, confirm, serve, one_frame, replay, corrected, settle, take_answer, taken, take, advance_answer, advance}
use Rattle.desk.specs.Settled.{is_settled}
use Rattle.desk.specs.Line.{line_length}
use Rattle.desk.specs.Calls.{show_answer, log_answer}
use Rattle.desk.specs.Runs.{Call, take_call, settle_call, advance_call, show_call, log_call, after}
use Rattle.desk.specs.Whole.{Whole}
use Rattle.desk.proofs.Kept.{corrected_whole, Accepts, take_accepts}
use Rattle.desk.proofs.Guessing.{after_predictor}
use Rattle.agreement.specs.Tried.{Driven, desk_of, Tried, said, onward, nobody, no_frame, word_served, tried_input, tried_take, tried_load, resetting, saving, tried_request, with_words, calling, tried_count, tried_confirm, tried_frame, tried_replay, tried_corrected, tried_settle, tried_advance, stepping, answer_of, ComesTo}
use Rattle.agreement.specs.Statement.{Other}
use Rattle.agreement.proofs.Seat.{neat_clean}
use Rattle.agreement.proofs.Sound.{row_same, Sound, Mid, Cleans, Quiet, framed_mid, framed_neat, lowest_going, loaded_mid, loaded_clean, quiet_next}
use Rattle.agreement.proofs.Sound as sound
use Rattle.agreement.proofs.Flat.{least_le, lowest_who, row_agree}
use Rattle.agreement.proofs.Steps.{view_of, Shape, frame_shape, framed_at, back_to, back_shape, back_loaded, lowest-of, corrected_done, settle_done, allowed, settled_near}

pub first_none : (n : ℕ) (g : ℕ → ℕ) → ((s : ℕ) → s < n → g s ≡ 0) → first_refusal n g ≡ 0
unfolding first_refusal
first_none zero g h = refl
first_none (suc n) g h = simp (eq-eqb _ _ (first_none n g (λ s x. h s (omega arith)))) (h n (omega arith))

pub lowest_zero : (n : ℕ) (g : ℕ → ℕ) → ((s : ℕ) → s < n → g s ≡ 0) → lowest_of n g ≡ 0
lowest_zero n g h =
    ⊎_elim
    (λ a. a.0)
    (λ a. let k = lowest_who n g a.0 in absurd (a.0 (sym k.2 ∙ h k.0 k.1)))
    (split_eqb (lowest_of n g) 0)

-- The layer's calls, one by one ---------------------------------------------------------------------------------------------------

onward_is : (r : Tried) (k : Driven → Tried) → r.number ≡ 0 → onward r k ≡ k r.left
onward_is r k e = simp (eq-eqb _ _ e)

-- go on
onward_done : {n : ℕ} {d e : Desk} (r : Tried) (k : Driven → Tried) → ComesTo 0 d r → ((z : Driven) → desk_of z ≡ d → ComesTo n e (k z)) → ComesTo n e (onward r k)
onward_done {n} {d} {e} r k h next = subst (ComesTo n e) (sym (onward_is r k h.number)) (next r.left h.desk)

pick_yes : {n : ℕ} {d : Desk} (t : Bool) (a b : Tried) → t ≡ true → ComesTo n d a → ComesTo n d (pick t a b)
pick_yes {n} {d} t a b e h = subst (λ (x : Bool). ComesTo n d (pick x a b)) (sym e) h

pick_no : {n : ℕ} {d : Desk} (t : Bool) (a b : Tried) → t ≡ false → ComesTo n d b → ComesTo n d (pick t a b)
pick_no {n} {d} t a b e h = subst (λ (x : Bool). ComesTo n d (pick x a b)) (sym e) h

-- take
in_turn : (q : QueueState) (c : ℕ) → 1 ≤ c → c - 1 ≡ q.last_user_count → out_of_turn q c ≡ false
in_turn q c h e =
    ⊎_elim
    (λ a. simp a.1)
    (λ a. let k : q.last_user_count + 1 ≡ c = omega arith in simp (a.1, eq-eqb _ _ k))
    (split_eqb q.last_user_count 0)

module _ (z : Driven) (s : ℕ) (f : ℤ) (w : ℕ) (h : Accepts (desk_of z) s (count_of f)) where
  abbrev seat : QueueState
  seat = queue_of (desk_of z) s

  add_allowed : add_refusal seat (count_of f) ≡ 0
  unfolding add_refusal
  add_allowed =
      let c : count_of f ≢ 0 = λ e. omega (arith, h.some) in
      simp (ne_eqb _ _ c, le-ltb _ _ h.low, in_turn seat (count_of f) h.some h.next, h.fits)

  remote_allowed : layer.remote_refusal z.layer.state z.layer.seats s (count_of f) ≡ 0
  unfolding layer.remote_refusal
  remote_allowed = simp (lt-ltb _ _ h.here) add_allowed

  input_number : (layer.remote z.layer.state z.layer.seats z.layer.words s (player_input f w)).no ≡ 0
  unfolding layer.remote
  input_number = simp (eq-eqb _ _ remote_allowed)

  input_seats : layer.remote_seats z.layer.state z.layer.seats z.layer.words s (player_input f w)
      ≡ set_seat z.layer.seats s (add (word_at z.layer.words (ring_of s)) seat (count_of f - 1) w)
  unfolding layer.remote_seats add_input
  input_seats = simp (eq-eqb _ _ remote_allowed, eq-eqb _ _ add_allowed)

  input-words : layer.remote_words z.layer.state z.layer.seats z.layer.words s (player_input f w) ≡ add_words z.layer.words (ring_of s) seat (count_of f - 1) w
  unfolding layer.remote_words input_words
  input-words = simp (eq-eqb _ _ remote_allowed, eq-eqb _ _ add_allowed)

  take_done : ComesTo 0 (taken (desk_of z) s (count_of f - 1) w) (tried_input s f w z)
  unfolding tried_input taken layers.after
  take_done =
      record {
        number = input_number;
        desk = λ i. record { state = (desk_of z).state; seats = input_seats i; words = input-words i; slots = z.layer.slots };
      }

pub take_never : (z : Driven) (s : ℕ) (f : ℤ) (w : ℕ) → ComesTo (take_answer (desk_of z) s (count_of f)) (take (desk_of z) s (count_of f) w) (tried_take s f w z)
unfolding tried_take take
take_never z s f w =
    ⊎_elim
    (λ a. simp a.0 (take_done z s f w (take_accepts (desk_of z) s (count_of f) a.0)))
    (λ a. simp a.1 (record { number = refl; desk = refl }))
    (split_eqb (take_answer (desk_of z) s (count_of f)) 0)

-- load
loaded_at : (y : LayerState) (l : List ℕ) (f : ℤ) (c : ℕ) → count_of f ≡ c → layer.load_refusal y l c ≡ 0
    → layer.loaded y l f ≡ record { no = 0; state = state_in y.max_prediction l (c - 1); layer = layer.with_current y (c - 1) }
unfolding layer.loaded
loaded_at y l f c e z = simp (e, eq-eqb _ _ z)

load_allowed : (y : LayerState) (l : List ℕ) (c : ℕ) → c ≢ 0 → c ≤ y.current_frame → y.current_frame < c + y.max_prediction
    → slot_at y.max_prediction l (c - 1) 0 ≡ c → layer.load_refusal y l c ≡ 0
unfolding layer.load_refusal
load_allowed y l c z x w e = simp (ne_eqb _ _ z, le-ltb _ _ x, lt-leb _ _ w, eq-eqb _ _ e)

load_done : (z : Driven) (f : ℤ) (c : ℕ) → count_of f ≡ c → layer.load_refusal z.layer.state z.layer.slots c ≡ 0 → ComesTo 0 (load (desk_of z) (c - 1)) (tried_load f z)
unfolding tried_load load layers.after
load_done z f c e o =
    let k = loaded_at z.layer.state z.layer.slots f c e o in
    record {
      number = ap (λ (r : Loaded). r.no) k;
      desk = ap (λ (r : Loaded). desk_of (record { layer = layers.with_state z.layer r.layer; console = r.state })) k;
    }

-- reset
reset_done : (z : Driven) → desk_of (resetting z) ≡ reset_all (desk_of z)
unfolding resetting reset_all layers.after
reset_done z = refl

-- requests: nobody is gone
no_one : (n i : ℕ) → get_or (replicate n false) i false ≡ false
no_one zero i = refl
no_one (suc n) zero = refl
no_one (suc n) (suc i) = no_one n i

-- what it takes to serve a frame
record Serves (d : Desk) : Type 0 where
  few : d.state.seats ≤ max_seats
  asks : (s : ℕ) → s < d.state.seats → input_refusal (queue_of d s) (d.state.current + 1) ≡ 0
  early : d.state.current + 1 < last_count

module _ (z : Driven) (h : Serves (desk_of z)) where
  abbrev y : LayerState
  y = z.layer.state

  abbrev n : ℕ
  n = z.layer.state.num_players

  request_done : layer.request_refusal y z.layer.seats (nobody z) (no_frame z) ≡ 0
  unfolding layer.request_refusal
  request_done =
      simp (eq-eqb _ _ (length-replicate n false), eq-eqb _ _ (length-replicate n null_frame))
      (first_none n (layer.ask_refusal y z.layer.seats (nobody z) (no_frame z)) (λ s x. simp (no_one n s) (h.asks s x)))

  seats_served : layer.served_seats y z.layer.seats z.layer.words (nobody z) (no_frame z)
      ≡ map_seats n (λ s q. asked (predicted y.predictor) (word_at z.layer.words (ring_of s)) q y.current_frame) z.layer.seats
  unfolding layer.served_seats
  seats_served =
      simp (eq-eqb _ _ request_done)
      (ap (λ (g : ℕ → QueueState → QueueState). map_seats n g z.layer.seats) (fun_ext (λ s. fun_ext (λ q. simp (no_one n s)))))

  word-served : (step : Console → List ℕ → Console) (s : ℕ) → s < n → word_served z s ≡ serve step (predicted y.predictor) (desk_of z) s
  unfolding layer.served_words
  word-served step s x =
      let w = layer.served_word y z.layer.seats z.layer.words (nobody z) (no_frame z) in
      let e : 0 + s ≡ s = omega arith in
      let k : get_or (write_row n (replicate max_seats blank) 0 w) s blank ≡ w s = rw e at (rows.row_same n (replicate max_seats blank) 0 w s blank (omega (arith, length-replicate max_seats blank, h.few)) x) in
      simp (eq-eqb _ _ request_done) (k ∙ simp (no_one n s))

-- the count of frames
advanced_at : (y : LayerState) → y.current_frame + 1 < last_count → layer.advanced y ≡ record { no = 0; layer = layer.with_current y (y.current_frame + 1) }
unfolding layer.advanced
advanced_at y h = simp (lt-ltb _ _ h)

-- One frame -----------------------------------------------------------------------------------------------------------------------

module _ (step : Console → List ℕ → Console) where
  frame_own : (z : Driven) → Serves (desk_of z) → ComesTo 0 (one_frame step (predicted (desk_of z).state.predictor) (desk_of z)) (tried_frame step z)
  unfolding tried_frame one_frame tried_request tried_count saving layers.after
  frame_own z h =
      let s = saving z in
      let h' : Serves (desk_of s) = record { few = h.few; asks = h.asks; early = h.early } in
      let n = z.layer.state.num_players in
      let p = predicted z.layer.state.predictor in
      let f = z.layer.state.current_frame in
      let limit = z.layer.state.max_prediction in
      let k = advanced_at s.layer.state h.early in
      let w : (t : ℕ) → t < n → word_served s t ≡ serve step p (desk_of z) t = word-served s h' step in
      let queues = seats_served s h' in
      let row = row_same n (word_served s) (serve step p (desk_of z)) w in
      let slots = row_agree n (save_slot limit z.layer.slots f z.console) (slot_of limit f + served_from) (word_served s) (serve step p (desk_of z)) w in
      let e : Desk = desk_of (stepping step (with_words (calling s (layers.request_call (nobody s) (no_frame s)) s.console) (word_served s)) (row_of n (word_served s))) in
      subst (ComesTo 0 (one_frame step p (desk_of z)))
      (sym (onward_is (tried_request s) (λ r. tried_count (stepping step (with_words r (word_served s)) (row_of n (word_served s)))) (request_done s h')))
      (record {
        number = ap (λ (r : Advanced). r.no) k;
        desk =
            ap (λ (r : Advanced). record {
              state = record {
                seats = r.layer.num_players;
                limit = r.layer.max_prediction;
                predictor = r.layer.predictor;
                current = r.layer.current_frame;
                console = e.state.console;
              };
              seats = e.seats;
              words = e.words;
              slots = e.slots;
            }) k
            ∙ (λ i. record {
              state = record {
                seats = n;
                limit = limit;
                predictor = z.layer.state.predictor;
                current = f + 1;
                console = step z.console (row i);
              };
              seats = queues i;
              words = z.layer.words;
              slots = slots i;
            });
      })

  frame_at : (j : ℕ) (z : Driven) (d : Desk) → desk_of z ≡ d → d.state.predictor ≡ j → Serves d → ComesTo 0 (one_frame step (predicted j) d) (tried_frame step z)
  frame_at j z d e g h =
      subst (λ (k : ℕ). ComesTo 0 (one_frame step (predicted k) d) (tried_frame step z)) g
      (subst (λ (x : Desk). Serves x → ComesTo 0 (one_frame step (predicted x.state.predictor) x) (tried_frame step z)) e (frame_own z) h)

-- Confirm -------------------------------------------------------------------------------------------------------------------------

confirmed_at : (y : LayerState) (l : List ℕ) (f : ℤ) (c : ℕ) → count_of f ≡ c → c ≢ 0 → layer.mismatch_of y l ≡ 0
    → layer.confirmed y l f false ≡ record { no = 0; layer = layer.with_confirmed y (layer.confirm_cap y c false) }
unfolding layer.confirmed layer.cap_refusal
confirmed_at y l f c e z m = simp (e, ne_eqb _ _ z, eq-eqb _ _ m)

seats_confirmed : (y : LayerState) (l : List ℕ) (f : ℤ) (c : ℕ) → count_of f ≡ c → c ≢ 0 → layer.mismatch_of y l ≡ 0
    → layer.confirmed_seats y l f false ≡ layer.discard_below y (layer.confirm_cap y c false - 1) l
unfolding layer.confirmed_seats layer.cap_refusal
seats_confirmed y l f c e z m = simp (e, ne_eqb _ _ z, eq-eqb _ _ m)

-- the frame that is confirmed: the lower of K and the current one
abbrev sure_of : Desk → ℕ
sure_of d = min (known_of d - 1) d.state.current

abbrev discarding : Desk → List ℕ
discarding d = pick (eqb (sure_of d) 0) d.seats (map_seats d.state.seats (λ s q. discard q (sure_of d - 1)) d.seats)

confirm_is : (d : Desk) → known_of d ≢ 0 → with_seats d (discarding d) ≡ confirm d
unfolding confirm discard_all
confirm_is d z = ⊎_elim (λ a. simp (ne_eqb _ _ z, a.1)) (λ a. simp (ne_eqb _ _ z, a.1)) (split_eqb (sure_of d) 0)

discards : (y : LayerState) (g : ℕ) (l : List ℕ) → layer.discard_below y g l ≡ pick (eqb g 0) l (map_seats y.num_players (λ s q. discard q (g - 1)) l)
discards y g l =
    ⊎_elim
    (λ a. simp (a.1, le-ltb 0 g (omega (arith, a.0))))
    (λ a. simp (a.1, lt-ltb 0 g (omega (arith, a.0))))
    (split_eqb g 0)

confirm_none : (z : Driven) → known_of (desk_of z) ≡ 0 → ComesTo 0 (confirm (desk_of z)) (tried_confirm z)
unfolding tried_confirm confirm
confirm_none z e = simp (eq-eqb _ _ e) (record { number = refl; desk = refl })

confirm_some : (z : Driven) → known_of (desk_of z) ≢ 0 → mismatch_of (desk_of z) ≡ 0 → known_of (desk_of z) ≤ last_count + max_delay → ComesTo 0 (confirm (desk_of z)) (tried_confirm z)
unfolding tried_confirm layers.after
confirm_some z k m few =
    let d = desk_of z in
    let y = z.layer.state in
    let f = frame_of (known_of d) in
    let c : count_of f ≡ known_of d = count_frame (known_of d) (omega arith) in
    let o = confirmed_at y z.layer.seats f (known_of d) c k m in
    let cap : layer.confirm_cap y (known_of d) false - 1 ≡ sure_of d = omega (arith, k) in
    let l : layer.confirmed_seats y z.layer.seats f false ≡ discarding d = seats_confirmed y z.layer.seats f (known_of d) c k m ∙ ap (λ (x : ℕ). layer.discard_below y x z.layer.seats) cap ∙ discards y (sure_of d) z.layer.seats in
    let r : ComesTo 0 (confirm d) (said (layer.confirmed y z.layer.seats f false).no (calling z (layers.confirm_call f false) z.console)) = record {
      number = ap (λ (x : Confirmed). x.no) o;
      desk =
          ap₂ (λ (x : Confirmed) (q : List ℕ). desk_of (record {
            layer = record { state = x.layer; seats = q; words = z.layer.words; slots = z.layer.slots };
            console = z.console;
          })) o l
          ∙ confirm_is d k;
    } in
    pick_no (eqb (known_of d) 0) (said 0 z) (said (layer.confirmed y z.layer.seats f false).no (calling z (layers.confirm_call f false) z.console)) (ne_eqb _ _ k) r

confirm_own : (z : Driven) → mismatch_of (desk_of z) ≡ 0 → known_of (desk_of z) ≤ last_count + max_delay → ComesTo 0 (confirm (desk_of z)) (tried_confirm z)
confirm_own z m few = ⊎_elim (λ a. confirm_none z a.0) (λ a. confirm_some z a.0 m few) (split_eqb (known_of (desk_of z)) 0)

confirm_at : (z : Driven) (d : Desk) → desk_of z ≡ d → mismatch_of d ≡ 0 → known_of d ≤ last_count + max_delay → ComesTo 0 (confirm d) (tried_confirm z)
confirm_at z d e m few = subst (λ (x : Desk). mismatch_of x ≡ 0 → known_of x ≤ last_count + max_delay → ComesTo 0 (confirm x) (tried_confirm z)) e (confirm_own z) m few

-- Replay, settle, advance ---------------------------------------------------------------------------------------------------------

frame_predictor : (step : Console → List ℕ → Console) (p : ℕ → ℕ) (d : Desk) → (one_frame step p d).state.predictor ≡ d.state.predictor
unfolding one_frame
frame_predictor step p d = refl

back_predictor : (d : Desk) (f : ℕ) → (back_to d f).state.predictor ≡ d.state.predictor
unfolding reset_all load
back_predictor d f = refl

settled_predictor : (step : Console → List ℕ → Console) (p : ℕ → ℕ) (d : Desk) → (settle step p d).state.predictor ≡ d.state.predictor
unfolding after
settled_predictor step p d = after_predictor step p d settle_call

-- K is within the range of frames
known_few : (d : Desk) → Whole d → known_of d ≤ last_count + max_delay
known_few d h = omega (arith, least_le (d.state.seats - 1) (λ s. (queue_of d s).last_added_count) 0 (omega arith), (h.seated.seat 0 h.seated.ready.one).sane.few)

module _ (step : Console → List ℕ → Console) (p : ℕ → ℕ) where
  corrected_still : (d : Desk) → mismatch_of d ≡ 0 → corrected step p d ≡ d
  unfolding corrected
  corrected_still d e = simp (eq-eqb _ _ e)

  corrected_back : (d : Desk) → mismatch_of d ≢ 0 → corrected step p d ≡ replay step p (d.state.current - (mismatch_of d - 1)) (back_to d (mismatch_of d - 1))
  unfolding corrected
  corrected_back d e = simp (ne_eqb _ _ e)

load_current : (d : Desk) (f : ℕ) → (load d f).state.current ≡ f
unfolding load
load_current d f = refl

pub quiet_none : (step : Console → List ℕ → Console) (p : ℕ → ℕ) (n L : ℕ) {R : ℕ → ℕ → ℕ} (d : Desk) → Shape n L d → Quiet n L (sound.stepping step) p R (view_of d) → mismatch_of d ≡ 0
quiet_none step p n L d s q = lowest_zero d.state.seats (λ t. (queue_of d t).first_incorrect_count) (λ t h. (q.neat t (omega (arith, s.seats))).right)

module _ (step : Console → List ℕ → Console) (j n L : ℕ) where
  abbrev p : ℕ → ℕ
  p = predicted j

  module _ {R : ℕ → ℕ → ℕ} where
    module _ {b T B : ℕ} where
      serves : (d : Desk) → Shape n L d → Mid n L (sound.stepping step) p R b T B (view_of d) → Cleans n p R b (view_of d) → d.state.current + 1 < last_count → Serves d
      serves d s m c early =
          record {
            few = omega (arith, s.seats, s.few);
            asks = λ t h.
                let tn : t < n = omega (arith, s.seats) in
                sym (input_done (queue_of d t) (d.state.current + 1) (λ o. omega arith) (c t tn).right (omega (arith, m.low, (m.store t tn).thrown)));
            early = early;
          }

      tried-replay : (k : ℕ) (z : Driven) (d : Desk) → desk_of z ≡ d → d.state.predictor ≡ j → Shape n L d → Mid n L (sound.stepping step) p R b T B (view_of d) → Cleans n p R b (view_of d)
          → d.state.current + k ≤ T → T < last_count → ComesTo 0 (replay step p k d) (tried_replay step k z)
      unfolding tried_replay replay
      tried-replay zero z d e g s m c h early = record { number = refl; desk = e }
      tried-replay (suc k) z d e g s m c h early =
          let f = framed_at step p n L d s in
          let lt : d.state.current < T = omega arith in
          onward_done (tried_frame step z) (tried_replay step k) (frame_at step j z d e g (serves d s m c (omega arith)))
          (λ z' e'. tried-replay k z' (one_frame step p d) e' (frame_predictor step p d ∙ g) (frame_shape step p d s) (framed_mid m lt f) (λ t x. neat_clean (framed_neat m c lt f t x)) (omega (arith, f.current)) early)

    module _ (z : Driven) (g : (desk_of z).state.predictor ≡ j) (w : Whole (desk_of z)) (s : Shape n L (desk_of z)) (h : Sound n L (sound.stepping step) p R (view_of (desk_of z))) where
      abbrev d : Desk
      d = desk_of z

      -- the lowest mismatch, as the layer says it
      abbrev lowest : ℤ
      lowest = frame_of (mismatch_of d)

      abbrev again : Driven → Tried
      again b = tried_replay step (d.state.current - b.layer.state.current_frame) (resetting b)

      still : mismatch_of d ≡ 0 → ComesTo 0 (corrected step p d) (tried_corrected step z)
      unfolding tried_corrected
      still a =
          let c : count_of lowest ≡ 0 = count_frame (mismatch_of d) (omega arith) ∙ a in
          pick_yes (eqb (count_of lowest) 0) (said 0 z) (onward (tried_load lowest z) again) (eq-eqb _ _ c) (record { number = refl; desk = sym (corrected_still step p d a) })

      back : mismatch_of d ≢ 0 → ComesTo 0 (corrected step p d) (tried_corrected step z)
      unfolding tried_corrected
      back a =
          let m = mismatch_of d - 1 in
          let low = lowest-of step p n L d s a in
          let k = lowest_going h m low in
          let early = w.seated.ready.early in
          let ld = back_loaded step p n L d m s k.past in
          let held : slot_at d.state.limit d.slots m 0 ≡ mismatch_of d = omega (arith, h.window.held m (omega (arith, k.near)) k.past, a) in
          let c : count_of lowest ≡ mismatch_of d = count_frame (mismatch_of d) (omega (arith, k.past, early)) in
          let o = load_allowed z.layer.state z.layer.slots (mismatch_of d) a (omega (arith, k.past)) (omega (arith, k.near, s.limit, a)) held in
          let next : (b : Driven) → desk_of b ≡ load d m → ComesTo 0 (replay step p (d.state.current - m) (back_to d m)) (again b) = λ b e.
          let at : b.layer.state.current_frame ≡ m = ap (λ (x : Desk). x.state.current) e ∙ load_current d m in
          subst (λ (x : ℕ). ComesTo 0 (replay step p (d.state.current - m) (back_to d m)) (tried_replay step (d.state.current - x) (resetting b))) (sym at)
          (tried-replay (d.state.current - m) (resetting b) (back_to d m) (reset_done b ∙ ap reset_all e) (back_predictor d m ∙ g) (back_shape step p n L d m s) (loaded_mid h m (view_of (back_to d m)) low ld) (loaded_clean h m (view_of (back_to d m)) low ld) (omega (arith, ld.current, k.past)) early)
          in
          pick_no (eqb (count_of lowest) 0) (said 0 z) (onward (tried_load lowest z) again) (ne_eqb _ _ (λ q. a (sym c ∙ q)))
          (subst (λ (x : Desk). ComesTo 0 x (onward (tried_load lowest z) again)) (sym (corrected_back step p d a))
          (onward_done (tried_load lowest z) again (load_done z lowest (mismatch_of d) c o) next))

      -- a settle that is made of the layer's calls is the settle
      pub settle_never : ComesTo 0 (settle step p d) (tried_settle step z)
      unfolding tried_settle settle
      settle_never =
          let c = corrected step p d in
          let k = corrected_done step p n L d s h in
          onward_done (tried_corrected step z) tried_confirm
          (⊎_elim (λ a. still a.0) (λ a. back a.0) (split_eqb (mismatch_of d) 0))
          (λ z' e. confirm_at z' c e (quiet_none step p n L c k.shape k.quiet) (known_few c (corrected_whole step p d w)))

      -- and so is an advance, but for its own 5 and 6
      moves : advance_answer d ≡ 0 → ComesTo (advance_answer d) (one_frame step p (settle step p d)) (onward (tried_settle step z) (tried_frame step))
      moves a =
          let e = settle step p d in
          let r = settle_done step p n L d s h in
          let l = allowed d a in
          let k = quiet_next r.quiet (λ t x. omega (arith, settled_near step p n L R d s l t x, r.current, (r.kept t x).last_added_count)) in
          subst (λ (x : ℕ). ComesTo x (one_frame step p e) (onward (tried_settle step z) (tried_frame step))) (sym a)
          (onward_done (tried_settle step z) (tried_frame step) settle_never
          (λ z' q. frame_at step j z' e q (settled_predictor step p d ∙ g) (serves e r.shape k.0 k.1 (omega (arith, r.current, l.early)))))

      pub advance_never : ComesTo (advance_answer d) (advance step p d) (tried_advance step z)
      unfolding tried_advance advance
      advance_never =
          ⊎_elim
          (λ a. simp a.1 (moves a.0))
          (λ a. simp a.1 (record { number = refl; desk = refl }))
          (split_eqb (advance_answer d) 0)

-- what a call answers of itself is none of 8 to 15
other_show : (d : Desk) (n : ℕ) → Other (show_answer d n)
unfolding show_answer
other_show d n = picked Other (eqb n 0) _ _ (inl (omega arith)) (picked Other (is_settled d (n - 1)) _ _ (inl (omega arith)) (inr (omega arith)))

pub call_other : (d : Desk) (x : Call) → Other (answer_of d x)
unfolding answer_of take_answer advance_answer log_answer
call_other d (take_call s f w) =
    picked Other (leb d.state.seats s) _ _ (inl (omega arith))
    (picked Other (eqb (count_of f) 0) _ _ (inl (omega arith))
    (picked Other (ltb last_count (count_of f)) _ _ (inl (omega arith))
    (picked Other (eqb (count_of f - 1) (queue_of d s).last_user_count) _ _ (picked Other (overfull (queue_of d s) (count_of f - 1)) _ _ (inl (omega arith)) (inl (omega arith))) (inl (omega arith)))))
call_other d settle_call = inl (omega arith)
call_other d advance_call =
    picked Other (leb last_count (d.state.current + 1)) _ _ (inl (omega arith))
    (picked Other (ltb (d.state.limit + known_of d) (d.state.current + 1)) _ _ (inl (omega arith)) (inl (omega arith)))
call_other d (show_call f) = other_show d (count_of f)
call_other d (log_call f room) =
    picked Other (eqb (show_answer d (count_of f)) 0) _ _
    (picked Other (ltb room (line_length d.state.seats)) _ _ (inr (omega arith)) (inl (omega arith)))
    (other_show d (count_of f))
