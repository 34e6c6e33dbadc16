-- Frames served and replayed, a settle and an advance, as the code makes them. Assumes nothing.
use Prim.Native.Nat.{ℕ, zero, suc, ◌+◌, ◌-◌, ◌*◌, ◌<◌, ◌≤◌, min}
use native.Mathlib.Omega.{arith}
use native.Mathlib.Numerals.{add-one}
use mathlib.Core.Path.{◌≡◌, refl, sym, ap, ap₂, ◌∙◌, subst}
use mathlib.Core.Logic.{⊎_elim}
use mathlib.Core.List.{List, []}
use lib.ListN.{length, get_or, set, length-set}
use lib.ListN as lists
use borrow.Author.Tests.{eq-eqb, ne_eqb}
use Rattle.frame_info.proofs.Split.{split_eqb}
use Rattle.frame_info.specs.Frame.{last_count}
use Rattle.frame_info.specs.Word.{predicted}
use Rattle.console.specs.declared.Console.{Console}
use Rattle.console.specs.Step.{step_of}
use Rattle.input_queue.specs.declared.QueueState.{QueueState}
use Rattle.input_queue.specs.declared.Asked.{Asked}
use Rattle.input_queue.specs.Queue.{asking, asked, answer, confirms, reset}
use Rattle.input_queue.specs.Ring.{word_at}
use Rattle.sync_layer.specs.Lists.{write_row, lowest_of}
use Rattle.sync_layer.specs.Seats.{ring_of, seat_at, set_seat, map_seats}
use Rattle.sync_layer.specs.Slots.{slot_of, save_slot}
use Rattle.sync_layer.specs.Calls.{status_of}
use Rattle.sync_layer.specs.Whole.{WordRoom, Places}
use Rattle.sync_layer.proofs.Rows.{row_long, row_same}
use Rattle.sync_layer.proofs.Seating.{seat_long, map_past}
use Rattle.desk.specs.declared.DeskState.{DeskState}
use Rattle.desk.specs.declared.Report.{Report}
use Rattle.desk.specs.Lists.{row_of}
use Rattle.desk.specs.Desk.{Desk, desk_of, known_of, mismatch_of, load, reset_all, discard_all, confirm, advance_answer, one_frame, replay, corrected, settle, advance}
use Rattle.desk.specs.Calls as calls
use Rattle.desk.specs.Whole.{Seated, Whole}
use Rattle.desk.proofs.Loops.{row_eq, part_row}
use Rattle.sync_layer.proofs.Kept.{save_long}
use Rattle.desk.proofs.Kept.{mismatch_past, back_whole, confirm_state, frame_whole, frame_current, corrected_whole, corrected_current, settle_whole}

-- Every seat asked so far -------------------------------------------------------------------------------------------------------

-- k is the predictor and c the current frame
abbrev pub ask_seat : ℕ → ℕ → List ℕ → ℕ → QueueState → QueueState
ask_seat k c w i q = asked (predicted k) (word_at w (ring_of i)) q c

abbrev pub answer_at : ℕ → ℕ → List ℕ → List ℕ → ℕ → ℕ
answer_at k c l w i = answer (predicted k) (word_at w (ring_of i)) (seat_at l i) c

abbrev answer_seat : DeskState → List ℕ → List ℕ → ℕ → ℕ
answer_seat y l w = answer_at y.predictor y.current l w

pub record Serving (n k c : ℕ) (l₀ w m₀ : List ℕ) (from : ℕ) (l m : List ℕ) (i : ℕ) : Type 0 where
  pub upto : i ≤ n
  pub seats : l ≡ map_seats i (ask_seat k c w) l₀
  pub slots : m ≡ write_row i m₀ from (answer_at k c l₀ w)
  pub long : length l ≡ length l₀
  pub long_slots : length m ≡ length m₀

module _ (n k c : ℕ) (l₀ w m₀ : List ℕ) (from : ℕ) where
  pub serving_start : Serving n k c l₀ w m₀ from l₀ m₀ 0
  unfolding map_seats write_row
  serving_start = record { upto = omega arith; seats = refl; slots = refl; long = refl; long_slots = refl }

  module _ (l m : List ℕ) (i : ℕ) (v : Serving n k c l₀ w m₀ from l m i) where
    stands : seat_at l i ≡ seat_at l₀ i
    stands = rw v.seats (map_past (ask_seat k c w) i l₀ i (omega arith))

    pub serving_places : (y : DeskState) → i < y.seats → Seated y l₀ → WordRoom w → Places l w i
    serving_places y p h r =
        record {
          room = omega (arith, v.long, h.ready.few, h.room);
          whole = rw stands (record { room = omega (arith, h.ready.few); numbers = (h.seat i p).sane });
        }

    pub serving_reach : i < n → n ≤ 4 → from + 4 ≤ length m₀ → from + i < length m
    serving_reach p h r = omega (arith, v.long_slots)

    module _ (a : Asked) (b : a ≡ asking (predicted k) (word_at w (ring_of i)) (seat_at l i) (c + 1 - 1)) where
      -- a request takes the frame as a count
      stood : a ≡ asking (predicted k) (word_at w (ring_of i)) (seat_at l₀ i) c
      stood = let e : c + 1 - 1 ≡ c = omega arith in rw (e, stands) at b

      pub serving_word : a.word ≡ answer_at k c l₀ w i
      serving_word = ap (λ (x : Asked). x.word) stood

      pub serving_status : (u : ℕ) → u ≡ status_of a.confirmed → u ≡ status_of (confirms (seat_at l₀ i) c)
      serving_status u e = e ∙ ap (λ (x : Asked). status_of x.confirmed) stood

      pub serving_turn : (l' : List ℕ) → i < n → l' ≡ set_seat l i a.state → Serving n k c l₀ w m₀ from l' (set m (from + i) a.word) (i + 1)
      unfolding map_seats write_row
      serving_turn l' p h =
          record {
            upto = omega arith;
            seats = rw add-one (h ∙ rw stood (ap (λ (x : List ℕ). set_seat x i (ask_seat k c w i (seat_at l₀ i))) v.seats));
            slots = rw add-one (rw stood (ap (λ (x : List ℕ). set x (from + i) (answer_at k c l₀ w i)) v.slots));
            long = rw h (seat_long l i a.state ∙ v.long);
            long_slots = simp length-set v.long_slots;
          }

    module _ (p : n ≤ i) where
      all_seats : n ≡ i
      all_seats = omega (arith, v.upto)

      pub serving_slots : m ≡ write_row n m₀ from (λ i. answer (predicted k) (word_at w (ring_of i)) (seat_at l₀ i) c)
      serving_slots = rw all_seats v.slots

pub ruleset servings = (serving_start, serving_places, serving_reach, serving_word, serving_status, serving_turn, serving_slots)

-- One frame ---------------------------------------------------------------------------------------------------------------------

module _ (y : DeskState) (l w m : List ℕ) (h : Whole (desk_of y l w m)) (m₁ : List ℕ) (from : ℕ)
    (a : m₁ ≡ save_slot y.limit m y.current y.console) (b : from ≡ slot_of y.limit y.current + 4) (u : from ≤ y.limit * 16 + 4) where
  saved_long : length m₁ ≡ length m
  saved_long = ap length a ∙ save_long y.limit m y.current y.console

  pub frame_room : from + 4 ≤ length m₁
  frame_room = omega (arith, saved_long, h.deep, h.seated.ready.near)

  module _ (l₂ m₂ : List ℕ) (d : l₂ ≡ map_seats y.seats (λ i q. asked (predicted y.predictor) (word_at w (ring_of i)) q y.current) l)
      (e : m₂ ≡ write_row y.seats m₁ from (λ i. answer (predicted y.predictor) (word_at w (ring_of i)) (seat_at l i) y.current)) where
    written_long : length m₂ ≡ length m
    written_long = ap length e ∙ row_long y.seats m₁ from (answer_seat y l w) ∙ saved_long

    pub frame_end : from + y.seats ≤ length m₂
    frame_end = omega (arith, written_long, h.deep, h.seated.ready.near, h.seated.ready.few)

    served_part : lists.take (from + y.seats - from) (lists.drop from m₂) ≡ row_of y.seats (answer_seat y l w)
    served_part =
        let k : from + y.seats - from ≡ y.seats = omega arith in
        rw k
        (part_row y.seats m₂ from frame_end
        ∙ row_eq y.seats (λ i. get_or m₂ (from + i) 0) (answer_seat y l w) (λ i p.
        ap (λ (x : List ℕ). get_or x (from + i) 0) e
        ∙ row_same y.seats m₁ from (answer_seat y l w) i 0 (omega (arith, frame_room, h.seated.ready.few)) p))

    pub frame_desk : (r : DeskState)
        → r ≡ record { seats = y.seats; limit = y.limit; predictor = y.predictor; current = y.current + 1; console = step_of y.console (lists.take (from + y.seats - from) (lists.drop from m₂)) }
        → desk_of r l₂ w m₂ ≡ calls.frame_on (desk_of y l w m)
    unfolding one_frame
    frame_desk r g =
        let i : m₂ ≡ write_row y.seats (save_slot y.limit m y.current y.console) (slot_of y.limit y.current + 4) (answer_seat y l w)
        = e ∙ ap₂ (λ (x : List ℕ) (n : ℕ). write_row y.seats x n (answer_seat y l w)) a b in
        ap (λ (x : DeskState). desk_of x l₂ w m₂) g
        ∙ (λ z. record {
          state = record { seats = y.seats; limit = y.limit; predictor = y.predictor; current = y.current + 1; console = step_of y.console (served_part z) };
          seats = d z;
          words = w;
          slots = i z;
        })

pub ruleset frames = (frame_room, frame_end, frame_desk)

-- Replay: one frame and then the rest -------------------------------------------------------------------------------------------

frame_predictor : (d : Desk) → (calls.frame_on d).state.predictor ≡ d.state.predictor
unfolding one_frame
frame_predictor d = refl

replay_first : (n k : ℕ) (p : ℕ → ℕ) (d : Desk) → n ≡ suc k → replay step_of p n d ≡ replay step_of p k (one_frame step_of p d)
unfolding replay
replay_first n k p d e = rw e

module _ (y e : DeskState) (l w m l' m' : List ℕ) (a : desk_of e l' w m' ≡ calls.frame_on (desk_of y l w m)) where
  pub next_current : e.current ≡ y.current + 1
  next_current = ap (λ (d : Desk). d.state.current) a ∙ frame_current step_of (predicted y.predictor) (desk_of y l w m)

  next_predictor : e.predictor ≡ y.predictor
  next_predictor = ap (λ (d : Desk). d.state.predictor) a ∙ frame_predictor (desk_of y l w m)

-- a replay of one frame is that frame
replay_once : (n : ℕ) (p : ℕ → ℕ) (d : Desk) → n ≡ 1 → replay step_of p n d ≡ one_frame step_of p d
unfolding replay
replay_once n p d e = rw e

module _ (y e : DeskState) (l w m l' m' : List ℕ) (n : ℕ) (a : desk_of e l' w m' ≡ calls.frame_on (desk_of y l w m)) (b : y.current < n) where
  next : e.current ≡ y.current + 1
  next = next_current y e l w m l' m' a

  pub play_whole : Whole (desk_of y l w m) → e.current < n → n ≤ last_count → Whole (desk_of e l' w m')
  play_whole h c k = subst (λ (d : Desk). Whole d) (sym a) (frame_whole step_of (predicted y.predictor) (desk_of y l w m) h (omega (arith, next)))

  pub play_last : n ≤ e.current → desk_of e l' w m' ≡ replay step_of (predicted y.predictor) (n - y.current) (desk_of y l w m)
  play_last c = a ∙ sym (replay_once (n - y.current) (predicted y.predictor) (desk_of y l w m) (omega (arith, next)))

  pub play_rest : (r : DeskState) (l'' m'' : List ℕ) → desk_of r l'' w m'' ≡ replay step_of (predicted e.predictor) (n - e.current) (desk_of e l' w m')
      → desk_of r l'' w m'' ≡ replay step_of (predicted y.predictor) (n - y.current) (desk_of y l w m)
  play_rest r l'' m'' c =
      let k : n - y.current ≡ suc (n - e.current) = omega (arith, next) in
      c
      ∙ ap₂ (λ (p : ℕ) (d : Desk). replay step_of (predicted p) (n - e.current) d) (next_predictor y e l w m l' m' a) a
      ∙ sym (replay_first (n - y.current) (n - e.current) (predicted y.predictor) (desk_of y l w m) k)

pub ruleset plays = (play_last, play_rest)

-- Going back --------------------------------------------------------------------------------------------------------------------

pub correct_none : (y : DeskState) (l w m : List ℕ) (p : ℕ → ℕ) (n : ℕ) → n ≡ lowest_of y.seats (λ s. (seat_at l s).first_incorrect_count) → n ≡ 0 → desk_of y l w m ≡ corrected step_of p (desk_of y l w m)
unfolding corrected
correct_none y l w m p n e z = rw (← e) (simp (eq-eqb _ _ z))

module _ (y : DeskState) (l w m : List ℕ) (n : ℕ) (h : Whole (desk_of y l w m)) (e : n ≡ lowest_of y.seats (λ s. (seat_at l s).first_incorrect_count)) (z : n ≡ 0 → ⊥)
    (b : DeskState) (l' : List ℕ) (a : b ≡ (load (desk_of y [] [] m) (n - 1)).state) (c : l' ≡ map_seats y.seats (λ i q. reset q) l) where
  back_desk : desk_of b l' w m ≡ reset_all (load (desk_of y l w m) (n - 1))
  unfolding reset_all load
  back_desk = ap₂ (λ (x : DeskState) (k : List ℕ). desk_of x k w m) a c

  back_frame : b.current ≡ n - 1
  unfolding load
  back_frame = ap (λ (x : DeskState). x.current) a

  back_predictor : b.predictor ≡ y.predictor
  unfolding load
  back_predictor = ap (λ (x : DeskState). x.predictor) a

  low : n ≤ y.current
  low = omega (arith, e, mismatch_past y l h.seated)

  pub correct_whole : Whole (desk_of b l' w m)
  correct_whole = subst (λ (d : Desk). Whole d) (sym back_desk) (back_whole (desk_of y l w m) (n - 1) h (omega (arith, low, h.seated.ready.early)))

  pub correct_upto : b.current ≤ y.current
  correct_upto = omega (arith, back_frame, low)

  pub correct_desk : (r : DeskState) (l'' m'' : List ℕ) → desk_of r l'' w m'' ≡ replay step_of (predicted b.predictor) (y.current - b.current) (desk_of b l' w m)
      → desk_of r l'' w m'' ≡ corrected step_of (predicted y.predictor) (desk_of y l w m)
  unfolding corrected
  correct_desk r l'' m'' g =
      g
      ∙ ap₂ (λ (p k : ℕ). replay step_of (predicted p) (y.current - k) (desk_of b l' w m)) back_predictor back_frame
      ∙ ap (replay step_of (predicted y.predictor) (y.current - (n - 1))) back_desk
      ∙ rw (← e) (simp (ne_eqb _ _ z))

pub ruleset corrects = (correct_none, correct_whole, correct_upto, correct_desk)

-- the desk's own numbers with another console
abbrev with_console : DeskState → Console → DeskState
with_console y k = record { seats = y.seats; limit = y.limit; predictor = y.predictor; current = y.current; console = k }

-- a confirm looks at no console, no words and no slots
confirm_lists : (y : DeskState) (k : Console) (l l' w m : List ℕ) → desk_of y l' [] [] ≡ confirm (desk_of y l [] [])
    → desk_of (with_console y k) l' w m ≡ confirm (desk_of (with_console y k) l w m)
unfolding confirm discard_all
confirm_lists y k l l' w m e = ap (λ (d : Desk). desk_of (with_console y k) d.seats w m) e ∙ put
  where
    put : desk_of (with_console y k) (confirm (desk_of y l [] [])).seats w m ≡ confirm (desk_of (with_console y k) l w m)
    put =
        ⊎_elim
        (λ a. simp a.1)
        (λ a. ⊎_elim (λ b. simp (a.1, b.1)) (λ b. simp (a.1, b.1)) (split_eqb (min (known_of (desk_of y l [] []) - 1) y.current) 0))
        (split_eqb (known_of (desk_of y l [] [])) 0)

-- Settle ------------------------------------------------------------------------------------------------------------------------

-- a settle leaves the seats and the predictor as they are
record Alike (y z : DeskState) : Type 0 where
  seats : z.seats ≡ y.seats
  limit : z.limit ≡ y.limit
  predictor : z.predictor ≡ y.predictor

module _ (step : Console → List ℕ → Console) (p : ℕ → ℕ) where
  replay_alike : (n : ℕ) (d : Desk) → Alike d.state (replay step p n d).state
  unfolding replay one_frame
  replay_alike zero d = record { seats = refl; limit = refl; predictor = refl }
  replay_alike (suc n) d =
      let a = replay_alike n (one_frame step p d) in
      record { seats = a.seats; limit = a.limit; predictor = a.predictor }

  corrected_alike : (d : Desk) → Alike d.state (corrected step p d).state
  unfolding corrected reset_all load
  corrected_alike d =
      ⊎_elim
      (λ a. simp a.1 (record { seats = refl; limit = refl; predictor = refl }))
      (λ a. simp a.1
      (let b = replay_alike (d.state.current - (mismatch_of d - 1)) (reset_all (load d (mismatch_of d - 1))) in
      record { seats = b.seats; limit = b.limit; predictor = b.predictor }))
      (split_eqb (mismatch_of d) 0)

  settle_alike : (d : Desk) → Alike d.state (settle step p d).state
  unfolding settle
  settle_alike d = rw (confirm_state (corrected step p d)) (corrected_alike d)

same_numbers : (a b c f : ℕ) (s : DeskState) → s.seats ≡ a → s.limit ≡ b → s.predictor ≡ c → s.current ≡ f
    → s ≡ record { seats = a; limit = b; predictor = c; current = f; console = s.console }
same_numbers a b c f s e g h i = rw (← e, ← g, ← h, ← i)

module _ (y : DeskState) (l w m : List ℕ) (h : Whole (desk_of y l w m)) where
  pub settle_low : (n : ℕ) → n ≡ lowest_of y.seats (λ s. (seat_at l s).first_incorrect_count) → n ≤ y.current
  settle_low n e = omega (arith, e, mismatch_past y l h.seated)

  module _ (s : DeskState) (l₁ m₁ : List ℕ) (e : desk_of s l₁ w m₁ ≡ corrected step_of (predicted y.predictor) (desk_of y l w m)) where
    -- what is corrected ends at the current frame: the console alone is another
    settle_console : s ≡ with_console y s.console
    settle_console =
        let a = corrected_alike step_of (predicted y.predictor) (desk_of y l w m) in
        let c = corrected_current step_of (predicted y.predictor) (desk_of y l w m) h in
        let n : (g : DeskState → ℕ) → g s ≡ g (corrected step_of (predicted y.predictor) (desk_of y l w m)).state = λ g. ap (λ (d : Desk). g d.state) e in
        same_numbers y.seats y.limit y.predictor y.current s
        (n (λ z. z.seats) ∙ a.seats) (n (λ z. z.limit) ∙ a.limit) (n (λ z. z.predictor) ∙ a.predictor) (n (λ z. z.current) ∙ c)

    settle_given : desk_of (with_console y s.console) l₁ w m₁ ≡ corrected step_of (predicted y.predictor) (desk_of y l w m)
    settle_given = ap (λ (x : DeskState). desk_of x l₁ w m₁) (sym settle_console) ∙ e

    pub settle_seated : Seated y l₁
    settle_seated =
        let k = (subst (λ (d : Desk). Whole d) (sym settle_given) (corrected_whole step_of (predicted y.predictor) (desk_of y l w m) h)).seated in
        record { ready = h.seated.ready; room = k.room; seat = k.seat }

    pub settle_desk : (l₂ : List ℕ) → desk_of y l₂ [] [] ≡ confirm (desk_of y l₁ [] []) → desk_of (with_console y s.console) l₂ w m₁ ≡ calls.settle_of (desk_of y l w m)
    unfolding settle
    settle_desk l₂ a = confirm_lists y s.console l₁ l₂ w m₁ a ∙ ap confirm settle_given

pub settle_report : (y : DeskState) (l w m : List ℕ) (n : ℕ) (r : Report) → n ≡ lowest_of y.seats (λ s. (seat_at l s).first_incorrect_count) → r ≡ calls.report_at n y.current → r ≡ calls.report_of (desk_of y l w m)
settle_report y l w m n r e a = rw e at a

pub ruleset settles = (settle_low, settle_seated, settle_desk)

-- Advance -----------------------------------------------------------------------------------------------------------------------

module _ (y : DeskState) (l w m : List ℕ) (n : ℕ) (g : n ≡ advance_answer (desk_of y l [] [])) where
  pub advance_number : n ≡ advance_answer (desk_of y l w m)
  unfolding advance_answer
  advance_number = g

  module _ (z : n ≡ 0 → ⊥) where
    pub advance_refused : desk_of y l w m ≡ calls.advance_of (desk_of y l w m)
    unfolding advance
    advance_refused = rw (← advance_number) (simp (ne_eqb _ _ z))

    pub advance_silent : (r : Report) → r ≡ calls.report_at 0 0 → r ≡ calls.advance_report (desk_of y l w m)
    unfolding calls.advance_report
    advance_silent r a = rw (← advance_number) (simp (ne_eqb _ _ z) a)

    pub advance_unserved : (o : List ℕ) → o ≡ calls.advance_served (desk_of y l w m) o
    unfolding calls.advance_served
    advance_unserved o = rw (← advance_number) (simp (ne_eqb _ _ z))

    pub advance_unstood : (o : List ℕ) → o ≡ calls.advance_statuses (desk_of y l w m) o
    unfolding calls.advance_statuses
    advance_unstood o = rw (← advance_number) (simp (ne_eqb _ _ z))

  module _ (z : n ≡ 0) where
    pub advance_done : 0 ≡ advance_answer (desk_of y l w m)
    advance_done = sym z ∙ advance_number

    pub advance-report : (r : Report) → r ≡ calls.report_of (desk_of y l w m) → r ≡ calls.advance_report (desk_of y l w m)
    unfolding calls.advance_report
    advance-report r a = rw (← advance_number) (simp (eq-eqb _ _ z) a)

    module _ (h : Whole (desk_of y l w m)) (s : DeskState) (l₁ m₁ : List ℕ) (e : desk_of s l₁ w m₁ ≡ calls.settle_of (desk_of y l w m)) where
      alike : Alike y s
      alike = subst (λ (d : Desk). Alike y d.state) (sym e) (settle_alike step_of (predicted y.predictor) (desk_of y l w m))

      pub advance_settled : Whole (desk_of s l₁ w m₁)
      advance_settled = subst (λ (d : Desk). Whole d) (sym e) (settle_whole step_of (predicted y.predictor) (desk_of y l w m) h)

      pub advance_wide : (o : List ℕ) → y.seats ≤ length o → s.seats ≤ length o
      advance_wide o a = omega (arith, alike.seats)

      pub advance-statuses : (o o' : List ℕ) → o' ≡ write_row s.seats o 0 (calls.status_of (desk_of s l₁ w m₁)) → o' ≡ calls.advance_statuses (desk_of y l w m) o
      unfolding calls.advance_statuses
      advance-statuses o o' a =
          rw (← advance_number)
          (simp (eq-eqb _ _ z)
          (a ∙ ap (λ (k : ℕ). write_row k o 0 (calls.status_of (desk_of s l₁ w m₁))) alike.seats
          ∙ ap (λ (d : Desk). write_row y.seats o 0 (calls.status_of d)) e))

      pub advance-served : (o o' : List ℕ) → o' ≡ write_row s.seats o 0 (calls.served_word (desk_of s l₁ w m₁)) → o' ≡ calls.advance_served (desk_of y l w m) o
      unfolding calls.advance_served
      advance-served o o' a =
          rw (← advance_number)
          (simp (eq-eqb _ _ z)
          (a ∙ ap (λ (k : ℕ). write_row k o 0 (calls.served_word (desk_of s l₁ w m₁))) alike.seats
          ∙ ap (λ (d : Desk). write_row y.seats o 0 (calls.served_word d)) e))

      pub advance_desk : (t : DeskState) (l₂ m₂ : List ℕ) → desk_of t l₂ w m₂ ≡ calls.frame_on (desk_of s l₁ w m₁) → desk_of t l₂ w m₂ ≡ calls.advance_of (desk_of y l w m)
      unfolding advance
      advance_desk t l₂ m₂ f =
          rw (← advance_number)
          (simp (eq-eqb _ _ z)
          (f ∙ ap₂ (λ (k : ℕ) (d : Desk). one_frame step_of (predicted k) d) alike.predictor e))

pub ruleset advancing = (advance_number, advance_refused, advance_silent, advance_unserved, advance_unstood, advance_done, advance-report, advance_settled, advance_wide, advance-statuses, advance-served, advance_desk)
