-- One seat of a sound desk: what is known of its queue, and that every step keeps it. Assumes nothing.
use Prim.Native.Nat.{ℕ, zero, suc, ◌+◌, ◌-◌, min, ◌<◌, ◌≤◌}
use native.Mathlib.Omega.{arith}
use native.Mathlib.Numerals.{add-one}
use mathlib.Core.Path.{◌≡◌, refl, ap, sym, ◌∙◌}
use mathlib.Core.Bool.{true, false}
use mathlib.Core.Logic.{◌⊎◌, inl, inr, ⊎_elim, ◌≢◌}
use Prim.{absurd}
use lib.Dec.{ltb, eqb}
use borrow.Author.Tests.{eq-eqb, ne_eqb, lt-ltb, le-ltb}
use Rattle.frame_info.proofs.Split.{split_eqb, split_ltb}
use Rattle.input_queue.specs.declared.QueueState.{QueueState}
use Rattle.input_queue.specs.Queue.{fresh, newest, wrong_after, put, asked, answer, reset, capped, oldest_after, discard}
use Rattle.input_queue.proofs.Cases as cases
use Rattle.input_queue.proofs.Fills as fills

-- the fields after a put
module _ (q : QueueState) (w : ℕ) where
  wrong_idle : q.prediction_count ≡ 0 → (put q w).first_incorrect_count ≡ q.first_incorrect_count
  unfolding put
  wrong_idle e = sym (cases.wrong_idle q w e)

  wrong_hit : q.prediction_count ≢ 0 → q.first_incorrect_count ≡ 0 → q.prediction ≡ w → (put q w).first_incorrect_count ≡ 0
  unfolding put
  wrong_hit e o g = sym (cases.wrong_matched q w e o g)

  wrong_miss : q.prediction_count ≢ 0 → q.first_incorrect_count ≡ 0 → q.prediction ≢ w → (put q w).first_incorrect_count ≡ suc q.last_added_count
  unfolding put
  wrong_miss e o g = sym (cases.wrong_begins q w e o g) ∙ add-one q.last_added_count

  wrong_stays : q.first_incorrect_count ≢ 0 → (put q w).first_incorrect_count ≡ q.first_incorrect_count
  unfolding put
  wrong_stays e =
      ⊎_elim (λ a. sym (cases.wrong_idle q w a.0)) (λ a. sym (cases.wrong_stands q w a.0 e)) (split_eqb q.prediction_count 0)

  predicting_idle : q.prediction_count ≡ 0 → (put q w).prediction_count ≡ 0
  unfolding put
  predicting_idle e = sym (cases.predicting_idle q (wrong_after q w) e)

  predicting_ends : q.prediction_count ≢ 0 → q.prediction_count ≡ q.last_requested_count → (put q w).first_incorrect_count ≡ 0 → (put q w).prediction_count ≡ 0
  unfolding put
  predicting_ends e r o = sym (cases.predicting_ends q (wrong_after q w) e r o)

  predicting_on : q.prediction_count ≢ 0 → q.prediction_count ≢ q.last_requested_count → (put q w).prediction_count ≡ suc q.prediction_count
  unfolding put
  predicting_on e r = sym (cases.predicting_on q (wrong_after q w) e r) ∙ add-one q.prediction_count

  pub put_added : (put q w).last_added_count ≡ suc q.last_added_count
  put_added = fills.put_added q w ∙ add-one q.last_added_count

  -- storing a word takes a prediction at most one place on
  put_ahead : q.prediction_count ≤ suc q.last_added_count → (put q w).prediction_count ≤ suc (put q w).last_added_count
  put_ahead h = omega (arith, fills.put_ahead q w (omega arith))

-- the fields that storing leaves alone
pub record Same (s t : QueueState) : Type 0 where
  pub frame_delay : t.frame_delay ≡ s.frame_delay
  pub last_user_count : t.last_user_count ≡ s.last_user_count
  pub oldest : t.oldest ≡ s.oldest
  pub last_requested_count : t.last_requested_count ≡ s.last_requested_count
  pub prediction : t.prediction ≡ s.prediction

pub put_same : (s : QueueState) (w : ℕ) → Same s (put s w)
unfolding put
put_same s w = record { frame_delay = refl; last_user_count = refl; oldest = refl; last_requested_count = refl; prediction = refl }

-- What is stored: the ring has the reference's word R at each place that it holds. B bounds what was thrown away; no seat will be
-- asked for a frame below it. T is the frame up to which the desk has served (the current one, but during a replay).
pub record Stored (R at : ℕ → ℕ) (T L B : ℕ) (q : QueueState) : Type 0 where
  pub ring : q.last_added_count ≤ q.oldest + 128
  pub thrown : q.oldest ≤ B
  pub floor : B ≤ q.last_added_count
  pub near : T ≤ q.last_added_count + L
  pub ahead : q.prediction_count ≤ suc q.last_added_count
  pub at_is : (f : ℕ) → f < q.last_added_count → q.last_added_count ≤ f + 128 → at f ≡ R f

-- What was served (S) for the frames from b on below c: the reference's words as far as words are stored, then the guess from the newest.
pub record Served (p R S : ℕ → ℕ) (b c : ℕ) (q : QueueState) : Type 0 where
  pub below : (f : ℕ) → b ≤ f → f < c → f < q.last_added_count → S f ≡ R f
  pub above : (f : ℕ) → b ≤ f → f < c → q.last_added_count ≤ f → S f ≡ fresh p R q.last_added_count

-- the prediction of a seat that predicts at frame c
pub record Guess (p R : ℕ → ℕ) (c : ℕ) (q : QueueState) : Type 0 where
  pub at_frame : q.prediction_count ≡ suc q.last_added_count
  pub missing : q.last_added_count ≤ c
  pub word : q.prediction ≡ fresh p R q.last_added_count

-- a seat that may be asked for frame c: no mismatch
pub record Clean (p R S : ℕ → ℕ) (b c : ℕ) (q : QueueState) : Type 0 where
  pub right : q.first_incorrect_count ≡ 0
  pub mode : (q.prediction_count ≡ 0) ⊎ Guess p R c q
  pub served : Served p R S b c q

-- a seat with no mismatch after its request for frame c - 1
pub record Neat (p R S : ℕ → ℕ) (b c : ℕ) (q : QueueState) : Type 0 where
  pub right : q.first_incorrect_count ≡ 0
  pub mode : ((q.prediction_count ≡ 0) × (c ≤ q.last_added_count)) ⊎ ((q.last_requested_count ≡ c) × (q.last_added_count < c) × Guess p R c q)
  pub served : Served p R S b c q

-- a seat with a mismatch at m
pub record Broken (R S : ℕ → ℕ) (b c L B : ℕ) (q : QueueState) : Type 0 where
  pub m : ℕ
  pub first_incorrect_count : q.first_incorrect_count ≡ suc m
  pub stored : m < q.last_added_count
  pub past : m < c
  pub near : c ≤ m + L
  pub kept : B ≤ m
  pub below : (f : ℕ) → b ≤ f → f < m → S f ≡ R f

pub record Seat (p R at S : ℕ → ℕ) (b c L B : ℕ) (q : QueueState) : Type 0 where
  pub store : Stored R at c L B q
  pub kind : Neat p R S b c q ⊎ Broken R S b c L B q

pub neat_clean : {p R S : ℕ → ℕ} {b c : ℕ} {q : QueueState} → Neat p R S b c q → Clean p R S b c q
neat_clean n = record { right = n.right; mode = ⊎_elim (λ a. inl a.0) (λ a. inr a.2) n.mode; served = n.served }

-- the guess and the newest word, where there are words
pub fresh_some : (p at : ℕ → ℕ) (n : ℕ) → fresh p at (suc n) ≡ p (at n)
fresh_some p at n =
    let e : suc n - 1 ≡ n = omega arith in
    simp (ne_eqb (suc n) 0 (λ o. omega arith)) (ap (λ (k : ℕ). p (at k)) e)

pub newest_some : (at : ℕ → ℕ) (n : ℕ) → newest at (suc n) ≡ at n
newest_some at n =
    let e : suc n - 1 ≡ n = omega arith in
    simp (ne_eqb (suc n) 0 (λ o. omega arith)) (ap at e)

-- the guess from a list of words that has one more, equal to the guess
guess_on : (p R : ℕ → ℕ) (n : ℕ) → p 0 ≡ 0 → ((w : ℕ) → p (p w) ≡ p w) → R n ≡ fresh p R n → fresh p R (suc n) ≡ fresh p R n
guess_on p R zero z i e = fresh_some p R 0 ∙ ap p e ∙ z
guess_on p R (suc n) z i e =
    let k = fresh_some p R n in
    fresh_some p R (suc n) ∙ ap p (e ∙ k) ∙ i (R n) ∙ sym k

-- only the newest word counts
pub fresh_same : (p R at : ℕ → ℕ) (n : ℕ) → ((f : ℕ) → f < n → n ≤ f + 128 → at f ≡ R f) → fresh p at n ≡ fresh p R n
fresh_same p R at zero h = refl
fresh_same p R at (suc n) h = fresh_some p at n ∙ ap p (h n (omega arith) (omega arith)) ∙ sym (fresh_some p R n)

module _ {R at : ℕ → ℕ} {c L B : ℕ} {q : QueueState} (w : ℕ) (at' : ℕ → ℕ) where
  -- storing the reference's next word
  pub put_stored : Stored R at c L B q
      → q.last_added_count < q.oldest + 128
      → R q.last_added_count ≡ w
      → ((f : ℕ) → f < q.last_added_count → q.last_added_count < f + 128 → at' f ≡ at f)
      → at' q.last_added_count ≡ w
      → Stored R at' c L B (put q w)
  put_stored s room r same new =
      let e = put_added q w in
      let o = put_same q w in
      record {
        ring = omega arith;
        thrown = omega arith;
        floor = omega (arith, s.floor);
        near = omega (arith, s.near);
        ahead = put_ahead q w s.ahead;
        at_is = λ f x y.
            ⊎_elim
            (λ a. rw a.0 (new ∙ sym r))
            (λ a. same f (omega (arith, a.0)) (omega arith) ∙ s.at_is f (omega (arith, a.0)) (omega arith))
            (split_eqb f q.last_added_count);
      }

module _ {p R at S : ℕ → ℕ} {b c L B : ℕ} {q : QueueState} (w : ℕ) where
  pub put_kind : p 0 ≡ 0
      → ((v : ℕ) → p (p v) ≡ p v)
      → Stored R at c L B q
      → R q.last_added_count ≡ w
      → Neat p R S b c q ⊎ Broken R S b c L B q
      → Neat p R S b c (put q w) ⊎ Broken R S b c L B (put q w)
  put_kind z i s r (inl n) = ⊎_elim known guessing n.mode
    where
      known : (q.prediction_count ≡ 0) × (c ≤ q.last_added_count) → Neat p R S b c (put q w) ⊎ Broken R S b c L B (put q w)
      known a =
          let e = put_added q w in
          inl (record {
            right = wrong_idle q w a.0 ∙ n.right;
            mode = inl (predicting_idle q w a.0, omega (arith, a.1));
            served = record {
              below = λ f x y v. n.served.below f x y (omega (arith, a.1));
              above = λ f x y v. absurd (omega (arith, a.1));
            };
          })

      guessing : (q.last_requested_count ≡ c) × (q.last_added_count < c) × Guess p R c q → Neat p R S b c (put q w) ⊎ Broken R S b c L B (put q w)
      guessing a = ⊎_elim hit miss (split_eqb q.prediction w)
        where
          on : q.prediction_count ≢ 0
          on o = omega (arith, a.2.at_frame)

          hit : (q.prediction ≡ w) × (eqb q.prediction w ≡ true) → Neat p R S b c (put q w) ⊎ Broken R S b c L B (put q w)
          hit g =
              let e = put_added q w in
              let o = wrong_hit q w on n.right g.0 in
              let k : R q.last_added_count ≡ fresh p R q.last_added_count = r ∙ sym g.0 ∙ a.2.word in
              let k' : fresh p R (put q w).last_added_count ≡ fresh p R q.last_added_count = rw e (guess_on p R q.last_added_count z i k) in
              inl (record {
                right = o;
                mode = ⊎_elim
                    (λ d. inl (predicting_ends q w on (omega (arith, a.2.at_frame, d.0, a.0)) o, omega arith))
                    (λ d. inr (
                      (put_same q w).last_requested_count ∙ a.0,
                      omega (arith, d.0, a.1),
                      record {
                        at_frame = omega (arith, predicting_on q w on (λ j. d.0 (omega (arith, j, a.0, a.2.at_frame))), a.2.at_frame);
                        missing = omega (arith, d.0, a.1);
                        word = (put_same q w).prediction ∙ a.2.word ∙ sym k';
                      },
                    ))
                    (split_eqb (suc q.last_added_count) c);
                served = record {
                  below = λ f x y v.
                      ⊎_elim
                      (λ d. rw d.0 (n.served.above q.last_added_count (omega (arith, d.0)) a.1 (omega arith) ∙ sym k))
                      (λ d. n.served.below f x y (omega (arith, d.0)))
                      (split_eqb f q.last_added_count);
                  above = λ f x y v. n.served.above f x y (omega arith) ∙ sym k';
                };
              })

          miss : (q.prediction ≢ w) × (eqb q.prediction w ≡ false) → Neat p R S b c (put q w) ⊎ Broken R S b c L B (put q w)
          miss g =
              let e = put_added q w in
              inr (record {
                m = q.last_added_count;
                first_incorrect_count = wrong_miss q w on n.right g.0;
                stored = omega arith;
                past = a.1;
                near = s.near;
                kept = s.floor;
                below = λ f x y. n.served.below f x (omega (arith, a.1)) y;
              })
  put_kind z i s r (inr d) =
      let e = put_added q w in
      inr (record {
        m = d.m;
        first_incorrect_count = wrong_stays q w (λ o. omega (arith, d.first_incorrect_count)) ∙ d.first_incorrect_count;
        stored = omega (arith, d.stored);
        past = d.past;
        near = d.near;
        kept = d.kept;
        below = d.below;
      })

-- the fields after a request
pub record Asked (p at : ℕ → ℕ) (q : QueueState) (c : ℕ) (t : QueueState) : Type 0 where
  pub frame_delay : t.frame_delay ≡ q.frame_delay
  pub last_user_count : t.last_user_count ≡ q.last_user_count
  pub last_added_count : t.last_added_count ≡ q.last_added_count
  pub oldest : t.oldest ≡ q.oldest
  pub last_requested_count : t.last_requested_count ≡ suc c
  pub first_incorrect_count : t.first_incorrect_count ≡ q.first_incorrect_count

pub asked_fields : (p at : ℕ → ℕ) (q : QueueState) (c : ℕ) → Asked p at q c (asked p at q c)
unfolding asked
asked_fields p at q c = record { frame_delay = refl; last_user_count = refl; last_added_count = refl; oldest = refl; last_requested_count = add-one c; first_incorrect_count = refl }

module _ (p at : ℕ → ℕ) (q : QueueState) (c : ℕ) where
  held_predicting : q.prediction_count ≡ 0 → c < q.last_added_count → (asked p at q c).prediction_count ≡ 0
  unfolding asked
  held_predicting e h = simp (eq-eqb _ _ e, lt-ltb _ _ h)

  held_answer : q.prediction_count ≡ 0 → c < q.last_added_count → answer p at q c ≡ at c
  unfolding answer
  held_answer e h = simp (eq-eqb _ _ e, lt-ltb _ _ h)

  begins_predicting : q.prediction_count ≡ 0 → q.last_added_count ≤ c → (asked p at q c).prediction_count ≡ suc q.last_added_count
  unfolding asked
  begins_predicting e h = simp (eq-eqb _ _ e, le-ltb _ _ h) (add-one _)

  begins_guess : q.prediction_count ≡ 0 → q.last_added_count ≤ c → (asked p at q c).prediction ≡ fresh p at q.last_added_count
  unfolding asked
  begins_guess e h = simp (eq-eqb _ _ e, le-ltb _ _ h)

  begins_answer : q.prediction_count ≡ 0 → q.last_added_count ≤ c → answer p at q c ≡ fresh p at q.last_added_count
  unfolding answer
  begins_answer e h = simp (eq-eqb _ _ e, le-ltb _ _ h)

  standing_predicting : q.prediction_count ≢ 0 → (asked p at q c).prediction_count ≡ q.prediction_count
  unfolding asked
  standing_predicting e = simp (ne_eqb _ _ e)

  standing_guess : q.prediction_count ≢ 0 → (asked p at q c).prediction ≡ q.prediction
  unfolding asked
  standing_guess e = simp (ne_eqb _ _ e)

  standing_answer : q.prediction_count ≢ 0 → answer p at q c ≡ q.prediction
  unfolding answer
  standing_answer e = simp (ne_eqb _ _ e)

pub asked_ahead : (p at : ℕ → ℕ) (q : QueueState) (c : ℕ) → q.prediction_count ≤ suc q.last_added_count → (asked p at q c).prediction_count ≤ suc (asked p at q c).last_added_count
asked_ahead p at q c h =
    let k = asked_fields p at q c in
    ⊎_elim
    (λ a. ⊎_elim
    (λ b. omega (arith, held_predicting p at q c a.0 b.0, k.last_added_count))
    (λ b. omega (arith, begins_predicting p at q c a.0 b.0, k.last_added_count))
    (split_ltb c q.last_added_count))
    (λ a. omega (arith, standing_predicting p at q c a.0, k.last_added_count))
    (split_eqb q.prediction_count 0)

module _ (p : ℕ → ℕ) {R at : ℕ → ℕ} {T L B : ℕ} {q : QueueState} where
  pub asked_stored : (c : ℕ) → Stored R at T L B q → Stored R at T L B (asked p at q c)
  unfolding asked
  asked_stored c s = record { ring = s.ring; thrown = s.thrown; floor = s.floor; near = s.near; ahead = asked_ahead p at q c s.ahead; at_is = s.at_is }

-- a request for frame c
module _ {p R at S : ℕ → ℕ} {b c T L B : ℕ} {q : QueueState} (S' : ℕ → ℕ) where
  pub asked_neat : Stored R at T L B q
      → B ≤ c
      → Clean p R S b c q
      → ((f : ℕ) → b ≤ f → f < c → S' f ≡ S f)
      → S' c ≡ answer p at q c
      → Neat p R S' b (suc c) (asked p at q c)
  asked_neat s bc n same new = ⊎_elim idle standing n.mode
    where
      k : Asked p at q c (asked p at q c)
      k = asked_fields p at q c

      same_fresh : fresh p R (asked p at q c).last_added_count ≡ fresh p R q.last_added_count
      same_fresh = rw k.last_added_count

      idle : q.prediction_count ≡ 0 → Neat p R S' b (suc c) (asked p at q c)
      idle e = ⊎_elim held begins (split_ltb c q.last_added_count)
        where
          held : (c < q.last_added_count) × (ltb c q.last_added_count ≡ true) → Neat p R S' b (suc c) (asked p at q c)
          held a = record {
            right = k.first_incorrect_count ∙ n.right;
            mode = inl (held_predicting p at q c e a.0, omega (arith, a.0, k.last_added_count));
            served = record {
              below = λ f x y v. ⊎_elim
                  (λ d. rw d.0 (new ∙ held_answer p at q c e a.0 ∙ s.at_is c a.0 (omega (arith, s.ring, s.thrown))))
                  (λ d. same f x (omega (arith, d.0)) ∙ n.served.below f x (omega (arith, d.0)) (omega (arith, k.last_added_count)))
                  (split_eqb f c);
              above = λ f x y v. absurd (omega (arith, a.0, v, k.last_added_count));
            };
          }

          begins : (q.last_added_count ≤ c) × (ltb c q.last_added_count ≡ false) → Neat p R S' b (suc c) (asked p at q c)
          begins a =
              let g = fresh_same p R at q.last_added_count s.at_is ∙ sym same_fresh in
              record {
                right = k.first_incorrect_count ∙ n.right;
                mode = inr (
                  k.last_requested_count,
                  omega (arith, a.0, k.last_added_count),
                  record {
                    at_frame = omega (arith, begins_predicting p at q c e a.0, k.last_added_count);
                    missing = omega (arith, a.0, k.last_added_count);
                    word = begins_guess p at q c e a.0 ∙ g;
                  },
                );
                served = record {
                  below = λ f x y v. same f x (omega (arith, a.0, v, k.last_added_count)) ∙ n.served.below f x (omega (arith, a.0, v, k.last_added_count)) (omega (arith, k.last_added_count));
                  above = λ f x y v. ⊎_elim
                      (λ d. rw d.0 (new ∙ begins_answer p at q c e a.0 ∙ g))
                      (λ d. same f x (omega (arith, d.0)) ∙ n.served.above f x (omega (arith, d.0)) (omega (arith, k.last_added_count)) ∙ sym same_fresh)
                      (split_eqb f c);
                };
              }

      standing : Guess p R c q → Neat p R S' b (suc c) (asked p at q c)
      standing g =
          let on : q.prediction_count ≢ 0 = λ o. omega (arith, g.at_frame) in
          record {
            right = k.first_incorrect_count ∙ n.right;
            mode = inr (
              k.last_requested_count,
              omega (arith, g.missing, k.last_added_count),
              record {
                at_frame = omega (arith, standing_predicting p at q c on, g.at_frame, k.last_added_count);
                missing = omega (arith, g.missing, k.last_added_count);
                word = standing_guess p at q c on ∙ g.word ∙ sym same_fresh;
              },
            );
            served = record {
              below = λ f x y v. same f x (omega (arith, g.missing, v, k.last_added_count)) ∙ n.served.below f x (omega (arith, g.missing, v, k.last_added_count)) (omega (arith, k.last_added_count));
              above = λ f x y v. ⊎_elim
                  (λ d. rw d.0 (new ∙ standing_answer p at q c on ∙ g.word ∙ sym same_fresh))
                  (λ d. same f x (omega (arith, d.0)) ∙ n.served.above f x (omega (arith, d.0)) (omega (arith, k.last_added_count)) ∙ sym same_fresh)
                  (split_eqb f c);
            };
          }

-- a reset, back at a frame m that is above no mismatch
module _ {p R S : ℕ → ℕ} {b c L B : ℕ} {q : QueueState} (S' : ℕ → ℕ) (m : ℕ) where
  pub reset_clean : m ≤ c
      → (q.first_incorrect_count ≢ 0 → m < q.first_incorrect_count)
      → ((f : ℕ) → b ≤ f → f < m → S' f ≡ S f)
      → Neat p R S b c q ⊎ Broken R S b c L B q
      → Clean p R S' b m (reset q)
  unfolding reset
  reset_clean mc low same (inl n) = record {
    right = refl;
    mode = inl refl;
    served = record {
      below = λ f x y v. same f x y ∙ n.served.below f x (omega (arith, mc, y)) v;
      above = λ f x y v. same f x y ∙ n.served.above f x (omega (arith, mc, y)) v;
    };
  }
  reset_clean mc low same (inr d) =
      let k : m < q.first_incorrect_count = low (λ o. omega (arith, d.first_incorrect_count)) in
      record {
        right = refl;
        mode = inl refl;
        served = record {
          below = λ f x y v. same f x y ∙ d.below f x (omega (arith, d.first_incorrect_count));
          above = λ f x y v. absurd (omega (arith, d.first_incorrect_count, d.stored, v));
        };
      }

module _ {R at : ℕ → ℕ} {T L B : ℕ} {q : QueueState} where
  pub reset_stored : Stored R at T L B q → Stored R at T L B (reset q)
  unfolding reset
  reset_stored s = record { ring = s.ring; thrown = s.thrown; floor = s.floor; near = s.near; ahead = omega arith; at_is = s.at_is }

-- a discard to g: what is thrown away is below g, or was gone before
oldest_in : (q : QueueState) (g : ℕ) → q.last_added_count ≤ q.oldest + 128 → (q.last_added_count ≤ oldest_after q g + 128) × ((oldest_after q g ≤ g) ⊎ (oldest_after q g ≡ q.oldest))
oldest_in q g h = (
  omega arith,
  ⊎_elim
      (λ a. inl (omega (arith, a.0)))
      (λ a. inr (omega (arith, a.0)))
      (split_ltb q.oldest (min g (q.last_added_count - 1))),
)

module _ {R at : ℕ → ℕ} {T L B : ℕ} {q : QueueState} (g B' : ℕ) where
  pub discard_stored : Stored R at T L B q → g ≤ B' → B ≤ B' → B' ≤ q.last_added_count → Stored R at T L B' (discard q g)
  unfolding discard
  discard_stored s gb bb fl =
      let k = cases.cap_le q g in
      let o = oldest_in q (capped q g) s.ring in
      record {
        ring = o.0;
        thrown = ⊎_elim (λ e. omega (arith, e)) (λ e. omega (arith, e, s.thrown)) o.1;
        floor = fl;
        near = s.near;
        ahead = s.ahead;
        at_is = s.at_is;
      }

module _ {p R S : ℕ → ℕ} {b c : ℕ} {q : QueueState} (g : ℕ) where
  pub discard_neat : Neat p R S b c q → Neat p R S b c (discard q g)
  unfolding discard
  discard_neat n = record {
    right = n.right;
    mode = ⊎_elim (λ a. inl a) (λ a. inr (a.0, a.1, record { at_frame = a.2.at_frame; missing = a.2.missing; word = a.2.word })) n.mode;
    served = record { below = n.served.below; above = n.served.above };
  }
