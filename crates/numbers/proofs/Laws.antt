-- A sound record as facts, both ways; what the number 0 says of a record and of a request; and the code's tests.
use Prim.Native.Nat.{ℕ, ◌≤◌, ◌<◌, ◌%◌}
use mathlib.Core.Path.{◌≡◌, refl}
use mathlib.Core.Bool.{Bool, true, false, cond, ◌&&◌}
use mathlib.Core.List.{List}
use lib.Dec.{leb, eqb}
use borrow.Author.Tests.{le-leb, leb-true, leb-false, eqb-true, eqb-false}
use Rattle.config.specs.declared.Config.{Config}
use Rattle.config.specs.Accepted.{Accepted, accepted_of}
use Rattle.config.proofs.Laws.{accepted_true, true_accepted}
use Rattle.address.specs.Map.{address_number_of, capacity_of}
use Rattle.address.proofs.Laws.{address_good}
use Rattle.device.specs.View.{all_closed}
use Rattle.device.proofs.Tests.{by_test, both}
use Rattle.ages.specs.declared.Past.{Past}
use Rattle.ages.specs.Ages.{past_of, row_at}
use Rattle.ages.proofs.Record.{closed_is}
use Rattle.refresh.specs.declared.Counters.{Counters}
use Rattle.refresh.specs.Counting.{sound_counters}
use Rattle.refresh.proofs.Counts.{Bounded, sound_bounded, bounded_sound}
use Rattle.plan.specs.declared.Control.{Control}
use Rattle.plan.specs.Actions.{sound_action}
use Rattle.plan.proofs.Sound.{SoundAction, sound_action_lem, action_sound}
use Rattle.numbers.specs.Sound.{state_by, fit_by, sound_by}
use Rattle.numbers.specs.Numbers.{record_number_by, last_number, room_number_of, request_number_by}

-- what a sound record that is configured keeps to
pub record SoundFacts (c : Config) (p : Past) (n : Counters) (x : Control) (count : ℕ) : Type 0 where
  pub accepted : Accepted c
  pub counters : Bounded c.rr n
  pub action : SoundAction c p.programmed (all_closed (row_at p)) count x.action
  pub few : count ≤ 8

-- what an accepted request found
pub record RequestFacts (c : Config) (p : Past) (n : Counters) (x : Control) (count : ℕ) (accepted address : ℕ) : Type 0 where
  pub sound : SoundFacts c p n x count
  pub place : address_number_of c.geometry address ≡ 0
  pub even : address % 2 ≡ 0
  pub below : address < capacity_of c.geometry
  pub room : count < 8
  pub number : accepted < last_number

room_facts : (queued accepted : ℕ) → room_number_of queued accepted ≡ 0 → (queued < 8) × (accepted < last_number)
unfolding room_number_of
room_facts queued accepted h = by_tests (leb 8 queued) (leb last_number accepted) refl refl h
  where
    by_tests : (f l : Bool) → leb 8 queued ≡ f → leb last_number accepted ≡ l → ◌≡◌ {A = ℕ} (cond f 6 (cond l 7 0)) 0
        → (queued < 8) × (accepted < last_number)
    by_tests true l e f n = absurd (eqb-false 6 0 refl n)
    by_tests false true e f n = absurd (eqb-false 7 0 refl n)
    by_tests false false e f n = (leb-false _ _ e, leb-false _ _ f)

module _ (b : Bool) (c : Config) (p : Past) (n : Counters) (x : Control) (count : ℕ) where
  fit_true : fit_by c p n x count ≡ true → SoundFacts c p n x count
  unfolding fit_by state_by
  fit_true h =
      let a = accepted_of c in
      let s = sound_counters c.rr n in
      let d = leb count 8 in
      let t = sound_action c p.programmed (all_closed (row_at p)) count x.action in
      let u = both a (s && (d && t)) h in
      let v = both s (d && t) u.1 in
      let w = both d t v.1 in
      record {
        accepted = accepted_true _ u.0;
        counters = sound_bounded _ _ v.0;
        few = leb-true _ _ w.0;
        action = sound_action_lem _ _ _ _ x.action w.1;
      }

  true_fit : SoundFacts c p n x count → fit_by c p n x count ≡ true
  unfolding fit_by state_by
  true_fit f =
      simp (
        true_accepted c f.accepted,
        bounded_sound c.rr n f.counters,
        le-leb count 8 f.few,
        action_sound c p.programmed (all_closed (row_at p)) count x.action f.action,
      )

  pub sound_facts : sound_by b c p n x count ≡ true → b ≡ true → SoundFacts c p n x count
  unfolding sound_by
  sound_facts h e = fit_true (rw e at h)

  pub facts_sound : SoundFacts c p n x count → sound_by b c p n x count ≡ true
  unfolding sound_by
  facts_sound f = either b (true_fit f)
    where
      either : (t : Bool) {y : Bool} → y ≡ true → cond t y true ≡ true
      either true e = e
      either false e = refl

  -- What the number 0 says, of a record and of a request.

  pub record_facts : record_number_by b c p n x count ≡ 0 → SoundFacts c p n x count
  unfolding record_number_by
  record_facts h = by_tests (sound_by b c p n x count) b refl refl h
    where
      by_tests : (s t : Bool) → sound_by b c p n x count ≡ s → b ≡ t → ◌≡◌ {A = ℕ} (cond s (cond t 0 8) 9) 0 → SoundFacts c p n x count
      by_tests true true e f z = sound_facts e f
      by_tests true false e f z = absurd (eqb-false 8 0 refl z)
      by_tests false t e f z = absurd (eqb-false 9 0 refl z)

  pub record_configured : record_number_by b c p n x count ≡ 0 → b ≡ true
  unfolding record_number_by sound_by
  record_configured h = by_test b (λ e. e) (λ e. absurd (eqb-false 8 0 refl (rw e at h)))

  pub facts_number : b ≡ true → SoundFacts c p n x count → record_number_by b c p n x count ≡ 0
  unfolding record_number_by
  facts_number e f = rw (facts_sound f, e)

  pub request_facts : (accepted address : ℕ) → request_number_by b c p n x count accepted address ≡ 0 → RequestFacts c p n x count accepted address
  unfolding request_number_by
  request_facts accepted address h = by_tests (eqb first 0) (eqb second 0) refl refl h
    where
      first : ℕ
      first = record_number_by b c p n x count

      second : ℕ
      second = address_number_of c.geometry address

      by_tests : (s t : Bool) → eqb first 0 ≡ s → eqb second 0 ≡ t → cond s (cond t (room_number_of count accepted) second) first ≡ 0
          → RequestFacts c p n x count accepted address
      by_tests true true e f z =
          let a = address_good _ _ (eqb-true _ _ f) in
          let r = room_facts _ _ z in
          record { sound = record_facts (eqb-true _ _ e); place = eqb-true _ _ f; even = a.0; below = a.1; room = r.0; number = r.1 }
      by_tests true false e f z = absurd (eqb-false _ _ f z)
      by_tests false t e f z = absurd (eqb-false _ _ e z)

  pub request_record : (accepted address : ℕ) → request_number_by b c p n x count accepted address ≡ 0 → record_number_by b c p n x count ≡ 0
  unfolding request_number_by
  request_record accepted address h =
      by_test (eqb (record_number_by b c p n x count) 0) (λ e. eqb-true _ _ e) (λ e. absurd (eqb-false _ _ e (rw e at h)))

  -- The code's tests, one after the other.

  -- a blank record
  pub number_blank : b ≡ false → record_number_by b c p n x count ≡ 8
  unfolding record_number_by sound_by
  number_blank e = rw e

  -- a configured one, by what the tests gave
  pub number_parts : b ≡ true → {s t : Bool} → s ≡ accepted_of c → t ≡ state_by c p n x count → record_number_by b c p n x count ≡ cond (s && t) 0 9
  unfolding record_number_by sound_by fit_by
  number_parts e f g = rw (e, f, g)

-- The numbers look at no age, and at no row: whatever ages and rows a past with these open flags and this mode has, the numbers are the same.
module _ (b : Bool) (c : Config) (p : Past) (n : Counters) (x : Control) (count : ℕ) (ages rows : List ℕ) where
  abbrev other : Past
  other = past_of ages p.opened rows p.programmed

  pub any_ages_and_rows : record_number_by b c p n x count ≡ record_number_by b c other n x count
  unfolding record_number_by sound_by fit_by state_by
  any_ages_and_rows = rw (closed_is p.opened p.rows, closed_is p.opened rows)

  pub any_ages_and_rows_for : (accepted address : ℕ) → request_number_by b c p n x count accepted address ≡ request_number_by b c other n x count accepted address
  unfolding request_number_by
  any_ages_and_rows_for accepted address = rw any_ages_and_rows
