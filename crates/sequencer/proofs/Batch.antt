-- Many slots by what those on the parts give.
use Prim.Native.Nat.{ℕ, ◌≤◌, ◌<◌}
use native.Mathlib.Omega.{arith}
use mathlib.Core.Path.{◌≡◌, refl, sym, subst, ◌∙◌}
use mathlib.Core.Bool.{Bool, true, false, cond}
use mathlib.Core.List.{List, [], ◌∷◌}
use lib.Dec.{eqb}
use lib.ListN.{length, take}
use borrow.Author.Tests.{eqb-true}
use Rattle.numbers.proofs.Laws as numbers
use Rattle.turn.specs.Parts.{stepped_of}
use Rattle.batch.specs.Run.{Ran, ran_of, filled_of}
use Rattle.sequencer.specs.declared.Machine.{Machine}
use Rattle.sequencer.specs.Machine.{machine_with, step_of}
use Rattle.sequencer.specs.Calls.{record_number_of}
use Rattle.sequencer.specs.Batch.{Series, Batch, before, series_of, room_of, batch_of, many_slots_of}
use Rattle.sequencer.proofs.Laws.{slot_steps}
use Rattle.sequencer.proofs.Sound.{record_facts, step_sound}

-- a slot of a record with no number gives such a record
pub step_number : (m : Machine) (bus : ℕ) → record_number_of m ≡ 0 → record_number_of (step_of m bus).machine ≡ 0
unfolding step_of
step_number m bus h =
    let configured = numbers.record_configured m.configured m.config m.past m.counters m.control m.queue.count h in
    numbers.facts_number m.configured m.config _ _ _ _ configured (step_sound m (record_facts m h) bus)

-- the machine of slots on its parts, and their words
abbrev series_with : Machine → Ran → Series
series_with m r =
    record {
      machine = machine_with m.configured m.config r.past r.counters r.control r.queue m.accepted;
      commands = r.commands;
      reports = r.reports;
    }

-- slots on a machine's parts
abbrev ran_from : Machine → List ℕ → Ran
ran_from m bus = ran_of m.config m.past m.counters m.control m.queue bus

one_more : (m : Machine) (b : ℕ) (later : List ℕ) → series_with m (ran_from m (b ∷ later)) ≡ before (step_of m b) (series_with (step_of m b).machine (ran_from (step_of m b).machine later))
unfolding step_of stepped_of ran_of
one_more m b later = refl

-- single slots are slots on the parts, which do not test again
series_is : (bus : List ℕ) (m : Machine) → record_number_of m ≡ 0 → series_with m (ran_from m bus) ≡ series_of m bus
unfolding ran_of series_of
series_is [] m h = refl
series_is (b ∷ later) m h = rw (slot_steps m b h, ← series_is later (step_of m b).machine (step_number m b h)) (one_more m b later)

-- the call by its number, how many slots it runs, and what these give on the parts
abbrev batch_with : Machine → ℕ → ℕ → Ran → Batch
batch_with m number count r =
    record { number = number; count = count; machine = (series_with m r).machine; commands = r.commands; reports = r.reports }

pub slots_is : (m : Machine) (bus commands reports : List ℕ) {number count : ℕ} {r : Ran} → number ≡ record_number_of m
    → count ≡ cond (eqb number 0) (room_of (length bus) (length commands) (length reports)) 0
    → r ≡ filled_of count m.config m.past m.counters m.control m.queue bus commands reports
    → batch_with m number count r ≡ many_slots_of m bus commands reports
unfolding many_slots_of batch_of filled_of ran_of
slots_is m bus commands reports {number} {count} {r} e k f =
    rw (f, k) (subst (λ (n : ℕ). batch_with m number (room (eqb number 0)) (stored (eqb number 0)) ≡ cond (eqb n 0) (batch_of m n_room bus commands reports) (record { number = n; count = 0; machine = m; commands = commands; reports = reports })) e
    (by_test (eqb number 0) refl))
  where
    n_room : ℕ
    n_room = room_of (length bus) (length commands) (length reports)

    room : Bool → ℕ
    room b = cond b n_room 0

    stored : Bool → Ran
    stored b = filled_of (room b) m.config m.past m.counters m.control m.queue bus commands reports

    by_test : (b : Bool) → eqb number 0 ≡ b
        → batch_with m number (room b) (stored b) ≡ cond b (batch_of m n_room bus commands reports) (record { number = number; count = 0; machine = m; commands = commands; reports = reports })
    by_test true h = rw (eqb-true number 0 h, ← series_is (take n_room bus) m (sym e ∙ eqb-true number 0 h))
    by_test false h = refl

-- what the count of slots shows: no array is shorter, and where it is not 0 the number is
pub room_shows : (number bus commands reports : ℕ) {count : ℕ} → count ≡ cond (eqb number 0) (room_of bus commands reports) 0
    → (0 < count → number ≡ 0) × ((count ≤ bus) × (count ≤ commands) × (count ≤ reports))
room_shows number bus commands reports {count} e = by_test (eqb number 0) refl e
  where
    by_test : (b : Bool) → eqb number 0 ≡ b → count ≡ cond b (room_of bus commands reports) 0
        → (0 < count → number ≡ 0) × ((count ≤ bus) × (count ≤ commands) × (count ≤ reports))
    by_test true h k = (λ z. eqb-true number 0 h, (omega (arith, k), omega (arith, k), omega (arith, k)))
    by_test false h k = (λ z. absurd (let never : ⊥ = omega (arith, z, k) in never), (omega (arith, k), omega (arith, k), omega (arith, k)))
