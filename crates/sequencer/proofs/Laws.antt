-- What the number 0 says of a machine and of a request (the laws of `numbers`, on machines), and a slot by what the slot of the parts gives.
use Prim.Native.Nat.{ℕ, ◌≤◌}
use native.Mathlib.Omega.{arith}
use mathlib.Core.Path.{◌≡◌, refl, subst}
use mathlib.Core.Bool.{Bool, true, false, cond, false≢true}
use lib.Dec.{eqb}
use borrow.Author.Tests.{eqb-true, eq-eqb}
use Rattle.std.specs.Prelude.{Result, Ok, Err, IsErr, IsErrAnd}
use Rattle.refusal.specs.declared.Refusal.{Refusal}
use Rattle.refusal.specs.Refused.{number_of}
use Rattle.refusal.proofs.Laws.{least}
use Rattle.numbers.specs.Sound.{sound_by}
use Rattle.numbers.proofs.Laws as parts
use Rattle.turn.specs.Parts.{Parts, stepped_of, kept_of, turned_of}
use Rattle.sequencer.specs.declared.Machine.{Machine}
use Rattle.sequencer.specs.Answers.{Slot, reading_in}
use Rattle.sequencer.specs.Machine as machine
use Rattle.sequencer.specs.Machine.{machine_with, step_of}
use Rattle.sequencer.specs.Sound.{sound_of}
use Rattle.sequencer.specs.Calls.{record_number_of, request_number_of, refused_with, slot_of, backlog_of}

abbrev pub SoundFacts : Machine → Type 0
SoundFacts m = parts.SoundFacts m.config m.past m.counters m.control m.queue.count

abbrev pub RequestFacts : Machine → ℕ → Type 0
RequestFacts m address = parts.RequestFacts m.config m.past m.counters m.control m.queue.count m.accepted address

pub facts_sound : (m : Machine) → SoundFacts m → sound_of m ≡ true
facts_sound m f = parts.facts_sound m.configured m.config m.past m.counters m.control m.queue.count f

pub sound_blank : sound_of machine.blank_of ≡ true
unfolding sound_by machine.blank_of
sound_blank = refl

pub request_facts : (m : Machine) (address : ℕ) → request_number_of m address ≡ 0 → RequestFacts m address
request_facts m address h = parts.request_facts m.configured m.config m.past m.counters m.control m.queue.count m.accepted address h

-- A slot by its number and by what the slot of the parts gives.

abbrev slot_with : Machine → ℕ → Parts → Slot
slot_with m number t =
    record {
      machine = machine_with m.configured m.config t.past t.counters t.control t.queue m.accepted;
      number = number;
      command = t.command;
      report = t.report;
    }

pub slot_is : (m : Machine) (bus : ℕ) {number : ℕ} {t : Parts} → number ≡ record_number_of m
    → t ≡ turned_of number m.config m.past m.counters m.control m.queue bus → slot_with m number t ≡ slot_of m bus
unfolding slot_of step_of refused_with turned_of stepped_of
slot_is m bus {number} {t} e f =
    rw f (subst (λ (n : ℕ). slot_with m number (turned_of number m.config m.past m.counters m.control m.queue bus) ≡ cond (eqb n 0) (step_of m bus) (refused_with m n)) e
    (by_test (eqb number 0) refl))
  where
    by_test : (b : Bool) → eqb number 0 ≡ b
        → slot_with m number (cond b (stepped_of m.config m.past m.counters m.control m.queue bus) (kept_of m.past m.counters m.control m.queue))
        ≡ cond b (step_of m bus) (refused_with m number)
    by_test true h = rw (eqb-true number 0 h)
    by_test false h = refl

-- a record with no number: the slot is a step
pub slot_steps : (m : Machine) (bus : ℕ) → record_number_of m ≡ 0 → slot_of m bus ≡ step_of m bus
unfolding slot_of
slot_steps m bus h = simp (eq-eqb _ _ h)

-- The reading call by what the tests gave.

pub backlog_read : (m : Machine) → 0 ≡ record_number_of m → reading_in (Ok m.counters.backlog) ≡ backlog_of m
unfolding backlog_of
backlog_read m h = simp (← h)

pub backlog_refused : (m : Machine) (r : Refusal) → number_of r ≡ record_number_of m → (x : Result ℕ Refusal) → IsErr x → IsErrAnd x (λ e. e ≡ r)
    → reading_in x ≡ backlog_of m
unfolding backlog_of
backlog_refused m r h (Ok _) f g = absurd (false≢true f)
backlog_refused m r h (Err e) f g = rw g (by_test (eqb (number_of r) 0) refl)
  where
    never : number_of r ≡ 0 → 1 ≤ number_of r → ⊥
    never e f = omega (arith, e, f)

    by_test : (b : Bool) → eqb (number_of r) 0 ≡ b → record { number = number_of r; backlog = 0 } ≡ backlog_of m
    by_test true e = absurd (never (eqb-true _ _ e) (least r))
    by_test false e = simp (← h, e)
