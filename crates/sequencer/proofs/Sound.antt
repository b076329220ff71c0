-- A slot and an accepted request give a sound record for every sound one, and a configuration gives a sound one: the laws of `soundness`, on machines.
use Prim.Native.Nat.{ℕ}
use mathlib.Core.Path.{◌≡◌}
use mathlib.Core.Bool.{true}
use native.Mathlib.Omega.{arith}
use Rattle.config.specs.declared.Config.{Config}
use Rattle.config.specs.Accepted.{Accepted}
use Rattle.queue.specs.declared.Kind.{Kind}
use Rattle.queue.specs.Places.{empty_of}
use Rattle.refresh.proofs.Counts.{bounded_start}
use Rattle.plan.specs.Actions.{in_service}
use Rattle.numbers.proofs.Laws as numbers
use Rattle.soundness.proofs.Slot.{slot_sound, accepted_sound}
use Rattle.sequencer.specs.declared.Machine.{Machine}
use Rattle.sequencer.specs.Machine.{machine_of, step_of}
use Rattle.sequencer.specs.Calls.{record_number_of, queued_request, enqueued_of}
use Rattle.sequencer.proofs.Laws.{SoundFacts, RequestFacts}

pub record_facts : (m : Machine) → record_number_of m ≡ 0 → SoundFacts m
record_facts m h = numbers.record_facts m.configured m.config m.past m.counters m.control m.queue.count h

-- a slot without the tests
pub step_sound : (m : Machine) → SoundFacts m → (bus : ℕ) → SoundFacts (step_of m bus).machine
unfolding step_of
step_sound m f bus = (slot_sound m.queue f bus).0

pub step_serves : (m : Machine) → SoundFacts m → (bus : ℕ) → in_service m.control.action ≡ true → in_service (step_of m bus).machine.control.action ≡ true
unfolding step_of
step_serves m f bus = (slot_sound m.queue f bus).1

pub queued_sound : (m : Machine) (kind : Kind) (address halfword : ℕ) → RequestFacts m address
    → SoundFacts (enqueued_of m (queued_request m kind address halfword)).machine
unfolding enqueued_of queued_request
queued_sound m kind address halfword f = accepted_sound m.queue f.sound _

-- the machine that an accepted configuration gives
pub start_facts : (c : Config) → Accepted c → SoundFacts (machine_of c)
unfolding machine_of empty_of
start_facts c a =
    record {
      accepted = a;
      counters = bounded_start (omega (arith, a.long_enough, a.access_span_lem));
      action = (omega (arith, a.long_enough, a.access_span_lem), omega arith);
      few = omega arith;
    }
