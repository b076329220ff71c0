-- Calls on a machine that is configured and sound: it stays so, a request leaves the action and its wait alone, and a slot of an action under way is that
-- action's plan carried out.
use Prim.Native.Nat.{ℕ, ◌+◌, ◌≤◌}
use mathlib.Core.Path.{◌≡◌, refl, ap}
use mathlib.Core.Bool.{Bool, true, false, cond}
use Rattle.config.specs.declared.Config.{Config}
use Rattle.queue.specs.declared.Kind.{Kind}
use Rattle.queue.specs.declared.Queue.{Queue}
use Rattle.device.specs.View.{all_closed}
use Rattle.ages.specs.Ages.{row_at}
use Rattle.plan.specs.declared.Action.{Action}
use Rattle.plan.specs.declared.Action.TheVariants.{
  PowerUp,
  InitPrecharge,
  InitRefresh,
  InitMode,
  InitSettle,
  Idle,
  Access,
  CasLatency,
  Turnaround,
  PrechargeAll,
  Refresh,
  RefreshCycle,
}
use Rattle.plan.specs.Actions.{is_idle, in_service}
use Rattle.plan.specs.Choice.{current_of}
use Rattle.plan.proofs.Sound.{SoundAction}
use Rattle.numbers.proofs.Laws as numbers
use Rattle.sequencer.specs.declared.Machine.{Machine}
use Rattle.sequencer.specs.Answers.{Requested}
use Rattle.sequencer.specs.Machine.{step_of}
use Rattle.sequencer.specs.Calls.{record_number_of, queued_request, enqueued_of, request_of, slot_of}
use Rattle.sequencer.proofs.Laws.{SoundFacts, request_facts, slot_steps}
use Rattle.sequencer.proofs.Sound.{record_facts, step_sound, queued_sound}
use Rattle.theorem.proofs.Calls.{request_cases}
use Rattle.theorem.proofs.Plans.{chosen_of, acted_of, after_of, step_is}
use Rattle.theorem.proofs.Timing.Service.{Queued, left-arrive}
use Rattle.progress.proofs.Action.{sends, wait_of, Going, nearer}
use Rattle.progress.proofs.Distances.{gap}

pub record Live (m : Machine) : Type 0 where
  pub configured : m.configured ≡ true
  pub facts : SoundFacts m

pub live : (m : Machine) → record_number_of m ≡ 0 → Live m
live m z =
    record {
      configured = numbers.record_configured m.configured m.config m.past m.counters m.control m.queue.count z;
      facts = record_facts m z;
    }

pub live_number : {m : Machine} → Live m → record_number_of m ≡ 0
live_number {m} l = numbers.facts_number m.configured m.config m.past m.counters m.control m.queue.count l.configured l.facts

-- a slot is a step
pub slot_is : {m : Machine} → Live m → (bus : ℕ) → slot_of m bus ≡ step_of m bus
slot_is {m} l bus = slot_steps m bus (live_number l)

pub step_live : {m : Machine} → Live m → (bus : ℕ) → Live (step_of m bus).machine
unfolding step_of
step_live {m} l bus = record { configured = l.configured; facts = step_sound m l.facts bus }

pub step_config : (m : Machine) (bus : ℕ) → (step_of m bus).machine.config ≡ m.config
unfolding step_of
step_config m bus = refl

-- what a sound record says of its action
sound_queued : (c : Config) (programmed closed : Bool) (q : Queue) (a : Action) → SoundAction c programmed closed q.count a → Queued q a
sound_queued c programmed closed q (PowerUp n) s = tt
sound_queued c programmed closed q InitPrecharge s = tt
sound_queued c programmed closed q (InitRefresh n) s = tt
sound_queued c programmed closed q InitMode s = tt
sound_queued c programmed closed q InitSettle s = tt
sound_queued c programmed closed q Idle s = tt
sound_queued c programmed closed q (Access i) s = s.1
sound_queued c programmed closed q (CasLatency i left) s = tt
sound_queued c programmed closed q Turnaround s = tt
sound_queued c programmed closed q PrechargeAll s = tt
sound_queued c programmed closed q Refresh s = tt
sound_queued c programmed closed q (RefreshCycle left) s = tt

queued : {m : Machine} → Live m → Queued m.queue m.control.action
queued {m} l = sound_queued m.config m.past.programmed (all_closed (row_at m.past)) m.queue m.control.action l.facts.action

pub going : {m : Machine} (l : Live m) → in_service m.control.action ≡ true → Going l.facts.accepted m.past m.queue m.control.action
going {m} l s = record { service = s; sound = l.facts.action }

-- the wait of the action under way
abbrev pub waiting : Machine → ℕ
waiting m = wait_of m.config m.past m.queue m.control.action

-- A request, accepted or refused.
pub record Asked (m : Machine) (r : Requested) : Type 0 where
  pub alive : Live r.machine
  pub config : r.machine.config ≡ m.config
  pub past : r.machine.past ≡ m.past
  pub action : r.machine.control.action ≡ m.control.action
  pub same : waiting r.machine ≡ waiting m

pub asked : {m : Machine} → Live m → (kind : Kind) (address halfword : ℕ) → Asked m (request_of m kind address halfword)
unfolding enqueued_of
asked {m} l kind address halfword =
    request_cases m kind address halfword (Asked m)
    (λ e.
    let f = request_facts m address e in
    record {
      alive = record { configured = l.configured; facts = queued_sound m kind address halfword f };
      config = refl;
      past = refl;
      action = refl;
      same =
          ap (λ n. cond (sends m.control.action) (gap m.config m.past) 0 + n)
          (left-arrive m.config m.past m.queue m.control.action (queued_request m kind address halfword) f.room (queued l));
    })
    (λ e. record { alive = l; config = refl; past = refl; action = refl; same = refl })

-- A slot of an action under way.

pub goes_on : (m : Machine) → is_idle m.control.action ≡ false → chosen_of m ≡ record { control = m.control; queue = m.queue }
unfolding chosen_of current_of
goes_on m e = rw e

pub step_nearer : {m : Machine} → Live m → in_service m.control.action ≡ true → is_idle m.control.action ≡ false → (bus : ℕ)
    → waiting (step_of m bus).machine + 1 ≤ waiting m
unfolding acted_of after_of
step_nearer {m} l s e bus =
    rw (step_is m bus, goes_on m e) (nearer l.facts.accepted m.past m.queue m.control.action (going l s) e bus).by
