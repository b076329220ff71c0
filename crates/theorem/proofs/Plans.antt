-- A machine's slot as the claim's proofs take it apart: its counters, its action, the action's plan carried out, and what follows.
use Prim.Native.Nat.{ℕ}
use mathlib.Core.Path.{◌≡◌, refl}
use Rattle.device.specs.View.{all_closed}
use Rattle.ages.specs.Ages.{row_at}
use Rattle.queue.specs.Places.{get_of}
use Rattle.refresh.specs.declared.Counters.{Counters}
use Rattle.plan.specs.Actions.{under_way}
use Rattle.plan.specs.Plan.{queue_after, counters_after}
use Rattle.plan.specs.Choice.{Choice, current_of}
use Rattle.plan.specs.Slot.{ticked_of, turn_of}
use Rattle.soundness.proofs.Plans.{Served, performed_of, served_of}
use Rattle.sequencer.specs.declared.Machine.{Machine}
use Rattle.sequencer.specs.Answers.{Slot}
use Rattle.sequencer.specs.Machine.{machine_with, step_of}

unfoldable pub counters_of : Machine → Counters
counters_of m = ticked_of m.config m.counters m.control.action

unfoldable pub chosen_of : Machine → Choice
chosen_of m = current_of m.control (counters_of m).backlog m.queue (all_closed (row_at m.past))

unfoldable pub acted_of : Machine → Choice → ℕ → Served
acted_of m x bus = served_of m.config m.past (get_of x.queue (under_way x.control.action)) x.control.action bus

unfoldable pub after_of : Machine → Choice → Served → Slot
after_of m x s =
    record {
      machine = machine_with m.configured m.config s.past (counters_after (counters_of m) s.outcome.refreshes)
          (record { action = s.outcome.action; must = x.control.must })
          (queue_after x.queue (under_way x.control.action) s.outcome.leaves) m.accepted;
      number = 0;
      command = s.command;
      report = s.outcome.report;
    }

pub step_is : (m : Machine) (bus : ℕ) → step_of m bus ≡ after_of m (chosen_of m) (acted_of m (chosen_of m) bus)
unfolding step_of turn_of counters_of chosen_of acted_of after_of served_of performed_of
step_is m bus = refl
