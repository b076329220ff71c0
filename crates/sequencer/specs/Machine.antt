-- The machine that a configuration gives, and one slot of it (document 01, "Start" and "A service slot").
use Rattle.std.specs.Prelude.{ℕ, Bool, true, false}
use Rattle.config.specs.declared.Config.{Config}
use Rattle.config.specs.Setting.{no_config}
use Rattle.ages.specs.declared.Past.{Past}
use Rattle.ages.specs.Ages.{fresh_of, by_ages, sent_of}
use Rattle.queue.specs.declared.Queue.{Queue}
use Rattle.queue.specs.Places.{empty_of}
use Rattle.refresh.specs.declared.Counters.{Counters}
use Rattle.refresh.specs.Counting.{start_of}
use Rattle.plan.specs.declared.Control.{Control}
use Rattle.plan.specs.declared.Action.TheVariants.{Idle}
use Rattle.plan.specs.Actions.{control_of, first_action}
use Rattle.plan.specs.Slot.{Turn, turn_of}
use Rattle.sequencer.specs.declared.Machine.{Machine}
use Rattle.sequencer.specs.Answers.{Slot}

-- a machine of its parts
abbrev pub machine_with : Bool → Config → Past → Counters → Control → Queue → ℕ → Machine
machine_with configured config past counters control queue accepted =
    record {
      queue = queue;
      past = past;
      config = config;
      counters = counters;
      control = control;
      accepted = accepted;
      configured = configured;
    }

-- the blank machine
unfoldable pub blank_of : Machine
blank_of = machine_with false no_config fresh_of (start_of 0) (control_of Idle false) empty_of 0

-- the machine that an accepted configuration gives
unfoldable pub machine_of : Config → Machine
machine_of c = machine_with true c fresh_of (start_of c.rr) (control_of (first_action c) false) empty_of 0

-- one slot of a configured machine; `bus` is the halfword that the bus carries
unfoldable pub step_of : Machine → ℕ → Slot
step_of m bus =
    let t : Turn = turn_of m.config (by_ages m.config m.past) m.counters m.control m.queue bus in
    record {
      machine = machine_with m.configured m.config (sent_of m.past t.command) t.counters t.control t.queue m.accepted;
      number = 0;
      command = t.command;
      report = t.report;
    }
