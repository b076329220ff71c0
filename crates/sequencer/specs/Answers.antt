-- What the calls answer, in document 01's numbers and values, and the code's answers so.
use Rattle.std.specs.Prelude.{ℕ, Result, ⊤}
use Rattle.refusal.specs.declared.Refusal.{Refusal}
use Rattle.refusal.specs.Refused.{number_in, value_in}
use Rattle.command.specs.declared.Command.{Command}
use Rattle.plan.specs.declared.Report.{Report}
use Rattle.sequencer.specs.declared.Machine.{Machine}
use Rattle.sequencer.specs.declared.Answered.{Answered}
use Rattle.sequencer.specs.declared.Slot as code

-- a number of document 01's table, and the machine that a configuration gives: the blank one where the number is not 0
pub record Configured : Type 0 where
  pub number : ℕ
  pub machine : Machine

-- a number of the table, the request's own number (0 where it is refused), and the machine after it
pub record Requested : Type 0 where
  pub machine : Machine
  pub number : ℕ
  pub request : ℕ

-- a number of the table, the slot's command and report, and the machine after it
pub record Slot : Type 0 where
  pub machine : Machine
  pub number : ℕ
  pub command : Command
  pub report : Report

-- a number of the table, how many slots were run, and the machine after them
pub record Slots : Type 0 where
  pub machine : Machine
  pub number : ℕ
  pub count : ℕ

-- a number of the table, and the backlog
pub record Reading : Type 0 where
  pub number : ℕ
  pub backlog : ℕ

abbrev pub configured_in : Answered ⊤ → Configured
configured_in a = record { number = number_in a.answer; machine = a.machine }

abbrev pub requested_in : Answered ℕ → Requested
requested_in a = record { machine = a.machine; number = number_in a.answer; request = value_in a.answer }

abbrev pub slot_in : code.Slot → Slot
slot_in s = record { machine = s.machine; number = number_in s.answer; command = s.command; report = s.report }

abbrev pub slots_in : Answered ℕ → Slots
slots_in a = record { machine = a.machine; number = number_in a.answer; count = value_in a.answer }

abbrev pub reading_in : Result ℕ Refusal → Reading
reading_in r = record { number = number_in r; backlog = value_in r }
