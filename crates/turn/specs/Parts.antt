-- One slot on the machine's parts, as the code's contracts say it. Nothing here has to be believed: `slot_is` of sequencer/proofs/Laws.antt shows that it is
-- the slot of `sequencer`.
use Rattle.std.specs.Prelude.{ℕ, cond, eqb}
use Rattle.config.specs.declared.Config.{Config}
use Rattle.command.specs.declared.Command.{Command}
use Rattle.command.specs.declared.Command.TheVariants.{Nop}
use Rattle.ages.specs.declared.Past.{Past}
use Rattle.ages.specs.Ages.{by_ages, sent_of}
use Rattle.queue.specs.declared.Queue.{Queue}
use Rattle.refresh.specs.declared.Counters.{Counters}
use Rattle.plan.specs.declared.Control.{Control}
use Rattle.plan.specs.declared.Report.{Report}
use Rattle.plan.specs.declared.Report.TheVariants.{Nothing}
use Rattle.plan.specs.Slot.{Turn, turn_of}
use Rattle.turn.specs.declared.Turned.{Turned}

-- what a slot gives, and the parts after it
pub record Parts : Type 0 where
  pub command : Command
  pub report : Report
  pub past : Past
  pub counters : Counters
  pub control : Control
  pub queue : Queue

-- as the code has them: the parts changed in place, and the rest in its answer
abbrev pub gathered : Past → Counters → Control → Queue → Turned → Parts
gathered p n x q r = record { command = r.command; report = r.report; past = p; counters = n; control = x; queue = q }

-- the slot of `plan`, with the past after its command
unfoldable pub stepped_of : Config → Past → Counters → Control → Queue → ℕ → Parts
stepped_of c p n x q bus =
    let t : Turn = turn_of c (by_ages c p) n x q bus in
    record {
      command = t.command;
      report = t.report;
      past = sent_of p t.command;
      counters = t.counters;
      control = t.control;
      queue = t.queue;
    }

-- a NOP that reports nothing, and nothing changes
abbrev pub kept_of : Past → Counters → Control → Queue → Parts
kept_of p n x q = record { command = Nop; report = Nothing; past = p; counters = n; control = x; queue = q }

abbrev pub refused_of : Turned
refused_of = record { command = Nop; report = Nothing; sent = 0; told = 0 }

-- a slot is refused by any number but 0
unfoldable pub turned_of : ℕ → Config → Past → Counters → Control → Queue → ℕ → Parts
turned_of number c p n x q bus = cond (eqb number 0) (stepped_of c p n x q bus) (kept_of p n x q)
