-- Many slots on the machine's parts, as the code's contract says it. Nothing here has to be believed: `slots_is` of sequencer/proofs/Batch.antt shows that
-- it is the slots of `sequencer`.
use Rattle.std.specs.Prelude.{ℕ, List, [], ◌∷◌, ◌++◌, take, drop}
use Rattle.config.specs.declared.Config.{Config}
use Rattle.ages.specs.declared.Past.{Past}
use Rattle.queue.specs.declared.Queue.{Queue}
use Rattle.refresh.specs.declared.Counters.{Counters}
use Rattle.plan.specs.declared.Control.{Control}
use Rattle.packing.specs.Packing.{command_word, report_word}
use Rattle.turn.specs.Parts.{Parts, stepped_of}

-- the parts after slots, and the words of their commands and reports
pub record Ran : Type 0 where
  pub past : Past
  pub counters : Counters
  pub control : Control
  pub queue : Queue
  pub commands : List ℕ
  pub reports : List ℕ

-- as the code has them, changed in place
abbrev pub gathered : Past → Counters → Control → Queue → List ℕ → List ℕ → Ran
gathered p n x q commands reports =
    record { past = p; counters = n; control = x; queue = q; commands = commands; reports = reports }

-- a slot for each of the halfwords that the bus carries
unfoldable pub ran_of : Config → Past → Counters → Control → Queue → List ℕ → Ran
ran_of c p n x q [] = record { past = p; counters = n; control = x; queue = q; commands = []; reports = [] }
ran_of c p n x q (bus ∷ later) =
    let t : Parts = stepped_of c p n x q bus in
    let r : Ran = ran_of c t.past t.counters t.control t.queue later in
    record {
      past = r.past;
      counters = r.counters;
      control = r.control;
      queue = r.queue;
      commands = command_word t.command ∷ r.commands;
      reports = report_word t.report ∷ r.reports;
    }

-- a slot for each of the first halfwords; their words are stored from the first place on, and what is beyond them stays
unfoldable pub filled_of : ℕ → Config → Past → Counters → Control → Queue → List ℕ → List ℕ → List ℕ → Ran
filled_of slots c p n x q bus commands reports =
    let r : Ran = ran_of c p n x q (take slots bus) in
    record {
      past = r.past;
      counters = r.counters;
      control = r.control;
      queue = r.queue;
      commands = r.commands ++ drop slots commands;
      reports = r.reports ++ drop slots reports;
    }
