-- Tapes of our own machine, from its first slot on, with its own words (document 02, (v)).
use Rattle.std.specs.Prelude.{ℕ, ◌≡◌, cond, List, [], ◌∷◌, ◌++◌, ltb, length, take}
use Rattle.config.specs.declared.Config.{Config}
use Rattle.command.specs.declared.Command.{Command}
use Rattle.device.specs.History.{start_log, allowed}
use Rattle.tape.specs.Writing.{tape_of}
use Rattle.sequencer.specs.declared.Machine.{Machine}
use Rattle.sequencer.specs.Answers.{Slot}
use Rattle.sequencer.specs.Calls.{configure_of, request_of, slot_of}
use Rattle.sequencer.specs.Batch.{Batch, many_slots_of}
use Rattle.model.specs.Sdram.{Cells, Sdram, start_sdram, takes, sdram_after}
use Rattle.model.specs.World.{Call, request, slot, slots, backlog, halfword_of}
use Rattle.judge.specs.Judge.{said_of, longest, judge_of}
use Rattle.judge.specs.Laws.{fed_all}

-- the commands of slots, one for each halfword on the bus
unfoldable pub commands_of : Machine → List ℕ → List Command
commands_of m [] = []
commands_of m (bus ∷ later) = let s : Slot = slot_of m bus in s.command ∷ commands_of s.machine later

-- the commands of all slots that calls run. Each call is handed the record that the one before gave back; what the bus carries is any halfwords, and not only those
-- that a sound device puts there
unfoldable pub recorded_of : Machine → List Call → List Command
recorded_of m [] = []
recorded_of m (request kind address halfword ∷ later) = recorded_of (request_of m kind address (halfword_of halfword)).machine later
recorded_of m (slot bus ∷ later) = let s : Slot = slot_of m bus in s.command ∷ recorded_of s.machine later
recorded_of m (slots bus commands reports ∷ later) =
    let r : Batch = many_slots_of m bus commands reports in commands_of m (take r.count bus) ++ recorded_of r.machine later
recorded_of m (backlog ∷ later) = recorded_of m later

-- the plain SDRAM of the third condition, fed commands one a slot
unfoldable pub sdram_fed : Config → Sdram → List Command → Sdram
sdram_fed c d [] = d
sdram_fed c d (k ∷ later) = sdram_fed c (sdram_after c d k) later

pub record OwnTapes : Type 0 where
  -- such a tape is accepted, unless it is too long
  pub accepted : (cfg row ref tim : ℕ) → (configure_of cfg row ref tim).number ≡ 0 → (calls : List Call)
      → let tape = tape_of (recorded_of (configure_of cfg row ref tim).machine calls) in
      judge_of cfg row ref tim tape ≡ cond (ltb longest (length tape)) (said_of 19) (said_of 0)
  -- the SDRAM that the judge's laws speak of is this one, whatever its cells hold at first
  pub same_sdram : (c : Config) (first : Cells) (fed : List Command) (k : Command) → takes c (sdram_fed c (start_sdram first) fed) k ≡ allowed c (fed_all c start_log fed) k
