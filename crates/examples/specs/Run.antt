-- What a logic analyser sees of a machine: the slots that carry a command or a report, and the slots in which the machine is free again.
use Rattle.std.specs.Prelude.{ℕ, zero, suc, Bool, true, false, cond, ◌&&◌, not, List, [], ◌∷◌, ◌++◌, leb}
use Rattle.std.proofs.Math.Option.{Option, none, some}
use Rattle.command.specs.declared.Command.{Command}
use Rattle.command.specs.declared.Command.TheVariants.{Nop, Act, Read, Wrt, Pre, Deac, Refr, Mrs}
use Rattle.device.specs.View.{all_closed}
use Rattle.ages.specs.Ages.{row_at}
use Rattle.refresh.specs.declared.Counters.{Counters}
use Rattle.plan.specs.Completion.{Completion, completion_of}
use Rattle.plan.specs.Actions.{is_idle, in_service}
use Rattle.plan.specs.Choice.{current_of}
use Rattle.plan.specs.Slot.{ticked_of}
use Rattle.sequencer.specs.declared.Machine.{Machine}
use Rattle.sequencer.specs.Answers.{Slot}
use Rattle.sequencer.specs.Calls.{request_of, slot_of}
use Rattle.model.specs.World.{Call, request, slot, slots, backlog}

pub data Event : Type 0 where
  -- a slot carries this command
  sent : ℕ → Command → Event
  -- a slot reports this
  told : ℕ → Completion → Event
  -- the first slot in which a choice can be made again
  free : ℕ → Event

abbrev pub sent_in : ℕ → Command → List Event
sent_in s Nop = []
sent_in s (Act b r) = sent s (Act b r) ∷ []
sent_in s (Read b k) = sent s (Read b k) ∷ []
sent_in s (Wrt b k h) = sent s (Wrt b k h) ∷ []
sent_in s (Pre b) = sent s (Pre b) ∷ []
sent_in s Deac = sent s Deac ∷ []
sent_in s Refr = sent s Refr ∷ []
sent_in s (Mrs w) = sent s (Mrs w) ∷ []

abbrev pub told_in : ℕ → Option Completion → List Event
told_in s none = []
told_in s (some x) = told s x ∷ []

abbrev pub free_in : ℕ → Bool → List Event
free_in s true = free s ∷ []
free_in s false = []

-- does an action occupy the next slot: the one under way, or one that is chosen in it?
unfoldable pub occupied : Machine → Bool
occupied m =
    let n : Counters = ticked_of m.config m.counters m.control.action in
    in_service m.control.action && not (is_idle (current_of m.control n.backlog m.queue (all_closed (row_at m.past))).control.action)

-- the events of n slots, the first of them slot s, without those before slot `from`; `was` says whether an action occupied the slot before; the bus carries `bus`
unfoldable pub watched : ℕ → ℕ → ℕ → Bool → ℕ → Machine → List Event
watched zero s from was bus m = []
watched (suc n) s from was bus m =
    let now : Slot = slot_of m bus in
    let later : List Event = watched n (suc s) from (occupied m) bus now.machine in
    cond (leb from s) (free_in s (was && is_idle m.control.action) ++ (sent_in s now.command ++ (told_in s (completion_of now.report) ++ later))) later

-- the machine after the requests of a list; its other calls do not count here
unfoldable pub requested : Machine → List Call → Machine
requested m [] = m
requested m (request kind a h ∷ ks) = requested (request_of m kind a h).machine ks
requested m (slot b ∷ ks) = requested m ks
requested m (slots b k r ∷ ks) = requested m ks
requested m (backlog ∷ ks) = requested m ks

-- the numbers that reports carry, in order
abbrev pub numbers_of : List Event → List ℕ
numbers_of [] = []
numbers_of (sent s k ∷ l) = numbers_of l
numbers_of (told s x ∷ l) = x.number ∷ numbers_of l
numbers_of (free s ∷ l) = numbers_of l
