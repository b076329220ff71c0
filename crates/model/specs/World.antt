-- Every list of calls on one machine from its accepted configuration on, beside the plain SDRAM and the flat memory.
use Rattle.std.specs.Prelude.{ℕ, ◌%◌, List, [], ◌∷◌, ◌++◌, take, drop}
use Rattle.std.proofs.Math.Option.{Option, none, some}
use Rattle.config.specs.declared.Config.{Config}
use Rattle.queue.specs.declared.Kind.{Kind}
use Rattle.plan.specs.declared.Report.{Report}
use Rattle.plan.specs.Completion.{Completion, completion_of}
use Rattle.sequencer.specs.declared.Machine.{Machine}
use Rattle.sequencer.specs.Answers.{Slot, Requested}
use Rattle.sequencer.specs.Calls.{request_of, slot_of}
use Rattle.sequencer.specs.Batch.{Batch, count_of, many_slots_of}
use Rattle.model.specs.Sdram.{Cells, Sdram, start_sdram, driven_in, sdram_after}
use Rattle.model.specs.Flat.{Flat, start_flat, flat_after}

-- a number's low 16 bits: every halfword is one, and nothing else
abbrev pub halfword_of : ℕ → ℕ
halfword_of n = n % 65536

-- a call with its arguments. A request has a halfword, which means nothing with a read. A slot has the halfword that the bus carries if the SDRAM has none on
-- it. Many slots have an array of such halfwords, and what the other two arrays hold before the call; each is of any length
pub data Call : Type 0 where
  request : (kind : Kind) (address halfword : ℕ) → Call
  slot : (bus : ℕ) → Call
  slots : (bus commands reports : List ℕ) → Call
  backlog : Call

pub record World : Type 0 where
  pub machine : Machine
  pub sdram : Sdram
  pub flat : Flat
  -- the numbers that reports carried so far
  pub reported : List ℕ

-- every cell holds a halfword
abbrev pub halfwords_of : Cells → Cells
halfwords_of first = λ x. halfword_of (first x)

-- the machine that configuration c gives, a device that c describes, whatever its cells hold, and the flat memory beside it
unfoldable pub start_world : Config → Machine → Cells → World
start_world c m first =
    record {
      machine = m;
      sdram = start_sdram (halfwords_of first);
      flat = start_flat c.geometry (halfwords_of first);
      reported = [];
    }

-- the halfword that the bus carries in the next slot
abbrev pub bus_or : Option ℕ → ℕ → ℕ
bus_or none any = any
bus_or (some h) any = h

unfoldable pub bus_of : World → ℕ → ℕ
bus_of w any = bus_or (driven_in w.sdram.log.now w.sdram.driven) (halfword_of any)

-- the numbers reported, after a slot's report
abbrev pub numbered : Option Completion → List ℕ → List ℕ
numbered none l = l
numbered (some x) l = x.number ∷ l

abbrev pub reported_after : Report → List ℕ → List ℕ
reported_after r l = numbered (completion_of r) l

-- what the next slot gives
unfoldable pub slot_in : World → ℕ → Slot
slot_in w any = slot_of w.machine (bus_of w any)

unfoldable pub after_slot : Config → World → Slot → World
after_slot c w s =
    record {
      machine = s.machine;
      sdram = sdram_after c w.sdram s.command;
      flat = w.flat;
      reported = reported_after s.report w.reported;
    }

-- Many slots in one call (document 02, (i)) stand for the slots that it runs.

-- the world after slots, one after the other
unfoldable pub after_slots : Config → World → List ℕ → World
after_slots c w [] = w
after_slots c w (any ∷ later) = after_slots c (after_slot c w (slot_in w any)) later

-- and the halfwords that the bus carries in them, made slot by slot
unfoldable pub bus_along : Config → World → List ℕ → List ℕ
bus_along c w [] = []
bus_along c w (any ∷ later) = bus_of w any ∷ bus_along c (after_slot c w (slot_in w any)) later

-- the halfwords that the call uses: those of the slots that it runs
abbrev pub used_of : List ℕ → List ℕ → List ℕ → List ℕ
used_of bus commands reports = take (count_of bus commands reports) bus

-- the array that it is handed: the halfwords that the bus carries in its slots, and beyond the count any. Every array that fits the SDRAM is handed as it is
-- (`Along`)
unfoldable pub handed_of : Config → World → List ℕ → List ℕ → List ℕ → List ℕ
handed_of c w bus commands reports = bus_along c w (used_of bus commands reports) ++ drop (count_of bus commands reports) bus

-- what it gives
unfoldable pub batch_in : Config → World → List ℕ → List ℕ → List ℕ → Batch
batch_in c w bus commands reports = many_slots_of w.machine (handed_of c w bus commands reports) commands reports

-- the world after its slots, with the machine that it gives back
unfoldable pub after_batch : World → Batch → World
after_batch w r = record { machine = r.machine; sdram = w.sdram; flat = w.flat; reported = w.reported }

unfoldable pub after_request : World → Kind → ℕ → ℕ → Requested → World
after_request w kind address halfword r =
    record {
      machine = r.machine;
      sdram = w.sdram;
      flat = flat_after w.flat kind address halfword r.number;
      reported = w.reported;
    }

-- one call, handed the record that the one before gave; a number given as a halfword counts as `halfword_of` it; a reading call leaves everything as it was
unfoldable pub after : Config → World → Call → World
after c w (request kind a h) = after_request w kind a (halfword_of h) (request_of w.machine kind a (halfword_of h))
after c w (slot any) = after_slot c w (slot_in w any)
after c w (slots bus commands reports) = after_batch (after_slots c w (used_of bus commands reports)) (batch_in c w bus commands reports)
after c w backlog = w

-- all calls of a list, the first one first
unfoldable pub played : Config → World → List Call → World
played c w [] = w
played c w (k ∷ ks) = played c (after c w k) ks
