-- Calls on a machine alone, with no SDRAM beside it: any requests, and a slot's halfword is what the bus carries.
use Rattle.std.specs.Prelude.{ℕ, ◌+◌, Bool, false, ◌||◌, List, [], ◌∷◌}
use Rattle.plan.specs.Actions.{is_idle}
use Rattle.sequencer.specs.declared.Machine.{Machine}
use Rattle.sequencer.specs.Calls.{request_of, slot_of}
use Rattle.sequencer.specs.Batch.{count_of, many_slots_of}
use Rattle.model.specs.World.{Call, request, slot, slots, backlog, used_of}

-- the record after a call, and after a list of calls
abbrev pub after_call : Machine → Call → Machine
after_call m (request kind a h) = (request_of m kind a h).machine
after_call m (slot bus) = (slot_of m bus).machine
after_call m (slots bus commands reports) = (many_slots_of m bus commands reports).machine
after_call m backlog = m

abbrev pub after_calls : Machine → List Call → Machine
after_calls m [] = m
after_calls m (k ∷ ks) = after_calls (after_call m k) ks

-- how many slots the calls run
abbrev pub slots_in : List Call → ℕ
slots_in [] = 0
slots_in (request kind a h ∷ ks) = slots_in ks
slots_in (slot bus ∷ ks) = slots_in ks + 1
slots_in (slots bus commands reports ∷ ks) = slots_in ks + count_of bus commands reports
slots_in (backlog ∷ ks) = slots_in ks

-- is a choice made in one of these slots, with these halfwords on the bus?
abbrev pub chooses_in : Machine → List ℕ → Bool
chooses_in m [] = false
chooses_in m (bus ∷ later) = is_idle m.control.action || chooses_in (slot_of m bus).machine later

-- is a choice made in one of the calls' slots?
abbrev pub chooses : Machine → List Call → Bool
chooses m [] = false
chooses m (request kind a h ∷ ks) = chooses (after_call m (request kind a h)) ks
chooses m (slot bus ∷ ks) = is_idle m.control.action || chooses (after_call m (slot bus)) ks
chooses m (slots bus commands reports ∷ ks) = chooses_in m (used_of bus commands reports) || chooses (after_call m (slots bus commands reports)) ks
chooses m (backlog ∷ ks) = chooses m ks
