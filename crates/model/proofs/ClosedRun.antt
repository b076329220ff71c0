-- Closed lists of calls, computed: the third condition is not about an empty set of runs, and a claim that says something else is refuted by a
-- figure. The first has refusals, a Must run, and a read that is served before an older write; the second a read, a write and a read of one
-- address, slot by slot and in one call.
use Prim.Native.Nat.{ℕ, zero, suc, ◌+◌, ◌-◌}
use mathlib.Core.Path.{◌≡◌, refl}
use mathlib.Core.Logic.{⊎_elim}
use mathlib.Core.Bool.{Bool, true, ◌&&◌, not}
use mathlib.Core.List.Memᴰ
use mathlib.Core.List.{List, [], ◌∷◌, ◌++◌, map, Memᴰ}
use mathlib.Core.Option.{some}
use lib.Dec.{eqb}
use lib.ListN.{length, take, drop, replicate}
use borrow.Author.Tests.{leb-true, eqb-false, not-true}
use Rattle.words.specs.Words.{reserved_map, reserved_all}
use Rattle.config.specs.Setting.{offered_of, geometry_of, config_of, checked_of, setting_of}
use Rattle.address.specs.Map.{capacity_of, address_number_of, cell_of, holds_of, cell_at}
use Rattle.device.specs.View.{all_closed, marks_of, row_of}
use Rattle.device.proofs.Tests.{both}
use Rattle.device.specs.Rules.{R7, R12-open, R13-open, R14, R16, requirements, legal_of, carried_of}
use Rattle.device.specs.History.{last, open_row, start_log, fed}
use Rattle.ages.specs.Ages.{fresh_of, open_in, row_in, open_rows, aged_of, ages_after, sent_of}
use Rattle.queue.specs.declared.Kind.{Kind}
use Rattle.queue.specs.Places.{kind_in, request_in, request_at, get_of, empty_of, stored_of, accept_of, shifted_of, remove_of}
use Rattle.queue.specs.Oldest.{blocked_of, ready_of, oldest_of}
use Rattle.refresh.specs.Counting.{start_of, tick_of, refreshed_of, expiries_of, sound_counters}
use Rattle.refresh.specs.Urgency.{level_of}
use Rattle.plan.specs.Actions.{sound_action}
use Rattle.plan.specs.Plan as plan
use Rattle.plan.specs.Choice.{rules_of, choice_of, current_of}
use Rattle.plan.specs.Slot.{ticked_of, turn_of}
use Rattle.plan.specs.Completion.{read_done, write_done, completion_of}
use Rattle.plan.specs.declared.Report.{Report}
use Rattle.packing.specs.Packing.{word_of, command_word, report_word}
use Rattle.sequencer.specs.declared.Machine.{Machine}
use Rattle.sequencer.specs.Batch.{series_of, batch_of, many_slots_of}
use Rattle.sequencer.specs.Machine.{blank_of, machine_of, step_of}
use Rattle.numbers.specs.Sound.{state_by, fit_by, sound_by}
use Rattle.numbers.specs.Numbers.{record_number_by, room_number_of, request_number_by}
use Rattle.config.specs.Accepted.{accepted_of as config_accepted, shaped_of, distances_of, spanned_of}
use Rattle.sequencer.specs.Calls.{
  configured_by,
  configure_of,
  queued_request,
  enqueued_of,
  request_of,
  slot_of,
}
use Rattle.model.specs.Sdram.{stored, start_sdram, cells_after, driven_after, takes, sdram_after}
use Rattle.model.specs.Flat.{start_flat, taken, flat_after}
use Rattle.model.specs.Condition.{first_service, expiries, refreshes, InBounds, Reports}
use Rattle.model.specs.World.{
  World,
  Call,
  request,
  slot,
  slots,
  start_world,
  bus_of,
  slot_in,
  after_slot,
  after_slots,
  bus_along,
  handed_of,
  batch_in,
  after_batch,
  after_request,
  after,
  played,
}

-- a list n times
pub times : ℕ → List Call → List Call
times zero l = []
times (suc n) l = l ++ times n l

-- document 01's E1, with cells that all hold 5
pub machine : Machine
machine = (configure_of 0x4400 0 27 0).machine

pub world : List Call → World
world calls = played machine.config (start_world machine.config machine (λ x. 5)) calls

-- a write and a read of address 0, two refused reads, a read of another block; then the initialisation
pub opening : List Call
opening =
    request Kind.Write 0 9 ∷ request Kind.Read 0 0 ∷ request Kind.Read 1 0 ∷ request Kind.Read 0x40000 0 ∷ request Kind.Read 0x800 0 ∷ times 227 (slot 0 ∷ [])

-- reads without end: refreshes are put off, and the write waits
pub busy : List Call
busy = times 82 (request Kind.Read 0x800 0 ∷ times 4 (slot 0 ∷ []))

-- and no more requests
pub rest : List Call
rest = times 90 (slot 0 ∷ [])

-- the same reads up to slot 550: in slot 551 the twelfth interval expires
pub brim : World
brim = world (opening ++ (times 80 (request Kind.Read 0x800 0 ∷ times 4 (slot 0 ∷ [])) ++ request Kind.Read 0x800 0 ∷ times 3 (slot 0 ∷ [])))

-- a read of address 2, a write of it and a read of it, all accepted before slot 1, after so many slots; the halfwords given with the reads mean nothing
pub chain : ℕ → World
chain n = world (request Kind.Read 2 3 ∷ request Kind.Write 2 65535 ∷ request Kind.Read 2 4 ∷ times n (slot 0 ∷ []))

-- its last eight slots in one call: the array for commands is the shortest
pub at_once : World
at_once = after machine.config (chain 228) (slots (replicate 12 0) (replicate 8 9) (replicate 10 9))

pub told_words : List ℕ
told_words = (batch_in machine.config (chain 228) (replicate 12 0) (replicate 8 9) (replicate 10 9)).reports

-- is a number not among these?
abbrev absent : ℕ → List ℕ → Bool
absent n [] = true
absent n (x ∷ l) = not (eqb n x) && absent n l

absent_not : (n : ℕ) (l : List ℕ) → absent n l ≡ true → Memᴰ n l → ⊥
absent_not n [] e m = Memᴰ.not-nil m
absent_not n (x ∷ l) e m =
    let h = both (not (eqb n x)) (absent n l) e in
    ⊎_elim (eqb-false n x (not-true (eqb n x) h.0)) (absent_not n l h.1) (Memᴰ.cases_cons m)

pub record ClosedRun : Type 0 where
  pub odd : (request_of machine Kind.Read 1 0).number ≡ 4
  pub beyond : (request_of machine Kind.Read 0x40000 0).number ≡ 5
  pub full : (request_of (world (times 8 (request Kind.Read 0 0 ∷ []))).machine Kind.Read 0 0).number ≡ 6
  -- a Must run is on
  pub must : (world (opening ++ busy)).machine.control.must ≡ true
  -- all 85 requests are reported: the read of another block first, the write and the read behind it last
  pub all : length (world (opening ++ (busy ++ rest))).reported ≡ 85
  pub first : drop 84 (world (opening ++ (busy ++ rest))).reported ≡ 3 ∷ []
  pub last_two : take 2 (world (opening ++ (busy ++ rest))).reported ≡ 2 ∷ 1 ∷ []
  -- the write is done
  pub stored_nine : (world (opening ++ (busy ++ rest))).sdram.cells (cell_at 0 0 0) ≡ 9
  -- and the refreshes were made up for
  pub refreshed : refreshes machine.config (world (opening ++ (busy ++ rest))) ≡ 15

pub closed_run : ClosedRun
unfolding first_service times machine world opening busy rest setting_of reserved_all reserved_map offered_of checked_of config_of geometry_of address_number_of capacity_of cell_of holds_of all_closed marks_of row_of R7 R12-open R13-open R14 R16 requirements legal_of last open_row start_log fed fresh_of open_in row_in open_rows aged_of ages_after sent_of carried_of empty_of accept_of stored_of remove_of shifted_of get_of request_at request_in kind_in blocked_of ready_of oldest_of start_of tick_of refreshed_of sound_counters level_of sound_action plan.quietly plan.outcome_of plan.tries plan.rest plan.after_pause plan.after_init_refresh plan.read_plan plan.write_plan plan.transfer_plan plan.access_plan plan.taken_plan plan.latency_plan plan.cycle_left plan.refresh_plan plan.plan_of plan.queue_after plan.counters_after rules_of choice_of current_of ticked_of turn_of blank_of machine_of step_of state_by fit_by sound_by config_accepted shaped_of distances_of spanned_of configured_by configure_of record_number_by room_number_of request_number_by queued_request enqueued_of request_of slot_of stored start_sdram cells_after driven_after takes sdram_after start_flat taken flat_after start_world bus_of slot_in after_slot after_request after played
closed_run =
    record {
      odd = refl;
      beyond = refl;
      full = refl;
      must = refl;
      all = refl;
      first = refl;
      last_two = refl;
      stored_nine = refl;
      refreshed = refl;
    }

-- What is claimed, at closed places.
pub record ClosedClaim : Type 0 where
  -- slot 551 sees a backlog of 12, which is in the bounds that are claimed
  pub twelve : expiries machine.config (brim.sdram.log.now + 1) - refreshes machine.config brim ≡ 12
  pub within : InBounds (expiries machine.config (brim.sdram.log.now + 1) - refreshes machine.config brim)
  -- the first read's halfword is what the address held before the write, though the write was accepted before its report; the last read's is
  -- the write's; and these reports are as claimed
  pub told :
      map (λ w. completion_of (slot_in w 0).report) (chain 230 ∷ chain 232 ∷ chain 235 ∷ [])
      ≡ some (read_done 1 5) ∷ some (write_done 2) ∷ some (read_done 3 65535) ∷ []
  pub read_reported : Reports (chain 230) (slot_in (chain 230) 0).report
  pub reread_reported : Reports (chain 235) (slot_in (chain 235) 0).report
  -- then three requests were accepted, none waits, each was reported once; and both memories have the write's halfword, the cells in column 1
  pub accepted : (chain 236).flat.count ≡ 3
  pub waiting : (chain 236).machine.queue.count ≡ 0
  pub once : (chain 236).reported ≡ 3 ∷ 2 ∷ 1 ∷ []
  pub flat_written : (chain 236).flat.contents 2 ≡ 65535
  pub cells_written : (chain 236).sdram.cells (cell_at 0 0 1) ≡ 65535
  -- in one call they are the same: the reports' words, with what was beyond them, the numbers, the cell
  pub told_at_once :
      told_words
      ≡ 0 ∷ 0 ∷ report_word (Report.Read 1 5) ∷ 0 ∷ report_word (Report.Write 2) ∷ 0 ∷ 0 ∷ report_word (Report.Read 3 65535) ∷ 9 ∷ 9 ∷ []
  pub once_at_once : at_once.reported ≡ 3 ∷ 2 ∷ 1 ∷ []
  pub written_at_once : at_once.sdram.cells (cell_at 0 0 1) ≡ 65535

pub closed_claim : ClosedClaim
unfolding at_once told_words word_of report_word command_word series_of batch_of many_slots_of after_slots bus_along handed_of batch_in after_batch first_service expiries_of times machine world opening brim chain setting_of reserved_all reserved_map offered_of checked_of config_of geometry_of address_number_of capacity_of cell_of holds_of all_closed marks_of row_of R7 R12-open R13-open R14 R16 requirements legal_of last open_row start_log fed fresh_of open_in row_in open_rows aged_of ages_after sent_of carried_of empty_of accept_of stored_of remove_of shifted_of get_of request_at request_in kind_in blocked_of ready_of oldest_of start_of tick_of refreshed_of sound_counters level_of sound_action plan.quietly plan.outcome_of plan.tries plan.rest plan.after_pause plan.after_init_refresh plan.read_plan plan.write_plan plan.transfer_plan plan.access_plan plan.taken_plan plan.latency_plan plan.cycle_left plan.refresh_plan plan.plan_of plan.queue_after plan.counters_after rules_of choice_of current_of ticked_of turn_of blank_of machine_of step_of state_by fit_by sound_by config_accepted shaped_of distances_of spanned_of configured_by configure_of record_number_by room_number_of request_number_by queued_request enqueued_of request_of slot_of stored start_sdram cells_after driven_after takes sdram_after start_flat taken flat_after start_world bus_of slot_in after_slot after_request after played
closed_claim =
    record {
      twelve = refl;
      within = leb-true _ _ refl;
      told = refl;
      read_reported = (record { least = leb-true _ _ refl; accepted = leb-true _ _ refl; new = absent_not _ _ refl; of_kind = refl }, refl);
      reread_reported = (record { least = leb-true _ _ refl; accepted = leb-true _ _ refl; new = absent_not _ _ refl; of_kind = refl }, refl);
      accepted = refl;
      waiting = refl;
      once = refl;
      flat_written = refl;
      cells_written = refl;
      told_at_once = refl;
      once_at_once = refl;
      written_at_once = refl;
    }
