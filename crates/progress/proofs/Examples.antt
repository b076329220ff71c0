-- Worked examples, computed: the bounds are met by records that no calls made, and A + F slots are not enough for a choice.
use Prim.Native.Nat.{ℕ}
use mathlib.Core.Path.{◌≡◌, refl}
use mathlib.Core.Bool.{true, false}
use mathlib.Core.List.{List, [], ◌∷◌}
use lib.ListN.{replicate}
use Rattle.config.specs.declared.Config.{Config}
use Rattle.config.specs.Accepted.{accepted_of as config_accepted, shaped_of, distances_of, spanned_of}
use Rattle.address.specs.Map.{capacity_of, cell_of, holds_of, address_number_of}
use Rattle.device.specs.View.{all_closed, marks_of, row_of}
use Rattle.device.specs.Rules.{R7, R12-open, R13-open, R14, R16, requirements, legal_of, carried_of}
use Rattle.ages.specs.declared.Past.{Past}
use Rattle.ages.specs.Ages.{past_of, open_in, row_in, open_rows, aged_of, ages_after, sent_of}
use Rattle.queue.specs.declared.Kind.{Kind}
use Rattle.queue.specs.Places.{kind_in, request_in, request_at, get_of, empty_of, stored_of, accept_of, shifted_of, remove_of}
use Rattle.queue.specs.Oldest.{blocked_of, ready_of, oldest_of}
use Rattle.refresh.specs.Counting as counting
use Rattle.refresh.specs.Urgency.{level_of}
use Rattle.plan.specs.declared.Action.{Action}
use Rattle.plan.specs.declared.Action.TheVariants.{InitPrecharge, Idle, PrechargeAll}
use Rattle.plan.specs.Actions.{in_service, sound_action}
use Rattle.plan.specs.Plan as plan
use Rattle.plan.specs.Choice as choice
use Rattle.plan.specs.Slot.{ticked_of, turn_of}
use Rattle.numbers.specs.Sound.{state_by, fit_by, sound_by}
use Rattle.numbers.specs.Numbers.{record_number_by, room_number_of, request_number_by}
use Rattle.sequencer.specs.declared.Machine.{Machine}
use Rattle.sequencer.specs.Machine.{machine_with, step_of}
use Rattle.sequencer.specs.Sound.{sound_of}
use Rattle.sequencer.specs.Calls.{queued_request, enqueued_of, request_of, refused_with, slot_of}
use Rattle.model.specs.World.{Call, request, slot}
use Rattle.model.specs.Condition.{first_service}
use Rattle.progress.specs.Calls.{after_calls, chooses}
use Rattle.progress.specs.Progress.{start_within, choice_within, worked_off_within, refreshed_next, works_off}

-- tRFC 32 and all other distances 1, CL 2: A 9, F 34, RR 213
abbrev slow : Config
slow =
    record {
      geometry = record { columns = 8; banks = 0; rows = 9 };
      latency = 2;
      rfc = 32;
      rp = 1;
      rcd = 1;
      wr = 1;
      ras = 1;
      rc = 1;
      rrd = 1;
      rr = 213;
      access = 9;
      refresh = 34;
    }

-- tRC 16 and all other distances 1, CL 2: A 24, F 17, RR 126
abbrev cycling : Config
cycling =
    record {
      geometry = record { columns = 8; banks = 0; rows = 9 };
      latency = 2;
      rfc = 1;
      rp = 1;
      rcd = 1;
      wr = 1;
      ras = 1;
      rc = 16;
      rrd = 1;
      rr = 126;
      access = 24;
      refresh = 17;
    }

-- every command was sent in the slot that is just over, which no device allows; banks are open that the device does not have
abbrev rushed : Past
rushed = past_of (replicate 16 0) (replicate 4 true) (replicate 4 0) true

abbrev made_on : Config → Action → ℕ → Machine
made_on c a backlog = machine_with true c rushed (record { interval = 1; backlog = backlog }) (record { action = a; must = false }) empty_of 0

abbrev made : Action → ℕ → Machine
made = made_on slow

-- so many slots, after two requests
abbrev busy : ℕ → List Call
busy n = request Kind.Read 0 0 ∷ request Kind.Read 2048 0 ∷ replicate n (slot 0)

record Examples : Type 0 where
  -- the records are sound
  sound : (sound_of (made InitPrecharge 0) ≡ true) × (sound_of (made PrechargeAll 15) ≡ true) × (sound_of (made Idle 15) ≡ true)
  -- DEAC waits for tRFC, as R2 asks: it is sent in slot 33, and the first service slot is 292
  started :
      (in_service (after_calls (made InitPrecharge 0) (busy 290)).control.action ≡ false)
      × (in_service (after_calls (made InitPrecharge 0) (busy 291)).control.action ≡ true)
  -- a refresh under way waits for tRFC, and then takes tRP + tRFC slots: a choice comes in slot 66, not within A + F = 43 slots
  chosen : (chooses (made PrechargeAll 15) (busy 65) ≡ false) × (chooses (made PrechargeAll 15) (busy 66) ≡ true)
  -- and one that waits for tRC has its REFR in slot 17, tRC after the ACTs, also of banks that the device does not have
  cycled : (sound_of (made_on cycling PrechargeAll 15) ≡ true) × (chooses (made_on cycling PrechargeAll 15) (busy 17) ≡ false) × (chooses (made_on cycling PrechargeAll 15) (busy 18) ≡ true)
  -- a backlog of 15, and two intervals that expire meanwhile, take 17 refreshes; at backlog 3 with a bank open there is none
  worked_off : (works_off (made Idle 15) (replicate 562 0) ≡ true) × (works_off (made Idle 15) (replicate 561 0) ≡ false) × (refreshed_next (made Idle 3) ≡ false)
  bounds : start_within slow ∷ choice_within slow ∷ worked_off_within slow ∷ [] ≡ 1963 ∷ 68 ∷ 680 ∷ []

examples : Examples
unfolding start_within first_service choice_within worked_off_within record_number_by room_number_of request_number_by queued_request enqueued_of request_of refused_with slot_of step_of config_accepted shaped_of distances_of spanned_of state_by fit_by sound_by sound_action capacity_of cell_of holds_of address_number_of all_closed marks_of row_of legal_of requirements R7 R12-open R13-open R14 R16 open_in row_in open_rows aged_of ages_after sent_of carried_of empty_of accept_of stored_of remove_of shifted_of get_of request_at request_in kind_in blocked_of ready_of oldest_of counting.tick_of counting.refreshed_of counting.sound_counters level_of plan.quietly plan.outcome_of plan.tries plan.rest plan.after_pause plan.after_init_refresh plan.read_plan plan.write_plan plan.transfer_plan plan.access_plan plan.taken_plan plan.latency_plan plan.cycle_left plan.refresh_plan plan.plan_of plan.queue_after plan.counters_after choice.rules_of choice.choice_of choice.current_of ticked_of turn_of
examples =
    record {
      sound = (refl, refl, refl);
      started = (refl, refl);
      chosen = (refl, refl);
      cycled = (refl, refl, refl);
      worked_off = (refl, refl, refl);
      bounds = refl;
    }
