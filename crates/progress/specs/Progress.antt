-- What keeps a terminal going, since nobody can get to one that has stopped (the tender, condition 1). It holds of all records, whether calls made them
-- or not; number 0 says that a record is configured and sound.
use Rattle.std.specs.Prelude.{ℕ, ◌+◌, ◌-◌, ◌*◌, ◌≤◌, max, ◌≡◌, Bool, true, false, ◌||◌, List, [], ◌∷◌, eqb, length, None}
use Rattle.config.specs.declared.Config.{Config}
use Rattle.device.specs.View.{all_closed}
use Rattle.ages.specs.Ages.{row_at}
use Rattle.queue.specs.declared.Kind.{Kind}
use Rattle.refresh.specs.declared.Level.{Level}
use Rattle.refresh.specs.Urgency.{level_of, run_of}
use Rattle.plan.specs.declared.Action.{Action}
use Rattle.plan.specs.declared.Action.TheVariants.{
  PowerUp,
  InitPrecharge,
  InitRefresh,
  InitMode,
  InitSettle,
  Idle,
  Access,
  CasLatency,
  Turnaround,
  PrechargeAll,
  Refresh,
  RefreshCycle,
}
use Rattle.plan.specs.Actions.{in_service}
use Rattle.plan.specs.Choice.{rules_of}
use Rattle.sequencer.specs.declared.Machine.{Machine}
use Rattle.sequencer.specs.Calls.{configure_of, record_number_of, request_of, slot_of}
use Rattle.sequencer.specs.Batch.{many_slots_of}
use Rattle.model.specs.World.{Call}
use Rattle.model.specs.Condition.{first_service}
use Rattle.progress.specs.Calls.{after_calls, slots_in, chooses}

-- A call neither blanks a record nor makes it unsound: 9, 8 or 0 is given for it as before. It keeps the configuration, and it ends no service.
pub record Keeps (m next : Machine) : Type 0 where
  pub number : record_number_of next ≡ record_number_of m
  pub config : next.config ≡ m.config
  pub service : in_service m.control.action ≡ true → in_service next.control.action ≡ true

-- Every call, for every record. (The reading call gives none back.)
pub record KeptSound : Type 0 where
  pub configured : (cfg row ref tim : ℕ) → (configure_of cfg row ref tim).number ≡ 0 → record_number_of (configure_of cfg row ref tim).machine ≡ 0
  pub blank : (cfg row ref tim : ℕ) → ((configure_of cfg row ref tim).number ≡ 0 → ⊥) → record_number_of (configure_of cfg row ref tim).machine ≡ 8
  pub request : (m : Machine) (kind : Kind) (address halfword : ℕ) → Keeps m (request_of m kind address halfword).machine
  pub slot : (m : Machine) (bus : ℕ) → Keeps m (slot_of m bus).machine
  pub slots : (m : Machine) (bus commands reports : List ℕ) → Keeps m (many_slots_of m bus commands reports).machine

-- The bounds, in slots.

-- the initialisation's own length: the slots before the first service slot
unfoldable pub start_within : Config → ℕ
start_within c = first_service c - 1

-- an action under way takes A or F at most; before that R2 may ask for tRFC or 2 slots after a command that the record says was just sent, below F
unfoldable pub choice_within : Config → ℕ
choice_within c = c.refresh + max c.access c.refresh

-- fifteen refreshes, and one for each of the four intervals at most that expire meanwhile (RR is above 6F), of F slots each, and R2's wait before them
unfoldable pub worked_off_within : Config → ℕ
worked_off_within c = 20 * c.refresh

-- is a refresh chosen, and its DEAC still to come?
abbrev pub refresh_chosen : Action → Bool
refresh_chosen (PowerUp n) = false
refresh_chosen InitPrecharge = false
refresh_chosen (InitRefresh n) = false
refresh_chosen InitMode = false
refresh_chosen InitSettle = false
refresh_chosen Idle = false
refresh_chosen (Access i) = false
refresh_chosen (CasLatency i left) = false
refresh_chosen Turnaround = false
refresh_chosen PrechargeAll = true
refresh_chosen Refresh = false
refresh_chosen (RefreshCycle left) = false

-- with no request to choose, rule 1, 3 or 5 refreshes, as the record is; or a refresh is chosen already
abbrev pub refreshed_next : Machine → Bool
refreshed_next m =
    let level : Level = level_of m.counters.backlog in
    refresh_chosen (rules_of (run_of m.control.must level) level None None (all_closed (row_at m.past))) || refresh_chosen m.control.action

-- is the backlog 0 now, or after one of the slots with these halfwords on the bus?
abbrev pub works_off : Machine → List ℕ → Bool
works_off m [] = eqb m.counters.backlog 0
works_off m (bus ∷ rest) = eqb m.counters.backlog 0 || works_off (slot_of m bus).machine rest

pub record Progress : Type 0 where
  -- with any requests and any bus: the machine gets into service and stays there
  pub started : (m : Machine) → record_number_of m ≡ 0 → (calls : List Call) → start_within m.config ≤ slots_in calls
      → in_service (after_calls m calls).control.action ≡ true
  -- in service, one of the slots makes a choice
  pub chosen : (m : Machine) → record_number_of m ≡ 0 → in_service m.control.action ≡ true → (calls : List Call) → choice_within m.config ≤ slots_in calls
      → chooses m calls ≡ true
  -- in service, with nothing queued and no new requests: a backlog that is refreshed then is worked off
  pub worked_off : (m : Machine) → record_number_of m ≡ 0 → in_service m.control.action ≡ true → m.queue.count ≡ 0 → refreshed_next m ≡ true
      → (buses : List ℕ) → worked_off_within m.config ≤ length buses → works_off m buses ≡ true
