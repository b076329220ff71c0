-- The third condition, as one claim about a list of calls: everything that the tender and document 01 say of it, by name.
-- The machine moves by the very definitions that the calls' contracts cite; all else here is measured from outside, off the SDRAM's own
-- history, the flat memory and the reports. What pins the rules themselves: the papers beside their definitions, the worked examples and the slips.
use Rattle.std.specs.Prelude.{ℕ, ◌+◌, ◌-◌, ◌*◌, ◌%◌, ◌^◌, ◌≤◌, ◌<◌, ◌≡◌, Bool, true, cond, ◌&&◌, eqb, leb, length, take, drop}
use mathlib.Core.List.{List, [], ◌∷◌, ◌++◌, map, Memᴰ}
use Rattle.std.proofs.Math.Option.{Option, none, some}
use Rattle.config.specs.declared.Config.{Config}
use Rattle.config.specs.Setting.{config_of}
use Rattle.command.specs.declared.Command.{Command}
use Rattle.address.specs.Map.{capacity_of, cell_of}
use Rattle.device.specs.View.{refresh_cycle, starts, all_closed}
use Rattle.device.specs.Rules.{legal_of}
use Rattle.device.specs.History.{History, allowed, open_row}
use Rattle.ages.specs.Ages.{by_ages, row_at}
use Rattle.queue.specs.declared.Kind.{Kind}
use Rattle.refresh.specs.Counting.{expiries_of, tick_of}
use Rattle.plan.specs.declared.Report.{Report}
use Rattle.plan.specs.Completion.{Completion, completion_of}
use Rattle.plan.specs.Actions.{in_service}
use Rattle.sequencer.specs.Answers.{Reading, Slot, Requested}
use Rattle.numbers.specs.Numbers.{last_number}
use Rattle.sequencer.specs.Calls.{configure_of, record_number_of, request_of, backlog_of}
use Rattle.packing.specs.Packing.{command_word, command_in, report_word, report_in}
use Rattle.packing.specs.Laws.{FitsCommand, FitsReport}
use Rattle.sequencer.specs.Batch.{Batch, count_of}
use Rattle.model.specs.Sdram.{Cells, takes}
use Rattle.model.specs.World.{
  World,
  halfword_of,
  Call,
  request,
  slot,
  slots,
  backlog,
  slot_in,
  after_slot,
  after_slots,
  used_of,
  batch_in,
  start_world,
  after,
}

-- Service slots and their REFRs, off the SDRAM's history.

-- the first service slot: after the pause, DEAC, eight REFR, MRS and one NOP, each at its first legal slot
unfoldable pub first_service : Config → ℕ
first_service c = 8 * c.rr + c.rp + 8 * c.rfc + 3

-- the service slots before slot `now`
abbrev pub served_by : Config → ℕ → ℕ
served_by c now = now - first_service c

-- a REFR: it starts the refresh cycle
abbrev pub is_refr : Command → Bool
is_refr k = starts refresh_cycle k

-- the REFRs sent from the first service slot on
abbrev pub service_refreshes : Config → History → ℕ
service_refreshes c [] = 0
service_refreshes c (s ∷ h) = cond (is_refr s.command && leb (first_service c) s.slot) (service_refreshes c h + 1) (service_refreshes c h)

-- interval expiries in the service slots before slot `now`, and the service REFRs so far
abbrev pub expiries : Config → ℕ → ℕ
expiries c now = expiries_of c.rr (served_by c now)

abbrev pub refreshes : Config → World → ℕ
refreshes c w = service_refreshes c w.sdram.log.past

-- the backlog: expiries so far less service REFRs so far
abbrev pub backlog_in : Config → World → ℕ
backlog_in c w = expiries c w.sdram.log.now - refreshes c w

-- it is from 0 to 13
abbrev pub InBounds : ℕ → Type 0
InBounds b = b ≤ 13

-- Reports.

-- every request accepted so far has been reported: its number occurs among the reported ones
abbrev pub AllReported : World → Type 0
AllReported w = (n : ℕ) → 1 ≤ n → n ≤ w.flat.count → Memᴰ n w.reported

-- a report names an accepted request not reported before, with its kind
pub record Named (w : World) (kind : Kind) (n : ℕ) : Type 0 where
  pub least : 1 ≤ n
  pub accepted : n ≤ w.flat.count
  pub new : Memᴰ n w.reported → ⊥
  pub of_kind : w.flat.kinds n ≡ kind

-- and the halfword that it carries, if it is a read's, is the one that the flat memory gave
abbrev pub Given : Option ℕ → ℕ → Type 0
Given none given = Unit {0}
Given (some h) given = h ≡ given

abbrev pub Completes : World → Option Completion → Type 0
Completes w none = Unit {0}
Completes w (some x) = Named w x.kind x.number × Given x.halfword (w.flat.given x.number)

abbrev pub Reports : World → Report → Type 0
Reports w r = Completes w (completion_of r)

-- Before every call, and after the last.
pub record Standing (c : Config) (w : World) : Type 0 where
  -- the record is sound and not blank, and its configuration is c
  pub sound : record_number_of w.machine ≡ 0
  pub configured : w.machine.config ≡ c
  -- what the machine takes for legal, for an open row and for all banks closed is what the SDRAM's own history says
  pub legal : (k : Command) → legal_of c (by_ages c w.machine.past) k ≡ allowed c w.sdram.log k
  pub rows : (b : ℕ) → b < 2 ^ c.geometry.banks → row_at w.machine.past b ≡ open_row w.sdram.log.past b
  pub closed : all_closed (row_at w.machine.past) ≡ all_closed (open_row w.sdram.log.past)
  -- service begins with the first service slot
  pub service : in_service w.machine.control.action ≡ leb (first_service c) w.sdram.log.now
  -- no more REFRs than expiries; the backlog is in its bounds
  pub owed : refreshes c w ≤ expiries c w.sdram.log.now
  pub backlog : InBounds (backlog_in c w)
  -- every request that is accepted and not yet reported is queued
  pub waiting : w.machine.queue.count + length w.reported ≡ w.flat.count
  -- when all is reported, each address has the halfword that is in its cell
  pub agree : AllReported w → (a : ℕ) → a % 2 ≡ 0 → a < capacity_of c.geometry → w.flat.contents a ≡ w.sdram.cells (cell_of c.geometry a)

-- A request, by what can be seen from outside: 4, 5, 6 with eight accepted and not reported, 7, or 0.
unfoldable pub asked_number : Config → World → ℕ → ℕ
asked_number c w address =
    cond (eqb (address % 2) 1) 4
    (cond (leb (capacity_of c.geometry) address) 5
    (cond (leb 8 (w.flat.count - length w.reported)) 6
    (cond (leb last_number w.flat.count) 7 0)))

-- an accepted one has the flat memory's number; a refused one has 0 and changes nothing
pub record Answered (c : Config) (w : World) (address : ℕ) (r : Requested) : Type 0 where
  pub number : r.number ≡ asked_number c w address
  pub accepted : r.number ≡ 0 → r.request ≡ w.flat.count + 1
  pub refused : (r.number ≡ 0 → ⊥) → (r.request ≡ 0) × (r.machine ≡ w.machine)

-- The next slot, whatever the bus carries where the SDRAM has nothing on it.
pub record Carried (c : Config) (w : World) (s : Slot) : Type 0 where
  pub answered : s.number ≡ 0
  -- the SDRAM takes the command
  pub taken : takes c w.sdram s.command ≡ true
  pub reports : Reports w s.report
  -- both have words (docs/PACKING.md)
  pub fits_command : FitsCommand s.command
  pub fits_report : FitsReport s.report
  -- within the slot, before its own REFR is counted: the backlog that a service slot's choice sees
  pub owed : refreshes c w ≤ expiries c (w.sdram.log.now + 1)
  pub within : InBounds (expiries c (w.sdram.log.now + 1) - refreshes c w)
  pub counted : in_service w.machine.control.action ≡ true → (tick_of w.machine.counters c.rr).backlog ≡ expiries c (w.sdram.log.now + 1) - refreshes c w

-- Many slots: what each gives, one after the other; each is right, and so is the world before it and after the last.
abbrev pub slots_along : Config → World → List ℕ → List Slot
slots_along c w [] = []
slots_along c w (any ∷ later) = slot_in w any ∷ slots_along c (after_slot c w (slot_in w any)) later

abbrev pub EachCarried : Config → World → List ℕ → Type 0
EachCarried c w [] = Standing c w
EachCarried c w (any ∷ later) = Standing c w × Carried c w (slot_in w any) × EachCarried c (after_slot c w (slot_in w any)) later

-- The call of n slots, with the halfwords that it uses: it gives what they give, in words, and the places beyond the count hold what they held.
pub record CarriedAll (c : Config) (w : World) (n : ℕ) (used commands reports : List ℕ) (r : Batch) : Type 0 where
  pub answered : r.number ≡ 0
  pub count : r.count ≡ n
  pub machine : r.machine ≡ (after_slots c w used).machine
  pub commands_sent : r.commands ≡ map (λ s. command_word s.command) (slots_along c w used) ++ drop n commands
  pub reports_given : r.reports ≡ map (λ s. report_word s.report) (slots_along c w used) ++ drop n reports
  -- unpacked, the words are their commands and reports
  pub commands_unpacked : map command_in (take n r.commands) ≡ map (λ s. s.command) (slots_along c w used)
  pub reports_unpacked : map report_in (take n r.reports) ≡ map (λ s. s.report) (slots_along c w used)
  pub each : EachCarried c w used

-- The reading call gives exactly the backlog.
pub record Exact (c : Config) (w : World) (r : Reading) : Type 0 where
  pub answered : r.number ≡ 0
  pub exact : r.backlog ≡ backlog_in c w

abbrev pub Right : Config → World → Call → Type 0
Right c w (request kind a h) = Answered c w a (request_of w.machine kind a (halfword_of h))
Right c w (slot any) = Carried c w (slot_in w any)
Right c w (slots bus commands reports) =
    CarriedAll c w (count_of bus commands reports) (used_of bus commands reports) commands reports (batch_in c w bus commands reports)
Right c w backlog = Exact c w (backlog_of w.machine)

-- The claim about a list of calls from a world on.
abbrev pub Promised : Config → World → List Call → Type 0
Promised c w [] = Standing c w
Promised c w (k ∷ ks) = Standing c w × Right c w k × Promised c (after c w k) ks

-- THE THIRD CONDITION: every accepted configuration, every first contents of the cells, every list of calls.
abbrev pub ThirdCondition : Type 0
ThirdCondition =
    (cfg row ref tim : ℕ) → (configure_of cfg row ref tim).number ≡ 0
    → (first : Cells) (calls : List Call)
    → let c = config_of cfg row ref tim in Promised c (start_world c (configure_of cfg row ref tim).machine first) calls
