-- The plan of a slot (document 01, "Start" and "A service slot"): the command to try, what follows if it is sent, and the action that stays if
-- it is not.
use Rattle.std.specs.Prelude.{ℕ, ◌-◌, ◌*◌, Bool, true, false, cond, eqb, leb}
use Rattle.std.proofs.Math.Option.{Option, none, some}
use Rattle.address.specs.declared.Row.{Row}
use Rattle.address.specs.declared.Cell.{Cell}
use Rattle.config.specs.declared.Config.{Config}
use Rattle.command.specs.declared.Command.{Command}
use Rattle.command.specs.declared.Command.TheVariants.{Nop, Act, Wrt, Pre, Deac, Refr, Mrs}
use Rattle.device.specs.View.{View}
use Rattle.queue.specs.declared.Kind.{Kind}
use Rattle.queue.specs.declared.Queue.{Queue}
use Rattle.queue.specs.declared.Request.{Request}
use Rattle.queue.specs.Places.{cell_for, remove_of}
use Rattle.refresh.specs.declared.Counters.{Counters}
use Rattle.refresh.specs.Counting.{refreshed_of}
use Rattle.plan.specs.declared.Action.{Action}
use Rattle.plan.specs.declared.Action.TheVariants.{
  PowerUp,
  InitPrecharge,
  InitRefresh,
  InitMode,
  InitSettle,
  Idle,
  Access,
  CasLatency,
  Turnaround,
  PrechargeAll,
  Refresh,
  RefreshCycle,
}
use Rattle.plan.specs.declared.Report.{Report}

-- what follows a slot: the next action, the report, whether the request under way leaves the queue, and whether the backlog falls
pub record Outcome : Type 0 where
  pub action : Action
  pub report : Report
  pub leaves : Bool
  pub refreshes : Bool

pub record Plan : Type 0 where
  pub command : Command
  pub sent : Outcome
  pub stays : Action

-- the next action alone: nothing is reported, nobody leaves the queue, the backlog stays
unfoldable pub quietly : Action → Outcome
quietly a = record { action = a; report = Report.Nothing; leaves = false; refreshes = false }

-- what follows: by whether the command was legal, the plan's outcome, or the action that stays
unfoldable pub outcome_of : Bool → Outcome → Action → Outcome
outcome_of legal sent stays = cond legal sent (quietly stays)

-- k, and then `next`; until k is legal, `stays`
unfoldable pub tries : Command → Action → Action → Plan
tries k stays next = record { command = k; sent = quietly next; stays = stays }

-- a NOP, which is always legal
unfoldable pub rest : Action → Plan
rest next = tries Nop next next

-- The initialisation: a pause, DEAC, eight REFR and MRS, each at its first legal slot, and one NOP. R16 keeps none of its REFRs back: by R3
-- no ACT comes before the MRS.

unfoldable pub after_pause : ℕ → Action
after_pause n = cond (leb n 1) InitPrecharge (PowerUp (n - 1))

unfoldable pub after_init_refresh : ℕ → Action
after_init_refresh n = cond (leb n 1) InitMode (InitRefresh (n - 1))

abbrev pub mode_word : Config → ℕ
mode_word c = 16 * c.latency

-- An access, of request r at place i with its cell x: PRE only if its bank holds another row, ACT only if the row isn't open, then READ or WRT.

-- a read's halfword is on the bus CL slots after its READ
unfoldable pub read_plan : Config → ℕ → Cell → Plan
read_plan c i x = tries (Command.Read x.bank x.column) (Access i) (CasLatency i c.latency)

-- a write is reported and leaves the queue in its WRT slot, which is the action's last
unfoldable pub write_plan : ℕ → Request → Cell → Plan
write_plan i r x =
    record {
      command = Wrt x.bank x.column r.halfword;
      sent = record { action = Idle; report = Report.Write r.number; leaves = true; refreshes = false };
      stays = Access i;
    }

unfoldable pub transfer_plan : Config → ℕ → Request → Cell → Kind → Plan
transfer_plan c i r x Kind.Read = read_plan c i x
transfer_plan c i r x Kind.Write = write_plan i r x

-- by the bank's open row
unfoldable pub access_plan : Config → Option Row → ℕ → Request → Cell → Plan
access_plan c none i r x = tries (Act x.bank x.row) (Access i) (Access i)
access_plan c (some open_row) i r x =
    cond (eqb open_row.0 x.row.0) (transfer_plan c i r x r.kind) (tries (Pre x.bank) (Access i) (Access i))

-- a read is reported with the bus halfword in slot t + CL, and leaves the queue there; one slot more is occupied
unfoldable pub taken_plan : Request → ℕ → Plan
taken_plan r bus =
    record {
      command = Nop;
      sent = record { action = Turnaround; report = Report.Read r.number bus; leaves = true; refreshes = false };
      stays = Turnaround;
    }

unfoldable pub latency_plan : ℕ → ℕ → Request → ℕ → Plan
latency_plan i left r bus = cond (leb left 1) (taken_plan r bus) (rest (CasLatency i (left - 1)))

-- A refresh: DEAC, then REFR, with which the backlog falls by one; then tRFC - 1 slots more.

unfoldable pub cycle_left : ℕ → Action
cycle_left left = cond (leb left 0) Idle (RefreshCycle left)

unfoldable pub refresh_plan : Config → Plan
refresh_plan c =
    record {
      command = Refr;
      sent = record { action = cycle_left (c.rfc - 1); report = Report.Nothing; leaves = false; refreshes = true };
      stays = Refresh;
    }

-- The plan of a slot for the action under way; r is its request, and `bus` the halfword that the bus carries.
unfoldable pub plan_of : Config → View → Request → Action → ℕ → Plan
plan_of c v r (PowerUp n) bus = rest (after_pause n)
plan_of c v r InitPrecharge bus = tries Deac InitPrecharge (InitRefresh 8)
plan_of c v r (InitRefresh n) bus = tries Refr (InitRefresh n) (after_init_refresh n)
plan_of c v r InitMode bus = tries (Mrs (mode_word c)) InitMode InitSettle
plan_of c v r InitSettle bus = rest Idle
plan_of c v r Idle bus = rest Idle
plan_of c v r (Access i) bus = let x : Cell = cell_for c.geometry r in access_plan c (v.row x.bank.0) i r x
plan_of c v r (CasLatency i left) bus = latency_plan i left r bus
plan_of c v r Turnaround bus = rest Idle
plan_of c v r PrechargeAll bus = tries Deac PrechargeAll Refresh
plan_of c v r Refresh bus = refresh_plan c
plan_of c v r (RefreshCycle left) bus = rest (cycle_left (left - 1))

-- The queue and the counters after an outcome.

-- the request under way, at a place, may leave
unfoldable pub queue_after : Queue → ℕ → Bool → Queue
queue_after q at leaves = cond leaves (remove_of q at) q

-- a service REFR may have been sent
unfoldable pub counters_after : Counters → Bool → Counters
counters_after n refreshes = cond refreshes (refreshed_of n) n
