-- One slot (document 01, "Start" and "A service slot"), over whatever is known of the past.
use Rattle.std.specs.Prelude.{ℕ, cond}
use Rattle.config.specs.declared.Config.{Config}
use Rattle.command.specs.declared.Command.{Command}
use Rattle.device.specs.View.{View, all_closed}
use Rattle.device.specs.Rules.{legal_of, carried_of}
use Rattle.queue.specs.declared.Queue.{Queue}
use Rattle.queue.specs.Places.{get_of}
use Rattle.refresh.specs.declared.Counters.{Counters}
use Rattle.refresh.specs.Counting.{tick_of}
use Rattle.plan.specs.declared.Action.{Action}
use Rattle.plan.specs.declared.Control.{Control}
use Rattle.plan.specs.declared.Report.{Report}
use Rattle.plan.specs.Actions.{control_of, in_service, under_way}
use Rattle.plan.specs.Plan.{Outcome, Plan, outcome_of, plan_of, queue_after, counters_after}
use Rattle.plan.specs.Choice.{Choice, current_of}

-- what a slot gives, but for the past after it
pub record Turn : Type 0 where
  pub command : Command
  pub report : Report
  pub counters : Counters
  pub control : Control
  pub queue : Queue

-- first the interval counter falls, in a service slot
unfoldable pub ticked_of : Config → Counters → Action → Counters
ticked_of c n a = cond (in_service a) (tick_of n c.rr) n

-- then, if no action is under way, one is chosen; then the action's next command is sent if legal, otherwise NOP. `bus` is the halfword that
-- the bus carries
unfoldable pub turn_of : Config → View → Counters → Control → Queue → ℕ → Turn
turn_of c v n control q bus =
    let ticked : Counters = ticked_of c n control.action in
    let x : Choice = current_of control ticked.backlog q (all_closed v.row) in
    let at : ℕ = under_way x.control.action in
    let plan : Plan = plan_of c v (get_of x.queue at) x.control.action bus in
    let o : Outcome = outcome_of (legal_of c v plan.command) plan.sent plan.stays in
    record {
      command = carried_of c v plan.command;
      report = o.report;
      counters = counters_after ticked o.refreshes;
      control = control_of o.action x.control.must;
      queue = queue_after x.queue at o.leaves;
    }
