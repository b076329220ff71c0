-- How the code goes about a slot. Nothing here has to be believed: the proofs of `turn` show that it is the slot of `plan`.
use Rattle.std.specs.Prelude.{ℕ, ◌-◌, ◌≡◌, cond, leb}
use Rattle.config.specs.declared.Config.{Config}
use Rattle.command.specs.declared.Command.{Command}
use Rattle.command.specs.declared.Command.TheVariants.{Nop}
use Rattle.device.specs.View.{View}
use Rattle.device.specs.Rules.{legal_of}
use Rattle.ages.specs.declared.Past.{Past}
use Rattle.ages.specs.Ages.{by_ages}
use Rattle.aging.specs.Noted.{noted_of}
use Rattle.queue.specs.declared.Request.{Request}
use Rattle.plan.specs.declared.Action.{Action}
use Rattle.plan.specs.declared.Action.TheVariants.{CasLatency}
use Rattle.plan.specs.Plan.{Outcome, Plan, quietly, taken_plan}
use Rattle.service.specs.declared.Carried.{Carried}

-- a command, and what follows it
unfoldable pub carried_with : Command → Outcome → Carried
carried_with k o = record { command = k; action = o.action; report = o.report; leaves = o.leaves; refreshes = o.refreshes }

-- a NOP slot with the next action
unfoldable pub rest_of : Action → Carried
rest_of a = carried_with Nop (quietly a)

-- a plan carried out: its command if that is legal, with what follows it; otherwise a NOP, and the action stays
unfoldable pub conducted_of : Config → View → Plan → Carried
conducted_of c v plan = cond (legal_of c v plan.command) (carried_with plan.command plan.sent) (rest_of plan.stays)

-- the slot of a read's halfword, and a slot after a READ
unfoldable pub taken_of : Request → ℕ → Carried
taken_of r bus = carried_with Nop (taken_plan r bus).sent

unfoldable pub latency_of : ℕ → ℕ → Request → ℕ → Carried
latency_of i left r bus = cond (leb left 1) (taken_of r bus) (rest_of (CasLatency i (left - 1)))

-- A plan was carried out: e is what it gives by the past before, and what e's command starts is noted in the past after.
pub record Conducted (c : Config) (before after : Past) (plan : Plan) (e : Carried) : Type 0 where
  pub result : e ≡ conducted_of c (by_ages c before) plan
  pub noted : after ≡ noted_of before e.command
