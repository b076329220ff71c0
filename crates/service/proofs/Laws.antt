-- A NOP is always legal, so its plan is carried out; and a plan carried out is its command if that is legal, otherwise NOP, and its outcome.
use Prim.Native.Nat.{ℕ, ◌-◌}
use mathlib.Core.Path.{◌≡◌, refl}
use mathlib.Core.Bool.{Bool, true, false, cond}
use lib.Dec.{leb}
use Rattle.config.specs.declared.Config.{Config}
use Rattle.command.specs.declared.Command.{Command}
use Rattle.command.specs.declared.Command.TheVariants.{Nop}
use Rattle.device.specs.View.{View}
use Rattle.device.specs.Rules.{requirements, legal_of, carried_of}
use Rattle.plan.specs.declared.Action.{Action}
use Rattle.plan.specs.declared.Action.TheVariants.{CasLatency}
use Rattle.plan.specs.Plan.{Outcome, Plan, outcome_of, tries, rest, taken_plan, latency_plan}
use Rattle.queue.specs.declared.Request.{Request}
use Rattle.service.specs.Serve.{carried_with, rest_of, conducted_of, taken_of, latency_of}

module _ (c : Config) (v : View) where
  pub rest_conducts : (a : Action) → conducted_of c v (rest a) ≡ rest_of a
  unfolding rest_of conducted_of legal_of requirements rest tries
  rest_conducts a = refl

  taken_conducts : (r : Request) (bus : ℕ) → conducted_of c v (taken_plan r bus) ≡ taken_of r bus
  unfolding taken_of taken_plan conducted_of legal_of requirements
  taken_conducts r bus = refl

  pub latency_conducts : (i left : ℕ) (r : Request) (bus : ℕ) → conducted_of c v (latency_plan i left r bus) ≡ latency_of i left r bus
  unfolding latency_of latency_plan
  latency_conducts i left r bus = by_test (leb left 1)
    where
      by_test : (b : Bool) → conducted_of c v (cond b (taken_plan r bus) (rest (CasLatency i (left - 1))))
          ≡ cond b (taken_of r bus) (rest_of (CasLatency i (left - 1)))
      by_test true = taken_conducts r bus
      by_test false = rest_conducts (CasLatency i (left - 1))

  -- a command that is legal is sent, and one that is not leaves a NOP
  pub sent : (plan : Plan) → legal_of c v plan.command ≡ true → conducted_of c v plan ≡ carried_with plan.command plan.sent
  unfolding conducted_of
  sent plan l = rw l

  pub refused : (plan : Plan) → legal_of c v plan.command ≡ false → conducted_of c v plan ≡ rest_of plan.stays
  unfolding conducted_of
  refused plan l = rw l

  pub conducted_is : (plan : Plan)
      → conducted_of c v plan ≡ carried_with (carried_of c v plan.command) (outcome_of (legal_of c v plan.command) plan.sent plan.stays)
  unfolding conducted_of carried_of outcome_of rest_of
  conducted_is plan = go (legal_of c v plan.command) plan.command plan.sent plan.stays
    where
      go : (b : Bool) (k : Command) (o : Outcome) (a : Action)
          → cond b (carried_with k o) (rest_of a) ≡ carried_with (cond b k Nop) (outcome_of b o a)
      go true k o a = refl
      go false k o a = refl
