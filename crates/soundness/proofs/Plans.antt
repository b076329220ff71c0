-- A plan carried out on the record of ages, by its two cases: its command is sent, or is not legal yet and the slot is a NOP. Every slot's command is
-- legal, and the past after it is the past with that command sent.
use Prim.Native.Nat.{ℕ}
use mathlib.Core.Path.{◌≡◌, refl}
use mathlib.Core.Bool.{true, false}
use Rattle.config.specs.declared.Config.{Config}
use Rattle.command.specs.declared.Command.{Command}
use Rattle.command.specs.declared.Command.TheVariants.{Nop}
use Rattle.device.specs.Rules.{requirements, legal_of, carried_of}
use Rattle.device.proofs.Tests.{by_test}
use Rattle.ages.specs.declared.Past.{Past}
use Rattle.ages.specs.Ages.{by_ages, sent_of}
use Rattle.queue.specs.declared.Request.{Request}
use Rattle.plan.specs.declared.Action.{Action}
use Rattle.plan.specs.Plan.{Outcome, Plan, quietly, outcome_of, tries, rest, plan_of}

-- what a plan gives: the past after it, the slot's command, and what follows
pub record Served : Type 0 where
  pub past : Past
  pub command : Command
  pub outcome : Outcome

-- a plan carried out on the past as it is kept
unfoldable pub performed_of : Config → Past → Plan → Served
performed_of c p plan =
    record {
      past = sent_of p (carried_of c (by_ages c p) plan.command);
      command = carried_of c (by_ages c p) plan.command;
      outcome = outcome_of (legal_of c (by_ages c p) plan.command) plan.sent plan.stays;
    }

-- the slot of an action; r is the request under way, and `bus` the halfword that the bus carries
unfoldable pub served_of : Config → Past → Request → Action → ℕ → Served
served_of c p r a bus = performed_of c p (plan_of c (by_ages c p) r a bus)

-- a slot that carries k, which is legal
abbrev pub sending : Past → Command → Outcome → Served
sending p k o = record { past = sent_of p k; command = k; outcome = o }

module _ (c : Config) (p : Past) where
  pub performed_both : (P : Served → Type 0) (plan : Plan)
      → (legal_of c (by_ages c p) plan.command ≡ true → P (sending p plan.command plan.sent))
      → (legal_of c (by_ages c p) plan.command ≡ false → P (sending p Nop (quietly plan.stays)))
      → P (performed_of c p plan)
  unfolding performed_of carried_of outcome_of
  performed_both P plan yes' no' = by_test (legal_of c (by_ages c p) plan.command) (λ e. rw e (yes' e)) (λ e. rw e (no' e))

  pub rest_only : (P : Served → Type 0) (next : Action) → P (sending p Nop (quietly next)) → P (performed_of c p (rest next))
  unfolding performed_of carried_of legal_of requirements rest tries outcome_of
  rest_only P next h = h

  pub legal_nop : legal_of c (by_ages c p) Nop ≡ true
  unfolding legal_of requirements
  legal_nop = refl

  -- a slot's command and the past after it
  pub record Sends (s : Served) : Type 0 where
    pub legal : legal_of c (by_ages c p) s.command ≡ true
    pub past : s.past ≡ sent_of p s.command

  pub performed_sends : (plan : Plan) → Sends (performed_of c p plan)
  performed_sends plan =
      performed_both Sends plan (λ e. record { legal = e; past = refl }) (λ e. record { legal = legal_nop; past = refl })
