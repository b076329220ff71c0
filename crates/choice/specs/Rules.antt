-- How the code goes through the rules. Nothing here has to be believed: the proof of `choose` shows that it is `rules_of`, and `current_is` of
-- proofs/Laws.antt that a slot's action and Must run are those of `plan`.
use Rattle.std.specs.Prelude.{ℕ, Bool, cond, Option}
use Rattle.queue.specs.declared.Kind.TheVariants.{Read, Write}
use Rattle.queue.specs.declared.Queue.{Queue}
use Rattle.queue.specs.Places.{held_of}
use Rattle.queue.specs.Oldest.{oldest_of}
use Rattle.refresh.specs.declared.Level.{Level}
use Rattle.refresh.specs.Urgency.{level_of, run_of}
use Rattle.plan.specs.declared.Action.{Action}
use Rattle.plan.specs.declared.Action.TheVariants.{Idle, PrechargeAll}
use Rattle.plan.specs.Actions.{is_idle}
use Rattle.plan.specs.Choice.{access_or, needs, idle_refresh, rules_of}

-- rules 5 and 6, and rules 3 to 6
unfoldable pub from_rule5 : Level → Bool → Action
from_rule5 level closed = cond (idle_refresh level closed) PrechargeAll Idle

unfoldable pub from_rule3 : Level → Option ℕ → Bool → Action
from_rule3 level write closed = cond (needs level) PrechargeAll (access_or write (from_rule5 level closed))

-- a slot's Must run, and its action, where the Must run is `run`
unfoldable pub must_of : Action → Bool → ℕ → Bool
must_of a must backlog = cond (is_idle a) (run_of must (level_of backlog)) must

unfoldable pub action_of : Action → Bool → ℕ → Queue → Bool → Action
action_of a run backlog q closed = cond (is_idle a) (rules_of run (level_of backlog) (oldest_of Read (held_of q)) (oldest_of Write (held_of q)) closed) a
