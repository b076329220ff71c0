-- The action and the Must run, as the code makes them one after the other, are those of `plan`.
use Prim.Native.Nat.{ℕ}
use mathlib.Core.Path.{◌≡◌}
use mathlib.Core.Bool.{Bool}
use Rattle.queue.specs.declared.Queue.{Queue}
use Rattle.plan.specs.declared.Action.{Action}
use Rattle.plan.specs.Actions.{control_of, is_idle}
use Rattle.plan.specs.Choice.{choice_of, current_of}
use Rattle.device.proofs.Tests.{by_test}
use Rattle.choice.specs.Rules.{must_of, action_of}

pub current_is : (a : Action) (must : Bool) (backlog : ℕ) (q : Queue) (closed : Bool)
    → current_of (control_of a must) backlog q closed
    ≡ record { control = control_of (action_of a (must_of a must backlog) backlog q closed) (must_of a must backlog); queue = q }
unfolding current_of choice_of action_of must_of
current_is a must backlog q closed = by_test (is_idle a) (λ e. rw e) (λ e. rw e)
