-- The choice of an action, rules 1 to 6 (document 01, "A service slot").
use Rattle.std.specs.Prelude.{ℕ, Bool, true, false, cond, Option, Some, None}
use Rattle.queue.specs.declared.Kind.TheVariants.{Read, Write}
use Rattle.queue.specs.declared.Queue.{Queue}
use Rattle.queue.specs.Places.{held_of}
use Rattle.queue.specs.Oldest.{oldest_of}
use Rattle.refresh.specs.declared.Level.{Level}
use Rattle.refresh.specs.declared.Level.TheVariants.{Clear, May, Release, Need, Must}
use Rattle.refresh.specs.Urgency.{level_of, run_of}
use Rattle.plan.specs.declared.Action.{Action}
use Rattle.plan.specs.declared.Action.TheVariants.{Idle, Access, PrechargeAll}
use Rattle.plan.specs.declared.Control.{Control}
use Rattle.plan.specs.Actions.{is_idle}

-- the action of a slot with the Must run flag, and the queue, which a choice leaves as it is
pub record Choice : Type 0 where
  pub control : Control
  pub queue : Queue

-- the request found, if there is one; else what a later rule chooses
abbrev pub access_or : Option ℕ → Action → Action
access_or (Some i) later = Access i
access_or None later = later

-- rule 3
abbrev pub needs : Level → Bool
needs Clear = false
needs May = false
needs Release = false
needs Need = true
needs Must = false

-- rule 5
abbrev pub idle_refresh : Level → Bool → Bool
idle_refresh Clear closed = false
idle_refresh May closed = closed
idle_refresh Release closed = true
idle_refresh Need closed = false
idle_refresh Must closed = false

-- Rules 1 to 6, the first that applies, with the Must run flag as of this choice.
unfoldable pub rules_of : Bool → Level → Option ℕ → Option ℕ → Bool → Action
rules_of run level read write closed =
    -- 1: a Must run is on, as it is from backlog 12 on
    cond run PrechargeAll
    -- 2: the oldest unblocked read
    (access_or read
    -- 3: backlog 8 to 11
    (cond (needs level) PrechargeAll
    -- 4: the oldest unblocked write
    (access_or write
    -- 5: backlog 4 to 7, or 1 to 3 with all banks closed
    (cond (idle_refresh level closed) PrechargeAll
    -- 6: nothing
    Idle))))

-- A choice, by the Must run flag before it, the backlog, the queue, and whether all banks are closed.
unfoldable pub choice_of : Bool → ℕ → Queue → Bool → Choice
choice_of must backlog q closed =
    let level : Level = level_of backlog in
    record {
      control = record {
        action = rules_of (run_of must level) level (oldest_of Read (held_of q)) (oldest_of Write (held_of q)) closed;
        must = run_of must level;
      };
      queue = q;
    }

-- The action of a slot: the one under way goes on, the flag untouched; if there is none, a choice is made.
unfoldable pub current_of : Control → ℕ → Queue → Bool → Choice
current_of x backlog q closed = cond (is_idle x.action) (choice_of x.must backlog q closed) (record { control = x; queue = q })
