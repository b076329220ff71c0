-- Soundness of a machine record, the test for number 9, on the record's parts, each but the queue's with its owner. Of the queue only the number of requests matters:
-- whatever their addresses are, their cells lie in the geometry. docs/SOUNDNESS.md says it in words.
use Rattle.std.specs.Prelude.{ℕ, Bool, true, cond, ◌&&◌, leb}
use Rattle.config.specs.declared.Config.{Config}
use Rattle.config.specs.Accepted.{accepted_of}
use Rattle.device.specs.View.{all_closed}
use Rattle.ages.specs.declared.Past.{Past}
use Rattle.ages.specs.Ages.{row_at}
use Rattle.refresh.specs.declared.Counters.{Counters}
use Rattle.refresh.specs.Counting.{sound_counters}
use Rattle.plan.specs.declared.Control.{Control}
use Rattle.plan.specs.Actions.{sound_action}

-- of all but the configuration: the counters, the number of queued requests, eight at most, and the action under way
unfoldable pub state_by : Config → Past → Counters → Control → ℕ → Bool
state_by c p n x count = sound_counters c.rr n && (leb count 8 && sound_action c p.programmed (all_closed (row_at p)) count x.action)

-- what a configured record has to keep to
unfoldable pub fit_by : Config → Past → Counters → Control → ℕ → Bool
fit_by c p n x count = accepted_of c && state_by c p n x count

-- a blank machine is sound
unfoldable pub sound_by : Bool → Config → Past → Counters → Control → ℕ → Bool
sound_by configured c p n x count = cond configured (fit_by c p n x count) true
