-- The code's way through a slot is the slot of `plan`.
use Prim.Native.Nat.{ℕ}
use mathlib.Core.Path.{◌≡◌}
use mathlib.Core.Bool.{Bool}
use lib.ListN.{length}
use Rattle.config.specs.declared.Config.{Config}
use Rattle.device.specs.View.{all_closed}
use Rattle.ages.specs.declared.Past.{Past}
use Rattle.ages.specs.Ages.{row_at, by_ages, sent_of}
use Rattle.aging.specs.Noted.{elapsed_of}
use Rattle.aging.proofs.Slot.{noted_sent}
use Rattle.queue.specs.declared.Queue.{Queue}
use Rattle.queue.specs.Places.{request_at, get_of}
use Rattle.refresh.specs.declared.Counters.{Counters}
use Rattle.plan.specs.declared.Action.{Action}
use Rattle.plan.specs.Actions.{control_of, under_way}
use Rattle.plan.specs.Plan.{plan_of, queue_after, counters_after}
use Rattle.plan.specs.Slot.{ticked_of, turn_of}
use Rattle.choice.specs.Rules.{must_of, action_of}
use Rattle.choice.proofs.Laws.{current_is}
use Rattle.service.specs.declared.Carried.{Carried}
use Rattle.service.specs.Serve.{carried_with, conducted_of, Conducted}
use Rattle.service.proofs.Laws.{conducted_is}
use Rattle.turn.specs.Parts.{Parts, stepped_of}

module _ (c : Config) (p : Past) (n : Counters) (a : Action) (must : Bool) (q : Queue) (bus : ℕ) where
  -- the slot's counters before its REFR, its Must run, its action, and the plan of that carried out
  abbrev counted : Counters
  counted = ticked_of c n a

  abbrev run : Bool
  run = must_of a must counted.backlog

  abbrev current : Action
  current = action_of a run counted.backlog q (all_closed (row_at p))

  abbrev carried : Carried
  carried = conducted_of c (by_ages c p) (plan_of c (by_ages c p) (request_at q.places (under_way current)) current bus)

  -- what the code gives of these
  abbrev parts_of : Carried → Past → Counters → Bool → Queue → Parts
  parts_of e past counters must queue =
      record {
        command = e.command;
        report = e.report;
        past = past;
        counters = counters;
        control = control_of e.action must;
        queue = queue;
      }

  stepped_is : parts_of carried (sent_of p carried.command) (counters_after counted carried.refreshes) run (queue_after q (under_way current) carried.leaves)
      ≡ stepped_of c p n (control_of a must) q bus
  unfolding stepped_of turn_of carried_with get_of
  stepped_is =
      rw (
        current_is a must counted.backlog q (all_closed (row_at p)),
        conducted_is c (by_ages c p) (plan_of c (by_ages c p) (request_at q.places (under_way current)) current bus),
      )

  -- each step of the code with what it ensures
  pub step_is : length p.ages ≡ 16 → length p.opened ≡ 4 → length p.rows ≡ 4
      → {t : Counters} → t ≡ counted
      → {m : Bool} → m ≡ must_of a must t.backlog
      → {x : Action} → x ≡ action_of a m t.backlog q (all_closed (row_at p))
      → {e : Carried} {noted : Past} → Conducted c p noted (plan_of c (by_ages c p) (request_at q.places (under_way x)) x bus) e
      → {counters : Counters} → counters ≡ counters_after t e.refreshes
      → {queue : Queue} → queue ≡ queue_after q (under_way x) e.leaves
      → {past : Past} → past ≡ elapsed_of noted
      → parts_of e past counters m queue ≡ stepped_of c p n (control_of a must) q bus
  step_is la lo lr et em ex s en eq ep = rw (ep, s.noted, noted_sent p _ la lo lr, en, eq, s.result, ex, em, et) stepped_is
