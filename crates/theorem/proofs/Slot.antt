-- A slot keeps the invariant, and it is right: one of service, and one of the initialisation.
use Prim.Native.Nat.{ℕ, suc, ◌+◌, ◌<◌}
use native.Mathlib.Omega.{arith}
use native.Mathlib.Numerals.{add-one}
use mathlib.Core.Path.{◌≡◌, refl, sym, ap, subst, ◌∙◌}
use mathlib.Core.Bool.{Bool, true, false, cond, false≢true}
use lib.ListN.{length}
use Rattle.config.specs.declared.Config.{Config}
use Rattle.config.specs.Accepted.{Accepted}
use Rattle.device.specs.View.{all_closed}
use Rattle.device.specs.History.{fed, allowed}
use Rattle.device.proofs.Tests.{if_both}
use Rattle.ages.specs.declared.Past.{Past}
use Rattle.ages.specs.Ages.{by_ages, row_at}
use Rattle.ages.proofs.Agree.{Agrees, agrees_sent, same_verdict}
use Rattle.queue.specs.declared.Queue.{Queue}
use Rattle.queue.specs.Places.{get_of}
use Rattle.refresh.specs.declared.Counters.{Counters}
use Rattle.refresh.specs.Counting.{start_of, tick_of}
use Rattle.refresh.proofs.Counts as counts
use Rattle.plan.specs.declared.Action.{Action}
use Rattle.plan.specs.declared.Action.TheVariants.{
  PowerUp,
  InitPrecharge,
  InitRefresh,
  InitMode,
  InitSettle,
  Idle,
  Access,
  CasLatency,
  Turnaround,
  PrechargeAll,
  Refresh,
  RefreshCycle,
}
use Rattle.plan.specs.declared.Control.{Control}
use Rattle.plan.specs.Actions.{is_idle, in_service, under_way}
use Rattle.plan.specs.Plan.{plan_of, counters_after}
use Rattle.plan.specs.Choice.{Choice, choice_of, current_of}
use Rattle.plan.specs.Slot.{ticked_of}
use Rattle.packing.specs.Laws.{FitsCommand}
use Rattle.soundness.proofs.Plans.{Served, served_of, Sends, performed_sends}
use Rattle.sequencer.specs.declared.Machine.{Machine}
use Rattle.sequencer.specs.Answers.{Slot}
use Rattle.model.specs.Sdram.{takes, sdram_after}
use Rattle.model.specs.World.{World, bus_of, slot_in, after_slot}
use Rattle.model.specs.Condition.{is_refr, first_service, served_by, service_refreshes, expiries, refreshes, Reports, Carried}
use Rattle.theorem.proofs.Invariant.{Settled}
use Rattle.sequencer.proofs.Laws.{slot_steps}
use Rattle.theorem.proofs.Plans.{counters_of, chosen_of, acted_of, after_of, step_is}
use Rattle.theorem.proofs.Order.Queue.{ordered-current}
use Rattle.theorem.proofs.Order.Slot.{Acted, bus-carries, ordered-act}
use Rattle.theorem.proofs.Refreshes.{refreshes_before, refreshes_after}
use Rattle.theorem.proofs.Ranges.{report_fits, command_fits}
use Rattle.theorem.proofs.Standing.{Before, During, Phase, Whole, sound, none_served}
use Rattle.theorem.proofs.Start.{Starting, starting_slot, starting_below, starting_done, starting_keeps, starting_busy, done_set}
use Rattle.theorem.proofs.Timing.Service.{Ends, timely-slot, timely-first}

-- the queue is the same at a choice
current_queue : (x : Control) (n : ℕ) (q : Queue) (closed : Bool) → (current_of x n q closed).queue ≡ q
unfolding current_of choice_of
current_queue x n q closed = if_both (λ (t : Choice). t.queue ≡ q) (is_idle x.action) (λ e. refl) (λ e. refl)

-- an action under way goes on
goes_on : (x : Control) (n : ℕ) (q : Queue) (closed : Bool) → is_idle x.action ≡ false → current_of x n q closed ≡ record { control = x; queue = q }
unfolding current_of
goes_on x n q closed e = rw e

-- an action that keeps to the time of service is one of service
settled_service : (c : Config) (p : Past) (a : Action) → Settled c p a → in_service a ≡ true
settled_service c p (PowerUp k) s = absurd s
settled_service c p InitPrecharge s = absurd s
settled_service c p (InitRefresh k) s = absurd s
settled_service c p InitMode s = absurd s
settled_service c p InitSettle s = absurd s
settled_service c p Idle s = refl
settled_service c p (Access i) s = refl
settled_service c p (CasLatency i left) s = refl
settled_service c p Turnaround s = refl
settled_service c p PrechargeAll s = refl
settled_service c p Refresh s = refl
settled_service c p (RefreshCycle left) s = refl

-- With the configuration that the machine holds.
module _ (w : World) (a : Accepted w.machine.config) (v : Whole w.machine.config w) (any : ℕ) where
  abbrev c : Config
  c = w.machine.config

  abbrev m : Machine
  m = w.machine

  -- the action of the slot, what it does, and the slot
  abbrev x : Choice
  x = chosen_of m

  abbrev s : Served
  s = acted_of m x (bus_of w any)

  abbrev now : Slot
  now = after_of m x s

  acted : Acted c m.accepted x.queue (under_way x.control.action) w.sdram w.flat w.reported s
  unfolding chosen_of acted_of
  acted =
      ordered-act a v.kept.agrees (bus_of w any) (bus-carries w any) _
      (ordered-current m.control (counters_of m).backlog (all_closed (row_at m.past)) v.ordered)

  sends : Sends c m.past s
  unfolding acted_of served_of
  sends = performed_sends c m.past (plan_of c (by_ages c m.past) (get_of x.queue (under_way x.control.action)) x.control.action (bus_of w any))

  same_queue : x.queue ≡ m.queue
  unfolding chosen_of
  same_queue = current_queue m.control (counters_of m).backlog m.queue (all_closed (row_at m.past))

  -- the device's past agrees with the history after the slot
  slot_agrees : Agrees s.past (sdram_after c w.sdram s.command).log
  unfolding sdram_after
  slot_agrees = rw sends.past (agrees_sent a v.kept.agrees s.command sends.legal)

  slot_allowed : allowed c w.sdram.log s.command ≡ true
  slot_allowed = sym (same_verdict a v.kept.agrees s.command) ∙ sends.legal

  slot_taken : takes c w.sdram s.command ≡ true
  unfolding takes
  slot_taken = slot_allowed

  slot_reports : Reports w s.outcome.report
  slot_reports = acted.reports w refl refl

  -- the command has a word
  slot_fits : FitsCommand s.command
  unfolding acted_of
  slot_fits = command_fits a m.past x.queue (under_way x.control.action) x.control.action (bus_of w any)

  -- the slot keeps the invariant, given its part of refresh
  slot_whole : Phase c (after_slot c w now) (in_service s.outcome.action) → Whole c (after_slot c w now)
  unfolding after_slot after_of
  slot_whole t =
      record {
        kept = record { configured = v.kept.configured; config = refl; agrees = slot_agrees };
        ordered = acted.ordered;
        waiting = acted.counted ∙ ap (λ (q : Queue). q.count + length w.reported) same_queue ∙ v.waiting;
        timed = t;
        ranged = v.ranged;
      }

  -- A service slot.

  module _ (serving : in_service m.control.action ≡ true) (d : During c w) where
    abbrev ticked : Counters
    ticked = tick_of m.counters c.rr

    counted : counters_of m ≡ ticked
    unfolding counters_of ticked_of
    counted = rw serving

    ends : Ends c (counters_of m) x.queue x.control.action s
    unfolding chosen_of acted_of
    ends =
        rw counted
        (timely-slot a v.kept.agrees.aged m.control d.timely (all_closed (row_at m.past)) (bus_of w any))

    one_more : served_by c (suc w.sdram.log.now) ≡ served_by c w.sdram.log.now + 1
    one_more = omega (arith, d.reached)

    ticked_owed : counts.Owed c.rr (served_by c w.sdram.log.now + 1) (refreshes c w) (counters_of m)
    ticked_owed = rw counted (counts.owed_tick d.owed (omega (arith, d.timely.low)))

    owed_after : (b : Bool) → is_refr s.command ≡ b
        → counts.Owed c.rr (served_by c w.sdram.log.now + 1) (cond b (refreshes c w + 1) (refreshes c w)) (counters_after (counters_of m) s.outcome.refreshes)
    owed_after true e = let y = ends.refreshed e in rw y.0 (counts.owed_refreshed ticked_owed y.1)
    owed_after false e = rw (ends.kept e) ticked_owed

    service_during : During c (after_slot c w now)
    unfolding after_slot after_of sdram_after fed
    service_during =
        record {
          reached = omega (arith, d.reached);
          owed =
              rw (one_more, refreshes_after c w.sdram.log s.command d.reached slot_allowed)
              (owed_after (is_refr s.command) refl);
          timely = ends.timely;
        }

    service_whole : Whole c (after_slot c w now)
    service_whole = slot_whole (rw (settled_service c s.past s.outcome.action ends.timely.settled) service_during)

    service_carried : Carried c w now
    unfolding after_of
    service_carried =
        let total = counts.owed_total ticked_owed in
        let more = rw (← add-one w.sdram.log.now) at one_more in
        record {
          answered = refl;
          taken = slot_taken;
          reports = slot_reports;
          fits_command = slot_fits;
          fits_report = report_fits w v.ranged s.outcome.report slot_reports;
          owed = rw more (omega (arith, total));
          within = rw more (omega (arith, total, ends.low));
          counted = λ e. rw (← counted, more) (omega (arith, total));
        }

  -- A slot of the initialisation.
  module _ (starting : in_service m.control.action ≡ false) (b : Before c w) where
    abbrev here : ℕ
    here = w.sdram.log.now

    start_below : here < first_service c
    start_below = starting_below c a m.past here m.control.action starting b.starting

    same_action : x ≡ record { control = m.control; queue = m.queue }
    unfolding chosen_of
    same_action = goes_on m.control (counters_of m).backlog m.queue (all_closed (row_at m.past)) (starting_busy m.control.action starting)

    start_after : Starting c s.past (suc here) s.outcome.action
    unfolding acted_of
    start_after = rw same_action (starting_slot c a m.past here m.control.action starting b.starting _ (bus_of w any))

    still : counters_after (counters_of m) s.outcome.refreshes ≡ m.counters
    unfolding acted_of counters_of ticked_of counters_after
    still = rw (same_action, starting_keeps c m.past (get_of m.queue (under_way m.control.action)) m.control.action (bus_of w any) starting, starting)

    stand_still : counters_after (counters_of m) s.outcome.refreshes ≡ start_of c.rr
    stand_still = still ∙ b.counters

    start_none : service_refreshes c (fed c w.sdram.log s.command).past ≡ 0
    start_none = refreshes_before c w.sdram.log s.command start_below ∙ b.none

    start_timed : (t : Bool) → in_service s.outcome.action ≡ t → Phase c (after_slot c w now) t
    unfolding after_slot after_of sdram_after fed
    start_timed false e = record { starting = start_after; counters = stand_still; none = start_none }
    start_timed true e =
        let set = done_set c s.past (suc here) s.outcome.action e start_after in
        let first = starting_done c a s.past (suc here) set.1 in
        let none_yet : served_by c (suc here) ≡ 0 = omega (arith, first) in
        record {
          reached = omega (arith, first);
          owed = rw (none_yet, start_none, stand_still) (counts.owed_start (omega (arith, a.long_enough, a.access_span_lem)));
          timely = rw (stand_still, set.0) (timely-first a _ set.1.programmed set.1.mode set.1.settled);
        }

    start_whole : Whole c (after_slot c w now)
    start_whole = slot_whole (start_timed (in_service s.outcome.action) refl)

    start_carried : Carried c w now
    unfolding after_of
    start_carried =
        let empty : expiries c (here + 1) ≡ 0 = none_served c (here + 1) (omega (arith, start_below)) in
        record {
          answered = refl;
          taken = slot_taken;
          reports = slot_reports;
          fits_command = slot_fits;
          fits_report = report_fits w v.ranged s.outcome.report slot_reports;
          owed = omega (arith, b.none);
          within = omega (arith, empty);
          counted = λ e. absurd (false≢true (sym starting ∙ e));
        }

  -- Any slot.
  slot_own : Whole c (after_slot c w (slot_in w any)) × Carried c w (slot_in w any)
  unfolding slot_in
  slot_own = rw (slot_steps m (bus_of w any) (sound a v), step_is m (bus_of w any)) (go (in_service m.control.action) refl v.timed)
    where
      go : (t : Bool) → in_service m.control.action ≡ t → Phase c w t → Whole c (after_slot c w now) × Carried c w now
      go true e d = (service_whole e d, service_carried e d)
      go false e b = (start_whole e b, start_carried e b)

pub slot_right : {c : Config} (w : World) → Accepted c → Whole c w → (any : ℕ) → Whole c (after_slot c w (slot_in w any)) × Carried c w (slot_in w any)
slot_right {c} w a v =
    subst (λ (x : Config). Accepted x → Whole x w → (any : ℕ) → Whole x (after_slot x w (slot_in w any)) × Carried x w (slot_in w any)) v.kept.config
    (slot_own w) a v
