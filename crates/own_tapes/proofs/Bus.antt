-- What the bus carries decides a report's halfword, and nothing else: not the slot's command, and not the machine after it.
use Prim.Native.Nat.{ℕ, ◌-◌}
use mathlib.Core.Path.{◌≡◌, refl, ap}
use mathlib.Core.Bool.{Bool, true, false, cond}
use lib.Dec.{eqb, leb}
use Rattle.config.specs.declared.Config.{Config}
use Rattle.device.specs.View.{View, all_closed}
use Rattle.device.specs.Rules.{legal_of, carried_of}
use Rattle.ages.specs.Ages.{by_ages}
use Rattle.queue.specs.declared.Queue.{Queue}
use Rattle.queue.specs.declared.Request.{Request}
use Rattle.queue.specs.Places.{get_of}
use Rattle.refresh.specs.declared.Counters.{Counters}
use Rattle.plan.specs.declared.Action.{Action}
use Rattle.plan.specs.declared.Action.TheVariants.{PowerUp, InitPrecharge, InitRefresh, InitMode, InitSettle, Idle, Access, CasLatency, Turnaround, PrechargeAll, Refresh, RefreshCycle}
use Rattle.plan.specs.declared.Control.{Control}
use Rattle.plan.specs.Plan.{Outcome, Plan, quietly, outcome_of, queue_after, counters_after, rest, taken_plan, latency_plan, plan_of}
use Rattle.plan.specs.Actions.{control_of, under_way}
use Rattle.plan.specs.Choice.{Choice, current_of}
use Rattle.plan.specs.Slot.{Turn, ticked_of, turn_of}
use Rattle.sequencer.specs.declared.Machine.{Machine}
use Rattle.sequencer.specs.Machine.{step_of}
use Rattle.sequencer.specs.Calls.{record_number_of, refused_with, slot_of}

-- two plans that differ in their report at most
record Like (p q : Plan) : Type 0 where
  command : p.command ≡ q.command
  stays : p.stays ≡ q.stays
  action : p.sent.action ≡ q.sent.action
  leaves : p.sent.leaves ≡ q.sent.leaves
  refreshes : p.sent.refreshes ≡ q.sent.refreshes

like : (p : Plan) → Like p p
like p = record { command = refl; stays = refl; action = refl; leaves = refl; refreshes = refl }

latency_like : (i left : ℕ) (r : Request) (x y : ℕ) → Like (latency_plan i left r x) (latency_plan i left r y)
unfolding latency_plan taken_plan
latency_like i left r x y = go (leb left 1)
  where
    go : (t : Bool) → Like (cond t (taken_plan r x) (rest (CasLatency i (left - 1)))) (cond t (taken_plan r y) (rest (CasLatency i (left - 1))))
    go true = record { command = refl; stays = refl; action = refl; leaves = refl; refreshes = refl }
    go false = like _

plan_like : (c : Config) (v : View) (r : Request) (a : Action) (x y : ℕ) → Like (plan_of c v r a x) (plan_of c v r a y)
unfolding plan_of
plan_like c v r (PowerUp n) x y = like _
plan_like c v r InitPrecharge x y = like _
plan_like c v r (InitRefresh n) x y = like _
plan_like c v r InitMode x y = like _
plan_like c v r InitSettle x y = like _
plan_like c v r Idle x y = like _
plan_like c v r (Access i) x y = like _
plan_like c v r (CasLatency i left) x y = latency_like i left r x y
plan_like c v r Turnaround x y = like _
plan_like c v r PrechargeAll x y = like _
plan_like c v r Refresh x y = like _
plan_like c v r (RefreshCycle left) x y = like _

-- what follows: by whether the command was legal
record Follows (o w : Outcome) : Type 0 where
  action : o.action ≡ w.action
  leaves : o.leaves ≡ w.leaves
  refreshes : o.refreshes ≡ w.refreshes

outcome_like : {p q : Plan} → Like p q → (t : Bool) → Follows (outcome_of t p.sent p.stays) (outcome_of t q.sent q.stays)
unfolding outcome_of quietly
outcome_like l true = record { action = l.action; leaves = l.leaves; refreshes = l.refreshes }
outcome_like l false = record { action = l.stays; leaves = refl; refreshes = refl }

outcome_legal : (c : Config) (v : View) {p q : Plan} → Like p q
    → Follows (outcome_of (legal_of c v p.command) p.sent p.stays) (outcome_of (legal_of c v q.command) q.sent q.stays)
outcome_legal c v {p} {q} l = rw l.command (outcome_like l (legal_of c v q.command))

-- two turns that differ in their report at most
record Same (s t : Turn) : Type 0 where
  command : s.command ≡ t.command
  counters : s.counters ≡ t.counters
  control : s.control ≡ t.control
  queue : s.queue ≡ t.queue

turn_same : (c : Config) (v : View) (n : Counters) (control : Control) (q : Queue) (x y : ℕ) → Same (turn_of c v n control q x) (turn_of c v n control q y)
unfolding turn_of
turn_same c v n control q x y =
    let ticked : Counters = ticked_of c n control.action in
    let k : Choice = current_of control ticked.backlog q (all_closed v.row) in
    let at : ℕ = under_way k.control.action in
    let l = plan_like c v (get_of k.queue at) k.control.action x y in
    let o = outcome_legal c v l in
    record {
      command = ap (carried_of c v) l.command;
      counters = ap (counters_after ticked) o.refreshes;
      control = ap (λ (a : Action). control_of a k.control.must) o.action;
      queue = ap (queue_after k.queue at) o.leaves;
    }

module _ (m : Machine) (x y : ℕ) where
  step_command : (step_of m x).command ≡ (step_of m y).command
  unfolding step_of
  step_command = (turn_same m.config (by_ages m.config m.past) m.counters m.control m.queue x y).command

  step_machine : (step_of m x).machine ≡ (step_of m y).machine
  unfolding step_of
  step_machine =
      let t = turn_same m.config (by_ages m.config m.past) m.counters m.control m.queue x y in
      rw (t.command, t.counters, t.control, t.queue)

  pub same_command : (slot_of m x).command ≡ (slot_of m y).command
  unfolding slot_of
  same_command = go (eqb (record_number_of m) 0)
    where
      go : (t : Bool) → (cond t (step_of m x) (refused_with m (record_number_of m))).command ≡ (cond t (step_of m y) (refused_with m (record_number_of m))).command
      go true = step_command
      go false = refl

  pub same_machine : (slot_of m x).machine ≡ (slot_of m y).machine
  unfolding slot_of
  same_machine = go (eqb (record_number_of m) 0)
    where
      go : (t : Bool) → (cond t (step_of m x) (refused_with m (record_number_of m))).machine ≡ (cond t (step_of m y) (refused_with m (record_number_of m))).machine
      go true = step_machine
      go false = refl
