-- In every list of calls with enough slots a choice is made, and the machine gets into service: by recursion over the calls, each of which leaves a sound
-- record, and each slot of which takes one from the bound.
use Prim.Native.Nat.{ℕ, ◌+◌, ◌-◌, ◌≤◌, ◌<◌}
use mathlib.Core.Path.{◌≡◌, refl, ap, ◌∙◌}
use mathlib.Core.Bool.{true, false, true≢false, ◌||◌}
use mathlib.Core.List.{List, [], ◌∷◌}
use native.Mathlib.Omega.{arith}
use lib.ListN.{length}
use lib.Seq.{length-take-le}
use borrow.Author.Tests.{eq-eqb}
use Rattle.device.proofs.Tests.{by_test}
use Rattle.queue.specs.declared.Kind.{Kind}
use Rattle.queue.specs.Places.{get_of}
use Rattle.plan.specs.declared.Action.{Action}
use Rattle.plan.specs.declared.Action.TheVariants.{
  PowerUp,
  InitPrecharge,
  InitRefresh,
  InitMode,
  InitSettle,
  Idle,
  Access,
  CasLatency,
  Turnaround,
  PrechargeAll,
  Refresh,
  RefreshCycle,
}
use Rattle.plan.specs.Actions.{is_idle, in_service, under_way}
use Rattle.sequencer.specs.declared.Machine.{Machine}
use Rattle.sequencer.specs.Machine.{step_of}
use Rattle.sequencer.specs.Calls.{request_of, slot_of}
use Rattle.sequencer.proofs.Sound.{step_serves}
use Rattle.sequencer.specs.Batch.{series_of, count_of, batch_of, many_slots_of}
use Rattle.model.specs.World.{Call, request, slot, slots, backlog, used_of}
use Rattle.theorem.proofs.Plans.{acted_of, after_of, step_is}
use Rattle.progress.specs.Calls.{after_calls, slots_in, chooses_in, chooses}
use Rattle.progress.proofs.Start.{start_left, left_none, none_left, sooner}
use Rattle.progress.proofs.Machine.{Live, live_number, slot_is, step_live, waiting, asked, goes_on, step_nearer}

-- A choice is made.

slot_live : {m : Machine} → Live m → (bus : ℕ) → Live (slot_of m bus).machine
slot_live l bus = rw (slot_is l bus) (step_live l bus)

slot_serves : {m : Machine} → Live m → (bus : ℕ) → in_service m.control.action ≡ true → in_service (slot_of m bus).machine.control.action ≡ true
slot_serves {m} l bus s = rw (slot_is l bus) (step_serves m l.facts bus s)

slot_nearer : {m : Machine} → Live m → in_service m.control.action ≡ true → is_idle m.control.action ≡ false → (bus : ℕ)
    → waiting (slot_of m bus).machine + 1 ≤ waiting m
slot_nearer l s e bus = rw (slot_is l bus) (step_nearer l s e bus)

-- many slots are as many single ones, and give the machine after these
many : (bus commands reports : List ℕ) → length (used_of bus commands reports) ≡ count_of bus commands reports
many bus commands reports = length-take-le (count_of bus commands reports) bus (omega arith)

slots_are : {m : Machine} → Live m → (bus commands reports : List ℕ)
    → (many_slots_of m bus commands reports).machine ≡ (series_of m (used_of bus commands reports)).machine
unfolding many_slots_of batch_of
slots_are l bus commands reports = rw (eq-eqb _ _ (live_number l))

-- of the calls that are left, from whatever live machine
abbrev Choosing : List Call → Type 0
Choosing ks = (m : Machine) → Live m → in_service m.control.action ≡ true → waiting m < slots_in ks → chooses m ks ≡ true

choosing_asked : (ks : List Call) → Choosing ks → (m : Machine) → Live m → in_service m.control.action ≡ true → waiting m < slots_in ks
    → (kind : Kind) (address halfword : ℕ) → chooses (request_of m kind address halfword).machine ks ≡ true
choosing_asked ks next m l s h kind address halfword =
    let r = asked l kind address halfword in
    next (request_of m kind address halfword).machine r.alive (ap in_service r.action ∙ s) (omega (arith, r.same))

-- single slots before them
choosing_slots : (any : List ℕ) (ks : List Call) → Choosing ks → (m : Machine) → Live m → in_service m.control.action ≡ true → waiting m < slots_in ks + length any
    → (chooses_in m any || chooses (series_of m any).machine ks) ≡ true
unfolding series_of
choosing_slots [] ks next m l s h = next m l s (omega arith)
choosing_slots (bus ∷ later) ks next m l s h =
    by_test (is_idle m.control.action)
    (λ e. rw e)
    (λ e. rw e (choosing_slots later ks next (slot_of m bus).machine (slot_live l bus) (slot_serves l bus s) (omega (arith, slot_nearer l s e bus))))

pub choosing : (calls : List Call) → Choosing calls
choosing [] m l s h = absurd (omega arith)
choosing (request kind a x ∷ ks) m l s h = choosing_asked ks (choosing ks) m l s h kind a x
choosing (slot bus ∷ ks) m l s h =
    by_test (is_idle m.control.action)
    (λ e. rw e)
    (λ e. rw e (choosing ks (slot_of m bus).machine (slot_live l bus) (slot_serves l bus s) (omega (arith, slot_nearer l s e bus))))
choosing (slots bus commands reports ∷ ks) m l s h =
    rw (slots_are l bus commands reports)
    (choosing_slots (used_of bus commands reports) ks (choosing ks) m l s (omega (arith, many bus commands reports)))
choosing (backlog ∷ ks) m l s h = choosing ks m l s h

-- The machine gets into service.

abbrev starting : Machine → ℕ
starting m = start_left m.config m.past m.control.action

init_busy : (a : Action) → in_service a ≡ false → is_idle a ≡ false
init_busy (PowerUp n) e = refl
init_busy InitPrecharge e = refl
init_busy (InitRefresh n) e = refl
init_busy InitMode e = refl
init_busy InitSettle e = refl
init_busy Idle e = absurd (true≢false e)
init_busy (Access i) e = refl
init_busy (CasLatency i left) e = refl
init_busy Turnaround e = refl
init_busy PrechargeAll e = refl
init_busy Refresh e = refl
init_busy (RefreshCycle left) e = refl

step_sooner : {m : Machine} → Live m → (bus : ℕ) → starting (step_of m bus).machine ≤ starting m - 1
unfolding acted_of after_of
step_sooner {m} l bus =
    by_test (in_service m.control.action)
    (λ e.
    let next = (step_of m bus).machine in
    let z : starting next ≡ 0 = none_left next.config next.past next.control.action (step_serves m l.facts bus e) in
    omega (arith, z))
    (λ e.
    rw (step_is m bus, goes_on m (init_busy m.control.action e))
    (let x = sooner l.facts.accepted m.past m.control.action e m.queue.count l.facts.action (get_of m.queue (under_way m.control.action)) bus in
    omega (arith, x.by)))

slot_sooner : {m : Machine} → Live m → (bus : ℕ) → starting (slot_of m bus).machine ≤ starting m - 1
slot_sooner l bus = rw (slot_is l bus) (step_sooner l bus)

abbrev Starting : List Call → Type 0
Starting ks = (m : Machine) → Live m → starting m ≤ slots_in ks → in_service (after_calls m ks).control.action ≡ true

starting_asked : (ks : List Call) → Starting ks → (m : Machine) → Live m → starting m ≤ slots_in ks → (kind : Kind) (address halfword : ℕ)
    → in_service (after_calls (request_of m kind address halfword).machine ks).control.action ≡ true
starting_asked ks next m l h kind address halfword =
    let r = asked l kind address halfword in
    next (request_of m kind address halfword).machine r.alive (rw (r.config, r.past, r.action) h)

starting_slots : (any : List ℕ) (ks : List Call) → Starting ks → (m : Machine) → Live m → starting m ≤ slots_in ks + length any
    → in_service (after_calls (series_of m any).machine ks).control.action ≡ true
unfolding series_of
starting_slots [] ks next m l h = next m l (omega arith)
starting_slots (bus ∷ later) ks next m l h = starting_slots later ks next (slot_of m bus).machine (slot_live l bus) (omega (arith, slot_sooner l bus))

pub started : (calls : List Call) → Starting calls
started [] m l h = left_none m.config m.past m.control.action h
started (request kind a x ∷ ks) m l h = starting_asked ks (started ks) m l h kind a x
started (slot bus ∷ ks) m l h =
    started ks (slot_of m bus).machine (slot_live l bus) (omega (arith, slot_sooner l bus))
started (slots bus commands reports ∷ ks) m l h =
    ap (λ (next : Machine). in_service (after_calls next ks).control.action) (slots_are l bus commands reports)
    ∙ starting_slots (used_of bus commands reports) ks (started ks) m l (omega (arith, many bus commands reports))
started (backlog ∷ ks) m l h = started ks m l h
