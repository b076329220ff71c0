-- A slot on a sound record gives a sound record, whatever made the record: action by action. A machine in service stays in service.
use Prim.Native.Nat.{ℕ, ◌-◌, ◌≤◌, ◌<◌}
use mathlib.Core.Path.{◌≡◌, refl, ◌∙◌}
use mathlib.Core.Bool.{Bool, true, false≢true}
use mathlib.Core.Option.{Option, none, some}
use native.Mathlib.Omega.{arith}
use lib.Dec.{leb, eqb}
use lib.ListN.{length-take}
use borrow.Author.Tests.{leb-false}
use Rattle.std.specs.Prelude.{Option as StdOption, Some, None}
use Rattle.config.specs.declared.Config.{Config}
use Rattle.config.specs.Accepted.{Accepted}
use Rattle.address.specs.declared.Row.{Row}
use Rattle.address.specs.declared.Cell.{Cell}
use Rattle.command.specs.declared.Command.{Command}
use Rattle.command.specs.declared.Command.TheVariants.{Nop, Act, Pre, Deac, Refr, Mrs}
use Rattle.device.specs.View.{all_closed}
use Rattle.device.proofs.Tests.{if_both}
use Rattle.ages.specs.declared.Past.{Past}
use Rattle.ages.specs.Ages.{row_at, by_ages, sent_of}
use Rattle.queue.specs.declared.Kind.{Kind}
use Rattle.queue.specs.declared.Queue.{Queue}
use Rattle.queue.specs.declared.Request.{Request}
use Rattle.queue.specs.Places.{cell_for, requests_in, held_of, get_of, accept_of}
use Rattle.queue.specs.Oldest.{oldest_of}
use Rattle.queue.proofs.Oldest.{oldest_found}
use Rattle.refresh.specs.declared.Counters.{Counters}
use Rattle.refresh.specs.Urgency.{level_of, run_of}
use Rattle.refresh.proofs.Counts.{Bounded, bounded_tick, bounded_refreshed}
use Rattle.plan.specs.declared.Action.{Action}
use Rattle.plan.specs.declared.Action.TheVariants.{
  PowerUp,
  InitPrecharge,
  InitRefresh,
  InitMode,
  InitSettle,
  Idle,
  Access,
  CasLatency,
  Turnaround,
  PrechargeAll,
  Refresh,
  RefreshCycle,
}
use Rattle.plan.specs.declared.Control.{Control}
use Rattle.plan.specs.Actions.{is_idle, in_service, under_way}
use Rattle.plan.specs.Plan.{
  quietly,
  tries,
  rest,
  after_pause,
  after_init_refresh,
  mode_word,
  read_plan,
  write_plan,
  transfer_plan,
  access_plan,
  taken_plan,
  latency_plan,
  cycle_left,
  refresh_plan,
  plan_of,
  queue_after,
  counters_after,
}
use Rattle.plan.specs.Choice.{Choice, access_or, needs, idle_refresh, rules_of, choice_of, current_of}
use Rattle.plan.specs.Slot.{ticked_of, turn_of}
use Rattle.plan.proofs.Sound.{SoundAction}
use Rattle.numbers.proofs.Laws.{SoundFacts}
use Rattle.soundness.proofs.Plans.{Served, performed_of, served_of, sending, performed_both, rest_only}
use Rattle.soundness.proofs.Past.{programmed_kept, mrs_programmed, nop_closed, refr_closed, deac_closed}
use Rattle.soundness.proofs.Queue.{accept_more, accept_few, remove_few}

-- a sound action on a record's past and queue
abbrev Sound : Config → Past → Queue → Action → Type 0
Sound c p q a = SoundAction c p.programmed (all_closed (row_at p)) q.count a

-- what a slot of action a leaves: a sound action, in service if a was
record Leaves (c : Config) (q : Queue) (a : Action) (s : Served) : Type 0 where
  sound : Sound c s.past (queue_after q (under_way a) s.outcome.leaves) s.outcome.action
  service : in_service a ≡ true → in_service s.outcome.action ≡ true

-- the request found, or what a later rule chooses
pub found_both : (P : Action → Type 0) (f : StdOption ℕ) {later : Action} → ((i : ℕ) → f ≡ Some i → P (Access i)) → P later → P (access_or f later)
found_both P (Some i) here later = here i refl
found_both P None here later = later

module _ {c : Config} (ok : Accepted c) (p : Past) (q : Queue) where
  -- a slot that carries k, and serves nothing
  quiet : {a : Action} (k : Command) (next : Action) → Sound c (sent_of p k) q next → (in_service a ≡ true → in_service next ≡ true)
      → Leaves c q a (sending p k (quietly next))
  unfolding quietly queue_after
  quiet k next s h = record { sound = s; service = h }

  -- what is left of a refresh
  cycle : (p' : Past) (left : ℕ) → p'.programmed ≡ true → left < c.rfc → Sound c p' q (cycle_left left) × (in_service (cycle_left left) ≡ true)
  unfolding cycle_left
  cycle p' left m h =
      if_both (λ a. Sound c p' q a × (in_service a ≡ true)) (leb left 0)
      (λ e. (m, refl))
      (λ e. ((m, leb-false left 0 e, h), refl))

  -- Each action's plan.

  pause : (n : ℕ) → Sound c p q (PowerUp n) → Sound c (sent_of p Nop) q (after_pause n)
  unfolding after_pause
  pause n s =
      if_both (Sound c (sent_of p Nop) q) (leb n 1)
      (λ e. tt)
      (λ e. let h = leb-false n 1 e in (omega arith, omega (arith, s.1)))

  init_refreshed : (n : ℕ) → Sound c p q (InitRefresh n) → Sound c (sent_of p Refr) q (after_init_refresh n)
  unfolding after_init_refresh
  init_refreshed n s =
      if_both (Sound c (sent_of p Refr) q) (leb n 1)
      (λ e. refr_closed p ∙ s.0)
      (λ e. let h = leb-false n 1 e in (refr_closed p ∙ s.0, omega arith, omega (arith, s.2)))

  module _ (i : ℕ) (programmed : p.programmed ≡ true) (queued : i < q.count) where
    -- the access goes on, whatever the slot's command
    accessing : (k : Command) → Leaves c q (Access i) (sending p k (quietly (Access i)))
    accessing k = quiet k (Access i) (programmed_kept p k programmed, queued) (λ e. refl)

    goes_on : (k : Command) → Leaves c q (Access i) (performed_of c p (tries k (Access i) (Access i)))
    unfolding tries
    goes_on k = performed_both c p (Leaves c q (Access i)) (tries k (Access i) (Access i)) (λ e. accessing k) (λ e. accessing Nop)

    transfers : (r : Request) (x : Cell) (kind : Kind) → Leaves c q (Access i) (performed_of c p (transfer_plan c i r x kind))
    unfolding transfer_plan read_plan write_plan tries
    transfers r x Kind.Read =
        performed_both c p (Leaves c q (Access i)) (read_plan c i x)
        (λ e.
        quiet (Command.Read x.bank x.column) (CasLatency i c.latency)
        (programmed_kept p _ programmed, queued, omega (arith, ok.latency_least), omega arith) (λ e. refl))
        (λ e. accessing Nop)
    transfers r x Kind.Write =
        performed_both c p (Leaves c q (Access i)) (write_plan i r x)
        (λ e. record { sound = programmed_kept p _ programmed; service = λ e. refl })
        (λ e. accessing Nop)

    accesses : (r : Request) (x : Cell) (open_row : Option Row) → Leaves c q (Access i) (performed_of c p (access_plan c open_row i r x))
    unfolding access_plan
    accesses r x none = goes_on (Act x.bank x.row)
    accesses r x (some y) =
        if_both (λ plan. Leaves c q (Access i) (performed_of c p plan)) (eqb y.0 x.row.0)
        (λ e. transfers r x r.kind)
        (λ e. goes_on (Pre x.bank))

  awaits : (i left : ℕ) (r : Request) (bus : ℕ) → Sound c p q (CasLatency i left) → Leaves c q (CasLatency i left) (performed_of c p (latency_plan i left r bus))
  unfolding latency_plan taken_plan
  awaits i left r bus s =
      if_both (λ x. Leaves c q (CasLatency i left) (performed_of c p x)) (leb left 1)
      (λ e.
      performed_both c p (Leaves c q (CasLatency i left)) (taken_plan r bus)
      (λ l. record { sound = programmed_kept p Nop s.0; service = λ e. refl })
      (λ l. quiet Nop Turnaround (programmed_kept p Nop s.0) (λ e. refl)))
      (λ e.
      let h = leb-false left 1 e in
      rest_only c p (Leaves c q (CasLatency i left)) (CasLatency i (left - 1))
      (quiet Nop (CasLatency i (left - 1)) (programmed_kept p Nop s.0, s.1, omega arith, omega (arith, s.3)) (λ e. refl)))

  refreshes : Sound c p q Refresh → Leaves c q Refresh (performed_of c p (refresh_plan c))
  unfolding refresh_plan queue_after
  refreshes s =
      performed_both c p (Leaves c q Refresh) (refresh_plan c)
      (λ e.
      let next = cycle (sent_of p Refr) (c.rfc - 1) (programmed_kept p Refr s.0) (omega (arith, ok.rfc_least)) in
      record { sound = next.0; service = λ e. next.1 })
      (λ e. quiet Nop Refresh (programmed_kept p Nop s.0, nop_closed p ∙ s.1) (λ e. refl))

  -- a slot of NOP, with the next action
  rests : {a : Action} (next : Action) → Sound c (sent_of p Nop) q next → (in_service a ≡ true → in_service next ≡ true)
      → Leaves c q a (performed_of c p (rest next))
  rests {a} next s h = rest_only c p (Leaves c q a) next (quiet Nop next s h)

  served : (a : Action) → Sound c p q a → (bus : ℕ) → Leaves c q a (served_of c p (get_of q (under_way a)) a bus)
  unfolding served_of plan_of tries
  served (PowerUp n) s bus = rests (after_pause n) (pause n s) (λ e. absurd (false≢true e))
  served InitPrecharge s bus =
      performed_both c p (Leaves c q InitPrecharge) (tries Deac InitPrecharge (InitRefresh 8))
      (λ e. quiet Deac (InitRefresh 8) (deac_closed p, omega arith, omega arith) (λ e. absurd (false≢true e)))
      (λ e. quiet Nop InitPrecharge tt (λ e. e))
  served (InitRefresh n) s bus =
      performed_both c p (Leaves c q (InitRefresh n)) (tries Refr (InitRefresh n) (after_init_refresh n))
      (λ e. quiet Refr (after_init_refresh n) (init_refreshed n s) (λ e. absurd (false≢true e)))
      (λ e. quiet Nop (InitRefresh n) (nop_closed p ∙ s.0, s.1, s.2) (λ e. e))
  served InitMode s bus =
      performed_both c p (Leaves c q InitMode) (tries (Mrs (mode_word c)) InitMode InitSettle)
      (λ e. quiet (Mrs (mode_word c)) InitSettle (mrs_programmed p (mode_word c)) (λ e. e))
      (λ e. quiet Nop InitMode (nop_closed p ∙ s) (λ e. e))
  served InitSettle s bus = rests Idle (programmed_kept p Nop s) (λ e. refl)
  served Idle s bus = rests Idle (programmed_kept p Nop s) (λ e. refl)
  served (Access i) s bus =
      let x = cell_for c.geometry (get_of q i) in
      accesses i s.0 s.1 (get_of q i) x (row_at p x.bank.0)
  served (CasLatency i left) s bus = awaits i left (get_of q i) bus s
  served Turnaround s bus = rests Idle (programmed_kept p Nop s) (λ e. refl)
  served PrechargeAll s bus =
      performed_both c p (Leaves c q PrechargeAll) (tries Deac PrechargeAll Refresh)
      (λ e. quiet Deac Refresh (programmed_kept p Deac s, deac_closed p) (λ e. refl))
      (λ e. quiet Nop PrechargeAll (programmed_kept p Nop s) (λ e. refl))
  served Refresh s bus = refreshes s
  served (RefreshCycle left) s bus =
      let next = cycle (sent_of p Nop) (left - 1) (programmed_kept p Nop s.0) (omega (arith, s.2)) in
      rests (cycle_left (left - 1)) next.0 (λ e. next.1)

  -- The choice: its action is sound, and in service.

  abbrev Chosen : Action → Type 0
  Chosen a = Sound c p q a × (in_service a ≡ true)

  chosen_access : p.programmed ≡ true → (kind : Kind) (i : ℕ) → oldest_of kind (held_of q) ≡ Some i → Chosen (Access i)
  chosen_access m kind i e =
      let h = (oldest_found kind (held_of q) i e).servable.within in
      let l = length-take q.count (requests_in q.places) in
      ((m, omega arith), refl)

  chosen : p.programmed ≡ true → (must : Bool) (backlog : ℕ) (closed : Bool) → Chosen (choice_of must backlog q closed).control.action
  unfolding choice_of rules_of
  chosen m must backlog closed =
      if_both Chosen (run_of must (level_of backlog))
      (λ e. (m, refl))
      (λ e.
      found_both Chosen (oldest_of Kind.Read (held_of q)) (chosen_access m Kind.Read)
      (if_both Chosen (needs (level_of backlog))
      (λ d. (m, refl))
      (λ d.
      found_both Chosen (oldest_of Kind.Write (held_of q)) (chosen_access m Kind.Write)
      (if_both Chosen (idle_refresh (level_of backlog) closed) (λ f. (m, refl)) (λ f. (m, refl))))))

-- The slot.

idle_programmed : (c : Config) (p : Past) (q : Queue) (a : Action) → is_idle a ≡ true → Sound c p q a → p.programmed ≡ true
idle_programmed c p q (PowerUp n) e s = absurd (false≢true e)
idle_programmed c p q InitPrecharge e s = absurd (false≢true e)
idle_programmed c p q (InitRefresh n) e s = absurd (false≢true e)
idle_programmed c p q InitMode e s = absurd (false≢true e)
idle_programmed c p q InitSettle e s = absurd (false≢true e)
idle_programmed c p q Idle e s = s
idle_programmed c p q (Access i) e s = absurd (false≢true e)
idle_programmed c p q (CasLatency i left) e s = absurd (false≢true e)
idle_programmed c p q Turnaround e s = absurd (false≢true e)
idle_programmed c p q PrechargeAll e s = absurd (false≢true e)
idle_programmed c p q Refresh e s = absurd (false≢true e)
idle_programmed c p q (RefreshCycle left) e s = absurd (false≢true e)

module _ {c : Config} {p : Past} {n : Counters} {x : Control} (q : Queue) (f : SoundFacts c p n x q.count) (bus : ℕ) where
  ticked : Counters
  ticked = ticked_of c n x.action

  ticked_bounded : Bounded c.rr ticked
  unfolding ticked ticked_of
  ticked_bounded = if_both (Bounded c.rr) (in_service x.action) (λ e. bounded_tick f.counters) (λ e. f.counters)

  abbrev After : Choice → Type 0
  After y =
      let s = served_of c p (get_of y.queue (under_way y.control.action)) y.control.action bus in
      SoundFacts c s.past (counters_after ticked s.outcome.refreshes) (record { action = s.outcome.action; must = y.control.must })
      (queue_after y.queue (under_way y.control.action) s.outcome.leaves).count
      × (in_service x.action ≡ true → in_service s.outcome.action ≡ true)

  after : (a : Action) (must : Bool) → Sound c p q a → (in_service x.action ≡ true → in_service a ≡ true)
      → After (record { control = record { action = a; must = must }; queue = q })
  unfolding counters_after queue_after
  after a must h serving =
      let s = served_of c p (get_of q (under_way a)) a bus in
      let l = served f.accepted p q a h bus in (
        record {
          accepted = f.accepted;
          counters = if_both (Bounded c.rr) s.outcome.refreshes (λ e. bounded_refreshed ticked_bounded) (λ e. ticked_bounded);
          action = l.sound;
          few = if_both (λ (y : Queue). y.count ≤ 8) s.outcome.leaves (λ e. remove_few q (under_way a) f.few) (λ e. f.few);
        },
        λ e. l.service (serving e),
      )

  after_choice : (backlog : ℕ) (closed : Bool) → Chosen f.accepted p q (choice_of x.must backlog q closed).control.action
      → After (choice_of x.must backlog q closed)
  unfolding choice_of
  after_choice backlog closed h =
      let y = (choice_of x.must backlog q closed).control in
      after y.action y.must h.0 (λ e. h.1)

  current : (backlog : ℕ) (closed : Bool) → After (current_of x backlog q closed)
  unfolding current_of
  current backlog closed =
      if_both After (is_idle x.action)
      (λ e. after_choice backlog closed (chosen f.accepted p q (idle_programmed c p q x.action e f.action) x.must backlog closed))
      (λ e. after x.action x.must f.action (λ h. h))

  -- a slot gives a sound record, in service if it was
  pub slot_sound : let t = turn_of c (by_ages c p) n x q bus in
      SoundFacts c (sent_of p t.command) t.counters t.control t.queue.count × (in_service x.action ≡ true → in_service t.control.action ≡ true)
  unfolding turn_of ticked served_of performed_of
  slot_sound = current (ticked_of c n x.action).backlog (all_closed (row_at p))

-- An accepted request.

action_more : (c : Config) (programmed closed : Bool) (a : Action) {few many : ℕ} → few ≤ many → SoundAction c programmed closed few a
    → SoundAction c programmed closed many a
action_more c programmed closed (PowerUp n) h s = s
action_more c programmed closed InitPrecharge h s = s
action_more c programmed closed (InitRefresh n) h s = s
action_more c programmed closed InitMode h s = s
action_more c programmed closed InitSettle h s = s
action_more c programmed closed Idle h s = s
action_more c programmed closed (Access i) h s = (s.0, omega (arith, s.1))
action_more c programmed closed (CasLatency i left) h s = (s.0, omega (arith, s.1), s.2, s.3)
action_more c programmed closed Turnaround h s = s
action_more c programmed closed PrechargeAll h s = s
action_more c programmed closed Refresh h s = s
action_more c programmed closed (RefreshCycle left) h s = s

pub accepted_sound : {c : Config} {p : Past} {n : Counters} {x : Control} (q : Queue) → SoundFacts c p n x q.count → (r : Request)
    → SoundFacts c p n x (accept_of q r).count
accepted_sound {c} {p} {n} {x} q f r =
    record {
      accepted = f.accepted;
      counters = f.counters;
      few = accept_few q r f.few;
      action = action_more c p.programmed (all_closed (row_at p)) x.action (accept_more q r) f.action;
    }
