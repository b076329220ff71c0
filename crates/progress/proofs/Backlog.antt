-- A backlog is worked off, over a list of slots: what is owed, with a refresh for each of four intervals that may expire meanwhile, is done before the
-- last of them has.
use Prim.Native.Nat.{ℕ, zero, suc, ◌+◌, ◌-◌, ◌*◌, ◌≤◌, ◌<◌, max}
use mathlib.Core.Path.{◌≡◌, refl, sym, ap, ◌∙◌}
use mathlib.Core.Bool.{Bool, true, false, ◌||◌, false≢true}
use mathlib.Core.List.{List, [], ◌∷◌}
use mathlib.Core.Logic.{dite}
use native.Mathlib.Omega.{arith}
use native.Mathlib.Nat.{suc-mul, mul-le-mul_right, lt_of_not-le}
use native.Mathlib.Decide.{ℕ_discrete, dec_le}
use lib.Dec.{eqb}
use lib.ListN.{length}
use borrow.Author.Tests.{eq-eqb, ne_eqb}
use Rattle.std.specs.Prelude.{None}
use Rattle.config.specs.declared.Config.{Config}
use Rattle.config.specs.Accepted.{Accepted}
use Rattle.device.specs.View.{all_closed}
use Rattle.device.proofs.Tests.{by_test, if_both}
use Rattle.ages.specs.declared.Past.{Past}
use Rattle.ages.specs.Ages.{row_at}
use Rattle.queue.specs.Places.{get_of}
use Rattle.refresh.specs.declared.Counters.{Counters}
use Rattle.refresh.specs.declared.Level.{Level}
use Rattle.refresh.specs.declared.Level.TheVariants.{Clear, May, Release, Need, Must}
use Rattle.refresh.specs.Urgency.{level_of, run_of}
use Rattle.refresh.proofs.Levels.{Within, level_in}
use Rattle.refresh.specs.Counting.{tick_of, refreshed_of}
use Rattle.refresh.proofs.Counts.{Bounded, tick_stays, tick_expires, tick_full}
use Rattle.plan.specs.declared.Action.{Action}
use Rattle.plan.specs.declared.Action.TheVariants.{
  PowerUp,
  InitPrecharge,
  InitRefresh,
  InitMode,
  InitSettle,
  Idle,
  Access,
  CasLatency,
  Turnaround,
  PrechargeAll,
  Refresh,
  RefreshCycle,
}
use Rattle.plan.specs.Actions.{is_idle, in_service, under_way}
use Rattle.plan.specs.Plan.{counters_after}
use Rattle.plan.specs.Choice.{rules_of, choice_of, current_of}
use Rattle.plan.specs.Slot.{ticked_of}
use Rattle.plan.proofs.Sound.{SoundAction}
use Rattle.soundness.proofs.Plans.{Served, served_of}
use Rattle.sequencer.specs.declared.Machine.{Machine}
use Rattle.sequencer.specs.Machine.{step_of}
use Rattle.sequencer.specs.Calls.{record_number_of, slot_of}
use Rattle.sequencer.proofs.Sound.{step_serves}
use Rattle.theorem.proofs.Invariant.{refr_held, refresh_held}
use Rattle.theorem.proofs.Plans.{counters_of, chosen_of, acted_of, after_of, step_is}
use Rattle.progress.specs.Progress.{
  refresh_chosen,
  worked_off_within,
  refreshed_next,
  works_off,
}
use Rattle.progress.proofs.Distances.{gap, gap_most, refr_most, refresh_most}
use Rattle.progress.proofs.Refresh.{owed_left, Due, enough, every_bank_closed, under, Works, works, choice_works, chooses_refresh, empty_stays}
use Rattle.progress.proofs.Machine.{step_config, Live, live, slot_is, step_live, goes_on}

abbrev owing : Machine → ℕ
owing m = owed_left m.config m.past m.control.action m.counters.backlog

-- in service, nothing queued, and the backlog is one that is refreshed
record Resting (m : Machine) : Type 0 where
  alive : Live m
  service : in_service m.control.action ≡ true
  empty : m.queue.count ≡ 0
  due : Due m.past m.control.action m.counters.backlog

due_more : {p : Past} {a : Action} {b b' : ℕ} → b ≤ b' → Due p a b → Due p a b'
due_more h (enough k) = enough (omega arith)
due_more h (every_bank_closed k) = every_bank_closed k
due_more h (under k) = under k

-- the counters of a slot
abbrev ticked_in : Machine → Counters
ticked_in m = tick_of m.counters m.config.rr

after_interval : (n : Counters) (refreshes : Bool) → (counters_after n refreshes).interval ≡ n.interval
unfolding counters_after refreshed_of
after_interval n refreshes =
    if_both (λ (x : Counters). x.interval ≡ n.interval) refreshes
    (λ e. if_both (λ (x : Counters). x.interval ≡ n.interval) (eqb n.backlog 0) (λ f. refl) (λ f. refl))
    (λ e. refl)

-- what a slot leaves, with the bound of its action
record Rested (m next : Machine) (bound : ℕ) : Type 0 where
  still : Resting next
  less : owing next + 1 ≤ bound
  config : next.config ≡ m.config
  interval : next.counters.interval ≡ (ticked_in m).interval

counters_in : (m : Machine) → in_service m.control.action ≡ true → counters_of m ≡ ticked_in m
unfolding counters_of ticked_of
counters_in m s = rw s

module _ {m : Machine} (q : Resting m) (a : Action) (must : Bool) (x : chosen_of m ≡ record { control = record { action = a; must = must }; queue = m.queue })
    (serves : in_service a ≡ true) (busy : is_idle a ≡ false) (sound : SoundAction m.config m.past.programmed (all_closed (row_at m.past)) 0 a)
    (due : Due m.past a (ticked_in m).backlog) (bus : ℕ) where
  abbrev s : Served
  s = served_of m.config m.past (get_of m.queue (under_way a)) a bus

  now : Works q.alive.facts.accepted m.past (ticked_in m) a s
  now = works q.alive.facts.accepted m.past (ticked_in m) a serves busy sound (get_of m.queue (under_way a)) bus

  step_empty : (step_of m bus).machine.queue.count ≡ 0
  unfolding acted_of after_of
  step_empty = rw (step_is m bus, x) (empty_stays m.queue (under_way a) s.outcome.leaves q.empty)

  step_due : Due (step_of m bus).machine.past (step_of m bus).machine.control.action (step_of m bus).machine.counters.backlog
  unfolding acted_of after_of
  step_due = rw (step_is m bus, x, counters_in m q.service) (now.due due)

  step_less : owing (step_of m bus).machine + 1 ≤ owed_left m.config m.past a (ticked_in m).backlog
  unfolding acted_of after_of
  step_less = rw (step_is m bus, x, counters_in m q.service) now.by

  step_interval : (step_of m bus).machine.counters.interval ≡ (ticked_in m).interval
  unfolding acted_of after_of
  step_interval = rw (step_is m bus, x, counters_in m q.service) (after_interval (ticked_in m) s.outcome.refreshes)

  rested : Rested m (step_of m bus).machine (owed_left m.config m.past a (ticked_in m).backlog)
  rested =
      record {
        still = record { alive = step_live q.alive bus; service = step_serves m q.alive.facts bus q.service; empty = step_empty; due = step_due };
        less = step_less;
        config = step_config m bus;
        interval = step_interval;
      }

-- the action of the slot: the one under way, or the refresh that is chosen

idle_is : (a : Action) → is_idle a ≡ true → a ≡ Idle
idle_is (PowerUp n) e = absurd (false≢true e)
idle_is InitPrecharge e = absurd (false≢true e)
idle_is (InitRefresh n) e = absurd (false≢true e)
idle_is InitMode e = absurd (false≢true e)
idle_is InitSettle e = absurd (false≢true e)
idle_is Idle e = refl
idle_is (Access i) e = absurd (false≢true e)
idle_is (CasLatency i left) e = absurd (false≢true e)
idle_is Turnaround e = absurd (false≢true e)
idle_is PrechargeAll e = absurd (false≢true e)
idle_is Refresh e = absurd (false≢true e)
idle_is (RefreshCycle left) e = absurd (false≢true e)

idle_closed : {p : Past} {b : ℕ} → Due p Idle b → b ≤ 3 → all_closed (row_at p) ≡ true
idle_closed (enough h) k = absurd (omega arith)
idle_closed (every_bank_closed h) k = h
idle_closed (under h) k = absurd (false≢true h)

-- The counters of the slot: the interval falls, or it is reloaded and one refresh more may be owed.

data Ticks (n : Counters) (rr : ℕ) : Counters → Type 0 where
  stays : {t : Counters} → 2 ≤ n.interval → t.interval ≡ n.interval - 1 → t.backlog ≡ n.backlog → Ticks n rr t
  expires : {t : Counters} → n.interval ≤ 1 → t.interval ≡ rr → n.backlog ≤ t.backlog → t.backlog ≤ n.backlog + 1 → Ticks n rr t

ticks : {rr : ℕ} {n : Counters} → Bounded rr n → Ticks n rr (tick_of n rr)
ticks {rr} {n} b =
    dite (dec_le n.interval 1)
    (λ h.
    dite (dec_le 15 n.backlog)
    (λ l. rw (tick_full n rr h l) (expires {t = record { interval = rr; backlog = 15 }} h refl b.top (omega arith)))
    (λ l. rw (tick_expires n rr h (lt_of_not-le l)) (expires {t = record { interval = rr; backlog = n.backlog + 1 }} h refl (omega arith) (omega arith))))
    (λ h. rw (tick_stays n rr (lt_of_not-le h)) (stays (lt_of_not-le h) refl refl))

ticks_more : {rr : ℕ} {n t : Counters} → Ticks n rr t → n.backlog ≤ t.backlog
ticks_more (stays h i e) = omega arith
ticks_more (expires h i e f) = e

-- what one refresh more adds to the bound
one_more : (c : Config) (p : Past) (a : Action) (b b' : ℕ) → b' ≤ b + 1 → owed_left c p a b' ≤ owed_left c p a b + c.refresh
one_more c p a b b' h =
    by_action a (mul-le-mul_right c.refresh h) (suc-mul b c.refresh) (mul-le-mul_right c.refresh fewer) (suc-mul (b - 1) c.refresh)
  where
    fewer : b' - 1 ≤ suc (b - 1)
    fewer = omega arith

    by_action : (a : Action) → b' * c.refresh ≤ (b + 1) * c.refresh → suc b * c.refresh ≡ b * c.refresh + c.refresh
        → (b' - 1) * c.refresh ≤ suc (b - 1) * c.refresh → suc (b - 1) * c.refresh ≡ (b - 1) * c.refresh + c.refresh
        → owed_left c p a b' ≤ owed_left c p a b + c.refresh
    by_action (PowerUp n) u v w z = omega arith
    by_action InitPrecharge u v w z = omega arith
    by_action (InitRefresh n) u v w z = omega arith
    by_action InitMode u v w z = omega arith
    by_action InitSettle u v w z = omega arith
    by_action Idle u v w z = omega arith
    by_action (Access i) u v w z = omega arith
    by_action (CasLatency i left) u v w z = omega arith
    by_action Turnaround u v w z = omega arith
    by_action PrechargeAll u v w z = omega arith
    by_action Refresh u v w z = omega arith
    by_action (RefreshCycle left) u v w z = omega arith

-- A slot with a backlog.

module _ {m : Machine} (q : Resting m) (some : 1 ≤ m.counters.backlog) (bus : ℕ) where
  abbrev ok : Accepted m.config
  ok = q.alive.facts.accepted

  more : m.counters.backlog ≤ (ticked_in m).backlog
  more = ticks_more (ticks q.alive.facts.counters)

  rest_under : is_idle m.control.action ≡ false
      → Rested m (step_of m bus).machine (owed_left m.config m.past m.control.action (ticked_in m).backlog)
  rest_under e =
      rested q m.control.action m.control.must (goes_on m e) q.service e (rw q.empty at q.alive.facts.action) (due_more more q.due) bus

  module _ (e : m.control.action ≡ Idle) where
    closed_or : (ticked_in m).backlog ≤ 3 → all_closed (row_at m.past) ≡ true
    closed_or h = idle_closed (due_more more (rw e at q.due)) h

    run : Bool
    run = (choice_of m.control.must (ticked_in m).backlog m.queue (all_closed (row_at m.past))).control.must

    chosen_refresh : chosen_of m ≡ record { control = record { action = PrechargeAll; must = run }; queue = m.queue }
    unfolding chosen_of current_of choice_of run
    chosen_refresh =
        rw (counters_in m q.service, e)
        (ap (λ (a : Action). record { control = record { action = a; must = run }; queue = m.queue })
        (chooses_refresh m.control.must (all_closed (row_at m.past)) (ticked_in m).backlog m.queue q.empty (omega (arith, more)) closed_or))

    rest_chosen : Rested m (step_of m bus).machine (owed_left m.config m.past PrechargeAll (ticked_in m).backlog)
    rest_chosen = rested q PrechargeAll run chosen_refresh refl refl (rw e at q.alive.facts.action) (under refl) bus

  rest_slot : Rested m (slot_of m bus).machine (owed_left m.config m.past m.control.action (ticked_in m).backlog)
  rest_slot =
      rw (slot_is q.alive bus)
      (by_test (is_idle m.control.action)
      (λ i.
      let e = idle_is m.control.action i in
      let r = rest_chosen e in
      let w : owed_left m.config m.past PrechargeAll (ticked_in m).backlog ≤ owed_left m.config m.past Idle (ticked_in m).backlog
      = choice_works ok m.past (ticked_in m) (omega (arith, more)) in
      let same = ap (λ (a : Action). owed_left m.config m.past a (ticked_in m).backlog) e in
      record { still = r.still; less = omega (arith, r.less, w, same); config = r.config; interval = r.interval })
      rest_under)

-- a bound of 0 leaves no backlog
owing_some : {m : Machine} → Resting m → 1 ≤ m.counters.backlog → 1 ≤ owing m
owing_some {m} q h =
    let b = mul-le-mul_right m.config.refresh h in
    let ok = q.alive.facts.accepted in
    by_action m.control.action q.service q.alive.facts.action (omega (arith, b, ok.refresh_span_lem, ok.rfc_least)) ok.rfc_least
  where
    by_action : (a : Action) → in_service a ≡ true → SoundAction m.config m.past.programmed (all_closed (row_at m.past)) m.queue.count a
        → 1 ≤ m.counters.backlog * m.config.refresh → 1 ≤ m.config.rfc → 1 ≤ owed_left m.config m.past a m.counters.backlog
    by_action (PowerUp n) e s x y = absurd (false≢true e)
    by_action InitPrecharge e s x y = absurd (false≢true e)
    by_action (InitRefresh n) e s x y = absurd (false≢true e)
    by_action InitMode e s x y = absurd (false≢true e)
    by_action InitSettle e s x y = absurd (false≢true e)
    by_action Idle e s x y = omega arith
    by_action (Access i) e s x y = absurd (omega (arith, s.1, q.empty))
    by_action (CasLatency i left) e s x y = absurd (omega (arith, s.1, q.empty))
    by_action Turnaround e s x y = omega arith
    by_action PrechargeAll e s x y = omega arith
    by_action Refresh e s x y = omega arith
    by_action (RefreshCycle left) e s x y = omega arith

-- over k intervals more
module _ (c : Config) where
  -- what is owed, with a refresh for each interval that may still expire, is done before the last of them has
  record Soon (k : ℕ) (m : Machine) : Type 0 where
    config : m.config ≡ c
    before : owing m + k * c.refresh < m.counters.interval + k * c.rr

  abbrev Working : List ℕ → Type 0
  Working buses = (k : ℕ) (m : Machine) → Resting m → Soon k m → owing m + k * c.refresh ≤ length buses → works_off m buses ≡ true

  module _ {m next : Machine} (q : Resting m) (some : 1 ≤ m.counters.backlog) (same : m.config ≡ c)
      (r : Rested m next (owed_left m.config m.past m.control.action (ticked_in m).backlog)) where
    refresh_same : m.config.refresh ≡ c.refresh
    refresh_same = ap (λ (x : Config). x.refresh) same

    rr_same : m.config.rr ≡ c.rr
    rr_same = ap (λ (x : Config). x.rr) same

    -- the slot's interval expires, or not
    goes : (rest : List ℕ) → Working rest → (k : ℕ) → Soon k m → owing m + k * c.refresh ≤ suc (length rest) → Ticks m.counters m.config.rr (ticked_in m)
        → works_off next rest ≡ true
    goes rest next-works k s h (stays i j b) =
        let l : owing next + 1 ≤ owing m = rw b at r.less in
        next-works k next r.still (record { config = r.config ∙ same; before = omega (arith, s.before, r.interval, l, i, j) }) (omega arith)
    goes rest next-works zero s h (expires i j f g) = absurd (omega (arith, s.before, owing_some q some))
    goes rest next-works (suc k) s h (expires i j f g) =
        let l = one_more m.config m.past m.control.action m.counters.backlog (ticked_in m).backlog g in
        let x = suc-mul k c.refresh in
        let y = suc-mul k c.rr in
        next-works k next r.still
        (record { config = r.config ∙ same; before = omega (arith, s.before, r.interval, r.less, l, x, y, i, j, refresh_same, rr_same) })
        (omega (arith, r.less, l, x, refresh_same))

  working : (buses : List ℕ) → Working buses
  working [] k m q s h =
      dite (ℕ_discrete m.counters.backlog 0)
      (λ e. rw (eq-eqb m.counters.backlog 0 e))
      (λ e. absurd (omega (arith, owing_some q (omega arith))))
  working (bus ∷ rest) k m q s h =
      dite (ℕ_discrete m.counters.backlog 0)
      (λ e. rw (eq-eqb m.counters.backlog 0 e))
      (λ e.
      let some : 1 ≤ m.counters.backlog = omega arith in
      rw (ne_eqb m.counters.backlog 0 e)
      (goes q some s.config (rest_slot q some bus) rest (working rest) k s h (ticks q.alive.facts.counters)))

-- from any record

rule_due : (p : Past) (a : Action) (must closed : Bool) (l : Level) (b : ℕ) → Within l b → all_closed (row_at p) ≡ closed
    → refresh_chosen (rules_of (run_of must l) l None None closed) ≡ true → Due p a b
unfolding rules_of
rule_due p a must closed Clear b w e h = absurd (false≢true h)
rule_due p a must true May b w e h = every_bank_closed e
rule_due p a must false May b w e h = absurd (false≢true h)
rule_due p a must closed Release b w e h = enough w.0
rule_due p a must closed Need b w e h = enough (omega (arith, w.0))
rule_due p a must closed Must b w e h = enough (omega arith)

resting_due : (m : Machine) → refreshed_next m ≡ true → Due m.past m.control.action m.counters.backlog
resting_due m h =
    by_test (refresh_chosen m.control.action)
    (λ e. under e)
    (λ e.
    let level = level_of m.counters.backlog in
    let chosen = refresh_chosen (rules_of (run_of m.control.must level) level None None (all_closed (row_at m.past))) in
    rule_due m.past m.control.action m.control.must (all_closed (row_at m.past)) level m.counters.backlog (level_in m.counters.backlog) refl
    (sym (or_false chosen) ∙ rw e at h))
  where
    or_false : (x : Bool) → (x || false) ≡ x
    or_false true = refl
    or_false false = refl

owing_most : {m : Machine} → Resting m → owing m ≤ 16 * m.config.refresh
owing_most {m} q =
    let p = m.past in
    let ok = q.alive.facts.accepted in
    let top = q.alive.facts.counters.top in
    let b = m.counters.backlog in
    let fewer : b - 1 ≤ 14 = omega arith in
    by_action m.control.action q.service q.alive.facts.action
    (mul-le-mul_right m.config.refresh top) (mul-le-mul_right m.config.refresh fewer)
    (gap_most ok p) (refresh_most ok p) (refr_most ok p) ok.refresh_span_lem ok.rfc_least
  where
    by_action : (a : Action) → in_service a ≡ true → SoundAction m.config m.past.programmed (all_closed (row_at m.past)) m.queue.count a
        → m.counters.backlog * m.config.refresh ≤ 15 * m.config.refresh
        → (m.counters.backlog - 1) * m.config.refresh ≤ 14 * m.config.refresh
        → gap m.config m.past < m.config.refresh
        → refresh_held m.config m.past ≤ max (max m.config.ras m.config.wr + m.config.rp) m.config.rc
        → refr_held m.config m.past ≤ max m.config.rp m.config.rc
        → m.config.refresh ≡ max (max m.config.ras m.config.wr + m.config.rp) m.config.rc + m.config.rfc → 1 ≤ m.config.rfc
        → owed_left m.config m.past a m.counters.backlog ≤ 16 * m.config.refresh
    by_action (PowerUp n) e s u v g h i f r = omega arith
    by_action InitPrecharge e s u v g h i f r = omega arith
    by_action (InitRefresh n) e s u v g h i f r = omega arith
    by_action InitMode e s u v g h i f r = omega arith
    by_action InitSettle e s u v g h i f r = omega arith
    by_action Idle e s u v g h i f r = omega arith
    by_action (Access k) e s u v g h i f r = omega arith
    by_action (CasLatency k left) e s u v g h i f r = omega arith
    by_action Turnaround e s u v g h i f r = omega arith
    by_action PrechargeAll e s u v g h i f r = omega arith
    by_action Refresh e s u v g h i f r = omega arith
    by_action (RefreshCycle left) e s u v g h i f r = omega (arith, s.2)

pub works_off_lem : (m : Machine) → record_number_of m ≡ 0 → in_service m.control.action ≡ true → m.queue.count ≡ 0 → refreshed_next m ≡ true → (buses : List ℕ)
    → worked_off_within m.config ≤ length buses → works_off m buses ≡ true
unfolding worked_off_within
works_off_lem m z s e d buses h =
    let q : Resting m = record { alive = live m z; service = s; empty = e; due = resting_due m d } in
    let w = owing_most q in
    let ok = q.alive.facts.accepted in
    let i = q.alive.facts.counters.low in
    working m.config buses 4 m q (record { config = refl; before = omega (arith, ok.long_enough, w, i) }) (omega (arith, w))
