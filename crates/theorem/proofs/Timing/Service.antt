-- The refresh bound: with what is still needed below the interval at backlog 12, a slot keeps it so, since both fall by one.
use Prim.Native.Nat.{ℕ, ◌+◌, ◌≤◌, ◌<◌}
use mathlib.Core.Path.{◌≡◌, refl, sym, ◌∙◌}
use mathlib.Core.Bool.{Bool, true, false, true≢false, false≢true}
use native.Mathlib.Nat.{lt_of_not-le}
use native.Mathlib.Decide.{dec_le, ℕ_discrete}
use native.Mathlib.Omega.{arith}
use Rattle.std.specs.Prelude.{Some}
use Rattle.config.specs.declared.Config.{Config}
use Rattle.config.specs.Accepted.{Accepted}
use Rattle.command.specs.declared.Command.TheVariants.{Nop}
use Rattle.device.specs.View.{refresh_cycle, mode_register, marks_of}
use Rattle.device.proofs.Tests.{if_both}
use Rattle.ages.specs.declared.Past.{Past}
use Rattle.ages.specs.Ages.{age_of}
use Rattle.ages.proofs.Slot.{Aged}
use Rattle.queue.specs.declared.Kind.{Kind}
use Rattle.queue.specs.declared.Queue.{Queue}
use Rattle.queue.specs.declared.Request.{Request}
use Rattle.queue.specs.Places.{held_of, get_of, accept_of}
use Rattle.queue.specs.Oldest.{oldest_of}
use Rattle.queue.proofs.Tidy.{Tidy, tidy_length, get_accept}
use Rattle.refresh.specs.declared.Counters.{Counters}
use Rattle.refresh.specs.declared.Level.{Level}
use Rattle.refresh.specs.declared.Level.TheVariants.{Clear, May, Release, Need, Must}
use Rattle.refresh.specs.Counting.{start_of, tick_of, refreshed_of}
use Rattle.refresh.specs.Urgency.{level_of, run_of}
use Rattle.refresh.proofs.Counts.{tick_stays, tick_expires, refreshed_falls}
use Rattle.refresh.proofs.Levels.{Within, level_in, run_off, run_on}
use Rattle.plan.specs.declared.Action.{Action}
use Rattle.plan.specs.declared.Action.TheVariants.{
  PowerUp,
  InitPrecharge,
  InitRefresh,
  InitMode,
  InitSettle,
  Idle,
  Access,
  CasLatency,
  Turnaround,
  PrechargeAll,
  Refresh,
  RefreshCycle,
}
use Rattle.plan.specs.declared.Control.{Control}
use Rattle.plan.specs.Actions.{is_idle, under_way}
use Rattle.plan.specs.Plan.{quietly, rest, plan_of, queue_after, counters_after}
use Rattle.plan.specs.Choice.{Choice, needs, idle_refresh, rules_of, choice_of, current_of}
use Rattle.soundness.proofs.Past.{programmed_kept}
use Rattle.soundness.proofs.Slot.{found_both}
use Rattle.soundness.proofs.Plans.{Served, performed_of, served_of, rest_only}
use Rattle.model.specs.Sdram.{Sdram}
use Rattle.model.specs.Flat.{Flat}
use Rattle.model.specs.Condition.{is_refr}
use Rattle.theorem.proofs.Invariant.{Doing, left_of, need_of, Settled, Owing, Timely}
use Rattle.theorem.proofs.Timing.Actions.{queue_left, Backlog, stays, falls, Advanced, mode-sent, rested, act-advances, refresh-bound, access-bound}

-- the request of an access is queued
abbrev pub Queued : Queue → Action → Type 0
Queued q (PowerUp k) = Unit {0}
Queued q InitPrecharge = Unit {0}
Queued q (InitRefresh k) = Unit {0}
Queued q InitMode = Unit {0}
Queued q InitSettle = Unit {0}
Queued q Idle = Unit {0}
Queued q (Access i) = i < q.count
Queued q (CasLatency i left) = Unit {0}
Queued q Turnaround = Unit {0}
Queued q PrechargeAll = Unit {0}
Queued q Refresh = Unit {0}
Queued q (RefreshCycle left) = Unit {0}

pub queued-doing : {q : Queue} → Tidy q → (d : Sdram) (f : Flat) (a : Action) → Doing q d f a → Queued q a
queued-doing t d f (PowerUp k) h = tt
queued-doing t d f InitPrecharge h = tt
queued-doing t d f (InitRefresh k) h = tt
queued-doing t d f InitMode h = tt
queued-doing t d f InitSettle h = tt
queued-doing t d f Idle h = tt
queued-doing t d f (Access i) h = rw (← tidy_length t) h.within
queued-doing t d f (CasLatency i left) h = tt
queued-doing t d f Turnaround h = tt
queued-doing t d f PrechargeAll h = tt
queued-doing t d f Refresh h = tt
queued-doing t d f (RefreshCycle left) h = tt

-- A slot in service, as its action finds it: the counters have been counted, and a choice made if there was none.
pub record Starts (c : Config) (p : Past) (q : Queue) (a : Action) (n : Counters) : Type 0 where
  pub programmed : p.programmed ≡ true
  pub mode : 2 ≤ age_of p mode_register
  pub settled : Settled c p a
  pub owing : Owing a n
  pub bounded : need_of c p q a < c.rr
  pub low : n.backlog ≤ 12
  pub full : n.backlog ≡ 12 → (is_idle a ≡ false) × (need_of c p q a ≤ n.interval)

-- and as it leaves it: the backlog is 12 at most, also before its REFR is counted
pub record Ends (c : Config) (n : Counters) (q : Queue) (a : Action) (s : Served) : Type 0 where
  pub timely : Timely c s.past (queue_left q a s) s.outcome.action (counters_after n s.outcome.refreshes)
  pub low : n.backlog ≤ 12
  pub refreshed : is_refr s.command ≡ true → (counters_after n s.outcome.refreshes ≡ refreshed_of n) × (1 ≤ n.backlog)
  pub kept : is_refr s.command ≡ false → counters_after n s.outcome.refreshes ≡ n

module _ {c : Config} (ok : Accepted c) {p : Past} {q : Queue} {n : Counters} where
  advanced-ends : {a : Action} {s : Served} → Starts c p q a n → Advanced c p q a n s → Ends c n q a s
  advanced-ends {a} {s} r d = go d.backlog
    where
      go : Backlog c p q a n s → Ends c n q a s
      go (stays other same need owing) =
          record {
            timely = rw same (record {
              programmed = d.programmed;
              mode = d.mode;
              settled = d.settled;
              owing = owing r.owing;
              bounded = omega (arith, r.bounded);
              low = r.low;
              full = λ x. omega (arith, (r.full x).1);
            });
            low = r.low;
            refreshed = λ x. absurd (true≢false (sym x ∙ other));
            kept = λ x. same;
          }
      go (falls refr same need owed owing) =
          record {
            timely = rw (same, refreshed_falls n (owed r.owing)) (record {
              programmed = d.programmed;
              mode = d.mode;
              settled = d.settled;
              owing = owing _;
              bounded = need;
              low = omega (arith, r.low);
              full = λ x. absurd (omega (arith, r.low));
            });
            low = r.low;
            refreshed = λ x. (same, owed r.owing);
            kept = λ x. absurd (true≢false (sym refr ∙ x));
          }

  idle-ends : Starts c p q Idle n → Ends c n q Idle (performed_of c p (rest Idle))
  unfolding quietly marks_of queue_after counters_after
  idle-ends r =
      rest_only c p (Ends c n q Idle) Idle
      (record {
        timely = record {
          programmed = programmed_kept p Nop r.programmed;
          mode = mode-sent p Nop refl r.mode;
          settled = rested ok p Nop refl r.settled;
          owing = tt;
          bounded = r.bounded;
          low = r.low;
          full = λ x. absurd (true≢false (r.full x).0);
        };
        low = r.low;
        refreshed = λ x. absurd (false≢true x);
        kept = λ x. refl;
      })

  busy : (a : Action) → is_idle a ≡ false → Starts c p q a n → (bus : ℕ) → Ends c n q a (served_of c p (get_of q (under_way a)) a bus)
  busy a i x bus = advanced-ends x (act-advances ok x.programmed x.mode q a x.settled i n bus)

  timely-acts : (a : Action) → Starts c p q a n → (bus : ℕ) → Ends c n q a (served_of c p (get_of q (under_way a)) a bus)
  unfolding served_of plan_of
  timely-acts (PowerUp k) x bus = busy (PowerUp k) refl x bus
  timely-acts InitPrecharge x bus = busy InitPrecharge refl x bus
  timely-acts (InitRefresh k) x bus = busy (InitRefresh k) refl x bus
  timely-acts InitMode x bus = busy InitMode refl x bus
  timely-acts InitSettle x bus = busy InitSettle refl x bus
  timely-acts Idle x bus = idle-ends x
  timely-acts (Access i) x bus = busy (Access i) refl x bus
  timely-acts (CasLatency i left) x bus = busy (CasLatency i left) refl x bus
  timely-acts Turnaround x bus = busy Turnaround refl x bus
  timely-acts PrechargeAll x bus = busy PrechargeAll refl x bus
  timely-acts Refresh x bus = busy Refresh refl x bus
  timely-acts (RefreshCycle left) x bus = busy (RefreshCycle left) refl x bus

-- The counters of the slot, whatever is needed.

record Ticked (need : ℕ) (n : Counters) : Type 0 where
  low : n.backlog ≤ 12
  full : n.backlog ≡ 12 → need ≤ n.interval

ticked : (rr need : ℕ) (n : Counters) → 1 ≤ need → need < rr → n.backlog ≤ 12 → (n.backlog ≡ 12 → need < n.interval)
    → Ticked need (tick_of n rr) × (n.backlog ≤ (tick_of n rr).backlog)
ticked rr need n some below low full = go (dec_le n.interval 1) (ℕ_discrete n.backlog 12)
  where
    go : Dec (n.interval ≤ 1) → Dec (n.backlog ≡ 12) → Ticked need (tick_of n rr) × (n.backlog ≤ (tick_of n rr).backlog)
    go (yes h) (yes e) = let x = full e in absurd (omega arith)
    go (yes h) (no e) =
        rw (tick_expires n rr h (omega arith))
        (record { low = omega arith; full = λ x. omega arith }, omega arith)
    go (no h) (yes e) =
        let x = full e in
        rw (tick_stays n rr (lt_of_not-le h)) (record { low = low; full = λ y. omega arith }, omega arith)
    go (no h) (no e) =
        rw (tick_stays n rr (lt_of_not-le h)) (record { low = low; full = λ y. absurd (e y) }, omega arith)

owing-more : (a : Action) (n m : Counters) → n.backlog ≤ m.backlog → Owing a n → Owing a m
owing-more (PowerUp k) n m h o = tt
owing-more InitPrecharge n m h o = tt
owing-more (InitRefresh k) n m h o = tt
owing-more InitMode n m h o = tt
owing-more InitSettle n m h o = tt
owing-more Idle n m h o = tt
owing-more (Access i) n m h o = tt
owing-more (CasLatency i left) n m h o = tt
owing-more Turnaround n m h o = tt
owing-more PrechargeAll n m h o = omega arith
owing-more Refresh n m h o = omega arith
owing-more (RefreshCycle left) n m h o = tt

-- The action under way goes on.

continued : {c : Config} → Accepted c → {p : Past} {q : Queue} {a : Action} {n : Counters}
    → Timely c p q a n → is_idle a ≡ false → (bus : ℕ)
    → Ends c (tick_of n c.rr) q a (served_of c p (get_of q (under_way a)) a bus)
continued {c} ok {p} {q} {a} {n} t i bus =
    let d = act-advances ok {p = p} t.programmed t.mode q a t.settled i n bus in
    let k = ticked c.rr (need_of c p q a) n (omega (arith, d.left)) t.bounded t.low t.full in
    timely-acts ok a
    (record {
      programmed = t.programmed;
      mode = t.mode;
      settled = t.settled;
      owing = owing-more a _ _ k.1 t.owing;
      bounded = t.bounded;
      low = k.0.low;
      full = λ x. (i, k.0.full x);
    })
    bus

-- A choice is made.

needs-owed : (l : Level) (b : ℕ) → Within l b → needs l ≡ true → 1 ≤ b
needs-owed Clear b w e = absurd (false≢true e)
needs-owed May b w e = absurd (false≢true e)
needs-owed Release b w e = absurd (false≢true e)
needs-owed Need b w e = omega arith
needs-owed Must b w e = absurd (false≢true e)

idle-owed : (l : Level) (b : ℕ) (closed : Bool) → Within l b → idle_refresh l closed ≡ true → 1 ≤ b
idle-owed Clear b closed w e = absurd (false≢true e)
idle-owed May b closed w e = omega arith
idle-owed Release b closed w e = omega arith
idle-owed Need b closed w e = absurd (false≢true e)
idle-owed Must b closed w e = absurd (false≢true e)

module _ {c : Config} (ok : Accepted c) {p : Past} (aged : Aged p) {q : Queue} {m : Counters} (t : Timely c p q Idle m) where
  -- the counters of the slot
  abbrev n : Counters
  n = tick_of m c.rr

  counted : Ticked c.refresh n
  counted = (ticked c.rr c.refresh m (omega (arith, ok.refresh_span_lem, ok.rp_least)) (omega (arith, t.bounded)) t.low (λ x. omega (arith, t.full x))).0

  -- each choice
  refresh-starts : 1 ≤ n.backlog → Starts c p q PrechargeAll n
  refresh-starts owed =
      let b : left_of c p q PrechargeAll + 1 ≤ c.refresh = refresh-bound ok aged q in
      record {
        programmed = t.programmed;
        mode = t.mode;
        settled = t.settled;
        owing = owed;
        bounded = omega (arith, t.bounded);
        low = counted.low;
        full = λ x. (refl, omega (arith, counted.full x));
      }

  idle-starts : n.backlog ≤ 11 → Starts c p q Idle n
  idle-starts h =
      record {
        programmed = t.programmed;
        mode = t.mode;
        settled = t.settled;
        owing = tt;
        bounded = t.bounded;
        low = counted.low;
        full = λ x. absurd (omega arith);
      }

  access-starts : n.backlog ≤ 11 → (kind : Kind) (i : ℕ) → oldest_of kind (held_of q) ≡ Some i → Starts c p q (Access i) n
  access-starts h kind i e =
      let b : left_of c p q (Access i) + 3 ≤ c.access = access-bound ok aged q i in
      record {
        programmed = t.programmed;
        mode = t.mode;
        settled = t.settled;
        owing = tt;
        bounded = omega (arith, ok.long_enough);
        low = counted.low;
        full = λ x. absurd (omega arith);
      }

  choice-starts : (must closed : Bool) → Starts c p q (choice_of must n.backlog q closed).control.action n
  unfolding choice_of rules_of
  choice-starts must closed =
      if_both (λ a. Starts c p q a n) (run_of must (level_of n.backlog))
      (λ e. let h = run_on must n.backlog e in refresh-starts (omega arith))
      (λ e.
      let h = run_off must n.backlog e in
      found_both (λ a. Starts c p q a n) (oldest_of Kind.Read (held_of q)) (access-starts h Kind.Read)
      (if_both (λ a. Starts c p q a n) (needs (level_of n.backlog))
      (λ d. refresh-starts (needs-owed (level_of n.backlog) n.backlog (level_in n.backlog) d))
      (λ d.
      found_both (λ a. Starts c p q a n) (oldest_of Kind.Write (held_of q)) (access-starts h Kind.Write)
      (if_both (λ a. Starts c p q a n) (idle_refresh (level_of n.backlog) closed)
      (λ f. refresh-starts (idle-owed (level_of n.backlog) n.backlog closed (level_in n.backlog) f))
      (λ f. idle-starts h)))))

-- A service slot: the action of the slot, and what it leaves.

as-idle : {c : Config} {p : Past} {q : Queue} {m : Counters} (a : Action) → is_idle a ≡ true → Timely c p q a m → Timely c p q Idle m
as-idle (PowerUp k) e x = absurd (false≢true e)
as-idle InitPrecharge e x = absurd (false≢true e)
as-idle (InitRefresh k) e x = absurd (false≢true e)
as-idle InitMode e x = absurd (false≢true e)
as-idle InitSettle e x = absurd (false≢true e)
as-idle Idle e x = x
as-idle (Access i) e x = absurd (false≢true e)
as-idle (CasLatency i left) e x = absurd (false≢true e)
as-idle Turnaround e x = absurd (false≢true e)
as-idle PrechargeAll e x = absurd (false≢true e)
as-idle Refresh e x = absurd (false≢true e)
as-idle (RefreshCycle left) e x = absurd (false≢true e)

pub timely-slot : {c : Config} → Accepted c → {p : Past} → Aged p → {q : Queue} (x : Control) → {m : Counters}
    → Timely c p q x.action m → (closed : Bool) (bus : ℕ)
    → let t = current_of x (tick_of m c.rr).backlog q closed in
    Ends c (tick_of m c.rr) t.queue t.control.action (served_of c p (get_of t.queue (under_way t.control.action)) t.control.action bus)
unfolding current_of choice_of
timely-slot {c} ok {p} aged {q} x {m} t closed bus =
    if_both
    (λ (y : Choice). Ends c (tick_of m c.rr) y.queue y.control.action (served_of c p (get_of y.queue (under_way y.control.action)) y.control.action bus))
    (is_idle x.action)
    (λ e. timely-acts ok _ (choice-starts ok aged (as-idle x.action e t) x.must closed) bus)
    (λ e. continued ok t e bus)

-- A request arrives between slots.

pub left-arrive : (c : Config) (p : Past) (q : Queue) (a : Action) (r : Request) → q.count < 8 → Queued q a → left_of c p (accept_of q r) a ≡ left_of c p q a
left-arrive c p q (PowerUp k) r h u = refl
left-arrive c p q InitPrecharge r h u = refl
left-arrive c p q (InitRefresh k) r h u = refl
left-arrive c p q InitMode r h u = refl
left-arrive c p q InitSettle r h u = refl
left-arrive c p q Idle r h u = refl
left-arrive c p q (Access i) r h u = rw (get_accept q r i u h)
left-arrive c p q (CasLatency i left) r h u = refl
left-arrive c p q Turnaround r h u = refl
left-arrive c p q PrechargeAll r h u = refl
left-arrive c p q Refresh r h u = refl
left-arrive c p q (RefreshCycle left) r h u = refl

pub timely-arrive : {c : Config} {p : Past} {q : Queue} {a : Action} {n : Counters} (r : Request) → q.count < 8 → Queued q a
    → Timely c p q a n → Timely c p (accept_of q r) a n
timely-arrive {c} {p} {q} {a} {n} r h under t =
    let e : left_of c p (accept_of q r) a ≡ left_of c p q a = left-arrive c p q a r h under in
    record {
      programmed = t.programmed;
      mode = t.mode;
      settled = t.settled;
      owing = t.owing;
      bounded = omega (arith, t.bounded);
      low = t.low;
      full = λ x. omega (arith, t.full x);
    }

-- The first service slot.

pub timely-first : {c : Config} → Accepted c → {p : Past} → (q : Queue) → p.programmed ≡ true → 2 ≤ age_of p mode_register → c.rfc ≤ age_of p refresh_cycle
    → Timely c p q Idle (start_of c.rr)
unfolding start_of
timely-first ok q programmed mode settled =
    record {
      programmed = programmed;
      mode = mode;
      settled = settled;
      owing = tt;
      bounded = omega (arith, ok.long_enough, ok.refresh_span_lem, ok.access_span_lem);
      low = omega arith;
      full = λ x. absurd (omega arith);
    }
