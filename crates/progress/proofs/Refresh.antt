-- With nothing queued a backlog is worked off: each slot takes one at least from a bound on the slots that the owed refreshes still take, and an interval
-- that expires adds F. Over four intervals the bound wins, since RR is at least A + 6F.
use Prim.Native.Nat.{ℕ, suc, ◌+◌, ◌-◌, ◌*◌, ◌≤◌, max}
use mathlib.Core.Path.{◌≡◌, refl, sym, ap, ◌∙◌}
use mathlib.Core.Bool.{Bool, true, false, cond, true≢false, false≢true}
use native.Mathlib.Omega.{arith}
use native.Mathlib.Nat.{suc-mul}
use native.Mathlib.Decide.{ℕ_discrete}
use lib.Dec.{leb}
use borrow.Author.Tests.{leb-false}
use Rattle.config.specs.declared.Config.{Config}
use Rattle.config.specs.Accepted.{Accepted}
use Rattle.command.specs.declared.Command.TheVariants.{Nop, Deac, Refr}
use Rattle.device.specs.View.{all_closed}
use Rattle.device.proofs.Tests.{if_both}
use Rattle.ages.specs.declared.Past.{Past}
use Rattle.ages.specs.Ages.{row_at, sent_of}
use Rattle.queue.specs.declared.Queue.{Queue}
use Rattle.queue.specs.declared.Request.{Request}
use Rattle.queue.specs.Places.{remove_of}
use Rattle.queue.specs.Oldest.{oldest_of}
use Rattle.refresh.specs.declared.Counters.{Counters}
use Rattle.refresh.specs.declared.Level.{Level}
use Rattle.refresh.specs.declared.Level.TheVariants.{Clear, May, Release, Need, Must}
use Rattle.refresh.specs.Counting.{refreshed_of}
use Rattle.refresh.specs.Urgency.{level_of, run_of}
use Rattle.refresh.proofs.Counts.{refreshed_falls, refreshed_none}
use Rattle.refresh.proofs.Levels.{Within, level_in}
use Rattle.plan.specs.declared.Action.{Action}
use Rattle.plan.specs.declared.Action.TheVariants.{
  PowerUp,
  InitPrecharge,
  InitRefresh,
  InitMode,
  InitSettle,
  Idle,
  Access,
  CasLatency,
  Turnaround,
  PrechargeAll,
  Refresh,
  RefreshCycle,
}
use Rattle.plan.specs.declared.Report.{Report}
use Rattle.plan.specs.Actions.{is_idle, in_service}
use Rattle.plan.specs.Plan.{quietly, tries, rest, cycle_left, refresh_plan, plan_of, queue_after, counters_after}
use Rattle.plan.specs.Choice.{needs, idle_refresh, rules_of, choice_of}
use Rattle.plan.proofs.Sound.{SoundAction}
use Rattle.soundness.proofs.Past.{nop_closed, refr_closed, deac_closed}
use Rattle.soundness.proofs.Plans.{Served, performed_of, served_of, sending, performed_both, rest_only}
use Rattle.theorem.proofs.Invariant.{all_held, refr_held, refresh_held}
use Rattle.theorem.proofs.Timing.Distances.{refresh-falls, refresh-some, deac-falls, deac-ready, refr-ready}
use Rattle.theorem.proofs.Timing.Actions.{waits}
use Rattle.progress.specs.Progress.{refresh_chosen}
use Rattle.progress.proofs.Distances.{gap, gap_ready, legal_r2, refresh_most}
use Rattle.progress.proofs.Start.{gap_nop, refr_nop, gap_deac, gap_refr}

-- a bound on the slots until b refreshes that are owed have been made, each of F slots at most
abbrev pub owed_left : Config → Past → Action → ℕ → ℕ
owed_left c p (PowerUp n) b = 0
owed_left c p InitPrecharge b = 0
owed_left c p (InitRefresh n) b = 0
owed_left c p InitMode b = 0
owed_left c p InitSettle b = 0
owed_left c p Idle b = gap c p + b * c.refresh
owed_left c p (Access i) b = 0
owed_left c p (CasLatency i left) b = 0
owed_left c p Turnaround b = max 1 (gap c p) + b * c.refresh
owed_left c p PrechargeAll b = gap c p + refresh_held c p + c.rfc + (b - 1) * c.refresh
owed_left c p Refresh b = gap c p + refr_held c p + c.rfc + (b - 1) * c.refresh
owed_left c p (RefreshCycle left) b = max left (gap c p) + b * c.refresh

-- the backlog is refreshed with nothing queued
pub data Due (p : Past) (a : Action) (b : ℕ) : Type 0 where
  enough : 4 ≤ b → Due p a b
  every_bank_closed : all_closed (row_at p) ≡ true → Due p a b
  under : refresh_chosen a ≡ true → Due p a b

refreshed_backlog : (n : Counters) → (refreshed_of n).backlog ≡ n.backlog - 1
refreshed_backlog n = go (ℕ_discrete n.backlog 0)
  where
    go : Dec (n.backlog ≡ 0) → (refreshed_of n).backlog ≡ n.backlog - 1
    go (yes e) = rw (refreshed_none n e) (omega arith)
    go (no e) = rw (refreshed_falls n (omega arith))

module _ {c : Config} (ok : Accepted c) (p : Past) (n : Counters) where
  -- what a slot takes of the bound, with the counters n of the slot
  pub record Works (a : Action) (s : Served) : Type 0 where
    pub by : owed_left c s.past s.outcome.action (counters_after n s.outcome.refreshes).backlog + 1 ≤ owed_left c p a n.backlog
    pub due : Due p a n.backlog → Due s.past s.outcome.action (counters_after n s.outcome.refreshes).backlog

  -- a NOP that goes on to an action without a command of its own
  nop_due : {a next : Action} → refresh_chosen a ≡ false → Due p a n.backlog → Due (sent_of p Nop) next n.backlog
  nop_due e (enough h) = enough h
  nop_due e (every_bank_closed h) = every_bank_closed (nop_closed p ∙ h)
  nop_due e (under h) = absurd (true≢false (sym h ∙ e))

  turnaround : Works Turnaround (performed_of c p (rest Idle))
  unfolding quietly counters_after
  turnaround = rest_only c p (Works Turnaround) Idle (record { by = omega (arith, gap_nop ok p); due = nop_due refl })

  cycle : (left : ℕ) → 1 ≤ left → Works (RefreshCycle left) (performed_of c p (rest (cycle_left (left - 1))))
  unfolding quietly counters_after cycle_left
  cycle left h =
      if_both (λ next. Works (RefreshCycle left) (performed_of c p (rest next))) (leb (left - 1) 0)
      (λ e. rest_only c p (Works (RefreshCycle left)) Idle (record { by = omega (arith, gap_nop ok p); due = nop_due refl }))
      (λ e.
      let z = leb-false (left - 1) 0 e in
      rest_only c p (Works (RefreshCycle left)) (RefreshCycle (left - 1)) (record { by = omega (arith, gap_nop ok p); due = nop_due refl }))

  precharge : Works PrechargeAll (performed_of c p (tries Deac PrechargeAll Refresh))
  unfolding tries quietly counters_after
  precharge =
      performed_both c p (Works PrechargeAll) (tries Deac PrechargeAll Refresh)
      (λ e.
      let z : gap c p ≡ 0 = legal_r2 c p Deac e in
      record { by = omega (arith, gap_deac ok p, deac-falls ok p); due = λ d. every_bank_closed (deac_closed p) })
      (λ e.
      let w : 1 ≤ gap c p + all_held c p = waits (gap c p + all_held c p) (λ z. deac-ready c p (gap_ready c p (omega arith)) (omega arith)) e in
      record { by = omega (arith, gap_nop ok p, refresh-falls ok p, refresh-some ok p); due = λ d. under refl })

  refresh : all_closed (row_at p) ≡ true → Works Refresh (performed_of c p (refresh_plan c))
  unfolding refresh_plan quietly counters_after cycle_left
  refresh h =
      performed_both c p (Works Refresh) (refresh_plan c)
      (λ e.
      let g = gap_refr ok p (legal_r2 c p Refr e) in
      let b : (refreshed_of n).backlog * c.refresh ≡ (n.backlog - 1) * c.refresh = ap (λ x. x * c.refresh) (refreshed_backlog n) in
      if_both (λ a. Works Refresh (sent_as a)) (leb (c.rfc - 1) 0)
      (λ l. record { by = omega (arith, ok.rfc_least); due = λ d. every_bank_closed (refr_closed p ∙ h) })
      (λ l. record { by = omega (arith, ok.rfc_least); due = λ d. every_bank_closed (refr_closed p ∙ h) }))
      (λ e.
      let w : 1 ≤ gap c p + refr_held c p = waits (gap c p + refr_held c p) (λ z. refr-ready c p (gap_ready c p (omega arith)) h (omega arith)) e in
      record { by = omega (arith, gap_nop ok p, refr_nop ok p); due = λ d. every_bank_closed (nop_closed p ∙ h) })
    where
      sent_as : Action → Served
      sent_as a = sending p Refr (record { action = a; report = Report.Nothing; leaves = false; refreshes = true })

  -- an action under way with nothing queued
  pub works : (a : Action) → in_service a ≡ true → is_idle a ≡ false → SoundAction c p.programmed (all_closed (row_at p)) 0 a → (r : Request) (bus : ℕ)
      → Works a (served_of c p r a bus)
  unfolding served_of plan_of
  works (PowerUp k) e i s r bus = absurd (false≢true e)
  works InitPrecharge e i s r bus = absurd (false≢true e)
  works (InitRefresh k) e i s r bus = absurd (false≢true e)
  works InitMode e i s r bus = absurd (false≢true e)
  works InitSettle e i s r bus = absurd (false≢true e)
  works Idle e i s r bus = absurd (true≢false i)
  works (Access k) e i s r bus = absurd (omega (arith, s.1))
  works (CasLatency k left) e i s r bus = absurd (omega (arith, s.1))
  works Turnaround e i s r bus = turnaround
  works PrechargeAll e i s r bus = precharge
  works Refresh e i s r bus = refresh s.1
  works (RefreshCycle left) e i s r bus = cycle left s.1

  -- a choice
  pub choice_works : 1 ≤ n.backlog → owed_left c p PrechargeAll n.backlog ≤ owed_left c p Idle n.backlog
  choice_works h =
      let e : n.backlog ≡ suc (n.backlog - 1) = omega arith in
      let f : n.backlog * c.refresh ≡ (n.backlog - 1) * c.refresh + c.refresh = ap (λ x. x * c.refresh) e ∙ suc-mul (n.backlog - 1) c.refresh in
      omega (arith, refresh_most ok p, ok.refresh_span_lem)

-- The choice with nothing queued.

by_level : (must closed : Bool) (l : Level) (b : ℕ) → Within l b → 1 ≤ b → ((b ≤ 3) → closed ≡ true)
    → cond (run_of must l) PrechargeAll (cond (needs l) PrechargeAll (cond (idle_refresh l closed) PrechargeAll Idle)) ≡ PrechargeAll
by_level must closed Clear b w h f = absurd (omega arith)
by_level must closed May b w h f = rw (f w.1)
by_level must closed Release b w h f = refl
by_level must closed Need b w h f = if_both (λ a. a ≡ PrechargeAll) must (λ e. refl) (λ e. refl)
by_level must closed Must b w h f = refl

pub chooses_refresh : (must closed : Bool) (b : ℕ) (q : Queue) → q.count ≡ 0 → 1 ≤ b → (b ≤ 3 → closed ≡ true)
    → (choice_of must b q closed).control.action ≡ PrechargeAll
unfolding choice_of rules_of oldest_of
chooses_refresh must closed b q e h f = rw e (by_level must closed (level_of b) b (level_in b) h f)

-- nothing leaves an empty queue
pub empty_stays : (q : Queue) (at : ℕ) (leaves : Bool) → q.count ≡ 0 → (queue_after q at leaves).count ≡ 0
unfolding queue_after remove_of
empty_stays q at leaves e =
    if_both (λ (x : Queue). x.count ≡ 0) leaves
    (λ l. omega arith)
    (λ l. e)
