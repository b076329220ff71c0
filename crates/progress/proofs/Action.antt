-- An action under way ends: each slot takes one at least from a bound on the slots that it still takes, for every sound record.
use Prim.Native.Nat.{ℕ, ◌+◌, ◌-◌, ◌≤◌, ◌<◌}
use mathlib.Core.Path.{◌≡◌, refl}
use mathlib.Core.Bool.{Bool, true, false, cond, true≢false, false≢true}
use mathlib.Core.Option.{Option, none, some}
use native.Mathlib.Omega.{arith}
use native.Mathlib.Decide.{ℕ_discrete}
use lib.Dec.{leb, eqb}
use borrow.Author.Tests.{leb-false}
use Rattle.config.specs.declared.Config.{Config}
use Rattle.config.specs.Accepted.{Accepted}
use Rattle.address.specs.declared.Row.{Row}
use Rattle.address.specs.declared.Cell.{Cell}
use Rattle.address.proofs.Laws.{cell_within}
use Rattle.command.specs.declared.Command.TheVariants.{Nop, Act, Pre, Deac}
use Rattle.device.specs.View.{mode_register, refresh_cycle, marks_of, all_closed}
use Rattle.device.proofs.Tests.{if_both}
use Rattle.ages.specs.declared.Past.{Past}
use Rattle.ages.specs.Ages.{age_of, row_at, sent_of}
use Rattle.queue.specs.declared.Kind.{Kind}
use Rattle.queue.specs.declared.Queue.{Queue}
use Rattle.queue.specs.declared.Request.{Request}
use Rattle.queue.specs.Places.{cell_for, get_of}
use Rattle.plan.specs.declared.Action.{Action}
use Rattle.plan.specs.declared.Action.TheVariants.{
  PowerUp,
  InitPrecharge,
  InitRefresh,
  InitMode,
  InitSettle,
  Idle,
  Access,
  CasLatency,
  Turnaround,
  PrechargeAll,
  Refresh,
  RefreshCycle,
}
use Rattle.refresh.specs.Counting.{start_of}
use Rattle.plan.specs.Actions.{is_idle, in_service, under_way}
use Rattle.plan.specs.Plan.{Plan, quietly, tries, rest, transfer_plan, read_plan, write_plan, access_plan, latency_plan, taken_plan, cycle_left, refresh_plan, plan_of, queue_after}
use Rattle.plan.proofs.Sound.{SoundAction}
use Rattle.soundness.proofs.Plans.{Served, performed_of, served_of, sending, performed_both, rest_only}
use Rattle.theorem.proofs.Invariant.{left_of, Settled}
use Rattle.theorem.proofs.Timing.Distances.{refr-falls, refresh-falls, refresh-some}
use Rattle.theorem.proofs.Timing.Actions.{queue_left, act-advances, bank-four}
use Rattle.progress.specs.Progress.{choice_within}
use Rattle.progress.proofs.Distances.{gap, R2Kept, gap_falls, gap_ready, ready_gap, legal_r2, gap_most, refr_most, refresh_most, access_most, access_waits}

-- does the action wait for a command of its own?
abbrev pub sends : Action → Bool
sends (PowerUp n) = false
sends InitPrecharge = true
sends (InitRefresh n) = true
sends InitMode = true
sends InitSettle = false
sends Idle = false
sends (Access i) = true
sends (CasLatency i left) = false
sends Turnaround = false
sends PrechargeAll = true
sends Refresh = true
sends (RefreshCycle left) = false

-- what R2 still asks of its next command, and what is left of it after that
abbrev pub wait_of : Config → Past → Queue → Action → ℕ
wait_of c p q a = cond (sends a) (gap c p) 0 + left_of c p q a

-- a settled action has nothing to wait for by R2
settled_gap : (c : Config) (p : Past) (a : Action) → 2 ≤ age_of p mode_register → Settled c p a → cond (sends a) (gap c p) 0 ≡ 0
settled_gap c p (PowerUp n) m s = refl
settled_gap c p InitPrecharge m s = absurd s
settled_gap c p (InitRefresh n) m s = absurd s
settled_gap c p InitMode m s = absurd s
settled_gap c p InitSettle m s = refl
settled_gap c p Idle m s = refl
settled_gap c p (Access i) m s = ready_gap c p s m
settled_gap c p (CasLatency i left) m s = refl
settled_gap c p Turnaround m s = refl
settled_gap c p PrechargeAll m s = ready_gap c p s m
settled_gap c p Refresh m s = ready_gap c p s.0 m
settled_gap c p (RefreshCycle left) m s = refl

-- a sound action in service is settled once R2 is kept
sound_settled : (c : Config) (p : Past) (count : ℕ) (a : Action) → in_service a ≡ true → c.rfc ≤ age_of p refresh_cycle
    → SoundAction c p.programmed (all_closed (row_at p)) count a → (p.programmed ≡ true) × Settled c p a
sound_settled c p count (PowerUp n) e h s = absurd (false≢true e)
sound_settled c p count InitPrecharge e h s = absurd (false≢true e)
sound_settled c p count (InitRefresh n) e h s = absurd (false≢true e)
sound_settled c p count InitMode e h s = absurd (false≢true e)
sound_settled c p count InitSettle e h s = absurd (false≢true e)
sound_settled c p count Idle e h s = (s, h)
sound_settled c p count (Access i) e h s = (s.0, h)
sound_settled c p count (CasLatency i left) e h s = (s.0, (h, s.2, s.3))
sound_settled c p count Turnaround e h s = (s, h)
sound_settled c p count PrechargeAll e h s = (s, h)
sound_settled c p count Refresh e h s = (s.0, (h, s.1))
sound_settled c p count (RefreshCycle left) e h s = (s.0, (omega arith, s.1, s.2))

module _ {c : Config} (ok : Accepted c) (p : Past) (q : Queue) where
  -- what a slot of an action takes
  pub record Nearer (a : Action) (s : Served) : Type 0 where
    pub by : wait_of c s.past (queue_left q a s) s.outcome.action + 1 ≤ wait_of c p q a

  -- a sound action in service
  pub record Going (a : Action) : Type 0 where
    pub service : in_service a ≡ true
    pub sound : SoundAction c p.programmed (all_closed (row_at p)) q.count a

  -- R2 is kept
  free : (a : Action) → Going a → is_idle a ≡ false → gap c p ≡ 0 → (bus : ℕ) → Nearer a (served_of c p (get_of q (under_way a)) a bus)
  free a g i z bus =
      let r = gap_ready c p z in
      let t = sound_settled c p q.count a g.service r.cycle g.sound in
      let s = served_of c p (get_of q (under_way a)) a bus in
      let d = act-advances ok t.0 r.mode q a t.1 i (start_of 0) bus in
      let x : cond (sends s.outcome.action) (gap c s.past) 0 ≡ 0 = settled_gap c s.past s.outcome.action d.mode d.settled in
      let y : cond (sends a) (gap c p) 0 ≡ 0 = if_both (λ n. n ≡ 0) (sends a) (λ e. z) (λ e. refl) in
      record { by = omega (arith, d.left) }

  -- R2 is not kept yet: a plan with a command of its own is put off, and the others only count
  module _ (h : 1 ≤ gap c p) where
    put_off : (plan : Plan) → (R2Kept c p plan.command → gap c p ≡ 0) → performed_of c p plan ≡ sending p Nop (quietly plan.stays)
    put_off plan f =
        performed_both c p (λ s. s ≡ sending p Nop (quietly plan.stays)) plan
        (λ l. let z = f (legal_r2 c p plan.command l) in absurd (omega (arith, h)))
        (λ l. refl)

    transfer_off : (i : ℕ) (r : Request) (x : Cell) (kind : Kind) → performed_of c p (transfer_plan c i r x kind) ≡ sending p Nop (quietly (Access i))
    unfolding transfer_plan read_plan write_plan tries
    transfer_off i r x Kind.Read = put_off (read_plan c i x) (λ z. z)
    transfer_off i r x Kind.Write = put_off (write_plan i r x) (λ z. z)

    access_off : (i : ℕ) (r : Request) (x : Cell) (y : Option Row) → performed_of c p (access_plan c y i r x) ≡ sending p Nop (quietly (Access i))
    unfolding access_plan tries
    access_off i r x none = put_off (tries (Act x.bank x.row) (Access i) (Access i)) (λ z. z)
    access_off i r x (some y) =
        if_both (λ plan. performed_of c p plan ≡ sending p Nop (quietly (Access i))) (eqb y.0 x.row.0)
        (λ e. transfer_off i r x r.kind)
        (λ e. put_off (tries (Pre x.bank) (Access i) (Access i)) (λ z. z))

    gap_less : gap c (sent_of p Nop) + 1 ≤ gap c p
    unfolding marks_of
    gap_less = let f = gap_falls ok p Nop refl refl in omega (arith, h)

    held : (a : Action) → Going a → is_idle a ≡ false → (bus : ℕ) → Nearer a (served_of c p (get_of q (under_way a)) a bus)
    unfolding served_of plan_of tries quietly queue_after latency_plan taken_plan refresh_plan cycle_left marks_of
    held (PowerUp n) g i bus = absurd (false≢true g.service)
    held InitPrecharge g i bus = absurd (false≢true g.service)
    held (InitRefresh n) g i bus = absurd (false≢true g.service)
    held InitMode g i bus = absurd (false≢true g.service)
    held InitSettle g i bus = absurd (false≢true g.service)
    held Idle g i bus = absurd (true≢false i)
    held (Access at) g i bus =
        let r = get_of q at in
        let x = cell_for c.geometry r in
        let w = access_waits ok p x (bank-four ok (cell_within c.geometry r.address)) r.kind in
        rw (access_off at r x (row_at p x.bank.0)) (record { by = omega (arith, gap_less, w) })
    held (CasLatency at left) g i bus =
        if_both (λ x. Nearer (CasLatency at left) (performed_of c p x)) (leb left 1)
        (λ e.
        performed_both c p (Nearer (CasLatency at left)) (taken_plan (get_of q at) bus)
        (λ l. record { by = omega (arith, g.sound.2) })
        (λ l. record { by = omega (arith, g.sound.2) }))
        (λ e. let z = leb-false left 1 e in rest_only c p (Nearer (CasLatency at left)) (CasLatency at (left - 1)) (record { by = omega arith }))
    held Turnaround g i bus = rest_only c p (Nearer Turnaround) Idle (record { by = omega arith })
    held PrechargeAll g i bus =
        rw (put_off (tries Deac PrechargeAll Refresh) (λ z. z))
        (record { by = omega (arith, gap_less, refresh-falls ok p, refresh-some ok p) })
    held Refresh g i bus =
        rw (put_off (refresh_plan c) (λ z. z))
        (record { by = omega (arith, gap_less, (refr-falls ok p Nop refl (λ b. refl)).by) })
    held (RefreshCycle left) g i bus =
        if_both (λ next. Nearer (RefreshCycle left) (performed_of c p (rest next))) (leb (left - 1) 0)
        (λ e. rest_only c p (Nearer (RefreshCycle left)) Idle (record { by = omega (arith, g.sound.1) }))
        (λ e.
        let z = leb-false (left - 1) 0 e in
        rest_only c p (Nearer (RefreshCycle left)) (RefreshCycle (left - 1)) (record { by = omega arith }))

  pub nearer : (a : Action) → Going a → is_idle a ≡ false → (bus : ℕ) → Nearer a (served_of c p (get_of q (under_way a)) a bus)
  nearer a g i bus = go (ℕ_discrete (gap c p) 0)
    where
      go : Dec (gap c p ≡ 0) → Nearer a (served_of c p (get_of q (under_way a)) a bus)
      go (yes z) = free a g i z bus
      go (no z) = held (omega arith) a g i bus

  -- The bound.
  pub wait_most : (a : Action) → Going a → wait_of c p q a < choice_within c
  unfolding choice_within
  wait_most (PowerUp n) g = absurd (false≢true g.service)
  wait_most InitPrecharge g = absurd (false≢true g.service)
  wait_most (InitRefresh n) g = absurd (false≢true g.service)
  wait_most InitMode g = absurd (false≢true g.service)
  wait_most InitSettle g = absurd (false≢true g.service)
  wait_most Idle g = omega (arith, ok.access_span_lem)
  wait_most (Access i) g = omega (arith, gap_most ok p, access_most ok p (get_of q i).kind (cell_for c.geometry (get_of q i)))
  wait_most (CasLatency i left) g = omega (arith, g.sound.3, ok.access_span_lem)
  wait_most Turnaround g = omega (arith, ok.access_span_lem)
  wait_most PrechargeAll g = omega (arith, gap_most ok p, refresh_most ok p, ok.refresh_span_lem)
  wait_most Refresh g = omega (arith, gap_most ok p, refr_most ok p, ok.refresh_span_lem)
  wait_most (RefreshCycle left) g = omega (arith, g.sound.2, ok.refresh_span_lem)
