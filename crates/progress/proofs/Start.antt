-- The initialisation ends: each slot takes one at least from a bound on the slots that it still takes, for every sound record.
use Prim.Native.Nat.{ℕ, ◌+◌, ◌-◌, ◌*◌, ◌≤◌, max}
use mathlib.Core.Path.{◌≡◌, refl, sym}
use mathlib.Core.Bool.{true, false, true≢false}
use native.Mathlib.Omega.{arith}
use native.Mathlib.Nat.{mul-le-mul_right}
use lib.Dec.{leb}
use borrow.Author.Tests.{leb-true, leb-false}
use Rattle.config.specs.declared.Config.{Config}
use Rattle.config.specs.Accepted.{Accepted}
use Rattle.command.specs.declared.Command.TheVariants.{Nop, Deac, Refr, Mrs}
use Rattle.device.specs.View.{refresh_cycle, mode_register, any_precharge, marks_of, all_closed}
use Rattle.device.proofs.Tests.{if_both}
use Rattle.ages.specs.declared.Past.{Past}
use Rattle.ages.specs.Ages.{row_at, sent_of}
use Rattle.queue.specs.declared.Request.{Request}
use Rattle.plan.specs.declared.Action.{Action}
use Rattle.plan.specs.declared.Action.TheVariants.{
  PowerUp,
  InitPrecharge,
  InitRefresh,
  InitMode,
  InitSettle,
  Idle,
  Access,
  CasLatency,
  Turnaround,
  PrechargeAll,
  Refresh,
  RefreshCycle,
}
use Rattle.plan.specs.Actions.{in_service}
use Rattle.plan.specs.Plan.{quietly, tries, rest, after_pause, after_init_refresh, mode_word, plan_of}
use Rattle.plan.proofs.Sound.{SoundAction}
use Rattle.soundness.proofs.Plans.{Served, performed_of, served_of, performed_both, rest_only}
use Rattle.model.specs.Condition.{first_service}
use Rattle.theorem.proofs.Invariant.{short, all_held, refr_held, refresh_held}
use Rattle.theorem.proofs.Timing.Distances.{short-falls, short-new, refr-falls, refresh-falls, refresh-some, deac-falls, deac-ready, refr-ready, mrs-ready}
use Rattle.theorem.proofs.Timing.Actions.{waits}
use Rattle.theorem.proofs.Start.{one_less}
use Rattle.progress.specs.Progress.{start_within}
use Rattle.progress.proofs.Distances.{gap, gap_falls, gap_ready, legal_r2, gap_most, short_most, refr_most, refresh_most}

-- a bound on the slots before the first service slot
abbrev pub start_left : Config → Past → Action → ℕ
start_left c p (PowerUp n) = max (n + c.rp) (gap c p + refresh_held c p) + 8 * c.rfc + 2
start_left c p InitPrecharge = gap c p + refresh_held c p + 8 * c.rfc + 2
start_left c p (InitRefresh n) = gap c p + refr_held c p + n * c.rfc + 2
start_left c p InitMode = gap c p + short c p any_precharge + 2
start_left c p InitSettle = 1
start_left c p Idle = 0
start_left c p (Access i) = 0
start_left c p (CasLatency i left) = 0
start_left c p Turnaround = 0
start_left c p PrechargeAll = 0
start_left c p Refresh = 0
start_left c p (RefreshCycle left) = 0

pub left_none : (c : Config) (p : Past) (a : Action) → start_left c p a ≤ 0 → in_service a ≡ true
left_none c p (PowerUp n) h = absurd (omega arith)
left_none c p InitPrecharge h = absurd (omega arith)
left_none c p (InitRefresh n) h = absurd (omega arith)
left_none c p InitMode h = absurd (omega arith)
left_none c p InitSettle h = absurd (omega arith)
left_none c p Idle h = refl
left_none c p (Access i) h = refl
left_none c p (CasLatency i left) h = refl
left_none c p Turnaround h = refl
left_none c p PrechargeAll h = refl
left_none c p Refresh h = refl
left_none c p (RefreshCycle left) h = refl

pub none_left : (c : Config) (p : Past) (a : Action) → in_service a ≡ true → start_left c p a ≡ 0
none_left c p (PowerUp n) e = absurd (true≢false (sym e))
none_left c p InitPrecharge e = absurd (true≢false (sym e))
none_left c p (InitRefresh n) e = absurd (true≢false (sym e))
none_left c p InitMode e = absurd (true≢false (sym e))
none_left c p InitSettle e = absurd (true≢false (sym e))
none_left c p Idle e = refl
none_left c p (Access i) e = refl
none_left c p (CasLatency i left) e = refl
none_left c p Turnaround e = refl
none_left c p PrechargeAll e = refl
none_left c p Refresh e = refl
none_left c p (RefreshCycle left) e = refl

-- R15's wait is part of a REFR's
closed_first : (c : Config) (p : Past) → short c p any_precharge ≤ refr_held c p
unfolding refr_held
closed_first c p = omega arith

module _ {c : Config} (ok : Accepted c) (p : Past) where
  -- what a slot takes
  pub record Sooner (a : Action) (s : Served) : Type 0 where
    pub by : start_left c s.past s.outcome.action + 1 ≤ start_left c p a

  abbrev Sound : Action → Type 0
  Sound a = SoundAction c p.programmed (all_closed (row_at p)) 0 a

  -- through a NOP, a DEAC and a REFR
  pub gap_nop : gap c (sent_of p Nop) ≤ gap c p - 1
  unfolding marks_of
  gap_nop = (gap_falls ok p Nop refl refl).by

  close_nop : short c (sent_of p Nop) any_precharge ≤ short c p any_precharge - 1
  unfolding marks_of
  close_nop = (short-falls ok p Nop any_precharge tt refl).by

  pub refr_nop : refr_held c (sent_of p Nop) ≤ refr_held c p - 1
  unfolding marks_of
  refr_nop = (refr-falls ok p Nop refl (λ b. refl)).by

  pub gap_deac : gap c (sent_of p Deac) ≤ gap c p - 1
  unfolding marks_of
  gap_deac = (gap_falls ok p Deac refl refl).by

  pub gap_refr : gap c p ≡ 0 → gap c (sent_of p Refr) ≤ c.rfc - 1
  unfolding gap marks_of
  gap_refr z =
      let x : short c (sent_of p Refr) refresh_cycle ≡ c.rfc - 1 = short-new c p Refr refresh_cycle tt refl in
      let y = short-falls ok p Refr mode_register tt refl in
      omega arith

  refr_refr : refr_held c (sent_of p Refr) ≤ refr_held c p - 1
  unfolding marks_of
  refr_refr = (refr-falls ok p Refr refl (λ b. refl)).by

  pause : (n : ℕ) → 1 ≤ n → Sooner (PowerUp n) (performed_of c p (rest (after_pause n)))
  unfolding after_pause quietly
  pause n h =
      if_both (λ a. Sooner (PowerUp n) (performed_of c p (rest a))) (leb n 1)
      (λ e.
      let x = leb-true n 1 e in
      rest_only c p (Sooner (PowerUp n)) InitPrecharge (record { by = omega (arith, gap_nop, refresh-falls ok p, refresh-some ok p) }))
      (λ e.
      let x = leb-false n 1 e in
      rest_only c p (Sooner (PowerUp n)) (PowerUp (n - 1)) (record { by = omega (arith, gap_nop, refresh-falls ok p, refresh-some ok p) }))

  precharge : Sooner InitPrecharge (performed_of c p (tries Deac InitPrecharge (InitRefresh 8)))
  unfolding tries quietly
  precharge =
      performed_both c p (Sooner InitPrecharge) (tries Deac InitPrecharge (InitRefresh 8))
      (λ e.
      let z : gap c p ≡ 0 = legal_r2 c p Deac e in
      record { by = omega (arith, gap_deac, deac-falls ok p) })
      (λ e.
      let w : 1 ≤ gap c p + all_held c p = waits (gap c p + all_held c p) (λ z. deac-ready c p (gap_ready c p (omega arith)) (omega arith)) e in
      record { by = omega (arith, gap_nop, refresh-falls ok p, refresh-some ok p) })

  refreshes : (n : ℕ) → Sound (InitRefresh n) → Sooner (InitRefresh n) (performed_of c p (tries Refr (InitRefresh n) (after_init_refresh n)))
  unfolding tries quietly after_init_refresh
  refreshes n s =
      let each = one_less n c.rfc s.1 in
      performed_both c p (Sooner (InitRefresh n)) (tries Refr (InitRefresh n) (after_init_refresh n))
      (λ e.
      let g = gap_refr (legal_r2 c p Refr e) in
      if_both (λ a. Sooner (InitRefresh n) (sent_as a)) (leb n 1)
      (λ l. record { by = omega (arith, refr_refr, closed_first c (sent_of p Refr), each, ok.rfc_least) })
      (λ l. record { by = omega (arith, refr_refr, each, ok.rfc_least) }))
      (λ e.
      let w : 1 ≤ gap c p + refr_held c p = waits (gap c p + refr_held c p) (λ z. refr-ready c p (gap_ready c p (omega arith)) s.0 (omega arith)) e in
      record { by = omega (arith, gap_nop, refr_nop) })
    where
      sent_as : Action → Served
      sent_as a = record { past = sent_of p Refr; command = Refr; outcome = quietly a }

  mode : Sound InitMode → Sooner InitMode (performed_of c p (tries (Mrs (mode_word c)) InitMode InitSettle))
  unfolding tries quietly
  mode s =
      performed_both c p (Sooner InitMode) (tries (Mrs (mode_word c)) InitMode InitSettle)
      (λ e. record { by = omega arith })
      (λ e.
      let w : 1 ≤ gap c p + short c p any_precharge
      = waits (gap c p + short c p any_precharge) (λ z. mrs-ready c p (gap_ready c p (omega arith)) s (omega arith)) e in
      record { by = omega (arith, gap_nop, close_nop) })

  -- a slot of the initialisation
  pub sooner : (a : Action) → in_service a ≡ false → (count : ℕ) → SoundAction c p.programmed (all_closed (row_at p)) count a → (r : Request) (bus : ℕ)
      → Sooner a (served_of c p r a bus)
  unfolding served_of plan_of quietly
  sooner (PowerUp n) e count s r bus = pause n s.0
  sooner InitPrecharge e count s r bus = precharge
  sooner (InitRefresh n) e count s r bus = refreshes n s
  sooner InitMode e count s r bus = mode s
  sooner InitSettle e count s r bus = rest_only c p (Sooner InitSettle) Idle (record { by = omega arith })
  sooner Idle e count s r bus = absurd (true≢false e)
  sooner (Access i) e count s r bus = absurd (true≢false e)
  sooner (CasLatency i left) e count s r bus = absurd (true≢false e)
  sooner Turnaround e count s r bus = absurd (true≢false e)
  sooner PrechargeAll e count s r bus = absurd (true≢false e)
  sooner Refresh e count s r bus = absurd (true≢false e)
  sooner (RefreshCycle left) e count s r bus = absurd (true≢false e)

  -- The bound.
  pub start_most : (a : Action) (count : ℕ) → SoundAction c p.programmed (all_closed (row_at p)) count a → start_left c p a ≤ start_within c
  unfolding start_within first_service
  start_most (PowerUp n) count s = omega (arith, s.1, gap_most ok p, refresh_most ok p, ok.long_enough, ok.refresh_span_lem)
  start_most InitPrecharge count s = omega (arith, gap_most ok p, refresh_most ok p, ok.long_enough, ok.refresh_span_lem)
  start_most (InitRefresh n) count s =
      omega (arith, mul-le-mul_right c.rfc s.2, gap_most ok p, refr_most ok p, ok.long_enough, ok.access_span_lem)
  start_most InitMode count s = omega (arith, gap_most ok p, short_most ok p any_precharge, ok.long_enough)
  start_most InitSettle count s = omega arith
  start_most Idle count s = omega arith
  start_most (Access i) count s = omega arith
  start_most (CasLatency i left) count s = omega arith
  start_most Turnaround count s = omega arith
  start_most PrechargeAll count s = omega arith
  start_most Refresh count s = omega arith
  start_most (RefreshCycle left) count s = omega arith
