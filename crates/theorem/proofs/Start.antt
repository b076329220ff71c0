-- The initialisation to the slot: each stage fixes the number of the slot that it waits for, so service begins in the slot that document 01 fixes.
use Prim.Native.Nat.{ℕ, suc, ◌+◌, ◌-◌, ◌*◌, ◌≤◌, ◌<◌, min}
use native.Mathlib.Omega.{arith}
use mathlib.Core.Path.{◌≡◌, refl, sym, ap, ◌∙◌}
use mathlib.Core.Logic.{◌⊎◌, inl, inr, ⊎_elim}
use mathlib.Core.Bool.{true, false, ◌&&◌, true≢false, false≢true}
use lib.Dec.{leb, eqb}
use borrow.Author.Tests.{leb-true, leb-false, le-leb}
use Rattle.config.specs.declared.Config.{Config}
use Rattle.config.specs.Accepted.{Accepted}
use Rattle.command.specs.declared.Command.{Command}
use Rattle.command.specs.declared.Command.TheVariants.{Nop, Deac, Refr, Mrs}
use Rattle.device.specs.View.{refresh_cycle, mode_register, any_precharge, row_cycle, starts, all_closed, marks_of, row_of}
use Rattle.device.specs.Rules.{all_hold, R12-open, R13-open, R16, requirements, legal_of}
use Rattle.device.specs.Shared.{precharged_of}
use Rattle.device.proofs.Tests.{by_test, if_both, both}
use Rattle.device.proofs.Parts.{refr_parts, mrs_parts}
use Rattle.ages.specs.declared.Past.{Past}
use Rattle.ages.specs.Ages.{cap, fresh_of, age_of, open_in, row_in, open_rows, row_at, by_ages, aged_of, ages_after, sent_of}
use Rattle.ages.proofs.Slot.{sent_age}
use Rattle.queue.specs.declared.Request.{Request}
use Rattle.plan.specs.declared.Action.{Action}
use Rattle.plan.specs.declared.Action.TheVariants.{
  PowerUp,
  InitPrecharge,
  InitRefresh,
  InitMode,
  InitSettle,
  Idle,
  Access,
  CasLatency,
  Turnaround,
  PrechargeAll,
  Refresh,
  RefreshCycle,
}
use Rattle.plan.specs.Actions.{is_idle, in_service, first_action}
use Rattle.plan.specs.Plan.{quietly, tries, rest, after_pause, after_init_refresh, mode_word, plan_of}
use Rattle.soundness.proofs.Past.{nop_closed, refr_closed, deac_closed}
use Rattle.soundness.proofs.Plans.{Served, performed_of, served_of, performed_both, rest_only}
use Rattle.model.specs.Condition.{first_service}
use Rattle.theorem.proofs.Timing.Actions.{older-sent}
use Rattle.theorem.proofs.Invariant.{short, row_cycle_held, refr_held}
use Rattle.theorem.proofs.Timing.Distances.{Ready, row-cycle-falls, refr-ready, mrs-ready}

-- the slot of the MRS
abbrev mode_slot : Config → ℕ
mode_slot c = 8 * c.rr + 1 + c.rp + 8 * c.rfc

-- banks closed; the DEAC and the REFRs behind; no ACT has been sent, so R16 keeps no REFR back
pub record Closed (c : Config) (p : Past) : Type 0 where
  pub closed : all_closed (row_at p) ≡ true
  pub unset : 2 ≤ age_of p mode_register
  pub row_cycled : row_cycle_held c p ≡ 0

-- n REFRs are left, and the next is sent as soon as tRP after the DEAC and tRFC after the one before are kept
pub record Refreshing (c : Config) (p : Past) (now n : ℕ) : Type 0 where
  pub closed : Closed c p
  pub least : 1 ≤ n
  pub most : n ≤ 8
  pub one : (c.rfc ≤ age_of p refresh_cycle) ⊎ (c.rp ≤ age_of p any_precharge)
  pub next : now + ((c.rp - age_of p any_precharge) + (c.rfc - age_of p refresh_cycle)) + n * c.rfc ≡ mode_slot c

pub record ModeDue (c : Config) (p : Past) (now : ℕ) : Type 0 where
  pub closed : Closed c p
  pub kept : c.rp ≤ age_of p any_precharge
  pub next : now + (c.rfc - age_of p refresh_cycle) ≡ mode_slot c

-- the mode is set, so many slots ago
pub record Set (c : Config) (p : Past) (ago now : ℕ) : Type 0 where
  pub programmed : p.programmed ≡ true
  pub mode : ago ≤ age_of p mode_register
  pub settled : c.rfc ≤ age_of p refresh_cycle
  pub next : now ≡ mode_slot c + ago

abbrev pub Starting : Config → Past → ℕ → Action → Type 0
Starting c p now (PowerUp n) = (now + n ≡ 8 * c.rr + 1) × (1 ≤ n) × (n ≤ 8 * c.rr) × (p ≡ fresh_of)
Starting c p now InitPrecharge = (now ≡ 8 * c.rr + 1) × (p ≡ fresh_of)
Starting c p now (InitRefresh n) = Refreshing c p now n
Starting c p now InitMode = ModeDue c p now
Starting c p now InitSettle = Set c p 1 now
Starting c p now Idle = Set c p 2 now
Starting c p now (Access i) = ⊥
Starting c p now (CasLatency i left) = ⊥
Starting c p now Turnaround = ⊥
Starting c p now PrechargeAll = ⊥
Starting c p now Refresh = ⊥
Starting c p now (RefreshCycle left) = ⊥

-- Slots.

fresh_nop : sent_of fresh_of Nop ≡ fresh_of
unfolding sent_of ages_after fresh_of aged_of marks_of row_of
fresh_nop = refl

fresh_deac : (c : Config) → c.rfc ≤ cap → legal_of c (by_ages c fresh_of) Deac ≡ true
unfolding legal_of requirements R12-open R13-open fresh_of open_rows row_in open_in
fresh_deac c h = simp (le-leb c.rfc cap h)

fresh_row_cycled : (c : Config) → c.rc ≤ cap → row_cycle_held c fresh_of ≡ 0
unfolding row_cycle_held short fresh_of
fresh_row_cycled c h = omega arith

module _ (p : Past) where
  -- the ages after a NOP, a REFR and an MRS
  nop_ages : (age_of (sent_of p Nop) refresh_cycle ≡ min cap (suc (age_of p refresh_cycle)))
      × (age_of (sent_of p Nop) any_precharge ≡ min cap (suc (age_of p any_precharge)))
      × (age_of (sent_of p Nop) mode_register ≡ min cap (suc (age_of p mode_register)))
  unfolding marks_of
  nop_ages = (older-sent p Nop refresh_cycle tt refl, older-sent p Nop any_precharge tt refl, older-sent p Nop mode_register tt refl)

  nop_programmed : (sent_of p Nop).programmed ≡ p.programmed
  unfolding sent_of marks_of
  nop_programmed = refl

  refr_ages : (age_of (sent_of p Refr) refresh_cycle ≡ 1)
      × (age_of (sent_of p Refr) any_precharge ≡ min cap (suc (age_of p any_precharge)))
      × (age_of (sent_of p Refr) mode_register ≡ min cap (suc (age_of p mode_register)))
  unfolding marks_of
  refr_ages = (sent_age p Refr refresh_cycle tt, older-sent p Refr any_precharge tt refl, older-sent p Refr mode_register tt refl)

  mrs_ages : (w : ℕ) → (age_of (sent_of p (Mrs w)) refresh_cycle ≡ min cap (suc (age_of p refresh_cycle)))
      × (age_of (sent_of p (Mrs w)) mode_register ≡ 1)
      × ((sent_of p (Mrs w)).programmed ≡ true)
  unfolding sent_of marks_of
  mrs_ages w = (older-sent p (Mrs w) refresh_cycle tt refl, sent_age p (Mrs w) mode_register tt, refl)

-- REFR and MRS are legal exactly when both distances are kept
module _ (c : Config) (p : Past) (q : Closed c p) where
  ready : c.rfc ≤ age_of p refresh_cycle → Ready c p
  ready a = record { cycle = a; mode = q.unset }

  refr_legal : c.rfc ≤ age_of p refresh_cycle → c.rp ≤ age_of p any_precharge → legal_of c (by_ages c p) Refr ≡ true
  unfolding short refr_held
  refr_legal a b = refr-ready c p (ready a) q.closed (omega (arith, q.row_cycled))

  mrs_legal : c.rfc ≤ age_of p refresh_cycle → c.rp ≤ age_of p any_precharge → legal_of c (by_ages c p) (Mrs (mode_word c)) ≡ true
  unfolding short
  mrs_legal a b = mrs-ready c p (ready a) q.closed (omega arith)

  precharged_kept : precharged_of (by_ages c p) ≡ true → (c.rfc ≤ age_of p refresh_cycle) × (c.rp ≤ age_of p any_precharge)
  unfolding precharged_of
  precharged_kept h =
      let closing = all_closed (row_at p) && leb c.rp (age_of p any_precharge) in
      let x = both (leb c.rfc (age_of p refresh_cycle)) (leb 2 (age_of p mode_register) && closing) h in
      let y = both (leb 2 (age_of p mode_register)) closing x.1 in
      (leb-true _ _ x.0, leb-true _ _ (both (all_closed (row_at p)) (leb c.rp (age_of p any_precharge)) y.1).1)

  refr_kept : legal_of c (by_ages c p) Refr ≡ true → (c.rfc ≤ age_of p refresh_cycle) × (c.rp ≤ age_of p any_precharge)
  refr_kept h = precharged_kept (both (precharged_of (by_ages c p)) (all_hold (R16 (by_ages c p))) (sym (refr_parts c (by_ages c p)) ∙ h)).0

  mrs_kept : legal_of c (by_ages c p) (Mrs (mode_word c)) ≡ true → c.rfc ≤ age_of p refresh_cycle
  mrs_kept h = (precharged_kept (both (eqb (mode_word c) (16 * c.latency)) (precharged_of (by_ages c p)) (sym (mrs_parts c (by_ages c p) (mode_word c)) ∙ h)).1).0

module _ {c : Config} (ok : Accepted c) (p : Past) (q : Closed c p) where
  still_row_cycled : (k : Command) → ((b : ℕ) → starts (row_cycle b) k ≡ false) → row_cycle_held c (sent_of p k) ≡ 0
  still_row_cycled k f = omega (arith, (row-cycle-falls ok p k f).by, q.row_cycled)

  quiet_nop : Closed c (sent_of p Nop)
  unfolding marks_of
  quiet_nop = let e = (nop_ages p).2 in record { closed = nop_closed p ∙ q.closed; unset = omega (arith, q.unset); row_cycled = still_row_cycled Nop (λ b. refl) }

  quiet_refr : Closed c (sent_of p Refr)
  unfolding marks_of
  quiet_refr = let e = (refr_ages p).2 in record { closed = refr_closed p ∙ q.closed; unset = omega (arith, q.unset); row_cycled = still_row_cycled Refr (λ b. refl) }

-- n REFRs of tRFC each
pub one_less : (n f : ℕ) → 1 ≤ n → n * f ≡ (n - 1) * f + f
one_less n f h = let e : n ≡ (n - 1) + 1 = omega arith in ap (λ x. x * f) e ∙ omega arith

-- The stages, one slot on.
module _ (c : Config) (a : Accepted c) where
  -- what a slot leaves
  abbrev Next : ℕ → Served → Type 0
  Next now s = Starting c s.past (suc now) s.outcome.action

  pausing : (now n : ℕ) → now + n ≡ 8 * c.rr + 1 → 1 ≤ n → n ≤ 8 * c.rr → Starting c fresh_of (suc now) (after_pause n)
  unfolding after_pause
  pausing now n e least most =
      if_both (Starting c fresh_of (suc now)) (leb n 1)
      (λ h. let m = leb-true n 1 h in (omega arith, refl))
      (λ h. let m = leb-false n 1 h in (omega arith, omega arith, omega arith, refl))

  precharging : (now : ℕ) → now ≡ 8 * c.rr + 1 → Refreshing c (sent_of fresh_of Deac) (suc now) 8
  unfolding sent_of ages_after fresh_of aged_of marks_of row_of
  precharging now e =
      record {
        closed = record { closed = deac_closed fresh_of; unset = omega arith; row_cycled = omega (arith, (row-cycle-falls a fresh_of Deac (λ b. refl)).by, fresh_row_cycled c (omega (arith, a.rc_most))) };
        least = omega arith;
        most = omega arith;
        one = inl a.rfc_most;
        next = omega (arith, a.rfc_most, a.rp_least);
      }

  refreshing_sent : (p : Past) (now n : ℕ) → Refreshing c p now n → legal_of c (by_ages c p) Refr ≡ true → Starting c (sent_of p Refr) (suc now) (after_init_refresh n)
  unfolding after_init_refresh
  refreshing_sent p now n s legal =
      let kept = refr_kept c p s.closed legal in
      let ages = refr_ages p in
      let left = one_less n c.rfc s.least in
      if_both (Starting c (sent_of p Refr) (suc now)) (leb n 1)
      (λ h.
      let m = leb-true n 1 h in
      let single : n ≡ 1 = omega (arith, m, s.least) in
      let once : n * c.rfc ≡ c.rfc = ap (λ x. x * c.rfc) single ∙ omega arith in
      record {
        closed = quiet_refr a p s.closed;
        kept = omega (arith, ages.1, kept.1, a.rp_most);
        next = omega (arith, ages.0, kept.0, kept.1, s.next, once, a.rfc_least);
      })
      (λ h.
      let m = leb-false n 1 h in
      record {
        closed = quiet_refr a p s.closed;
        least = omega arith;
        most = omega (arith, s.most);
        one = inr (omega (arith, ages.1, kept.1, a.rp_most));
        next = omega (arith, ages.0, ages.1, kept.0, kept.1, s.next, left, a.rfc_least, a.rp_most);
      })

  refreshing_waits : (p : Past) (now n : ℕ) → Refreshing c p now n → legal_of c (by_ages c p) Refr ≡ false → Refreshing c (sent_of p Nop) (suc now) n
  refreshing_waits p now n s illegal =
      let ages = nop_ages p in
      ⊎_elim
      (λ kept.
      let missing : age_of p any_precharge < c.rp
      = by_test (leb c.rp (age_of p any_precharge))
      (λ h. absurd (true≢false (sym (refr_legal c p s.closed kept (leb-true _ _ h)) ∙ illegal)))
      (λ h. leb-false _ _ h) in
      record {
        closed = quiet_nop a p s.closed;
        least = s.least;
        most = s.most;
        one = inl (omega (arith, ages.0, kept, a.rfc_most));
        next = omega (arith, ages.0, ages.1, kept, missing, s.next, a.rfc_most, a.rp_most);
      })
      (λ kept.
      let missing : age_of p refresh_cycle < c.rfc
      = by_test (leb c.rfc (age_of p refresh_cycle))
      (λ h. absurd (true≢false (sym (refr_legal c p s.closed (leb-true _ _ h) kept) ∙ illegal)))
      (λ h. leb-false _ _ h) in
      record {
        closed = quiet_nop a p s.closed;
        least = s.least;
        most = s.most;
        one = inr (omega (arith, ages.1, kept, a.rp_most));
        next = omega (arith, ages.0, ages.1, kept, missing, s.next, a.rfc_most, a.rp_most);
      })
      s.one

  setting_sent : (p : Past) (now : ℕ) → ModeDue c p now → legal_of c (by_ages c p) (Mrs (mode_word c)) ≡ true → Set c (sent_of p (Mrs (mode_word c))) 1 (suc now)
  setting_sent p now s legal =
      let kept = mrs_kept c p s.closed legal in
      let ages = mrs_ages p (mode_word c) in
      record {
        programmed = ages.2;
        mode = omega (arith, ages.1);
        settled = omega (arith, ages.0, kept, a.rfc_most);
        next = omega (arith, kept, s.next);
      }

  setting_waits : (p : Past) (now : ℕ) → ModeDue c p now → legal_of c (by_ages c p) (Mrs (mode_word c)) ≡ false → ModeDue c (sent_of p Nop) (suc now)
  setting_waits p now s illegal =
      let ages = nop_ages p in
      let missing : age_of p refresh_cycle < c.rfc
      = by_test (leb c.rfc (age_of p refresh_cycle))
      (λ h. absurd (true≢false (sym (mrs_legal c p s.closed (leb-true _ _ h) s.kept) ∙ illegal)))
      (λ h. leb-false _ _ h) in
      record {
        closed = quiet_nop a p s.closed;
        kept = omega (arith, ages.1, s.kept, a.rp_most);
        next = omega (arith, ages.0, missing, s.next, a.rfc_most);
      }

  settling : (p : Past) (now : ℕ) → Set c p 1 now → Set c (sent_of p Nop) 2 (suc now)
  settling p now s =
      let ages = nop_ages p in
      record {
        programmed = nop_programmed p ∙ s.programmed;
        mode = omega (arith, ages.2, s.mode);
        settled = omega (arith, ages.0, s.settled, a.rfc_most);
        next = omega (arith, s.next);
      }

  -- one slot of the initialisation
  pub starting_slot : (p : Past) (now : ℕ) (x : Action) → in_service x ≡ false → Starting c p now x → (r : Request) (bus : ℕ) → Next now (served_of c p r x bus)
  unfolding served_of plan_of tries quietly
  starting_slot p now (PowerUp n) e s r bus =
      rest_only c p (Next now) (after_pause n) (rw (s.3, fresh_nop) (pausing now n s.0 s.1 s.2))
  starting_slot p now InitPrecharge e s r bus =
      performed_both c p (Next now) (tries Deac InitPrecharge (InitRefresh 8))
      (λ h. rw s.1 (precharging now s.0))
      (λ h. absurd (true≢false (sym (rw s.1 (fresh_deac c a.rfc_most)) ∙ h)))
  starting_slot p now (InitRefresh n) e s r bus =
      performed_both c p (Next now) (tries Refr (InitRefresh n) (after_init_refresh n)) (refreshing_sent p now n s) (refreshing_waits p now n s)
  starting_slot p now InitMode e s r bus =
      performed_both c p (Next now) (tries (Mrs (mode_word c)) InitMode InitSettle) (setting_sent p now s) (setting_waits p now s)
  starting_slot p now InitSettle e s r bus = rest_only c p (Next now) Idle (settling p now s)
  starting_slot p now Idle e s r bus = absurd (true≢false e)
  starting_slot p now (Access i) e s r bus = absurd s
  starting_slot p now (CasLatency i left) e s r bus = absurd s
  starting_slot p now Turnaround e s r bus = absurd s
  starting_slot p now PrechargeAll e s r bus = absurd s
  starting_slot p now Refresh e s r bus = absurd s
  starting_slot p now (RefreshCycle left) e s r bus = absurd s

  pub starting_first : Starting c fresh_of 1 (first_action c)
  starting_first = (omega arith, omega (arith, a.long_enough, a.refresh_span_lem, a.rfc_least), omega arith, refl)

  -- before service the next slot lies before the first service slot; at service's begin it is that slot
  pub starting_below : (p : Past) (now : ℕ) (x : Action) → in_service x ≡ false → Starting c p now x → now < first_service c
  unfolding first_service
  starting_below p now (PowerUp n) e s = omega (arith, s.0)
  starting_below p now InitPrecharge e s = omega (arith, s.0)
  starting_below p now (InitRefresh n) e s = omega (arith, s.next)
  starting_below p now InitMode e s = omega (arith, s.next)
  starting_below p now InitSettle e s = omega (arith, s.next)
  starting_below p now Idle e s = absurd (true≢false e)
  starting_below p now (Access i) e s = absurd s
  starting_below p now (CasLatency i left) e s = absurd s
  starting_below p now Turnaround e s = absurd s
  starting_below p now PrechargeAll e s = absurd s
  starting_below p now Refresh e s = absurd s
  starting_below p now (RefreshCycle left) e s = absurd s

  pub starting_done : (p : Past) (now : ℕ) → Set c p 2 now → now ≡ first_service c
  unfolding first_service
  starting_done p now s = omega (arith, s.next)

-- at the end of the initialisation no action is under way, and the mode is set
pub done_set : (c : Config) (p : Past) (now : ℕ) (x : Action) → in_service x ≡ true → Starting c p now x → (x ≡ Idle) × Set c p 2 now
done_set c p now (PowerUp n) e s = absurd (false≢true e)
done_set c p now InitPrecharge e s = absurd (false≢true e)
done_set c p now (InitRefresh n) e s = absurd (false≢true e)
done_set c p now InitMode e s = absurd (false≢true e)
done_set c p now InitSettle e s = absurd (false≢true e)
done_set c p now Idle e s = (refl, s)
done_set c p now (Access i) e s = absurd s
done_set c p now (CasLatency i left) e s = absurd s
done_set c p now Turnaround e s = absurd s
done_set c p now PrechargeAll e s = absurd s
done_set c p now Refresh e s = absurd s
done_set c p now (RefreshCycle left) e s = absurd s

-- no slot of the initialisation takes anything off the backlog
tried_keeps : (c : Config) (p : Past) (k : Command) (stays next : Action) → (performed_of c p (tries k stays next)).outcome.refreshes ≡ false
unfolding tries quietly
tried_keeps c p k stays next = performed_both c p (λ (s : Served). s.outcome.refreshes ≡ false) (tries k stays next) (λ e. refl) (λ e. refl)

rest_keeps : (c : Config) (p : Past) (next : Action) → (performed_of c p (rest next)).outcome.refreshes ≡ false
unfolding quietly
rest_keeps c p next = rest_only c p (λ (s : Served). s.outcome.refreshes ≡ false) next refl

pub starting_keeps : (c : Config) (p : Past) (r : Request) (x : Action) (bus : ℕ) → in_service x ≡ false → (served_of c p r x bus).outcome.refreshes ≡ false
unfolding served_of plan_of
starting_keeps c p r (PowerUp k) bus e = rest_keeps c p _
starting_keeps c p r InitPrecharge bus e = tried_keeps c p _ _ _
starting_keeps c p r (InitRefresh k) bus e = tried_keeps c p _ _ _
starting_keeps c p r InitMode bus e = tried_keeps c p _ _ _
starting_keeps c p r InitSettle bus e = rest_keeps c p _
starting_keeps c p r Idle bus e = absurd (true≢false e)
starting_keeps c p r (Access i) bus e = absurd (true≢false e)
starting_keeps c p r (CasLatency i left) bus e = absurd (true≢false e)
starting_keeps c p r Turnaround bus e = absurd (true≢false e)
starting_keeps c p r PrechargeAll bus e = absurd (true≢false e)
starting_keeps c p r Refresh bus e = absurd (true≢false e)
starting_keeps c p r (RefreshCycle left) bus e = absurd (true≢false e)

-- and none is a choice
pub starting_busy : (x : Action) → in_service x ≡ false → is_idle x ≡ false
starting_busy (PowerUp k) e = refl
starting_busy InitPrecharge e = refl
starting_busy (InitRefresh k) e = refl
starting_busy InitMode e = refl
starting_busy InitSettle e = refl
starting_busy Idle e = absurd (true≢false e)
starting_busy (Access i) e = refl
starting_busy (CasLatency i left) e = refl
starting_busy Turnaround e = refl
starting_busy PrechargeAll e = refl
starting_busy Refresh e = refl
starting_busy (RefreshCycle left) e = refl
