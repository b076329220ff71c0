-- An action's slot takes one at least from what is left of it: its command is sent, or a distance that it waits for gets shorter.
use Prim.Native.Nat.{ℕ, zero, suc, ◌+◌, ◌-◌, ◌≤◌, ◌<◌, min, max}
use mathlib.Core.Path.{◌≡◌, refl, sym, ap, ◌∙◌}
use mathlib.Core.Bool.{Bool, true, false, true≢false}
use mathlib.Core.Option.{Option, none, some}
use native.Mathlib.Omega.{arith}
use lib.Dec.{leb, eqb}
use lib.Pow.{pow_mono}
use borrow.Author.Tests.{eq-eqb, leb-true, leb-false}
use Rattle.config.specs.declared.Config.{Config}
use Rattle.config.specs.Accepted.{Accepted}
use Rattle.address.specs.declared.Bank.{Bank}
use Rattle.address.specs.declared.Row.{Row}
use Rattle.address.specs.declared.Cell.{Cell}
use Rattle.address.specs.Map.{Holds}
use Rattle.address.proofs.Laws.{cell_within}
use Rattle.command.specs.declared.Command.{Command}
use Rattle.command.specs.declared.Command.TheVariants.{Nop, Act, Read, Wrt, Pre, Deac, Refr}
use Rattle.device.specs.View.{
  Distance,
  refresh_cycle,
  mode_register,
  read_to_write,
  row_precharge,
  row_cycle,
  row_to_column,
  starts,
  marks_of,
  row_of,
  is_some,
  all_closed,
}
use Rattle.device.proofs.Tests.{if_both}
use Rattle.device.proofs.Alike.{Known}
use Rattle.ages.specs.declared.Past.{Past}
use Rattle.ages.specs.Ages.{cap, age_of, row_at, sent_of}
use Rattle.ages.proofs.Slot.{Aged, sent_age, sent_row, aged_sent}
use Rattle.queue.specs.declared.Kind.{Kind}
use Rattle.queue.specs.declared.Queue.{Queue}
use Rattle.queue.specs.declared.Request.{Request}
use Rattle.queue.specs.Places.{cell_for, get_of}
use Rattle.refresh.specs.declared.Counters.{Counters}
use Rattle.refresh.specs.Counting.{refreshed_of}
use Rattle.plan.specs.declared.Action.{Action}
use Rattle.plan.specs.declared.Action.TheVariants.{
  PowerUp,
  InitPrecharge,
  InitRefresh,
  InitMode,
  InitSettle,
  Idle,
  Access,
  CasLatency,
  Turnaround,
  PrechargeAll,
  Refresh,
  RefreshCycle,
}
use Rattle.plan.specs.declared.Report.{Report}
use Rattle.plan.specs.Actions.{is_idle, under_way}
use Rattle.plan.specs.Plan.{
  quietly,
  tries,
  rest,
  read_plan,
  write_plan,
  transfer_plan,
  access_plan,
  taken_plan,
  latency_plan,
  cycle_left,
  refresh_plan,
  plan_of,
  queue_after,
  counters_after,
}
use Rattle.soundness.proofs.Past.{programmed_kept, nop_closed, deac_closed}
use Rattle.soundness.proofs.Plans.{Served, performed_of, served_of, sending, performed_both, rest_only}
use Rattle.model.specs.Condition.{is_refr}
use Rattle.theorem.proofs.Invariant.{
  short,
  bank_held,
  all_held,
  refr_held,
  others_held,
  transfer_left,
  activate_left,
  precharge_left,
  row_left,
  access_left,
  left_of,
  due_of,
  need_of,
  Settled,
  Owing,
}
use Rattle.theorem.proofs.Timing.Distances.{
  Ready,
  short-falls,
  short-new,
  short-least,
  nop-row,
  bank-falls,
  refr-falls,
  refresh-falls,
  refresh-some,
  deac-falls,
  others-fall,
  bank-least,
  refresh-least,
  others-least,
  act-ready,
  read-ready,
  wrt-ready,
  pre-ready,
  deac-ready,
  refr-ready,
}

-- the queue after a slot of an action
abbrev pub queue_left : Queue → Action → Served → Queue
queue_left q a s = queue_after q (under_way a) s.outcome.leaves

-- what a slot does to the counters: nothing, or it is the REFR of a refresh that was owed
pub data Backlog (c : Config) (p : Past) (q : Queue) (a : Action) (n : Counters) (s : Served) : Type 0 where
  stays :
      is_refr s.command ≡ false
      → counters_after n s.outcome.refreshes ≡ n
      → need_of c s.past (queue_left q a s) s.outcome.action + 1 ≤ need_of c p q a
      → (Owing a n → Owing s.outcome.action n)
      → Backlog c p q a n s
  falls :
      is_refr s.command ≡ true
      → counters_after n s.outcome.refreshes ≡ refreshed_of n
      → need_of c s.past (queue_left q a s) s.outcome.action < c.rr
      → (Owing a n → 1 ≤ n.backlog)
      → ((m : Counters) → Owing s.outcome.action m)
      → Backlog c p q a n s

-- what a slot does for an action that is under way
pub record Advanced (c : Config) (p : Past) (q : Queue) (a : Action) (n : Counters) (s : Served) : Type 0 where
  pub programmed : s.past.programmed ≡ true
  pub mode : 2 ≤ age_of s.past mode_register
  pub settled : Settled c s.past s.outcome.action
  pub left : left_of c s.past (queue_left q a s) s.outcome.action + 1 ≤ left_of c p q a
  pub backlog : Backlog c p q a n s

-- a command that is not legal still waits for something
pub waits : (x : ℕ) {t : Bool} → (x ≡ 0 → t ≡ true) → t ≡ false → 1 ≤ x
waits zero f e = absurd (true≢false (sym (f refl) ∙ e))
waits (suc x) f e = omega arith

-- What a slot leaves of the past, whatever its command, but for MRS and REFR.

pub older-sent : (p : Past) (k : Command) (d : Distance) → Known d → starts d k ≡ false → age_of (sent_of p k) d ≡ min cap (suc (age_of p d))
older-sent p k d h f = rw (sent_age p k d h, f)

pub mode-sent : (p : Past) (k : Command) → starts mode_register k ≡ false → 2 ≤ age_of p mode_register → 2 ≤ age_of (sent_of p k) mode_register
mode-sent p k f h = let o : age_of (sent_of p k) mode_register ≡ min cap (suc (age_of p mode_register)) = older-sent p k mode_register tt f in omega arith

cycle-sent : (p : Past) (k : Command) → starts refresh_cycle k ≡ false → age_of (sent_of p k) refresh_cycle ≡ min cap (suc (age_of p refresh_cycle))
cycle-sent p k f = older-sent p k refresh_cycle tt f

pub rested : {c : Config} → Accepted c → (p : Past) (k : Command) → starts refresh_cycle k ≡ false → c.rfc ≤ age_of p refresh_cycle
    → c.rfc ≤ age_of (sent_of p k) refresh_cycle
rested ok p k f h = let e = cycle-sent p k f in omega (arith, ok.rfc_most)

-- The stages of an access.

pub bank-four : {c : Config} → Accepted c → {x : Cell} → Holds c.geometry x → x.bank.0 < 4
bank-four ok h = omega (arith, h.bank, pow_mono ok.shaped.banks_most)

module _ (c : Config) (p : Past) (kind : Kind) (x : Cell) where
  abbrev at : ℕ
  at = x.bank.0

  left-transfer : {y : Row} → row_at p at ≡ some y → eqb y.0 x.row.0 ≡ true → access_left c p kind x ≡ transfer_left c p kind at
  unfolding access_left
  left-transfer o e = rw (o, e)

  left-precharge : {y : Row} → row_at p at ≡ some y → eqb y.0 x.row.0 ≡ false → access_left c p kind x ≡ precharge_left c p at
  unfolding access_left
  left-precharge o e = rw (o, e)

  left-activate : row_at p at ≡ none → access_left c p kind x ≡ activate_left c p at
  unfolding access_left
  left-activate o = rw o

-- a bank's open row through its own PRE and ACT
pre-row : (p : Past) (b : Bank) → b.0 < 4 → row_at (sent_of p (Pre b)) b.0 ≡ none
unfolding marks_of
pre-row p b h = sent_row p (Pre b) b.0 h ∙ rw (eq-eqb b.0 b.0 refl)

act-row : (p : Past) (b : Bank) (r : Row) → b.0 < 4 → row_at (sent_of p (Act b r)) b.0 ≡ some r
unfolding marks_of row_of
act-row p b r h = sent_row p (Act b r) b.0 h ∙ rw (eq-eqb b.0 b.0 refl)

module _ {c : Config} (ok : Accepted c) (p : Past) (programmed : p.programmed ≡ true) (mode : 2 ≤ age_of p mode_register) (q : Queue) (n : Counters) where
  -- a slot that carries k, no MRS nor REFR, and serves nothing
  quiet-advances : {a : Action} (k : Command) (next : Action) → starts mode_register k ≡ false → is_refr k ≡ false
      → Settled c (sent_of p k) next → left_of c (sent_of p k) q next + 1 ≤ left_of c p q a → due_of c next ≤ due_of c a → (Owing a n → Owing next n)
      → Advanced c p q a n (sending p k (quietly next))
  unfolding quietly queue_after counters_after
  quiet-advances k next f g settled left due owing =
      record {
        programmed = programmed_kept p k programmed;
        mode = mode-sent p k f mode;
        settled = settled;
        left = left;
        backlog = stays g refl (omega arith) owing;
      }

  turnaround-advances : c.rfc ≤ age_of p refresh_cycle → Advanced c p q Turnaround n (performed_of c p (rest Idle))
  unfolding marks_of
  turnaround-advances h =
      rest_only c p (Advanced c p q Turnaround n) Idle
      (quiet-advances Nop Idle refl refl (rested ok p Nop refl h) (omega arith) (omega arith) (λ o. o))

  -- a refresh
  precharge-advances : c.rfc ≤ age_of p refresh_cycle → Advanced c p q PrechargeAll n (performed_of c p (tries Deac PrechargeAll Refresh))
  unfolding tries marks_of
  precharge-advances h =
      performed_both c p (Advanced c p q PrechargeAll n) (tries Deac PrechargeAll Refresh)
      (λ e. quiet-advances Deac Refresh refl refl (rested ok p Deac refl h, deac_closed p) (omega (arith, deac-falls ok p)) (omega arith) (λ o. o))
      (λ e.
      let w : 1 ≤ all_held c p = waits (all_held c p) (deac-ready c p (record { cycle = h; mode = mode })) e in
      quiet-advances Nop PrechargeAll refl refl (rested ok p Nop refl h)
      (omega (arith, refresh-falls ok p, refresh-some ok p)) (omega arith) (λ o. o))

  cycle-advances : (left : ℕ) → c.rfc ≤ age_of p refresh_cycle + left → 1 ≤ left → left < c.rfc
      → Advanced c p q (RefreshCycle left) n (performed_of c p (rest (cycle_left (left - 1))))
  unfolding cycle_left marks_of
  cycle-advances left h i j =
      let older = cycle-sent p Nop refl in
      if_both (λ next. Advanced c p q (RefreshCycle left) n (performed_of c p (rest next))) (leb (left - 1) 0)
      (λ e. let z = leb-true (left - 1) 0 e in
      rest_only c p (Advanced c p q (RefreshCycle left) n) Idle
      (quiet-advances Nop Idle refl refl (omega (arith, ok.rfc_most)) (omega arith) (omega arith) (λ o. o)))
      (λ e. let z = leb-false (left - 1) 0 e in
      rest_only c p (Advanced c p q (RefreshCycle left) n) (RefreshCycle (left - 1))
      (quiet-advances Nop (RefreshCycle (left - 1)) refl refl (omega (arith, ok.rfc_most), z, omega arith) (omega arith) (omega arith) (λ o. o)))

  refr-age : age_of (sent_of p Refr) refresh_cycle ≡ 1
  unfolding marks_of
  refr-age = sent_age p Refr refresh_cycle tt

  -- with its REFR sent
  abbrev refreshed : Action → Served
  refreshed next = sending p Refr (record { action = next; report = Report.Nothing; leaves = false; refreshes = true })

  refreshed-advances : (next : Action) → Settled c (sent_of p Refr) next → left_of c (sent_of p Refr) q next + 1 ≤ c.rfc → due_of c next ≤ c.refresh
      → ((m : Counters) → Owing next m) → Advanced c p q Refresh n (refreshed next)
  unfolding marks_of queue_after counters_after
  refreshed-advances next settled left due owing =
      record {
        programmed = programmed_kept p Refr programmed;
        mode = mode-sent p Refr refl mode;
        settled = settled;
        left = omega arith;
        backlog = falls refl refl (omega (arith, ok.refresh_span_lem, ok.long_enough, ok.ras_least)) (λ o. o) owing;
      }

  sent-advances : Advanced c p q Refresh n (refreshed (cycle_left (c.rfc - 1)))
  unfolding cycle_left
  sent-advances =
      let age = refr-age in
      if_both (λ next. Advanced c p q Refresh n (refreshed next)) (leb (c.rfc - 1) 0)
      (λ e. let z = leb-true (c.rfc - 1) 0 e in
      refreshed-advances Idle (omega arith) (omega (arith, ok.rfc_least)) (omega arith) (λ m. tt))
      (λ e. let z = leb-false (c.rfc - 1) 0 e in
      refreshed-advances (RefreshCycle (c.rfc - 1)) (omega arith, z, omega (arith, ok.rfc_least)) (omega arith) (omega arith) (λ m. tt))

  refresh-advances : c.rfc ≤ age_of p refresh_cycle → all_closed (row_at p) ≡ true → Advanced c p q Refresh n (performed_of c p (refresh_plan c))
  unfolding refresh_plan marks_of
  refresh-advances h closed =
      performed_both c p (Advanced c p q Refresh n) (refresh_plan c)
      (λ e. sent-advances)
      (λ e.
      let w : 1 ≤ refr_held c p = waits (refr_held c p) (refr-ready c p (record { cycle = h; mode = mode }) closed) e in
      quiet-advances Nop Refresh refl refl (rested ok p Nop refl h, nop_closed p ∙ closed)
      (omega (arith, (refr-falls ok p Nop refl (λ b. refl)).by)) (omega arith) (λ o. o))

  -- a read whose halfword is to come
  latency-advances : (i left bus : ℕ) → c.rfc ≤ age_of p refresh_cycle → 1 ≤ left → left ≤ c.latency
      → Advanced c p q (CasLatency i left) n (performed_of c p (latency_plan i left (get_of q i) bus))
  unfolding latency_plan taken_plan marks_of queue_after counters_after
  latency-advances i left bus h l m =
      if_both (λ x. Advanced c p q (CasLatency i left) n (performed_of c p x)) (leb left 1)
      (λ e.
      performed_both c p (Advanced c p q (CasLatency i left) n) (taken_plan (get_of q i) bus)
      (λ legal.
      record {
        programmed = programmed_kept p Nop programmed;
        mode = mode-sent p Nop refl mode;
        settled = rested ok p Nop refl h;
        left = omega arith;
        backlog = stays refl refl (omega arith) (λ o. o);
      })
      (λ illegal. quiet-advances Nop Turnaround refl refl (rested ok p Nop refl h) (omega arith) (omega arith) (λ o. o)))
      (λ e. let z = leb-false left 1 e in
      rest_only c p (Advanced c p q (CasLatency i left) n) (CasLatency i (left - 1))
      (quiet-advances Nop (CasLatency i (left - 1)) refl refl (rested ok p Nop refl h, omega arith, omega arith) (omega arith) (omega arith) (λ o. o)))

  -- an access
  module _ (i : ℕ) (h : c.rfc ≤ age_of p refresh_cycle) where
    abbrev r : Request
    r = get_of q i

    -- its cell, and that cell's bank
    abbrev x : Cell
    x = cell_for c.geometry r

    abbrev b : ℕ
    b = x.bank.0

    inside : Holds c.geometry x
    inside = cell_within c.geometry r.address

    four : b < 4
    four = bank-four ok inside

    ready : Ready c p
    ready = record { cycle = h; mode = mode }

    -- while it waits
    still : row_at (sent_of p Nop) b ≡ row_at p b
    still = nop-row p b four

    access_waits : access_left c (sent_of p Nop) r.kind x + 1 ≤ access_left c p r.kind x → Advanced c p q (Access i) n (sending p Nop (quietly (Access i)))
    unfolding marks_of
    access_waits left = quiet-advances Nop (Access i) refl refl (rested ok p Nop refl h) left (omega arith) (λ o. o)

    precharge-access : {y : Row} → row_at p b ≡ some y → eqb y.0 x.row.0 ≡ false
        → Advanced c p q (Access i) n (performed_of c p (tries (Pre x.bank) (Access i) (Access i)))
    unfolding tries marks_of precharge_left activate_left
    precharge-access o e =
        performed_both c p (Advanced c p q (Access i) n) (tries k (Access i) (Access i))
        (λ l.
        quiet-advances k (Access i) refl refl (rested ok p k refl h)
        (omega (
          arith,
          left-precharge c p r.kind x o e,
          left-activate c (sent_of p k) r.kind x (pre-row p x.bank four),
          short-new c p k (row_precharge b) four (eq-eqb b b refl),
          (short-falls ok p k (row_cycle b) four refl).by,
          (others-fall ok p k b (λ x. refl)).by,
          ok.rp_least,
        ))
        (omega arith) (λ x. x))
        (λ l.
        let w : 1 ≤ bank_held c p b = waits (bank_held c p b) (pre-ready c p ready x.bank inside.bank (ap {A = Option Row} is_some o)) l in
        access_waits
        (omega (
          arith,
          left-precharge c p r.kind x o e,
          left-precharge c (sent_of p Nop) r.kind x (still ∙ o) e,
          (bank-falls ok p Nop b four refl refl).by,
          (short-falls ok p Nop (row_cycle b) four refl).by,
          (others-fall ok p Nop b (λ x. refl)).by,
        )))
      where
        k : Command
        k = Pre x.bank

    -- after its ACT a read or a write takes tRCD + CL + 1 slots at most
    opened-left : (p' : Past) → row_at p' b ≡ some x.row → short c p' (row_to_column b) ≡ c.rcd - 1 → short c p' read_to_write + 1 ≤ c.latency + 2
        → access_left c p' r.kind x ≤ c.rcd + c.latency + 1
    unfolding transfer_left
    opened-left p' o new s = rw (left-transfer c p' r.kind x o (eq-eqb x.row.0 x.row.0 refl)) (go r.kind)
      where
        go : (kind : Kind) → transfer_left c p' kind b ≤ c.rcd + c.latency + 1
        go Kind.Read = omega (arith, ok.rcd_least)
        go Kind.Write = omega (arith, ok.rcd_least)

    activate-access : row_at p b ≡ none → Advanced c p q (Access i) n (performed_of c p (tries (Act x.bank x.row) (Access i) (Access i)))
    unfolding tries marks_of activate_left
    activate-access o =
        performed_both c p (Advanced c p q (Access i) n) (tries k (Access i) (Access i))
        (λ l.
        let s : access_left c (sent_of p k) r.kind x ≤ c.rcd + c.latency + 1
        = opened-left (sent_of p k) (act-row p _ _ four) (short-new c p k (row_to_column b) four (eq-eqb b b refl)) (short-least ok (aged_sent p k) read_to_write tt) in
        quiet-advances k (Access i) refl refl (rested ok p k refl h) (omega (arith, left-activate c p r.kind x o)) (omega arith) (λ x. x))
        (λ l.
        let w : 1 ≤ short c p (row_precharge b) + short c p (row_cycle b) + others_held c p b
        = waits _ (λ z. act-ready c p ready x.bank x.row inside.bank inside.row programmed (ap {A = Option Row} is_some o) (omega arith) (omega arith) (omega arith)) l in
        access_waits
        (omega (
          arith,
          left-activate c p r.kind x o,
          left-activate c (sent_of p Nop) r.kind x (still ∙ o),
          (short-falls ok p Nop (row_precharge b) four refl).by,
          (short-falls ok p Nop (row_cycle b) four refl).by,
          (others-fall ok p Nop b (λ x. refl)).by,
        )))
      where
        k : Command
        k = Act x.bank x.row

    module _ {y : Row} (o : row_at p b ≡ some y) (e : eqb y.0 x.row.0 ≡ true) where
      opened : is_some (row_at p b) ≡ true
      opened = ap {A = Option Row} is_some o

      -- what is left of it, now and after a NOP
      left-now : {kind : Kind} → r.kind ≡ kind → access_left c p r.kind x ≡ transfer_left c p kind b
      left-now t = left-transfer c p r.kind x o e ∙ ap (λ (kind : Kind). transfer_left c p kind b) t

      left-next : {kind : Kind} → r.kind ≡ kind → access_left c (sent_of p Nop) r.kind x ≡ transfer_left c (sent_of p Nop) kind b
      left-next t = left-transfer c (sent_of p Nop) r.kind x (still ∙ o) e ∙ ap (λ (kind : Kind). transfer_left c (sent_of p Nop) kind b) t

      read-access : r.kind ≡ Kind.Read → Advanced c p q (Access i) n (performed_of c p (read_plan c i x))
      unfolding read_plan tries marks_of transfer_left
      read-access t =
          let now : access_left c p r.kind x ≡ transfer_left c p Kind.Read b = left-now t in
          let next : access_left c (sent_of p Nop) r.kind x ≡ transfer_left c (sent_of p Nop) Kind.Read b = left-next t in
          performed_both c p (Advanced c p q (Access i) n) (read_plan c i x)
          (λ l.
          quiet-advances k (CasLatency i c.latency) refl refl (rested ok p k refl h, omega (arith, ok.latency_least), omega arith) (omega arith) (omega arith) (λ x. x))
          (λ l.
          let w : 1 ≤ short c p (row_to_column b)
          = waits _ (read-ready c p ready x.bank x.column inside.bank inside.column opened) l in
          access_waits (omega (arith, (short-falls ok p Nop (row_to_column b) four refl).by)))
        where
          k : Command
          k = Read x.bank x.column

      write-access : r.kind ≡ Kind.Write → Advanced c p q (Access i) n (performed_of c p (write_plan i r x))
      unfolding write_plan marks_of transfer_left queue_after counters_after
      write-access t =
          let now : access_left c p r.kind x ≡ transfer_left c p Kind.Write b = left-now t in
          let next : access_left c (sent_of p Nop) r.kind x ≡ transfer_left c (sent_of p Nop) Kind.Write b = left-next t in
          performed_both c p (Advanced c p q (Access i) n) (write_plan i r x)
          (λ l.
          record {
            programmed = programmed_kept p k programmed;
            mode = mode-sent p k refl mode;
            settled = rested ok p k refl h;
            left = omega arith;
            backlog = stays refl refl (omega arith) (λ x. x);
          })
          (λ l.
          let w : 1 ≤ short c p (row_to_column b) + short c p read_to_write
          = waits _ (λ z. wrt-ready c p ready x.bank x.column r.halfword inside.bank inside.column opened (omega arith) (omega arith)) l in
          let f = short-falls ok p Nop read_to_write tt refl in
          access_waits (omega (arith, (short-falls ok p Nop (row_to_column b) four refl).by)))
        where
          k : Command
          k = Wrt x.bank x.column r.halfword

      transfer-access : Advanced c p q (Access i) n (performed_of c p (transfer_plan c i r x r.kind))
      unfolding transfer_plan
      transfer-access = go r.kind refl
        where
          go : (kind : Kind) → r.kind ≡ kind → Advanced c p q (Access i) n (performed_of c p (transfer_plan c i r x kind))
          go Kind.Read t = read-access t
          go Kind.Write t = write-access t

    access-advances : Advanced c p q (Access i) n (performed_of c p (access_plan c (row_at p b) i r x))
    unfolding access_plan
    access-advances = go (row_at p b) refl
      where
        go : (y : Option Row) → row_at p b ≡ y → Advanced c p q (Access i) n (performed_of c p (access_plan c y i r x))
        go none o = activate-access o
        go (some y) o =
            if_both (λ plan. Advanced c p q (Access i) n (performed_of c p plan)) (eqb y.0 x.row.0) (λ e. transfer-access o e) (λ e. precharge-access o e)

-- a slot of an action under way
pub act-advances : {c : Config} → Accepted c → {p : Past} → p.programmed ≡ true → 2 ≤ age_of p mode_register → (q : Queue) (a : Action)
    → Settled c p a → is_idle a ≡ false → (n : Counters) (bus : ℕ) → Advanced c p q a n (served_of c p (get_of q (under_way a)) a bus)
unfolding served_of plan_of
act-advances ok {p} programmed mode q (PowerUp k) s i n bus = absurd s
act-advances ok {p} programmed mode q InitPrecharge s i n bus = absurd s
act-advances ok {p} programmed mode q (InitRefresh k) s i n bus = absurd s
act-advances ok {p} programmed mode q InitMode s i n bus = absurd s
act-advances ok {p} programmed mode q InitSettle s i n bus = absurd s
act-advances ok {p} programmed mode q Idle s i n bus = absurd (true≢false i)
act-advances ok {p} programmed mode q (Access at) s i n bus = access-advances ok p programmed mode q n at s
act-advances ok {p} programmed mode q (CasLatency at left) s i n bus = latency-advances ok p programmed mode q n at left bus s.0 s.1 s.2
act-advances ok {p} programmed mode q Turnaround s i n bus = turnaround-advances ok p programmed mode q n s
act-advances ok {p} programmed mode q PrechargeAll s i n bus = precharge-advances ok p programmed mode q n s
act-advances ok {p} programmed mode q Refresh s i n bus = refresh-advances ok p programmed mode q n s.0 s.1
act-advances ok {p} programmed mode q (RefreshCycle left) s i n bus = cycle-advances ok p programmed mode q n left s.0 s.1 s.2

-- What is left of an action at its choice.

pub refresh-bound : {c : Config} → Accepted c → {p : Past} → Aged p → (q : Queue) → left_of c p q PrechargeAll + 1 ≤ c.refresh
refresh-bound ok aged q = omega (arith, refresh-least ok aged, ok.refresh_span_lem)

module _ {c : Config} (ok : Accepted c) {p : Past} (aged : Aged p) (b : ℕ) (four : b < 4) where
  transfer-bound : (kind : Kind) → transfer_left c p kind b + 3 ≤ c.access
  unfolding transfer_left
  transfer-bound kind =
      go kind (short-least ok aged (row_to_column b) four) (short-least ok aged read_to_write tt) ok.access_span_lem
      ok.ras_least ok.rp_least ok.rc_least ok.rrd_least
    where
      go : (kind : Kind) → short c p (row_to_column b) + 1 ≤ c.rcd → short c p read_to_write + 1 ≤ c.latency + 2
          → c.access ≡ max c.ras c.wr + c.rp + c.rc + c.rrd + c.rcd + c.latency + 2 → 1 ≤ c.ras → 1 ≤ c.rp → 1 ≤ c.rc → 1 ≤ c.rrd
          → transfer_left c p kind b + 3 ≤ c.access
      go Kind.Read x y e s t u v = omega arith
      go Kind.Write x y e s t u v = omega arith

  rc_least : short c p (row_cycle b) + 1 ≤ c.rc
  rc_least = short-least ok aged (row_cycle b) four

  activate-bound : activate_left c p b + 3 ≤ c.access
  unfolding activate_left
  activate-bound =
      let rp : short c p (row_precharge b) + 1 ≤ c.rp = short-least ok aged (row_precharge b) four in
      omega (arith, rc_least, others-least ok aged b, ok.access_span_lem)

  precharge-bound : precharge_left c p b + 3 ≤ c.access
  unfolding precharge_left
  precharge-bound = omega (arith, rc_least, others-least ok aged b, bank-least ok aged b four, ok.access_span_lem)

pub access-bound : {c : Config} → Accepted c → {p : Past} → Aged p → (q : Queue) (i : ℕ) → left_of c p q (Access i) + 3 ≤ c.access
unfolding access_left
access-bound {c} ok {p} aged q i = go (row_at p b)
  where
    Bound : ℕ → Type 0
    Bound n = n + 3 ≤ c.access

    x : Cell
    x = cell_for c.geometry (get_of q i)

    b : ℕ
    b = x.bank.0

    four : b < 4
    four = bank-four ok (cell_within c.geometry (get_of q i).address)

    go : (y : Option Row) → Bound (row_left c p y (get_of q i).kind x)
    go none = activate-bound ok aged b four
    go (some y) =
        if_both Bound (eqb y.0 x.row.0) (λ e. transfer-bound ok aged b four (get_of q i).kind) (λ e. precharge-bound ok aged b four)
