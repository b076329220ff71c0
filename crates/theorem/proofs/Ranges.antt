-- Ranges: the flat memory holds and gives halfwords at the start and after every accepted request; and every slot's command and report has a word.
use Prim.Native.Nat.{ℕ, ◌<◌}
use native.Mathlib.Omega.{arith}
use mathlib.Core.Option.{Option, none, some}
use lib.Dec.{eqb, leb, ltb}
use Rattle.config.specs.declared.Config.{Config}
use Rattle.config.specs.declared.Geometry.{Geometry}
use Rattle.config.specs.Accepted.{Accepted}
use Rattle.address.specs.declared.Row.{Row}
use Rattle.address.specs.declared.Cell.{Cell}
use Rattle.address.specs.Memory.{put}
use Rattle.address.proofs.Laws.{Small, small, cell_within}
use Rattle.device.specs.View.{View}
use Rattle.device.proofs.Tests.{if_both}
use Rattle.ages.specs.declared.Past.{Past}
use Rattle.ages.specs.Ages.{by_ages}
use Rattle.queue.specs.declared.Kind.{Kind}
use Rattle.queue.specs.declared.Queue.{Queue}
use Rattle.queue.specs.declared.Request.{Request}
use Rattle.queue.specs.Memory.{memory_after}
use Rattle.queue.specs.Places.{cell_for, request_in, request_at, get_of}
use Rattle.plan.specs.declared.Action.{Action}
use Rattle.plan.specs.declared.Action.TheVariants.{
  PowerUp,
  InitPrecharge,
  InitRefresh,
  InitMode,
  InitSettle,
  Idle,
  Access,
  CasLatency,
  Turnaround,
  PrechargeAll,
  Refresh,
  RefreshCycle,
}
use Rattle.plan.specs.declared.Report.{Report}
use Rattle.plan.specs.Plan.{
  Plan,
  tries,
  rest,
  read_plan,
  write_plan,
  transfer_plan,
  access_plan,
  taken_plan,
  latency_plan,
  refresh_plan,
  plan_of,
}
use Rattle.packing.specs.Laws.{FitsCommand, FitsReport}
use Rattle.numbers.specs.Numbers.{last_number}
use Rattle.soundness.proofs.Plans.{Served, served_of, performed_both}
use Rattle.model.specs.Sdram.{Cells}
use Rattle.model.specs.Flat.{Flat, start_flat, taken}
use Rattle.model.specs.World.{World, halfwords_of}
use Rattle.model.specs.Condition.{Reports}
use Rattle.theorem.proofs.Invariant.{Ranged}

-- The flat memory.

pub ranged_start : (g : Geometry) (first : Cells) → Ranged (start_flat g (halfwords_of first))
unfolding start_flat
ranged_start g first = record { contents = λ a. omega arith; given = λ n. omega arith; count = omega arith }

-- a halfword that is put into a memory of halfwords
put_below : (m : ℕ → ℕ) (at h : ℕ) → ((n : ℕ) → m n < 65536) → h < 65536 → (n : ℕ) → put eqb m at h n < 65536
put_below m at h v b n = if_both (λ x. x < 65536) (eqb n at) (λ e. b) (λ e. v n)

memory_below : (kind : Kind) (m : ℕ → ℕ) (at h : ℕ) → ((n : ℕ) → m n < 65536) → h < 65536 → (n : ℕ) → memory_after kind at h m n < 65536
memory_below Kind.Read m at h v b n = v n
memory_below Kind.Write m at h v b n = put_below m at h v b n

pub ranged_taken : {f : Flat} → Ranged f → (kind : Kind) (address halfword : ℕ) → halfword < 65536 → f.count < last_number
    → Ranged (taken f kind address halfword)
unfolding taken
ranged_taken {f} v kind address halfword fits room =
    record {
      contents = memory_below kind f.contents address halfword v.contents fits;
      given = put_below f.given _ _ v.given (v.contents address);
      count = omega arith;
    }

-- Reports: the number is one of an accepted request, the halfword one that was given.
pub report_fits : (w : World) → Ranged w.flat → (r : Report) → Reports w r → FitsReport r
report_fits w v Report.Nothing t = tt
report_fits w v (Report.Read n h) t = (omega (arith, v.count, t.0.accepted), rw t.1 (v.given n))
report_fits w v (Report.Write n) t = omega (arith, v.count, t.0.accepted)

-- Commands: the numbers are those of a cell, the mode register's word, or a queued halfword.

-- a queued request's halfword is one, at whatever place
get_below : (q : Queue) (at : ℕ) → (get_of q at).halfword < 65536
unfolding get_of request_at request_in
get_below q at = if_both (λ (r : Request). r.halfword < 65536) (ltb at 8) (λ e. omega arith) (λ e. omega arith)

module _ {c : Config} (ok : Accepted c) (r : Request) (h : r.halfword < 65536) where
  abbrev x : Cell
  x = cell_for c.geometry r

  abbrev Fits : Plan → Type 0
  Fits p = FitsCommand p.command

  cell_small : Small x
  cell_small = small c.geometry ok.shaped x (cell_within c.geometry r.address)

  transfer_fits : (i : ℕ) (kind : Kind) → Fits (transfer_plan c i r x kind)
  unfolding transfer_plan read_plan write_plan tries
  transfer_fits i Kind.Read = let s = cell_small in (omega arith, omega arith)
  transfer_fits i Kind.Write = let s = cell_small in (omega arith, omega arith, h)

  access_fits : (i : ℕ) (open_row : Option Row) → Fits (access_plan c open_row i r x)
  unfolding access_plan tries
  access_fits i none = let s = cell_small in (omega arith, omega arith)
  access_fits i (some y) =
      let s = cell_small in
      if_both Fits (eqb y.0 x.row.0) (λ e. transfer_fits i r.kind) (λ e. omega arith)

  latency_fits : (i left bus : ℕ) → Fits (latency_plan i left r bus)
  unfolding latency_plan taken_plan rest tries
  latency_fits i left bus = if_both Fits (leb left 1) (λ e. tt) (λ e. tt)

  plan_fits : (v : View) (a : Action) (bus : ℕ) → Fits (plan_of c v r a bus)
  unfolding plan_of rest tries refresh_plan
  plan_fits v (PowerUp n) bus = tt
  plan_fits v InitPrecharge bus = tt
  plan_fits v (InitRefresh n) bus = tt
  plan_fits v InitMode bus = omega (arith, ok.latency_most)
  plan_fits v InitSettle bus = tt
  plan_fits v Idle bus = tt
  plan_fits v (Access i) bus = access_fits i (v.row x.bank.0)
  plan_fits v (CasLatency i left) bus = latency_fits i left bus
  plan_fits v Turnaround bus = tt
  plan_fits v PrechargeAll bus = tt
  plan_fits v Refresh bus = tt
  plan_fits v (RefreshCycle left) bus = tt

-- a slot's command, whatever the queue and the action: the plan's, or NOP
pub command_fits : {c : Config} → Accepted c → (p : Past) (q : Queue) (at : ℕ) (a : Action) (bus : ℕ) → FitsCommand (served_of c p (get_of q at) a bus).command
unfolding served_of
command_fits {c} ok p q at a bus =
    performed_both c p (λ (s : Served). FitsCommand s.command) (plan_of c (by_ages c p) (get_of q at) a bus)
    (λ e. plan_fits ok (get_of q at) (get_below q at) (by_ages c p) a bus)
    (λ e. tt)
