-- What holds in every world that calls can make, in four parts, each kept by every call: the device's past; order and memory; refresh; ranges.
use Prim.Native.Nat.{ℕ, ◌+◌, ◌-◌, ◌%◌, ◌≤◌, ◌<◌, max}
use mathlib.Core.Path.{◌≡◌}
use mathlib.Core.Bool.{true, cond}
use mathlib.Core.List.{List, Memᴰ}
use mathlib.Core.Option.{Option, none, some}
use lib.Dec.{eqb}
use lib.ListN.{get_or}
use Rattle.config.specs.declared.Config.{Config}
use Rattle.config.specs.declared.Geometry.{Geometry}
use Rattle.address.specs.declared.Row.{Row}
use Rattle.address.specs.declared.Cell.{Cell}
use Rattle.address.specs.Map.{capacity_of, cell_of}
use Rattle.device.specs.View.{
  Distance,
  refresh_cycle,
  mode_register,
  read_to_write,
  any_precharge,
  row_precharge,
  row_cycle,
  row_to_row,
  row_to_column,
  row_active,
  write_recovery,
  slots_of,
  is_some,
  all_closed,
}
use Rattle.ages.specs.declared.Past.{Past}
use Rattle.ages.specs.Ages.{age_of, row_at}
use Rattle.ages.proofs.Agree.{Agrees}
use Rattle.queue.specs.declared.Kind.{Kind}
use Rattle.queue.specs.declared.Queue.{Queue}
use Rattle.queue.specs.declared.Request.{Request}
use Rattle.queue.specs.Places.{cell_for, held_of, no_request, get_of}
use Rattle.queue.proofs.Tidy.{Tidy}
use Rattle.queue.proofs.Order.{Each, Servable, Rising}
use Rattle.queue.proofs.Consistent.{Consistent}
use Rattle.refresh.specs.declared.Counters.{Counters}
use Rattle.plan.specs.declared.Action.{Action}
use Rattle.plan.specs.declared.Action.TheVariants.{
  PowerUp,
  InitPrecharge,
  InitRefresh,
  InitMode,
  InitSettle,
  Idle,
  Access,
  CasLatency,
  Turnaround,
  PrechargeAll,
  Refresh,
  RefreshCycle,
}
use Rattle.numbers.specs.Numbers.{last_number}
use Rattle.model.specs.Sdram.{Sdram, Cells, driven_in}
use Rattle.model.specs.Flat.{Flat}
use Rattle.model.specs.World.{World}

-- Part A: the configuration stays, and what the machine keeps of the past agrees with the SDRAM's history.
pub record Kept (c : Config) (w : World) : Type 0 where
  pub configured : w.machine.configured ≡ true
  pub config : w.machine.config ≡ c
  pub agrees : Agrees w.machine.past w.sdram.log

-- Part B: order and memory.

-- an address that counts
abbrev pub Ok : Geometry → ℕ → Type 0
Ok g a = (a % 2 ≡ 0) × (a < capacity_of g)

-- a queued request's address counts
abbrev pub Good : Geometry → Request → Type 0
Good g r = Ok g r.address

-- the SDRAM's cells as a memory of addresses
abbrev pub seen : Geometry → Cells → ℕ → ℕ
seen g m a = m (cell_of g a)

-- the action under way: its request is queued and unblocked; a read's halfword will be on the bus in the slot in which it is taken
pub record Coming (q : Queue) (d : Sdram) (f : Flat) (i left : ℕ) : Type 0 where
  pub servable : Servable (held_of q) i
  pub kind : (get_or (held_of q) i no_request).kind ≡ Kind.Read
  pub least : 1 ≤ left
  pub driven : driven_in (d.log.now + left - 1) d.driven ≡ some (f.given (get_or (held_of q) i no_request).number)

abbrev pub Doing : Queue → Sdram → Flat → Action → Type 0
Doing q d f (PowerUp n) = Unit {0}
Doing q d f InitPrecharge = Unit {0}
Doing q d f (InitRefresh n) = Unit {0}
Doing q d f InitMode = Unit {0}
Doing q d f InitSettle = Unit {0}
Doing q d f Idle = Unit {0}
Doing q d f (Access i) = Servable (held_of q) i
Doing q d f (CasLatency i left) = Coming q d f i left
Doing q d f Turnaround = Unit {0}
Doing q d f PrechargeAll = Unit {0}
Doing q d f Refresh = Unit {0}
Doing q d f (RefreshCycle left) = Unit {0}

-- over the parts of a world that it speaks of
pub record Ordered (g : Geometry) (q : Queue) (a : Action) (accepted : ℕ) (d : Sdram) (f : Flat) (reported : List ℕ) : Type 0 where
  pub tidy : Tidy q
  pub good : Each (Good g) (held_of q)
  pub rising : Rising 0 accepted (held_of q)
  pub counted : accepted ≡ f.count
  pub kinds : Each (λ r. f.kinds r.number ≡ r.kind) (held_of q)
  pub unreported : Each (λ r. Memᴰ r.number reported → ⊥) (held_of q)
  pub known : (n : ℕ) → Memᴰ n reported → n ≤ accepted
  pub memory : Consistent (Ok g) f.given (seen g d.cells) (held_of q) f.contents
  pub doing : Doing q d f a

-- Part C: refresh. `left` is an upper bound on the slots that the action under way still takes.

-- what is left of a distance
unfoldable pub short : Config → Past → Distance → ℕ
short c p d = slots_of c d - age_of p d

-- what keeps a PRE of the bank back, and a DEAC
unfoldable pub bank_held : Config → Past → ℕ → ℕ
bank_held c p b = max (short c p (row_active b)) (short c p (write_recovery b))

unfoldable pub open_held : Config → Past → ℕ → ℕ
open_held c p b = cond (is_some (row_at p b)) (bank_held c p b) 0

unfoldable pub all_held : Config → Past → ℕ
all_held c p = max (max (open_held c p 0) (open_held c p 1)) (max (open_held c p 2) (open_held c p 3))

-- what R16 keeps a REFR back
unfoldable pub row_cycle_held : Config → Past → ℕ
row_cycle_held c p = max (max (short c p (row_cycle 0)) (short c p (row_cycle 1))) (max (short c p (row_cycle 2)) (short c p (row_cycle 3)))

-- what keeps a refresh's REFR back, with its DEAC sent: the longer of R15's and R16's wait
unfoldable pub refr_held : Config → Past → ℕ
refr_held c p = max (short c p any_precharge) (row_cycle_held c p)

-- and with its DEAC to come: the longer of the DEAC's wait with tRP, and R16's
unfoldable pub refresh_held : Config → Past → ℕ
refresh_held c p = max (all_held c p + c.rp) (row_cycle_held c p)

-- what R7 keeps an ACT of bank b back
unfoldable pub other_held : Config → Past → ℕ → ℕ → ℕ
other_held c p b other = cond (eqb other b) 0 (short c p (row_to_row other))

unfoldable pub others_held : Config → Past → ℕ → ℕ
others_held c p b = max (max (other_held c p b 0) (other_held c p b 1)) (max (other_held c p b 2) (other_held c p b 3))

-- READ or WRT, with its row open: the wait, then CL + 2 slots at most
unfoldable pub transfer_left : Config → Past → Kind → ℕ → ℕ
transfer_left c p Kind.Read b = short c p (row_to_column b) + c.latency + 2
transfer_left c p Kind.Write b = short c p (row_to_column b) + short c p read_to_write + 1

-- ACT first: then tRCD and the transfer
unfoldable pub activate_left : Config → Past → ℕ → ℕ
activate_left c p b = short c p (row_precharge b) + short c p (row_cycle b) + others_held c p b + c.rcd + c.latency + 2

-- PRE first: then tRP, and so on
unfoldable pub precharge_left : Config → Past → ℕ → ℕ
precharge_left c p b = bank_held c p b + c.rp + short c p (row_cycle b) + others_held c p b + c.rcd + c.latency + 2

-- by the bank's open row
abbrev pub row_left : Config → Past → Option Row → Kind → Cell → ℕ
row_left c p none kind x = activate_left c p x.bank.0
row_left c p (some y) kind x = cond (eqb y.0 x.row.0) (transfer_left c p kind x.bank.0) (precharge_left c p x.bank.0)

unfoldable pub access_left : Config → Past → Kind → Cell → ℕ
access_left c p kind x = row_left c p (row_at p x.bank.0) kind x

-- the initialisation has none: its slots are counted (Start)
abbrev pub left_of : Config → Past → Queue → Action → ℕ
left_of c p q (PowerUp n) = 0
left_of c p q InitPrecharge = 0
left_of c p q (InitRefresh n) = 0
left_of c p q InitMode = 0
left_of c p q InitSettle = 0
left_of c p q Idle = 0
left_of c p q (Access i) = let r : Request = get_of q i in access_left c p r.kind (cell_for c.geometry r)
left_of c p q (CasLatency i left) = left + 1
left_of c p q Turnaround = 1
left_of c p q PrechargeAll = refresh_held c p + c.rfc
left_of c p q Refresh = refr_held c p + c.rfc
left_of c p q (RefreshCycle left) = left

-- what a refresh owed now waits for besides: nothing if the action is that refresh, otherwise a whole refresh after the action
abbrev pub due_of : Config → Action → ℕ
due_of c (PowerUp n) = c.refresh
due_of c InitPrecharge = c.refresh
due_of c (InitRefresh n) = c.refresh
due_of c InitMode = c.refresh
due_of c InitSettle = c.refresh
due_of c Idle = c.refresh
due_of c (Access i) = c.refresh
due_of c (CasLatency i left) = c.refresh
due_of c Turnaround = c.refresh
due_of c PrechargeAll = 0
due_of c Refresh = 0
due_of c (RefreshCycle left) = c.refresh

-- the slots until a refresh owed now could have its REFR behind it: its own, or those of the action under way and a refresh after it
abbrev pub need_of : Config → Past → Queue → Action → ℕ
need_of c p q a = left_of c p q a + due_of c a

-- R2 is kept, but for what is left of a refresh; slots that are counted down are left, no more than there were; no action of the initialisation is under way
abbrev pub Settled : Config → Past → Action → Type 0
Settled c p (PowerUp n) = ⊥
Settled c p InitPrecharge = ⊥
Settled c p (InitRefresh n) = ⊥
Settled c p InitMode = ⊥
Settled c p InitSettle = ⊥
Settled c p Idle = c.rfc ≤ age_of p refresh_cycle
Settled c p (Access i) = c.rfc ≤ age_of p refresh_cycle
Settled c p (CasLatency i left) = (c.rfc ≤ age_of p refresh_cycle) × (1 ≤ left) × (left ≤ c.latency)
Settled c p Turnaround = c.rfc ≤ age_of p refresh_cycle
Settled c p PrechargeAll = c.rfc ≤ age_of p refresh_cycle
Settled c p Refresh = (c.rfc ≤ age_of p refresh_cycle) × (all_closed (row_at p) ≡ true)
Settled c p (RefreshCycle left) = (c.rfc ≤ age_of p refresh_cycle + left) × (1 ≤ left) × (left < c.rfc)

-- a refresh whose REFR is still to come is owed
abbrev pub Owing : Action → Counters → Type 0
Owing (PowerUp k) n = Unit {0}
Owing InitPrecharge n = Unit {0}
Owing (InitRefresh k) n = Unit {0}
Owing InitMode n = Unit {0}
Owing InitSettle n = Unit {0}
Owing Idle n = Unit {0}
Owing (Access i) n = Unit {0}
Owing (CasLatency i left) n = Unit {0}
Owing Turnaround n = Unit {0}
Owing PrechargeAll n = 1 ≤ n.backlog
Owing Refresh n = 1 ≤ n.backlog
Owing (RefreshCycle left) n = Unit {0}

-- in service
pub record Timely (c : Config) (p : Past) (q : Queue) (a : Action) (n : Counters) : Type 0 where
  pub programmed : p.programmed ≡ true
  pub mode : 2 ≤ age_of p mode_register
  pub settled : Settled c p a
  pub owing : Owing a n
  pub bounded : need_of c p q a < c.rr
  pub low : n.backlog ≤ 12
  pub full : n.backlog ≡ 12 → need_of c p q a < n.interval

-- Part D: ranges. The flat memory holds and gave halfwords, and no more requests were accepted than have numbers; so every report has a word.
pub record Ranged (f : Flat) : Type 0 where
  pub contents : (a : ℕ) → f.contents a < 65536
  pub given : (n : ℕ) → f.given n < 65536
  pub count : f.count ≤ last_number
