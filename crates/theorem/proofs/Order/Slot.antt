-- Order and memory through a slot: a slot that serves a request takes it out of the queue and does to the cells what it asks; no other changes a cell.
use Prim.Native.Nat.{ℕ, suc, ◌+◌, ◌-◌, ◌≤◌, ◌<◌}
use mathlib.Core.Path.{◌≡◌, refl, sym, ap, ◌∙◌}
use mathlib.Core.Bool.{true, false}
use mathlib.Core.List.Memᴰ
use mathlib.Core.List.{List, ◌∷◌, Memᴰ}
use mathlib.Core.Option.{Option, none, some}
use mathlib.Core.Logic.{◌⊎◌, inl, inr}
use native.Mathlib.Omega.{arith}
use borrow.Author.Tests.{leb-true, leb-false, eq-eqb}
use lib.Dec.{eqb, leb}
use lib.ListN.{length, get_or}
use Rattle.config.specs.declared.Config.{Config}
use Rattle.config.specs.declared.Geometry.{Geometry}
use Rattle.config.specs.Accepted.{Accepted}
use Rattle.address.specs.declared.Row.{Row}
use Rattle.address.specs.declared.Cell.{Cell}
use Rattle.address.proofs.Laws.{cell_within}
use Rattle.command.specs.declared.Command.{Command}
use Rattle.command.specs.declared.Command.TheVariants.{Nop, Act, Wrt, Pre, Deac, Refr, Mrs}
use Rattle.device.specs.Rules.{legal_of}
use Rattle.device.specs.History.{open_row}
use Rattle.device.proofs.Tests.{if_both}
use Rattle.ages.specs.declared.Past.{Past}
use Rattle.ages.specs.Ages.{row_at, by_ages}
use Rattle.ages.proofs.Agree.{Agrees, same_verdict}
use Rattle.queue.specs.declared.Kind.{Kind}
use Rattle.queue.specs.declared.Queue.{Queue}
use Rattle.queue.specs.declared.Request.{Request}
use Rattle.queue.specs.Places.{cell_for, held_of, no_request, get_of, remove_of}
use Rattle.queue.proofs.Order.{Each, Servable, without}
use Rattle.queue.proofs.Consistent.{applied, ReadsRight, Consistent}
use Rattle.queue.proofs.Each.{each_without, each_at, each_map}
use Rattle.queue.proofs.Tidy.{Tidy, tidy_length, tidy_remove, held_remove, get_held}
use Rattle.queue.proofs.Memory.{serve_at, consistent_memory, served_read, served_write}
use Rattle.queue.proofs.Numbers.{rising_remove, rising_each, rising_apart}
use Rattle.plan.specs.declared.Action.{Action}
use Rattle.plan.specs.declared.Action.TheVariants.{
  PowerUp,
  InitPrecharge,
  InitRefresh,
  InitMode,
  InitSettle,
  Idle,
  Access,
  CasLatency,
  Turnaround,
  PrechargeAll,
  Refresh,
  RefreshCycle,
}
use Rattle.plan.specs.declared.Report.{Report}
use Rattle.plan.specs.Actions.{under_way}
use Rattle.plan.specs.Plan.{
  quietly,
  tries,
  rest,
  after_pause,
  after_init_refresh,
  mode_word,
  read_plan,
  write_plan,
  transfer_plan,
  access_plan,
  taken_plan,
  latency_plan,
  cycle_left,
  refresh_plan,
  plan_of,
  queue_after,
}
use Rattle.soundness.proofs.Plans.{Served, performed_of, served_of, sending, performed_both, rest_only}
use Rattle.model.specs.Sdram.{Sdram, driven_in, open_cell, takes, sdram_after}
use Rattle.model.specs.Flat.{Flat}
use Rattle.model.specs.World.{World, bus_of, reported_after}
use Rattle.model.specs.Condition.{Named, Reports}
use Rattle.theorem.proofs.Timing.Actions.{bank-four}
use Rattle.theorem.proofs.Invariant.{Ok, Good, seen, Coming, Doing, Ordered}
use Rattle.theorem.proofs.Order.Queue.{each_both, ordered-kept}
use Rattle.theorem.proofs.Order.Cells.{
  Unwritten,
  cells-unwritten,
  driven-nop,
  now-after,
  open-cell,
  driven-read,
  cells_written,
  seen_stored,
}

-- the report is right in every world with this flat memory and these numbers reported
abbrev pub Told : Flat → List ℕ → Report → Type 0
Told f reported r = (w : World) → w.flat ≡ f → w.reported ≡ reported → Reports w r

-- A queued request that no older one blocks.
module _ {g : Geometry} {q : Queue} {a : Action} {n : ℕ} {d : Sdram} {f : Flat} {reported : List ℕ} (o : Ordered g q a n d f reported)
    {i : ℕ} (s : Servable (held_of q) i) (r : Request) (e : r ≡ get_or (held_of q) i no_request) where
  -- what holds of each holds of it
  its : {P : Request → Type 0} → Each P (held_of q) → P r
  its {P} h = rw e (each_at h i s.within)

  -- it can be served now
  answered : ReadsRight f.given (seen g d.cells) r
  answered = rw e (serve_at s o.memory).0

  others : Consistent (Ok g) f.given (applied (seen g d.cells) r) (without i (held_of q)) f.contents
  others = rw e (serve_at s o.memory).1

  -- its report
  named : (kind : Kind) → r.kind ≡ kind → (w : World) → w.flat ≡ f → w.reported ≡ reported → Named w kind r.number
  named kind k w p l =
      let h = its (rising_each o.rising) in
      record {
        least = h.0;
        accepted = rw p (omega (arith, o.counted, h.1));
        new = rw l (its o.unreported);
        of_kind = rw p (its o.kinds ∙ k);
      }

  -- it leaves the queue
  ordered-removed : {d' : Sdram} {b : Action} → ((x : ℕ) → Ok g x → applied (seen g d.cells) r x ≡ seen g d'.cells x)
      → Doing (remove_of q i) d' f b → Ordered g (remove_of q i) b n d' f (r.number ∷ reported)
  ordered-removed {d'} {b} m v =
      let k : i < q.count = omega (arith, s.within, tidy_length o.tidy) in
      let h = held_remove i o.tidy k in
      record {
        tidy = tidy_remove i o.tidy k;
        good = rw h (each_without i o.good);
        rising = rw h (rising_remove i o.rising);
        counted = o.counted;
        kinds = rw h (each_without i o.kinds);
        unreported =
            rw h
            (each_map (λ x p t. still x p.0 p.1 (Memᴰ.cases_cons t))
            (each_both (each_without i o.unreported) (rising_apart i s.within o.rising)));
        known = λ k t. known k (Memᴰ.cases_cons t);
        memory = rw h (consistent_memory (each_without i o.good) m others);
        doing = v;
      }
    where
      still : (x : Request) → (Memᴰ x.number reported → ⊥) → (x.number ≡ (get_or (held_of q) i no_request).number → ⊥)
          → (x.number ≡ r.number) ⊎ Memᴰ x.number reported → ⊥
      still x u t (inl p) = t (p ∙ ap (λ (y : Request). y.number) e)
      still x u t (inr p) = u p

      known : (k : ℕ) → (k ≡ r.number) ⊎ Memᴰ k reported → k ≤ n
      known k (inl p) = rw p (its (rising_each o.rising)).1
      known k (inr p) = o.known k p

-- a report takes one request out of the queue
remove-count : (q : Queue) (i : ℕ) → i < length (held_of q) → Tidy q → (remove_of q i).count + 1 ≡ q.count
unfolding remove_of
remove-count q i h t = omega (arith, tidy_length t, h)

-- what a slot leaves, with the request under way at place `at`, and that its report is right
pub record Acted (c : Config) (n : ℕ) (q : Queue) (at : ℕ) (d : Sdram) (f : Flat) (reported : List ℕ) (s : Served) : Type 0 where
  pub ordered : Ordered c.geometry (queue_after q at s.outcome.leaves) s.outcome.action n (sdram_after c d s.command) f
      (reported_after s.outcome.report reported)
  pub reports : Told f reported s.outcome.report
  pub counted : (queue_after q at s.outcome.leaves).count + length (reported_after s.outcome.report reported) ≡ q.count + length reported

-- where the SDRAM has a halfword on the bus, the bus carries it
abbrev pub Carries : Sdram → ℕ → Type 0
Carries d bus = (h : ℕ) → driven_in d.log.now d.driven ≡ some h → bus ≡ h

pub bus-carries : (w : World) (any : ℕ) → Carries w.sdram (bus_of w any)
unfolding bus_of
bus-carries w any h e = rw e

-- a command that is legal by the ages is taken
pub takes-legal : {c : Config} {p : Past} (d : Sdram) → Accepted c → Agrees p d.log → (k : Command) → legal_of c (by_ages c p) k ≡ true → takes c d k ≡ true
unfolding takes
takes-legal d u v k l = sym (same_verdict u v k) ∙ l

-- a read's READ and a write's WRT
abbrev readFor : Cell → Command
readFor x = Command.Read x.bank x.column

abbrev writeFor : Request → Cell → Command
writeFor r x = Wrt x.bank x.column r.halfword

-- the cell that these go to is open
abbrev Open : Sdram → Cell → Type 0
Open d x = open_cell (open_row d.log.past x.bank.0) x.bank x.column ≡ some x

-- what does not look at the SDRAM
abbrev Steady : Queue → Flat → Action → Type 0
Steady q f b = (x : Sdram) → Doing q x f b

-- what the next action may be, whatever the SDRAM: none that looks at it
cycle-steady : (q : Queue) (f : Flat) (left : ℕ) → Steady q f (cycle_left left)
unfolding cycle_left
cycle-steady q f left x = if_both (Doing q x f) (leb left 0) (λ h. tt) (λ h. tt)

pause-steady : (q : Queue) (f : Flat) (n : ℕ) → Steady q f (after_pause n)
unfolding after_pause
pause-steady q f n x = if_both (Doing q x f) (leb n 1) (λ h. tt) (λ h. tt)

refreshes-steady : (q : Queue) (f : Flat) (n : ℕ) → Steady q f (after_init_refresh n)
unfolding after_init_refresh
refreshes-steady q f n x = if_both (Doing q x f) (leb n 1) (λ h. tt) (λ h. tt)

module _ {c : Config} {p : Past} {q : Queue} {a : Action} {n : ℕ} {d : Sdram} {f : Flat} {reported : List ℕ}
    (ok : Accepted c) (v : Agrees p d.log) (o : Ordered c.geometry q a n d f reported) (at : ℕ) where
  abbrev Fine : Served → Type 0
  Fine s = Acted c n q at d f reported s

  -- a slot that serves nothing
  quiet-fine : (k : Command) (next : Action) → Unwritten k → Doing q (sdram_after c d k) f next → Fine (sending p k (quietly next))
  unfolding quietly queue_after
  quiet-fine k next h i = record { ordered = ordered-kept (cells-unwritten c d k h) o i; reports = λ w x y. tt; counted = refl }

  rest-fine : (next : Action) → Doing q (sdram_after c d Nop) f next → Fine (performed_of c p (rest next))
  rest-fine next i = rest_only c p Fine next (quiet-fine Nop next tt i)

  tried-fine : (k : Command) (stays next : Action) → Unwritten k → Steady q f stays → Steady q f next → Fine (performed_of c p (tries k stays next))
  unfolding tries
  tried-fine k stays next h i j =
      performed_both c p Fine (tries k stays next)
      (λ l. quiet-fine k next h (j (sdram_after c d k)))
      (λ l. quiet-fine Nop stays tt (i (sdram_after c d Nop)))

  refresh-fine : Fine (performed_of c p (refresh_plan c))
  unfolding refresh_plan queue_after
  refresh-fine =
      performed_both c p Fine (refresh_plan c)
      (λ l. record {
        ordered = ordered-kept (cells-unwritten c d Refr tt) o (cycle-steady q f (c.rfc - 1) (sdram_after c d Refr));
        reports = λ w x y. tt;
        counted = refl;
      })
      (λ l. quiet-fine Nop Refresh tt tt)

  -- a read's halfword is on the bus
  taken_fine : (bus : ℕ) → Coming q d f at 1 → Carries d bus → Fine (performed_of c p (taken_plan (get_of q at) bus))
  unfolding taken_plan queue_after
  taken_fine bus k b =
      performed_both c p Fine (taken_plan (get_of q at) bus)
      (λ l. fine)
      (λ l. quiet-fine Nop Turnaround tt tt)
    where
      e : get_of q at ≡ get_or (held_of q) at no_request
      e = get_held at o.tidy

      now : d.log.now + 1 - 1 ≡ d.log.now
      now = omega arith

      fine : Fine (sending p Nop (record { action = Turnaround; report = Report.Read (get_of q at).number bus; leaves = true; refreshes = false }))
      fine =
          record {
            ordered =
                ordered-removed o k.servable (get_of q at) e
                (λ x h. rw (cells-unwritten c d Nop tt, served_read (seen c.geometry d.cells) (get_of q at) (rw e k.kind)))
                tt;
            reports = λ w x y. (
              named o k.servable (get_of q at) e Kind.Read (rw e k.kind) w x y,
              rw (x, e) (b _ (rw now at k.driven)),
            );
            counted = omega (arith, remove-count q at k.servable.within o.tidy);
          }

  waits : (left : ℕ) → 1 < left → Coming q d f at left → Coming q (sdram_after c d Nop) f at (left - 1)
  waits left h k =
      let now : suc d.log.now + (left - 1) - 1 ≡ d.log.now + left - 1 = omega arith in
      record {
        servable = k.servable;
        kind = k.kind;
        least = omega arith;
        driven = rw (now-after c d Nop, driven-nop c d, now) k.driven;
      }

  latency-fine : (left bus : ℕ) → Coming q d f at left → Carries d bus → Fine (performed_of c p (latency_plan at left (get_of q at) bus))
  unfolding latency_plan
  latency-fine left bus k b =
      if_both (λ x. Fine (performed_of c p x)) (leb left 1)
      (λ h. let one : left ≡ 1 = omega (arith, leb-true left 1 h, k.least) in taken_fine bus (rw one at k) b)
      (λ h. rest-fine (CasLatency at (left - 1)) (waits left (leb-false left 1 h) k))

  -- an access whose row is open: its cell is the open one
  here-open : (r : Request) {y : Row} → row_at p (cell_for c.geometry r).bank.0 ≡ some y → eqb y.0 (cell_for c.geometry r).row.0 ≡ true
      → Open d (cell_for c.geometry r)
  here-open r opened row = open-cell v (cell_for c.geometry r) (bank-four ok (cell_within c.geometry r.address)) opened row

  -- the request under way, and its cell
  abbrev r : Request
  r = get_of q at

  abbrev x : Cell
  x = cell_for c.geometry r

  held : r ≡ get_or (held_of q) at no_request
  held = get_held at o.tidy

  read-coming : Servable (held_of q) at → r.kind ≡ Kind.Read → Open d x → legal_of c (by_ages c p) (readFor x) ≡ true
      → Coming q (sdram_after c d (readFor x)) f at c.latency
  read-coming s k opened l =
      let t = takes-legal d ok v (readFor x) l in
      record {
        servable = s;
        kind = rw (← held) k;
        least = omega (arith, ok.latency_least);
        driven =
            rw (
              ← held,
              now-after c d (readFor x),
              driven-read c d x.bank x.column x t opened,
              eq-eqb (d.log.now + c.latency) (suc d.log.now + c.latency - 1) (omega arith),
            )
            (ap some (sym (answered o s r held k)));
      }

  read-fine : Servable (held_of q) at → r.kind ≡ Kind.Read → Open d x → Fine (performed_of c p (read_plan c at x))
  unfolding read_plan tries
  read-fine s k opened =
      performed_both c p Fine (read_plan c at x)
      (λ l. quiet-fine (readFor x) (CasLatency at c.latency) tt (read-coming s k opened l))
      (λ l. quiet-fine Nop (Access at) tt s)

  -- what a write's WRT leaves in the cells is what serving the write does to the memory
  write-served : Good c.geometry r → r.kind ≡ Kind.Write → Open d x → legal_of c (by_ages c p) (writeFor r x) ≡ true
      → (y : ℕ) → Ok c.geometry y
      → applied (seen c.geometry d.cells) r y ≡ seen c.geometry (sdram_after c d (writeFor r x)).cells y
  write-served h k opened l y i =
      let t = takes-legal d ok v (writeFor r x) l in
      rw (
        cells_written c d x.bank x.column r.halfword x t opened,
        served_write (seen c.geometry d.cells) r k,
      )
      (sym (seen_stored c.geometry d.cells r.address r.halfword y h i))

  write-fine : Servable (held_of q) at → r.kind ≡ Kind.Write → Open d x → Fine (performed_of c p (write_plan at r x))
  unfolding write_plan queue_after
  write-fine s k opened =
      performed_both c p Fine (write_plan at r x)
      (λ l. record {
        ordered = ordered-removed o s r held (write-served (its o s r held o.good) k opened l) tt;
        reports = λ w y z. (named o s r held Kind.Write k w y z, tt);
        counted = omega (arith, remove-count q at s.within o.tidy);
      })
      (λ l. quiet-fine Nop (Access at) tt s)

  transfer-fine : Servable (held_of q) at → (kind : Kind) → r.kind ≡ kind → Open d x → Fine (performed_of c p (transfer_plan c at r x kind))
  unfolding transfer_plan
  transfer-fine s Kind.Read k opened = read-fine s k opened
  transfer-fine s Kind.Write k opened = write-fine s k opened

  access-fine : Servable (held_of q) at → Fine (performed_of c p (access_plan c (row_at p x.bank.0) at r x))
  unfolding access_plan
  access-fine s = go (row_at p x.bank.0) refl
    where
      go : (y : Option Row) → row_at p x.bank.0 ≡ y → Fine (performed_of c p (access_plan c y at r x))
      go none e = tried-fine (Act x.bank x.row) (Access at) (Access at) tt (λ y. s) (λ y. s)
      go (some y) e =
          if_both (λ plan. Fine (performed_of c p plan)) (eqb y.0 x.row.0)
          (λ t. transfer-fine s r.kind refl (here-open r e t))
          (λ t. tried-fine (Pre x.bank) (Access at) (Access at) tt (λ y. s) (λ y. s))

module _ {c : Config} {p : Past} {q : Queue} {n : ℕ} {d : Sdram} {f : Flat} {reported : List ℕ} (ok : Accepted c) (v : Agrees p d.log) (bus : ℕ) (w : Carries d bus) where
  -- A slot, whatever the action under way: order and memory stand, and its report is right.
  pub ordered-act : (a : Action) → Ordered c.geometry q a n d f reported
      → Acted c n q (under_way a) d f reported (served_of c p (get_of q (under_way a)) a bus)
  unfolding served_of plan_of
  ordered-act (PowerUp k) o = rest-fine ok v o 0 (after_pause k) (pause-steady q f k (sdram_after c d Nop))
  ordered-act InitPrecharge o = tried-fine ok v o 0 Deac InitPrecharge (InitRefresh 8) tt (λ x. tt) (λ x. tt)
  ordered-act (InitRefresh k) o = tried-fine ok v o 0 Refr (InitRefresh k) (after_init_refresh k) tt (λ x. tt) (refreshes-steady q f k)
  ordered-act InitMode o = tried-fine ok v o 0 (Mrs (mode_word c)) InitMode InitSettle tt (λ x. tt) (λ x. tt)
  ordered-act InitSettle o = rest-fine ok v o 0 Idle tt
  ordered-act Idle o = rest-fine ok v o 0 Idle tt
  ordered-act (Access i) o = access-fine ok v o i o.doing
  ordered-act (CasLatency i left) o = latency-fine ok v o i left bus o.doing w
  ordered-act Turnaround o = rest-fine ok v o 0 Idle tt
  ordered-act PrechargeAll o = tried-fine ok v o 0 Deac PrechargeAll Refresh tt (λ x. tt) (λ x. tt)
  ordered-act Refresh o = refresh-fine ok v o 0
  ordered-act (RefreshCycle left) o = rest-fine ok v o 0 (cycle_left (left - 1)) (cycle-steady q f (left - 1) (sdram_after c d Nop))
