-- Order and memory at the start, at an accepted request, at a choice, and once all is reported: each field by its law of the queue.
use Prim.Native.Nat.{ℕ, ◌+◌, ◌%◌, ◌≤◌, ◌<◌}
use mathlib.Core.Path.{◌≡◌, refl, sym, ◌∙◌}
use mathlib.Core.Bool.{Bool}
use mathlib.Core.List.Memᴰ
use mathlib.Core.List.{List, [], ◌∷◌, ◌++◌, Memᴰ}
use native.Mathlib.Omega.{arith}
use borrow.Author.Tests.{eq-eqb, ne_eqb}
use lib.Dec.{eqb}
use lib.ListN.{length, get_or, get_or-append}
use Rattle.std.specs.Prelude.{Option, Some, None}
use Rattle.config.specs.declared.Geometry.{Geometry}
use Rattle.address.specs.Map.{capacity_of, cell_of, address_number_of}
use Rattle.address.specs.Memory.{put}
use Rattle.address.proofs.Laws.{address_good}
use Rattle.device.proofs.Tests.{if_both}
use Rattle.queue.specs.declared.Kind.{Kind}
use Rattle.queue.specs.declared.Kind.TheVariants.{Read, Write}
use Rattle.queue.specs.declared.Queue.{Queue}
use Rattle.queue.specs.declared.Request.{Request}
use Rattle.queue.specs.Places.{request_for, held_of, no_request, empty_of, accept_of}
use Rattle.queue.specs.Oldest.{oldest_of}
use Rattle.queue.proofs.Order.{Each, none, more, Servable}
use Rattle.queue.proofs.Consistent.{applied, Consistent, same}
use Rattle.queue.proofs.Each.{each_append, each_at, each_map}
use Rattle.queue.proofs.Tidy.{tidy_empty, tidy_accept, held_accept}
use Rattle.queue.proofs.Oldest.{oldest_found, servable_arrive}
use Rattle.queue.proofs.Memory.{arrive, consistent_empty}
use Rattle.queue.proofs.Numbers.{rising_empty, rising_accept, rising_each}
use Rattle.refresh.specs.declared.Level.{Level}
use Rattle.refresh.specs.Urgency.{level_of, run_of}
use Rattle.plan.specs.declared.Action.{Action}
use Rattle.plan.specs.declared.Action.TheVariants.{
  PowerUp,
  InitPrecharge,
  InitRefresh,
  InitMode,
  InitSettle,
  Idle,
  Access,
  CasLatency,
  Turnaround,
  PrechargeAll,
  Refresh,
  RefreshCycle,
}
use Rattle.plan.specs.declared.Control.{Control}
use Rattle.plan.specs.Actions.{is_idle}
use Rattle.plan.specs.Choice.{Choice, access_or, needs, idle_refresh, rules_of, choice_of, current_of}
use Rattle.model.specs.Sdram.{Cells, Sdram, start_sdram}
use Rattle.model.specs.Flat.{Flat, start_flat, taken}
use Rattle.theorem.proofs.Invariant.{Ok, seen, Coming, Doing, Ordered}

-- At the start nothing is queued, and the flat memory is what the cells hold.
pub ordered-start : (g : Geometry) (first : Cells) (n : ℕ) → Ordered g empty_of (PowerUp n) 0 (start_sdram first) (start_flat g first) []
unfolding empty_of start_sdram start_flat
ordered-start g first n = record {
  tidy = tidy_empty;
  good = none;
  rising = rising_empty;
  counted = refl;
  kinds = none;
  unreported = none;
  known = λ n m. absurd (Memᴰ.not-nil m);
  memory = same (λ a o. refl);
  doing = tt;
}

-- two properties of each request
pub each_both : {P Q : Request → Type 0} {l : List Request} → Each P l → Each Q l → Each (λ r. P r × Q r) l
each_both none none = none
each_both (more p ps) (more q qs) = more (p, q) (each_both ps qs)

put_same : {A : Type 0} (f : ℕ → A) (at : ℕ) (v : A) (n : ℕ) → n ≡ at → put eqb f at v n ≡ v
put_same f at v n e = rw (eq-eqb n at e)

put_other : {A : Type 0} (f : ℕ → A) (at : ℕ) (v : A) (n : ℕ) → (n ≡ at → ⊥) → put eqb f at v n ≡ f n
put_other f at v n e = rw (ne_eqb n at e)

module _ {g : Geometry} {q : Queue} {a : Action} {n : ℕ} {d : Sdram} {f : Flat} {reported : List ℕ} (o : Ordered g q a n d f reported)
    (kind : Kind) (address halfword : ℕ) (fits : halfword < 65536) (room : q.count < 8) where
  abbrev new : Request
  new = request_for kind (n + 1) address halfword

  abbrev flat : Flat
  flat = taken f kind address halfword

  -- what was given to the older requests, and their kinds, stay
  given-older : (k : ℕ) → k ≤ n → flat.given k ≡ f.given k
  unfolding taken
  given-older k h = put_other f.given (f.count + 1) (f.contents address) k (λ e. omega (arith, o.counted))

  kinds-older : (k : ℕ) → k ≤ n → flat.kinds k ≡ f.kinds k
  unfolding taken
  kinds-older k h = put_other f.kinds (f.count + 1) kind k (λ e. omega (arith, o.counted))

  -- the action under way goes on
  at-arrive : (i : ℕ) → i < length (held_of q) → get_or (held_of (accept_of q new)) i no_request ≡ get_or (held_of q) i no_request
  at-arrive i h = rw (held_accept new fits o.tidy room) (get_or-append (held_of q) (new ∷ []) no_request i h)

  servable-accept : (i : ℕ) → Servable (held_of q) i → Servable (held_of (accept_of q new)) i
  servable-accept i s = rw (held_accept new fits o.tidy room) (servable_arrive (new ∷ []) s)

  coming-accept : (i left : ℕ) → Coming q d f i left → Coming (accept_of q new) d flat i left
  coming-accept i left v =
      let e = at-arrive i v.servable.within in
      let h = each_at (rising_each o.rising) i v.servable.within in
      record {
        servable = servable-accept i v.servable;
        kind = rw e v.kind;
        least = v.least;
        driven = rw (e, given-older (get_or (held_of q) i no_request).number h.1) v.driven;
      }

  doing-accept : (b : Action) → Doing q d f b → Doing (accept_of q new) d flat b
  doing-accept (PowerUp k) v = tt
  doing-accept InitPrecharge v = tt
  doing-accept (InitRefresh k) v = tt
  doing-accept InitMode v = tt
  doing-accept InitSettle v = tt
  doing-accept Idle v = tt
  doing-accept (Access i) v = servable-accept i v
  doing-accept (CasLatency i left) v = coming-accept i left v
  doing-accept Turnaround v = tt
  doing-accept PrechargeAll v = tt
  doing-accept Refresh v = tt
  doing-accept (RefreshCycle left) v = tt

  memory-accept : Ok g address → Consistent (Ok g) flat.given (seen g d.cells) (held_of q ++ (new ∷ [])) flat.contents
  unfolding taken applied
  memory-accept ok =
      (arrive flat.given new
      (each_map (λ r p. given-older r.number p.1) (rising_each o.rising))
      (λ k. put_same f.given (f.count + 1) (f.contents address) (n + 1) (omega (arith, o.counted)))
      ok
      o.memory)

  -- An accepted request: the flat memory takes it at once, the queue keeps it.
  pub ordered-request : address_number_of g address ≡ 0
      → Ordered g (accept_of q (request_for kind (n + 1) address halfword)) a (n + 1) d (taken f kind address halfword) reported
  unfolding taken
  ordered-request valid =
      let ok = address_good g address valid in
      let e = held_accept new fits o.tidy room in
      record {
        tidy = tidy_accept new o.tidy;
        good = rw e (each_append o.good (more ok none));
        rising = rw e (rising_accept new refl o.rising);
        counted = omega (arith, o.counted);
        kinds =
            rw e
            (each_append
            (each_map (λ r p. kinds-older r.number p.0.1 ∙ p.1) (each_both (rising_each o.rising) o.kinds))
            (more (put_same f.kinds (f.count + 1) kind (n + 1) (omega (arith, o.counted))) none));
        unreported = rw e (each_append o.unreported (more (λ m. omega (arith, o.known (n + 1) m)) none));
        known = λ k m. omega (arith, o.known k m);
        memory = rw e (memory-accept ok);
        doing = doing-accept a o.doing;
      }

-- the same where no cell has changed, with another action under way
pub ordered-kept : {g : Geometry} {q : Queue} {a b : Action} {n : ℕ} {d e : Sdram} {f : Flat} {reported : List ℕ}
    → e.cells ≡ d.cells → Ordered g q a n d f reported → Doing q e f b → Ordered g q b n e f reported
ordered-kept p o v = record {
  tidy = o.tidy;
  good = o.good;
  rising = o.rising;
  counted = o.counted;
  kinds = o.kinds;
  unreported = o.unreported;
  known = o.known;
  memory = rw p o.memory;
  doing = v;
}

module _ (q : Queue) (d : Sdram) (f : Flat) where
  found-doing : (k : Kind) (later : Action) → Doing q d f later → Doing q d f (access_or (oldest_of k (held_of q)) later)
  found-doing k later v = go (oldest_of k (held_of q)) refl
    where
      go : (x : Option ℕ) → oldest_of k (held_of q) ≡ x → Doing q d f (access_or x later)
      go (Some i) e = (oldest_found k (held_of q) i e).servable
      go None e = v

  choice-doing : (run : Bool) (level : Level) (closed : Bool)
      → Doing q d f (rules_of run level (oldest_of Read (held_of q)) (oldest_of Write (held_of q)) closed)
  unfolding rules_of
  choice-doing run level closed =
      if_both (Doing q d f) run (λ h. tt)
      (λ h. found-doing Read _
      (if_both (Doing q d f) (needs level) (λ h. tt)
      (λ h. found-doing Write _ (if_both (Doing q d f) (idle_refresh level closed) (λ h. tt) (λ h. tt)))))

-- The action of a slot: the request that a choice names is queued and unblocked.
pub ordered-current : {g : Geometry} {q : Queue} (x : Control) (backlog : ℕ) (closed : Bool) {n : ℕ} {d : Sdram} {f : Flat} {reported : List ℕ}
    → Ordered g q x.action n d f reported
    → Ordered g (current_of x backlog q closed).queue (current_of x backlog q closed).control.action n d f reported
unfolding current_of choice_of
ordered-current {g} {q} x backlog closed {n} {d} {f} {reported} o =
    if_both (λ (t : Choice). Ordered g t.queue t.control.action n d f reported) (is_idle x.action)
    (λ e. ordered-kept {d = d} {e = d} refl o (choice-doing q d f (run_of x.must (level_of backlog)) (level_of backlog) closed))
    (λ e. o)

-- a queue whose requests are all reported is empty
all-empty : {n : ℕ} {reported : List ℕ} {l : List Request} → ((k : ℕ) → 1 ≤ k → k ≤ n → Memᴰ k reported)
    → Each (λ r. (0 < r.number) × (r.number ≤ n)) l → Each (λ r. Memᴰ r.number reported → ⊥) l → l ≡ []
all-empty all none none = refl
all-empty all (more p ps) (more u us) = absurd (u (all _ p.0 p.1))

-- Once all is reported, the flat memory is what the cells hold.
pub ordered-agree : {g : Geometry} {q : Queue} {a : Action} {n : ℕ} {d : Sdram} {f : Flat} {reported : List ℕ} → Ordered g q a n d f reported
    → ((k : ℕ) → 1 ≤ k → k ≤ f.count → Memᴰ k reported)
    → (x : ℕ) → x % 2 ≡ 0 → x < capacity_of g → f.contents x ≡ d.cells (cell_of g x)
ordered-agree {q = q} o all x even below =
    let e : held_of q ≡ [] = all-empty (λ k i j. all k i (omega (arith, o.counted))) (rising_each o.rising) o.unreported in
    sym (consistent_empty (rw e at o.memory) x (even, below))
