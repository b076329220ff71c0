-- What the search for the oldest unblocked request found, or that there is none: by recursion on the places left to try.
use Prim.Native.Nat.{ℕ, zero, suc, ◌+◌, ◌≤◌, ◌<◌}
use mathlib.Core.Path.{◌≡◌, refl}
use mathlib.Core.Bool.{Bool, true, false, ◌&&◌, not, true≢false, false≢true}
use mathlib.Core.List.{List, [], ◌∷◌, ◌++◌}
use native.Mathlib.Decide.{ℕ_discrete}
use native.Mathlib.Omega.{arith}
use borrow.Author.Tests.{lt-ltb, ne_eqb, eqb-true, eqb-false, not-true, not-false}
use lib.Dec.{eqb}
use lib.ListN.{length, get_or, take, drop, length-append, get_or-append}
use lib.Seq.{split_at, take-append-le}
use Rattle.std.specs.Prelude.{Some, None}
use Rattle.queue.specs.declared.Kind.{Kind}
use Rattle.queue.specs.declared.Kind.TheVariants.{Read, Write}
use Rattle.queue.specs.declared.Request.{Request}
use Rattle.queue.specs.Places.{no_request}
use Rattle.queue.specs.Oldest.{same_kind, shared_by, blocked_of, ready_of, first_of, oldest_of}
use Rattle.address.specs.Map.{block_of}
use Rattle.queue.proofs.Order.{none, more, Free, Servable, OldestAt}

-- what a test that found place j says: it passes there, and failed at the places before
pub record First (test : ℕ → Bool) (i n j : ℕ) : Type 0 where
  pub from : i ≤ j
  pub below : j < i + n
  pub here : test j ≡ true
  pub before : (k : ℕ) → i ≤ k → k < j → test k ≡ false

here_or_later : (test : ℕ → Bool) (i k : ℕ) → i ≤ k → test i ≡ false → (suc i ≤ k → test k ≡ false) → test k ≡ false
here_or_later test i k h p later = go (ℕ_discrete k i)
  where
    go : Dec (k ≡ i) → test k ≡ false
    go (yes e) = rw e p
    go (no e) = later (omega arith)

pub first_found : (test : ℕ → Bool) (n i j : ℕ) → first_of test n i ≡ Some j → First test i n j
first_found test zero i j e = let z : ◌≡◌ {A = ℕ} 0 1 = cc in absurd (omega arith)
first_found test (suc n) i j e = go (test i) refl (first_found test n (suc i) j)
  where
    go : (b : Bool) → test i ≡ b → (first_of test n (suc i) ≡ Some j → First test (suc i) n j) → First test i (suc n) j
    go true p later =
        let found : Some i ≡ Some j = rw p at e in
        let same : i ≡ j = cc in
        record { from = omega arith; below = omega arith; here = rw (← same) p; before = λ k a b. absurd (omega arith) }
    go false p later =
        let found = later (rw p at e) in
        record {
          from = omega arith;
          below = omega arith;
          here = found.here;
          before = λ k a b. here_or_later test i k a p (λ c. found.before k c b);
        }

pub first_nothing : (test : ℕ → Bool) (n i : ℕ) → first_of test n i ≡ None → (k : ℕ) → i ≤ k → k < i + n → test k ≡ false
first_nothing test zero i e k a b = absurd (omega arith)
first_nothing test (suc n) i e k a b = go (test i) refl (first_nothing test n (suc i))
  where
    go : (b : Bool) → test i ≡ b → (first_of test n (suc i) ≡ None → (k : ℕ) → suc i ≤ k → k < suc i + n → test k ≡ false) → test k ≡ false
    go true p later =
        let found : Some i ≡ None = rw p at e in
        let z : ◌≡◌ {A = ℕ} 0 1 = cc in
        absurd (omega arith)
    go false p later = here_or_later test i k a p (λ c. later (rw p at e) k c (omega arith))

pub same_kind_lem : (a b : Kind) → same_kind a b ≡ true → a ≡ b
same_kind_lem Read Read e = refl
same_kind_lem Read Write e = absurd (false≢true e)
same_kind_lem Write Read e = absurd (false≢true e)
same_kind_lem Write Write e = refl

pub kind_same : (k : Kind) → same_kind k k ≡ true
kind_same Read = refl
kind_same Write = refl

-- no request of the list has the block
pub shared_false : (r : Request) (l : List Request) → shared_by (block_of r.address) l ≡ false → Free r l
shared_false r [] e = none
shared_false r (x ∷ xs) e = go (eqb (block_of x.address) (block_of r.address)) refl (shared_false r xs)
  where
    go : (b : Bool) → eqb (block_of x.address) (block_of r.address) ≡ b → (shared_by (block_of r.address) xs ≡ false → Free r xs) → Free r (x ∷ xs)
    go true p later = absurd (true≢false (rw p at e))
    go false p later = more (eqb-false _ _ p) (later (rw p at e))

pub free_shared : (r : Request) {l : List Request} → Free r l → shared_by (block_of r.address) l ≡ false
free_shared r none = refl
free_shared r (more p ps) = rw (ne_eqb _ _ p) (free_shared r ps)

-- a place where a request of the list has the block
pub shared_true : (b : ℕ) (l : List Request) → shared_by b l ≡ true → (j : ℕ) × (j < length l) × (block_of (get_or l j no_request).address ≡ b)
shared_true b [] e = absurd (false≢true e)
shared_true b (x ∷ xs) e = go (eqb (block_of x.address) b) refl (shared_true b xs)
  where
    go : (t : Bool) → eqb (block_of x.address) b ≡ t
        → (shared_by b xs ≡ true → (j : ℕ) × (j < length xs) × (block_of (get_or xs j no_request).address ≡ b))
        → (j : ℕ) × (j < suc (length xs)) × (block_of (get_or (x ∷ xs) j no_request).address ≡ b)
    go true p later = (0, omega arith, eqb-true _ _ p)
    go false p later = let r = later (rw p at e) in (suc r.0, omega arith, r.2)

-- unblocked means servable, both ways
pub blocked_false : (l : List Request) (at : ℕ) → at < length l → blocked_of l at ≡ false → Servable l at
unfolding blocked_of
blocked_false l at h e = record { within = h; free = shared_false (get_or l at no_request) (take at l) (rw (lt-ltb _ _ h) at e) }

pub servable_blocked : {l : List Request} {at : ℕ} → Servable l at → blocked_of l at ≡ false
unfolding blocked_of
servable_blocked {l} {at} s = simp (lt-ltb _ _ s.within, free_shared (get_or l at no_request) s.free)

both : (a b : Bool) → a && b ≡ true → (a ≡ true) × (b ≡ true)
both true b e = (refl, e)
both false b e = absurd (false≢true e)

pub ready_true : (k : Kind) (l : List Request) (at : ℕ) → at < length l → ready_of k l at ≡ true → ((get_or l at no_request).kind ≡ k) × Servable l at
unfolding ready_of
ready_true k l at h e =
    let p = both (same_kind (get_or l at no_request).kind k) (not (blocked_of l at)) e in
    (same_kind_lem _ _ p.0, blocked_false l at h (not-true _ p.1))

pub ready_false : (k : Kind) (l : List Request) (at : ℕ) → ready_of k l at ≡ false → (get_or l at no_request).kind ≡ k → blocked_of l at ≡ true
unfolding ready_of
ready_false k l at e p =
    let s : same_kind (get_or l at no_request).kind k ≡ true = rw p (kind_same k) in
    not-false _ (rw s at e)

pub oldest_found : (k : Kind) (l : List Request) (at : ℕ) → oldest_of k l ≡ Some at → OldestAt k l at
unfolding oldest_of
oldest_found k l at e =
    let f = first_found (ready_of k l) (length l) 0 at e in
    let r = ready_true k l at (omega arith) f.here in
    record { servable = r.1; kind = r.0; oldest = λ i h p. ready_false k l i (f.before i (omega arith) h) p }

pub oldest_nothing : (k : Kind) (l : List Request) → oldest_of k l ≡ None
    → (i : ℕ) → i < length l → (get_or l i no_request).kind ≡ k → blocked_of l i ≡ true
unfolding oldest_of
oldest_nothing k l e i h p = ready_false k l i (first_nothing (ready_of k l) (length l) 0 e i (omega arith) (omega arith)) p

-- a request that can be served stays so while others arrive
pub servable_arrive : {l : List Request} {at : ℕ} (ys : List Request) → Servable l at → Servable (l ++ ys) at
servable_arrive {l} {at} ys s =
    record {
      within = omega (arith, length-append l ys, s.within);
      free = rw (get_or-append l ys no_request at s.within, take-append-le at l ys (omega (arith, s.within))) s.free;
    }

pub servable_split : {l : List Request} {at : ℕ} → Servable l at → l ≡ take at l ++ get_or l at no_request ∷ drop (suc at) l
servable_split {l} {at} s = split_at l at no_request s.within
