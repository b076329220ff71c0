-- Serving, arriving and the queue between the two memories: requests at different addresses can change places, by recursion on those passed.
use Prim.Native.Nat.{ℕ, suc}
use mathlib.Core.Path.{◌≡◌, refl, sym, ap, ◌∙◌, subst, fun_ext}
use mathlib.Core.Bool.{cond}
use mathlib.Core.List.{List, [], ◌∷◌, ◌++◌}
use native.Mathlib.Decide.{ℕ_discrete}
use borrow.Author.Tests.{eq-eqb, ne_eqb}
use lib.Dec.{eqb}
use lib.ListN.{get_or, drop}
use Rattle.queue.specs.declared.Kind.{Kind}
use Rattle.queue.specs.declared.Kind.TheVariants.{Read, Write}
use Rattle.queue.specs.declared.Request.{Request}
use Rattle.queue.specs.Places.{no_request}
use Rattle.address.specs.Map.{block_of}
use Rattle.queue.proofs.Order.{Each, none, more, Free, Servable, without}
use Rattle.queue.specs.Memory.{memory_after}
use Rattle.queue.proofs.Consistent.{applied, ReadsRight, Consistent, same, then}
use Rattle.queue.proofs.Oldest.{servable_split}

after_other : (k : Kind) (address halfword : ℕ) (m : ℕ → ℕ) (a : ℕ) → (a ≡ address → ⊥) → memory_after k address halfword m a ≡ m a
after_other Read address halfword m a h = refl
after_other Write address halfword m a h = rw (ne_eqb a address h)

after_comm : (j k : Kind) (a b g h : ℕ) (m : ℕ → ℕ) → (a ≡ b → ⊥)
    → memory_after k b h (memory_after j a g m) ≡ memory_after j a g (memory_after k b h m)
after_comm Read k a b g h m d = refl
after_comm Write Read a b g h m d = refl
after_comm Write Write a b g h m d = fun_ext (λ x. at x (ℕ_discrete x a))
  where
    at : (x : ℕ) → Dec (x ≡ a) → cond (eqb x b) h (cond (eqb x a) g (m x)) ≡ cond (eqb x a) g (cond (eqb x b) h (m x))
    at x (yes e) = simp (eq-eqb x a e, ne_eqb x b (λ f. d (sym e ∙ f)))
    at x (no e) = simp (ne_eqb x a e)

-- memories that agree at an address still do after the same request
after_same : (k : Kind) (address halfword : ℕ) (m n : ℕ → ℕ) (a : ℕ) → m a ≡ n a → memory_after k address halfword m a ≡ memory_after k address halfword n a
after_same Read address halfword m n a e = e
after_same Write address halfword m n a e = rw e

pub served_read : (m : ℕ → ℕ) (r : Request) → r.kind ≡ Read → applied m r ≡ m
unfolding applied
served_read m r e = rw e

pub served_write : (m : ℕ → ℕ) (r : Request) → r.kind ≡ Write → applied m r ≡ memory_after Write r.address r.halfword m
unfolding applied
served_write m r e = rw e

pub served_other : (m : ℕ → ℕ) (r : Request) (a : ℕ) → (a ≡ r.address → ⊥) → applied m r a ≡ m a
unfolding applied
served_other m r a h = after_other r.kind r.address r.halfword m a h

pub served_comm : (m : ℕ → ℕ) (r s : Request) → (r.address ≡ s.address → ⊥) → applied (applied m r) s ≡ applied (applied m s) r
unfolding applied
served_comm m r s d = after_comm r.kind s.kind r.address s.address r.halfword s.halfword m d

pub served_same : (m n : ℕ → ℕ) (r : Request) (a : ℕ) → m a ≡ n a → applied m r a ≡ applied n r a
unfolding applied
served_same m n r a e = after_same r.kind r.address r.halfword m n a e

module _ {ok : ℕ → Type 0} {want : ℕ → ℕ} where
  -- a request that no older one shares a block with can be served first
  pub serve : (r : Request) {xs : List Request} {m flat : ℕ → ℕ} (ys : List Request) → Free r xs
      → Consistent ok want m (xs ++ r ∷ ys) flat → ReadsRight want m r × Consistent ok want (applied m r) (xs ++ ys) flat
  serve r ys none (then a c) = (a, c)
  serve r {m} ys (more {r = x} p ps) (then a c) =
      let d : x.address ≡ r.address → ⊥ = λ e. p (ap block_of e) in
      let s = serve r {m = applied m x} ys ps c in (
        λ k. s.0 k ∙ served_other m x r.address (λ e. d (sym e)),
        then (λ k. a k ∙ sym (served_other m r x.address d)) (rw (served_comm m x r d) at s.1),
      )

  -- the same of a place of the queue
  pub serve_at : {m flat : ℕ → ℕ} {l : List Request} {at : ℕ} → Servable l at → Consistent ok want m l flat
      → ReadsRight want m (get_or l at no_request) × Consistent ok want (applied m (get_or l at no_request)) (without at l) flat
  unfolding without
  serve_at {m} {flat} {l} {at} s c =
      serve (get_or l at no_request) (drop (suc at) l) s.free (subst (λ (k : List Request). Consistent ok want m k flat) (servable_split s) c)

  -- an accepted request joins at the end, and the flat memory takes it at once; what was wanted of the older ones stays
  pub arrive : (want' : ℕ → ℕ) {l : List Request} {m flat : ℕ → ℕ} (r : Request) → Each (λ x. want' x.number ≡ want x.number) l
      → ReadsRight want' flat r → ok r.address → Consistent ok want m l flat → Consistent ok want' m (l ++ (r ∷ [])) (applied flat r)
  arrive want' {m} {flat} r none a o (same f) = then (λ k. a k ∙ sym (f r.address o)) (same (λ b p. served_same m flat r b (f b p)))
  arrive want' {m} r (more {r = x} p ps) a o (then b c) = then (λ k. p ∙ b k) (arrive want' {m = applied m x} r ps a o c)

  -- only the addresses that are ok count
  pub consistent_memory : {l : List Request} {m n flat : ℕ → ℕ} → Each (λ x. ok x.address) l → ((a : ℕ) → ok a → m a ≡ n a)
      → Consistent ok want m l flat → Consistent ok want n l flat
  consistent_memory none e (same f) = same (λ a o. sym (e a o) ∙ f a o)
  consistent_memory {m} {n} (more {r = r} o os) e (then a c) =
      then (λ k. a k ∙ e r.address o) (consistent_memory {m = applied m r} {n = applied n r} os (λ b p. served_same m n r b (e b p)) c)

  -- with nothing queued the memories agree
  pub consistent_empty : {m flat : ℕ → ℕ} → Consistent ok want m [] flat → (a : ℕ) → ok a → m a ≡ flat a
  consistent_empty (same f) = f
