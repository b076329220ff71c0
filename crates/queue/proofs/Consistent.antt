-- The queue between two memories: the one that the requests are served on, and the flat memory, which took each request as it was accepted.
use Prim.Native.Nat.{ℕ}
use mathlib.Core.Path.{◌≡◌}
use mathlib.Core.List.{List, [], ◌∷◌}
use Rattle.queue.specs.declared.Kind.TheVariants.{Read}
use Rattle.queue.specs.declared.Request.{Request}
use Rattle.queue.specs.Memory.{memory_after}

-- a memory after a request
unfoldable pub applied : (ℕ → ℕ) → Request → ℕ → ℕ
applied m r = memory_after r.kind r.address r.halfword m

-- `want` has for each read's number the flat memory's answer: the one wanted of this request is what m holds
abbrev pub ReadsRight : (ℕ → ℕ) → (ℕ → ℕ) → Request → Type 0
ReadsRight want m r = r.kind ≡ Read → want r.number ≡ m r.address

-- the queued requests, served on m one after the other, give the wanted answers and end in the flat memory, at the addresses that are ok
pub data Consistent (ok : ℕ → Type 0) (want : ℕ → ℕ) : (ℕ → ℕ) → List Request → (ℕ → ℕ) → Type 0 where
  same : {m flat : ℕ → ℕ} → ((a : ℕ) → ok a → m a ≡ flat a) → Consistent ok want m [] flat
  then : {m flat : ℕ → ℕ} {r : Request} {rs : List Request} → ReadsRight want m r → Consistent ok want (applied m r) rs flat
      → Consistent ok want m (r ∷ rs) flat
