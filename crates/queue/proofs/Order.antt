-- What the order of the queued requests says: blocked or free, and the numbers (document 01, "A service slot").
use Prim.Native.Nat.{ℕ, suc, ◌≤◌, ◌<◌}
use mathlib.Core.Path.{◌≡◌}
use mathlib.Core.Bool.{true}
use mathlib.Core.List.{List, [], ◌∷◌, ◌++◌}
use lib.ListN.{length, get_or, take, drop}
use Rattle.queue.specs.declared.Kind.{Kind}
use Rattle.queue.specs.declared.Request.{Request}
use Rattle.queue.specs.Places.{no_request}
use Rattle.queue.specs.Oldest.{blocked_of}
use Rattle.address.specs.Map.{block_of}

-- a list without its element at a place
unfoldable pub without : ℕ → List Request → List Request
without at l = take at l ++ drop (suc at) l

-- a property of each element
pub data Each (P : Request → Type 0) : List Request → Type 0 where
  none : Each P []
  more : {r : Request} {rs : List Request} → P r → Each P rs → Each P (r ∷ rs)

-- no request of the list has r's block
abbrev pub Free : Request → List Request → Type 0
Free r = Each (λ x. block_of x.address ≡ block_of r.address → ⊥)

-- a request is queued at a place, and no older one has its block
pub record Servable (l : List Request) (at : ℕ) : Type 0 where
  pub within : at < length l
  pub free : Free (get_or l at no_request) (take at l)

-- the oldest unblocked request of a kind is at a place
pub record OldestAt (k : Kind) (l : List Request) (at : ℕ) : Type 0 where
  pub servable : Servable l at
  pub kind : (get_or l at no_request).kind ≡ k
  pub oldest : (i : ℕ) → i < at → (get_or l i no_request).kind ≡ k → blocked_of l i ≡ true

-- the requests' numbers rise, all above `low` and none above `high`
pub data Rising : ℕ → ℕ → List Request → Type 0 where
  end : {low high : ℕ} → low ≤ high → Rising low high []
  next : {low high : ℕ} {r : Request} {rs : List Request} → low < r.number → Rising r.number high rs → Rising low high (r ∷ rs)
