-- Blocked requests and the oldest unblocked one (document 01, "A service slot", rules 2 and 4), on the queued requests as a list, oldest first.
use Rattle.std.specs.Prelude.{ℕ, zero, suc, Bool, true, false, cond, ◌&&◌, ◌||◌, not, List, [], ◌∷◌, eqb, ltb, length, get_or, take, Option, Some, None}
use Rattle.address.specs.Map.{block_of}
use Rattle.queue.specs.declared.Kind.{Kind}
use Rattle.queue.specs.declared.Kind.TheVariants.{Read, Write}
use Rattle.queue.specs.declared.Request.{Request}
use Rattle.queue.specs.Places.{no_request}

abbrev pub same_kind : Kind → Kind → Bool
same_kind Read Read = true
same_kind Read Write = false
same_kind Write Read = false
same_kind Write Write = true

-- does a request of the list have this block?
abbrev pub shared_by : ℕ → List Request → Bool
shared_by b [] = false
shared_by b (r ∷ rs) = eqb (block_of r.address) b || shared_by b rs

-- is the request at a place blocked: does an older one have its block? Where there is no request, no
unfoldable pub blocked_of : List Request → ℕ → Bool
blocked_of l at = cond (ltb at (length l)) (shared_by (block_of (get_or l at no_request).address) (take at l)) false

-- is the request at a place an unblocked one of this kind?
unfoldable pub ready_of : Kind → List Request → ℕ → Bool
ready_of k l at = same_kind (get_or l at no_request).kind k && not (blocked_of l at)

-- the first of the n places from i on that passes a test
abbrev pub first_of : (ℕ → Bool) → ℕ → ℕ → Option ℕ
first_of test zero i = None
first_of test (suc n) i = let later = first_of test n (suc i) in cond (test i) (Some i) later

-- the oldest unblocked request of a kind
unfoldable pub oldest_of : Kind → List Request → Option ℕ
oldest_of k l = first_of (ready_of k l) (length l) 0
