-- A place below the number of queued requests is one of the eight, and it and the older ones hold there what they hold in the queue.
use Prim.Native.Nat.{ℕ, ◌≤◌, ◌<◌}
use mathlib.Core.Bool.{◌&&◌, not}
use mathlib.Core.Path.{◌≡◌, refl}
use native.Mathlib.Decide.{dec_le}
use native.Mathlib.Nat.{le_of_lt}
use native.Mathlib.Omega.{arith}
use denote.Enum.Bare.{sameb}
use lib.ListN.{take}
use lib.Seq.{get_or-take, take-take}
use borrow.Author.Tests.{lt-ltb, le-leb, lt-leb}
use Rattle.address.specs.Map.{block_of}
use Rattle.queue.specs.contracts.Kind.{the_type}
use Rattle.queue.specs.declared.Kind.{Kind}
use Rattle.queue.specs.declared.Kind.TheVariants.{Read, Write}
use Rattle.queue.specs.declared.Queue.{Queue}
use Rattle.queue.specs.Places.{no_request, request_in, requests_in, held_count, held_of}
use Rattle.queue.specs.Oldest.{same_kind, shared_by, blocked_of, ready_of}
use Rattle.queue.proofs.Array.{request_in_lem}
use Rattle.queue.proofs.Walks.{queued, length_held}

-- what `==` of two kinds gives
kinds_equal : (a b : Kind) → same_kind a b ≡ sameb the_type a b
kinds_equal Read Read = refl
kinds_equal Read Write = refl
kinds_equal Write Read = refl
kinds_equal Write Write = refl

-- at most eight are queued
pub held_eight : (n : ℕ) → held_count n ≤ 8
unfolding held_count
held_eight n = go (dec_le 8 n)
  where
    go : Dec (8 ≤ n) → held_count n ≤ 8
    go (yes k) = rw (le-leb 8 n k) (omega arith)
    go (no k) = rw (lt-leb 8 n (omega arith)) (omega arith)

pub ready_at : (q : Queue) (kind : Kind) (at : ℕ) → at < held_count q.count
    → ready_of kind (held_of q) at
    ≡ sameb the_type (request_in q.places at).kind kind && not (shared_by (block_of (request_in q.places at).address) (take at (requests_in q.places)))
unfolding ready_of blocked_of
ready_at q kind at h =
    let b = queued _ _ h in
    simp (
      length_held q.places q.count,
      lt-ltb at (held_count q.count) h,
      get_or-take q.count (requests_in q.places) at no_request b.0,
      take-take at q.count (requests_in q.places) (le_of_lt b.0),
      request_in_lem q.places at b.1,
      kinds_equal,
    )
