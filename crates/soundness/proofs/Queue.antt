-- The number of queued requests stays within eight when one is accepted and when one is removed.
use Prim.Native.Nat.{ℕ, ◌≤◌}
use native.Mathlib.Omega.{arith}
use lib.Dec.{leb}
use borrow.Author.Tests.{leb-false}
use Rattle.device.proofs.Tests.{if_both}
use Rattle.queue.specs.declared.Queue.{Queue}
use Rattle.queue.specs.declared.Request.{Request}
use Rattle.queue.specs.Places.{accept_of, remove_of}

-- acceptance takes no request away
pub accept_more : (q : Queue) (r : Request) → q.count ≤ (accept_of q r).count
unfolding accept_of
accept_more q r = if_both (λ (x : Queue). q.count ≤ x.count) (leb 8 q.count) (λ e. omega arith) (λ e. omega arith)

pub accept_few : (q : Queue) (r : Request) → q.count ≤ 8 → (accept_of q r).count ≤ 8
unfolding accept_of
accept_few q r h =
    if_both (λ (x : Queue). x.count ≤ 8) (leb 8 q.count) (λ e. h) (λ e. let l = leb-false 8 q.count e in omega arith)

pub remove_few : (q : Queue) (at : ℕ) → q.count ≤ 8 → (remove_of q at).count ≤ 8
unfolding remove_of
remove_few q at h = omega arith
