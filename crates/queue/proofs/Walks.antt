-- One turn of each loop, said of the definition that the loop computes.
use Prim.Native.Nat.{ℕ, suc, ◌+◌, ◌-◌, ◌≤◌, ◌<◌}
use mathlib.Core.Path.{◌≡◌}
use mathlib.Core.Bool.{Bool, cond, ◌||◌}
use mathlib.Core.List.{List, []}
use native.Mathlib.Numerals.{add-one}
use native.Mathlib.Decide.{dec_le}
use native.Mathlib.Omega.{arith}
use borrow.Author.Tests.{le-leb, lt-leb}
use lib.Dec.{eqb}
use lib.ListN.{length, get_or, take, drop, length-take, length-drop, length-append, drop_of_length-le}
use lib.Seq.{drop-cons, get_or-take, length-take-le}
use Rattle.std.specs.Prelude.{Some, None}
use Rattle.queue.specs.declared.Request.{Request}
use Rattle.queue.specs.Places.{no_request, requests_in, held_count}
use Rattle.queue.proofs.Order.{without}
use Rattle.queue.specs.Oldest.{shared_by, first_of}
use Rattle.address.specs.Map.{block_of}

-- a place of a queued request is below the count, and one of the eight
pub queued : (n i : ℕ) → i < held_count n → (i < n) × (i < 8)
unfolding held_count
queued n i h = go (dec_le 8 n)
  where
    go : Dec (8 ≤ n) → (i < n) × (i < 8)
    go (yes k) = let m : i < 8 = rw (le-leb 8 n k) at h in (omega arith, m)
    go (no k) = let m : i < n = rw (lt-leb 8 n (omega arith)) at h in (m, omega arith)

-- how many are queued
pub length_held : (l : List ℕ) (n : ℕ) → length (take n (requests_in l)) ≡ held_count n
unfolding held_count
length_held l n = go (dec_le 8 n)
  where
    go : Dec (8 ≤ n) → length (take n (requests_in l)) ≡ held_count n
    go (yes k) = simp (le-leb 8 n k, length-take) (omega arith)
    go (no k) = simp (lt-leb 8 n (omega arith), length-take) (omega arith)

-- the walk over the older requests, at place i of the first n
pub shared_step : (b : ℕ) (l : List Request) (n i : ℕ) → i < n → n ≤ length l
    → shared_by b (drop i (take n l)) ≡ eqb (block_of (get_or l i no_request).address) b || shared_by b (drop (i + 1) (take n l))
shared_step b l n i h k =
    let p : i < length (take n l) = rw length-take-le h in
    rw (drop-cons (take n l) i no_request p, get_or-take n l i no_request h, add-one)

pub shared_end : (b : ℕ) (l : List Request) (n i : ℕ) → n ≤ i → n ≤ length l → shared_by b (drop i (take n l)) ≡ shared_by b []
shared_end b l n i h k =
    let p : length (take n l) ≤ i = rw length-take-le h in
    rw (drop_of_length-le (take n l) p)

-- the search for the first place that passes a test, at place i of n
pub first_step : (test : ℕ → Bool) (n i : ℕ) → i < n
    → first_of test (n - i) i ≡ cond (test i) (Some i) (first_of test (n - (i + 1)) (i + 1))
first_step test n i h =
    let e : n - i ≡ suc (n - (i + 1)) = omega arith in
    rw (e, add-one)

pub first_end : (test : ℕ → Bool) (n i : ℕ) → n ≤ i → first_of test (n - i) i ≡ None
first_end test n i h =
    let e : n - i ≡ 0 = omega arith in
    rw e

-- a list without one of its elements
pub length_without : (at : ℕ) (l : List Request) → at < length l → length (without at l) ≡ length l - 1
unfolding without
length_without at l h = simp (length-append, length-take, length-drop) (omega arith)
