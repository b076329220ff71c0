-- Numbers in the queue rise with acceptance and tell the requests apart: by recursion on the list.
use Prim.Native.Nat.{ℕ, zero, suc, ◌+◌, ◌≤◌, ◌<◌}
use mathlib.Core.Path.{◌≡◌}
use mathlib.Core.List.{List, [], ◌∷◌, ◌++◌}
use native.Mathlib.Nat.{le_of_suc-le-suc, le_refl, le_of_lt, le_trans, lt_of_le_of_lt}
use native.Mathlib.Omega.{arith}
use lib.ListN.{length, get_or}
use Rattle.queue.specs.declared.Request.{Request}
use Rattle.queue.specs.Places.{no_request}
use Rattle.queue.proofs.Order.{Each, none, more, Rising, end, next, without}
use Rattle.queue.proofs.Each.{each_at, each_map}

-- nothing queued, nothing accepted
pub rising_empty : Rising 0 0 []
rising_empty = end (le_refl 0)

rising_bound : {low high : ℕ} {l : List Request} → Rising low high l → low ≤ high
rising_bound (end h) = h
rising_bound (next h s) = let k = rising_bound s in omega arith

rising_lower : {low low' high : ℕ} {l : List Request} → low ≤ low' → Rising low' high l → Rising low high l
rising_lower h (end k) = end (le_trans h k)
rising_lower h (next k s) = next (lt_of_le_of_lt h k) s

-- the next number to the end
pub rising_accept : {low high : ℕ} {l : List Request} (r : Request) → r.number ≡ high + 1 → Rising low high l → Rising low (high + 1) (l ++ (r ∷ []))
rising_accept {low} {high} r e (end h) =
    let p : low < r.number = omega arith in
    let q : r.number ≤ high + 1 = omega arith in
    next p (end q)
rising_accept r e (next h s) = next h (rising_accept r e s)

pub rising_remove : {low high : ℕ} {l : List Request} (at : ℕ) → Rising low high l → Rising low high (without at l)
unfolding without
rising_remove zero (end h) = end h
rising_remove (suc at) (end h) = end h
rising_remove zero (next h s) = rising_lower (le_of_lt h) s
rising_remove (suc at) (next h s) = next h (rising_remove at s)

pub rising_each : {low high : ℕ} {l : List Request} → Rising low high l → Each (λ x. (low < x.number) × (x.number ≤ high)) l
rising_each (end h) = none
rising_each (next h s) = more (h, rising_bound s) (each_map (λ x p. (omega arith, p.1)) (rising_each s))

-- the number of a removed request is no other's
pub rising_apart : {low high : ℕ} {l : List Request} (at : ℕ) → at < length l → Rising low high l
    → Each (λ x. x.number ≡ (get_or l at no_request).number → ⊥) (without at l)
unfolding without
rising_apart zero h (end k) = none
rising_apart (suc at) h (end k) = none
rising_apart zero h (next k s) = each_map (λ x p e. omega (arith, p.0)) (rising_each s)
rising_apart (suc at) h (next {r = r} {rs = rs} k s) =
    let b = each_at (rising_each s) at (le_of_suc-le-suc h) in
    more (λ (e : r.number ≡ (get_or rs at no_request).number). omega arith) (rising_apart at (le_of_suc-le-suc h) s)
