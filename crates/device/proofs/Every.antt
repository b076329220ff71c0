-- A distance that is kept from the last command that starts it is kept from every one: the earlier slots are smaller.
use Prim.Native.Nat.{ℕ, ◌+◌, ◌≤◌, ◌<◌}
use mathlib.Core.Path.{◌≡◌, refl}
use mathlib.Core.Bool.{Bool, true, false, cond, ◌&&◌}
use mathlib.Core.Option.{some}
use mathlib.Core.List.{[], ◌∷◌}
use native.Mathlib.Omega.{arith}
use lib.Dec.{leb}
use borrow.Author.Tests.{leb-true, le-leb}
use Rattle.device.specs.View.{Distance, starts}
use Rattle.device.specs.History.{History, last, kept_since}
use Rattle.device.proofs.Tests.{by_test}

-- slots that fall from `now` on
unfoldable pub Falling : ℕ → History → Type 0
Falling now [] = Unit {0}
Falling now (s ∷ h) = (s.slot < now) × Falling s.slot h

-- is slot `now` so many slots or more after every past command that starts the distance?
unfoldable pub every_kept : Distance → History → ℕ → ℕ → Bool
every_kept d [] now n = true
every_kept d (s ∷ h) now n = cond (starts d s.command) (leb (s.slot + n) now) true && every_kept d h now n

earlier_kept : (d : Distance) (h : History) (t now n : ℕ) → Falling t h → t + n ≤ now → every_kept d h now n ≡ true
unfolding every_kept Falling
earlier_kept d [] t now n f i = refl
earlier_kept d (s ∷ h) t now n f i =
    let kept : s.slot + n ≤ now = omega (arith, f.0) in
    rw (le-leb (s.slot + n) now kept, earlier_kept d h s.slot now n f.1 kept) (go (starts d s.command))
  where
    go : (t : Bool) → (cond t true true && true) ≡ true
    go true = refl
    go false = refl

pub last_enough : (d : Distance) (h : History) (t now n : ℕ) → Falling t h → kept_since (last d h) now n ≡ every_kept d h now n
unfolding every_kept Falling last
last_enough d [] t now n f = refl
last_enough d (s ∷ h) t now n f = go (last_enough d h s.slot now n f.1) (starts d s.command)
  where
    go : kept_since (last d h) now n ≡ every_kept d h now n → (b : Bool)
        → kept_since (cond b (some s.slot) (last d h)) now n ≡ (cond b (leb (s.slot + n) now) true && every_kept d h now n)
    go r true = by_test (leb (s.slot + n) now) (λ y. rw (y, earlier_kept d h s.slot now n f.1 (leb-true _ _ y))) (λ y. rw y)
    go r false = r
