-- How many bytes go on waiting where room is made.
use Prim.Native.Nat.{ℕ, ◌+◌, ◌≤◌, ◌<◌}
use mathlib.Core.Path.{◌≡◌, refl}
use mathlib.Core.Bool.{Bool, true, false, cond}
use native.Mathlib.Omega.{arith}
use lib.Dec.{ltb}
use borrow.Author.Tests.{ltb-false, lt-ltb, le-ltb}
use Rattle.output.specs.Waiting.{kept_of}

-- both branches of a choice
if_both : {A : Type 0} (P : A → Type 0) (b : Bool) {x y : A} → (b ≡ true → P x) → (b ≡ false → P y) → P (cond b x y)
if_both P true f g = f refl
if_both P false f g = g refl

pub kept_none : (waiting : ℕ) (needed room : ℕ) → room < waiting + needed → 0 ≡ kept_of waiting needed room
unfolding kept_of
kept_none waiting needed room h = rw (lt-ltb room (waiting + needed) h)

pub kept_all : (waiting : ℕ) (needed room : ℕ) → waiting + needed ≤ room → waiting ≡ kept_of waiting needed room
unfolding kept_of
kept_all waiting needed room h = rw (le-ltb room (waiting + needed) h)

pub kept_room : (waiting : ℕ) (needed room : ℕ) → needed ≤ room → kept_of waiting needed room + needed ≤ room
unfolding kept_of
kept_room waiting needed room h =
    if_both (λ (kept : ℕ). kept + needed ≤ room) (ltb room (waiting + needed)) (λ _. omega arith) (λ e. omega (arith, ltb-false))
