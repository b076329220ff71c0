-- How a spelled number goes on.
use Prim.Native.Nat.{ℕ, zero, suc, ◌+◌, ◌-◌, ◌/◌, ◌%◌}
use native.Mathlib.Numerals.{sub-one}
use mathlib.Core.Path.{◌≡◌, refl}
use mathlib.Core.Bool.{cond}
use lib.Dec.{ltb}
use Rattle.text.specs.declared.Text.{Text}
use Rattle.text.specs.Spelling.{byte_of, spelled_of}

pub spelled_more :
    (t : Text) (n base z most : ℕ) →
    (most ≡ 0 → ⊥) →
    spelled_of t n base z most
    ≡ cond (ltb n base) (byte_of t (z + n)) (byte_of (spelled_of t (n / base) base z (most - 1)) (z + n % base))
unfolding spelled_of
spelled_more t n base z zero some = absurd (some refl)
spelled_more t n base z (suc most) some = rw (sub-one (suc most))
