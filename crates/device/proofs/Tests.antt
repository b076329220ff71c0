-- Tests and banks by their cases: the lemmas that the proofs here and above have in common.
use Prim.Native.Nat.{ℕ, zero, suc, ◌≤◌, ◌<◌}
use mathlib.Core.Path.{◌≡◌, refl, sym, ◌∙◌}
use mathlib.Core.Bool.{Bool, true, false, cond, not, ◌&&◌, and-eq-true_iff}
use native.Mathlib.Omega.{arith}
use lib.Dec.{leb}
use borrow.Author.Tests.{leb-true, leb-false, le-leb, not-false, not-true}

-- both cases of a test
pub by_test {ℓ} : {A : Type ℓ} (t : Bool) → (t ≡ true → A) → (t ≡ false → A) → A
by_test true f g = f refl
by_test false f g = g refl

-- both branches of a choice
pub if_both : {A : Type 0} (P : A → Type 0) (b : Bool) {x y : A} → (b ≡ true → P x) → (b ≡ false → P y) → P (cond b x y)
if_both P true f g = f refl
if_both P false f g = g refl

pub and_true : (t : Bool) → (t && true) ≡ t
and_true true = refl
and_true false = refl

pub cond_same : {A : Type 0} (b : Bool) (x : A) → cond b x x ≡ x
cond_same true x = refl
cond_same false x = refl

-- a test that the code passed, one that it failed, and one as it came out
pub passed : {r t : Bool} → r ≡ t → not r ≡ false → t ≡ true
passed {r} e h = sym e ∙ not-false r h

pub failed : {r t : Bool} → r ≡ t → not r ≡ true → t ≡ false
failed {r} e h = sym e ∙ not-true r h

pub told : {r t x : Bool} → r ≡ t → r ≡ x → t ≡ x
told e h = sym e ∙ h

-- a test that holds leaves the others
pub true_and : {t : Bool} → t ≡ true → (x : Bool) → (t && x) ≡ x
true_and e x = rw e

-- a conjunction taken apart, and put together
pub both : (a b : Bool) → a && b ≡ true → (a ≡ true) × (b ≡ true)
both a b h = (and-eq-true_iff a b).0 h

-- two comparisons that hold together
pub leb_both : (m n i j : ℕ) → (m ≤ n → i ≤ j) → (i ≤ j → m ≤ n) → leb m n ≡ leb i j
leb_both m n i j f g = by_test (leb m n)
    (λ e. e ∙ sym (le-leb i j (f (leb-true m n e))))
    (λ e. by_test (leb i j) (λ t. absurd (omega (arith, leb-false m n e, g (leb-true i j t)))) (λ t. e ∙ sym t))

-- what holds of the banks 0 to 3
pub four_banks : (P : ℕ → Type 0) → P 0 → P 1 → P 2 → P 3 → (b : ℕ) → b < 4 → P b
four_banks P p q r s zero h = p
four_banks P p q r s (suc zero) h = q
four_banks P p q r s (suc (suc zero)) h = r
four_banks P p q r s (suc (suc (suc zero))) h = s
four_banks P p q r s (suc (suc (suc (suc b)))) h = absurd (omega arith)
