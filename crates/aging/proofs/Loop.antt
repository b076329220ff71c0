-- One turn of the loop over the ages, and its end: the first i are a slot older, the others as they were.
use Prim.Native.Nat.{ℕ, zero, suc, ◌≤◌, ◌<◌}
use mathlib.Core.Path.{◌≡◌, refl, ap}
use mathlib.Core.List.{List, [], ◌∷◌, ◌++◌, map}
use native.Mathlib.Nat.{le_of_suc-le-suc, not-suc-le-zero}
use lib.ListN.{length, get_or, take, drop, set}

abbrev pub changed : (ℕ → ℕ) → ℕ → List ℕ → List ℕ
changed f i l = map f (take i l) ++ drop i l

pub changed_next : (f : ℕ → ℕ) (i : ℕ) (l : List ℕ) → i < length l
    → set (changed f i l) i (f (get_or (changed f i l) i 0)) ≡ changed f (suc i) l
changed_next f i [] h = absurd (not-suc-le-zero h)
changed_next f zero (x ∷ xs) h = refl
changed_next f (suc i) (x ∷ xs) h = ap {B = List ℕ} (λ l. f x ∷ l) (changed_next f i xs (le_of_suc-le-suc h))

pub changed_all : (f : ℕ → ℕ) (i : ℕ) (l : List ℕ) → length l ≤ i → changed f i l ≡ map f l
changed_all f zero [] h = refl
changed_all f (suc i) [] h = refl
changed_all f zero (x ∷ xs) h = absurd (not-suc-le-zero h)
changed_all f (suc i) (x ∷ xs) h = ap {B = List ℕ} (λ l. f x ∷ l) (changed_all f i xs (le_of_suc-le-suc h))

pub changed_length : (f : ℕ → ℕ) (i : ℕ) (l : List ℕ) → length (changed f i l) ≡ length l
changed_length f zero l = refl
changed_length f (suc i) [] = refl
changed_length f (suc i) (x ∷ xs) = ap suc (changed_length f i xs)
