-- What the code reads off the record.
use Prim.Native.Nat.{ℕ, zero, suc, ◌<◌}
use mathlib.Core.Path.{◌≡◌, refl, sym, ap, ◌∙◌}
use mathlib.Core.Bool.{Bool, true, false, cond, not, ◌&&◌}
use mathlib.Core.List.{List, [], ◌∷◌}
use mathlib.Core.Option.{none, some}
use lib.Dec.{lit<}
use lib.ListN.{length, get_or}
use borrow.Author.Tests.{lt-ltb}
use Rattle.device.specs.View.{is_some, all_closed}
use Rattle.ages.specs.Ages.{open_in, row_in, open_rows}

-- is the bank open, as a rule asks it
pub open_is : (o : List Bool) (r : List ℕ) (b : ℕ) → is_some (open_rows o r b) ≡ open_in o b
unfolding open_rows
open_is o r b = go (open_in o b)
  where
    go : (t : Bool) → is_some (cond t (some (row_in r b)) none) ≡ t
    go true = refl
    go false = refl

pub open_here : (o : List Bool) (r : List ℕ) (b : ℕ) → b < 4 → is_some (open_rows o r b) ≡ get_or o b false
unfolding open_in
open_here o r b h = rw (open_is o r b, lt-ltb b 4 h)

pub closed_is : (o : List Bool) (r : List ℕ) → all_closed (open_rows o r)
    ≡ (not (get_or o 0 false) && (not (get_or o 1 false) && (not (get_or o 2 false) && not (get_or o 3 false))))
unfolding all_closed
closed_is o r = rw (open_here o r 0 (lit< tt), open_here o r 1 (lit< tt), open_here o r 2 (lit< tt), open_here o r 3 (lit< tt))

-- an array is its elements: the n from i on
abbrev pub listed : {A : Type 0} → A → ℕ → ℕ → List A → List A
listed d zero i xs = []
listed d (suc n) i xs = get_or xs i d ∷ listed d n (suc i) xs

listed_later : {A : Type 0} (d : A) (n i : ℕ) (x : A) (xs : List A) → listed d n (suc i) (x ∷ xs) ≡ listed d n i xs
listed_later d zero i x xs = refl
listed_later {A} d (suc n) i x xs = ap {B = List A} (λ l. get_or xs i d ∷ l) (listed_later d n (suc i) x xs)

listed_all : {A : Type 0} (d : A) (xs : List A) → xs ≡ listed d (length xs) 0 xs
listed_all d [] = refl
listed_all {A} d (x ∷ xs) = ap {B = List A} (λ l. x ∷ l) (listed_all d xs ∙ sym (listed_later d (length xs) 0 x xs))

pub elements : {A : Type 0} (d : A) (n : ℕ) (xs : List A) → length xs ≡ n → xs ≡ listed d n 0 xs
elements d n xs e = listed_all d xs ∙ ap (λ (m : ℕ). listed d m 0 xs) e
