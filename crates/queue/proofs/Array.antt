-- The array of 24 numbers as eight requests: what is put at a place, and what is left when a request is taken out, each by the cases of the place.
use Prim.Native.Nat.{ℕ, zero, suc, ◌+◌, ◌-◌, ◌%◌, ◌<◌}
use mathlib.Core.Path.{◌≡◌, refl, sym, ap, subst, ◌∙◌}
use mathlib.Core.Logic.{◌≢◌}
use mathlib.Core.List.{List, [], ◌∷◌, ◌++◌}
use native.Mathlib.Nat.{mod-eq_of_lt, add-mod_left, suc_inj, suc-ne-zero}
use native.Mathlib.Omega.{arith}
use borrow.Author.Tests.{le-leb, lt-leb}
use lib.ListN.{length, get_or, drop, set, length-set}
use lib.Seq.{get_or-set_other}
use Rattle.queue.specs.declared.Kind.{Kind}
use Rattle.queue.specs.declared.Kind.TheVariants.{Read, Write}
use Rattle.queue.specs.declared.Request.{Request}
use Rattle.queue.specs.Places.{request_for, no_request, data_of, kind_in, request_in, requests_in, placed, stored_of, shifting, shifted_of}
use Rattle.queue.proofs.Order.{without}

-- what holds of each of the eight places
by_place : (P : ℕ → Type 0) → P 0 → P 1 → P 2 → P 3 → P 4 → P 5 → P 6 → P 7 → (i : ℕ) → i < 8 → P i
by_place P a b c d e f g h zero k = a
by_place P a b c d e f g h (suc zero) k = b
by_place P a b c d e f g h (suc (suc zero)) k = c
by_place P a b c d e f g h (suc (suc (suc zero))) k = d
by_place P a b c d e f g h (suc (suc (suc (suc zero)))) k = e
by_place P a b c d e f g h (suc (suc (suc (suc (suc zero))))) k = f
by_place P a b c d e f g h (suc (suc (suc (suc (suc (suc zero)))))) k = g
by_place P a b c d e f g h (suc (suc (suc (suc (suc (suc (suc zero))))))) k = h
by_place P a b c d e f g h (suc (suc (suc (suc (suc (suc (suc (suc i)))))))) k = absurd (omega arith)

-- the first n numbers of a list, one after the other
abbrev front : ℕ → List ℕ → List ℕ
front zero l = []
front (suc n) l = get_or l 0 0 ∷ front n (drop 1 l)

front_all : (n : ℕ) (l : List ℕ) → length l ≡ n → front n l ≡ l
front_all zero [] e = refl
front_all zero (x ∷ xs) e = absurd (suc-ne-zero (length xs) e)
front_all (suc n) [] e = absurd (suc-ne-zero n (sym e))
front_all (suc n) (x ∷ xs) e = ap {B = List ℕ} (λ l. x ∷ l) (front_all n xs (suc_inj e))

-- what holds of each array of 24 numbers
by_numbers : (P : List ℕ → Type 0) → ((l : List ℕ) → P (front 24 l)) → (l : List ℕ) → length l ≡ 24 → P l
by_numbers P h l e = subst P (front_all 24 l e) (h l)

-- the request at a place
pub request_in_lem : (l : List ℕ) (i : ℕ) → i < 8 → get_or (requests_in l) i no_request ≡ request_in l i
request_in_lem l = by_place (λ i. get_or (requests_in l) i no_request ≡ request_in l i) refl refl refl refl refl refl refl refl

-- a request as it is read back once it is stored
abbrev pub stored : Request → Request
stored r = request_for (kind_in (data_of r.kind r.halfword)) r.number r.address (data_of r.kind r.halfword % 65536)

kind_back : (k : Kind) (h : ℕ) → h < 65536 → kind_in (data_of k h) ≡ k
unfolding kind_in
kind_back Read h b = rw (lt-leb 65536 h b)
kind_back Write h b = rw (le-leb 65536 (65536 + h) (omega arith))

halfword_back : (k : Kind) (h : ℕ) → h < 65536 → data_of k h % 65536 ≡ h
halfword_back Read h b = mod-eq_of_lt b
halfword_back Write h b = add-mod_left 65536 h ∙ mod-eq_of_lt b

pub stored_same : (r : Request) → r.halfword < 65536 → stored r ≡ r
stored_same r h = rw (kind_back r.kind r.halfword h, halfword_back r.kind r.halfword h)

pub requests_stored : (l : List ℕ) (i : ℕ) (r : Request) → length l ≡ 24 → i < 8 → requests_in (stored_of l i r) ≡ set (requests_in l) i (stored r)
unfolding request_in stored_of
requests_stored l i r e =
    by_numbers (λ l. i < 8 → requests_in (stored_of l i r) ≡ set (requests_in l) i (stored r))
    (λ l. by_place (λ i. requests_in (stored_of (front 24 l) i r) ≡ set (requests_in (front 24 l)) i (stored r)) refl refl refl refl refl refl refl refl i)
    l e

pub length_stored : (l : List ℕ) (i : ℕ) (r : Request) → length (stored_of l i r) ≡ length l
unfolding stored_of
length_stored l i r = simp length-set

-- a place before the one where a request is put
pub request_other : (l : List ℕ) (i j : ℕ) (r : Request) → j < i → i < 8 → request_in (stored_of l i r) j ≡ request_in l j
unfolding request_in stored_of
request_other l i j r h k =
    simp (
      other j (λ e. omega arith) (λ e. omega arith) (λ e. omega arith),
      other (8 + j) (λ e. omega arith) (λ e. omega arith) (λ e. omega arith),
      other (16 + j) (λ e. omega arith) (λ e. omega arith) (λ e. omega arith),
    )
  where
    other : (n : ℕ) → n ≢ i → n ≢ 8 + i → n ≢ 16 + i → get_or (stored_of l i r) n 0 ≡ get_or l n 0
    other n a b c =
        get_or-set_other (set (set l i r.number) (8 + i) r.address) (16 + i) n (data_of r.kind r.halfword) 0 c
        ∙ get_or-set_other (set l i r.number) (8 + i) n r.address 0 b
        ∙ get_or-set_other l i n r.number 0 a

pub requests_shifted : (l : List ℕ) (at : ℕ) → length l ≡ 24 → at < 8 → requests_in (shifted_of l at) ≡ without at (requests_in l) ++ (no_request ∷ [])
unfolding request_in kind_in shifted_of without
requests_shifted l at e =
    by_numbers (λ l. at < 8 → requests_in (shifted_of l at) ≡ without at (requests_in l) ++ (no_request ∷ []))
    (λ l. by_place (λ at. requests_in (shifted_of (front 24 l) at) ≡ without at (requests_in (front 24 l)) ++ (no_request ∷ [])) refl refl refl refl refl refl refl refl at)
    l e

pub length_shifted : (l : List ℕ) (at : ℕ) → length (shifted_of l at) ≡ length l
unfolding shifted_of
length_shifted l at = go (7 - at) at l
  where
    go : (n i : ℕ) (l : List ℕ) → length (shifting n i l) ≡ length l
    go zero i l = simp length-set
    go (suc n) i l = go n (i + 1) (placed l i (get_or l (i + 1) 0) (get_or l (9 + i) 0) (get_or l (17 + i) 0)) ∙ simp length-set
