-- Acceptance and removal on the queue as a list, and that they keep it tidy: each by the law for prefixes and rests after its change.
use Prim.Native.Nat.{ℕ, zero, suc, ◌+◌, ◌-◌, ◌≤◌, ◌<◌}
use mathlib.Core.Path.{◌≡◌, refl, sym, ap, ◌∙◌}
use mathlib.Core.List.{List, [], ◌∷◌, ◌++◌}
use native.Mathlib.Numerals.{add-one}
use native.Mathlib.Nat.{le_of_suc-le-suc, not-suc-le-zero}
use native.Mathlib.Decide.{dec_lt}
use native.Mathlib.Omega.{arith}
use borrow.Author.Tests.{lt-ltb, le-ltb, lt-leb, le-leb}
use lib.ListN.{length, get_or, take, drop, replicate, replicate-append-replicate, get_or-replicate, get_or-eq_default}
use lib.Seq.{get_or-take, get_or-drop, take-suc-set, take-nil, drop-nil, length-take-le, drop-set-lt, drop-drop, take-append-le, drop-append-le}
use Rattle.queue.specs.declared.Request.{Request}
use Rattle.queue.specs.declared.Queue.{Queue}
use Rattle.queue.specs.Places.{no_request, kind_in, request_in, requests_in, request_at, held_of, empty_of, accept_of, remove_of, get_of}
use Rattle.queue.proofs.Order.{without}
use Rattle.queue.proofs.Array.{request_in_lem, request_other, stored, stored_same, requests_stored, length_stored, requests_shifted, length_shifted}
use Rattle.queue.proofs.Walks.{length_without}

-- eight places of three numbers, of which the unused ones are blank: each queue that the calls can make
pub record Tidy (q : Queue) : Type 0 where
  pub eight : length q.places ≡ 24
  pub within : q.count ≤ 8
  pub unused : drop q.count (requests_in q.places) ≡ replicate (8 - q.count) no_request

pub tidy_length : {q : Queue} → Tidy q → length (held_of q) ≡ q.count
tidy_length {q} t = length-take-le q.count (requests_in q.places) t.within

pub tidy_empty : Tidy empty_of
unfolding empty_of request_in kind_in
tidy_empty = record { eight = refl; within = omega arith; unused = refl }

pub held_accept : {q : Queue} (r : Request) → r.halfword < 65536 → Tidy q → q.count < 8 → held_of (accept_of q r) ≡ held_of q ++ (r ∷ [])
unfolding accept_of
held_accept {q} r b t h =
    simp (lt-leb 8 q.count h, add-one)
    (ap (take (suc q.count)) (requests_stored q.places q.count r t.eight h)
    ∙ rw (stored_same r b) (take-suc-set (requests_in q.places) q.count r h))

pub tidy_accept : {q : Queue} (r : Request) → Tidy q → Tidy (accept_of q r)
unfolding accept_of
tidy_accept {q} r t = go (dec_lt q.count 8)
  where
    go : Dec (q.count < 8) → Tidy (accept_of q r)
    go (yes h) =
        let e : 8 - q.count ≡ suc (8 - (q.count + 1)) = omega arith in
        simp (lt-leb 8 q.count h)
        (record {
          eight = length_stored q.places q.count r ∙ t.eight;
          within = omega arith;
          unused =
              ap (drop (q.count + 1)) (requests_stored q.places q.count r t.eight h)
              ∙ drop-set-lt (q.count + 1) (requests_in q.places) q.count (stored r) (omega arith)
              ∙ sym (drop-drop 1 q.count (requests_in q.places))
              ∙ rw (t.unused, e);
        })
    go (no h) = simp (le-leb 8 q.count (omega arith)) t

pub take_without : (at n : ℕ) (l : List Request) → at ≤ n → take n (without at l) ≡ without at (take (suc n) l)
unfolding without
take_without zero n [] h = take-nil n
take_without (suc at) n [] h = take-nil n
take_without zero n (x ∷ xs) h = refl
take_without (suc at) zero (x ∷ xs) h = absurd (not-suc-le-zero h)
take_without (suc at) (suc n) (x ∷ xs) h = ap {B = List Request} (λ l. x ∷ l) (take_without at n xs (le_of_suc-le-suc h))

drop_without : (at n : ℕ) (l : List Request) → at ≤ n → drop n (without at l) ≡ drop (suc n) l
unfolding without
drop_without zero n [] h = drop-nil n
drop_without (suc at) n [] h = drop-nil n
drop_without zero n (x ∷ xs) h = refl
drop_without (suc at) zero (x ∷ xs) h = absurd (not-suc-le-zero h)
drop_without (suc at) (suc n) (x ∷ xs) h = drop_without at n xs (le_of_suc-le-suc h)

module _ {q : Queue} (at : ℕ) (t : Tidy q) (h : at < q.count) where
  below : at < 8
  below = omega (arith, t.within)

  -- the requests that are left, before the blank one
  rest_length : length (without at (requests_in q.places)) ≡ 7
  rest_length = length_without at (requests_in q.places) below

  count_before : q.count ≡ suc (q.count - 1)
  count_before = omega arith

  unused_more : 8 - q.count + 1 ≡ 8 - (q.count - 1)
  unused_more = omega (arith, t.within)

  pub held_remove : held_of (remove_of q at) ≡ without at (held_of q)
  unfolding remove_of
  held_remove =
      ap (take (q.count - 1)) (requests_shifted q.places at t.eight below)
      ∙ take-append-le (q.count - 1) (without at (requests_in q.places)) (no_request ∷ []) (omega (arith, rest_length, t.within))
      ∙ take_without at (q.count - 1) (requests_in q.places) (omega arith)
      ∙ ap (λ (n : ℕ). without at (take n (requests_in q.places))) (sym count_before)

  pub tidy_remove : Tidy (remove_of q at)
  unfolding remove_of
  tidy_remove =
      record {
        eight = length_shifted q.places at ∙ t.eight;
        within = omega (arith, t.within);
        unused =
            ap (drop (q.count - 1)) (requests_shifted q.places at t.eight below)
            ∙ drop-append-le (q.count - 1) (without at (requests_in q.places)) (no_request ∷ []) (omega (arith, rest_length, t.within))
            ∙ rw (drop_without at (q.count - 1) (requests_in q.places) (omega arith), ← count_before, t.unused)
            (replicate-append-replicate (8 - q.count) 1 no_request ∙ ap (λ (n : ℕ). replicate n no_request) unused_more);
      }

-- each place as an element of the list: an unused place and no place read as blank
pub get_held : {q : Queue} (at : ℕ) → Tidy q → get_of q at ≡ get_or (held_of q) at no_request
unfolding get_of request_at
get_held {q} at t = go (dec_lt at q.count) (dec_lt at 8)
  where
    go : Dec (at < q.count) → Dec (at < 8) → get_of q at ≡ get_or (held_of q) at no_request
    go (yes h) e =
        let k : at < 8 = omega (arith, t.within) in
        simp (lt-ltb at 8 k) (sym (get_or-take q.count (requests_in q.places) at no_request h ∙ request_in_lem q.places at k))
    go (no h) (yes e) =
        let k : q.count + (at - q.count) ≡ at = omega arith in
        simp (lt-ltb at 8 e, get_or-eq_default (held_of q) no_request {n = at} (omega (arith, tidy_length t)))
        (sym (request_in_lem q.places at e)
        ∙ ap (λ (i : ℕ). get_or (requests_in q.places) i no_request) (sym k)
        ∙ sym (get_or-drop q.count (requests_in q.places) (at - q.count) no_request)
        ∙ rw t.unused (get_or-replicate (8 - q.count) (at - q.count) no_request no_request (omega arith)))
    go (no h) (no e) =
        simp (le-ltb at 8 (omega arith), get_or-eq_default (held_of q) no_request {n = at} (omega (arith, tidy_length t)))

-- acceptance leaves the queued requests in their places
pub get_accept : (q : Queue) (r : Request) (at : ℕ) → at < q.count → q.count < 8 → get_of (accept_of q r) at ≡ get_of q at
unfolding accept_of get_of request_at
get_accept q r at h k = rw (lt-leb 8 q.count k, request_other q.places q.count at r h k)
