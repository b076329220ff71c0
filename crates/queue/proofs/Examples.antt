-- Worked examples of the definitions, by computation.
use Prim.Native.Nat.{ℕ}
use mathlib.Core.Path.{◌≡◌, refl}
use mathlib.Core.Bool.{true, false, cond}
use mathlib.Core.List.{List, [], ◌∷◌, ◌++◌, map}
use native.Mathlib.Omega.{arith}
use lib.Dec.{eqb}
use lib.ListN.{replicate}
use Rattle.std.specs.Prelude.{Option, Some, None}
use Rattle.queue.specs.declared.Kind.{Kind}
use Rattle.queue.specs.declared.Kind.TheVariants.{Read, Write}
use Rattle.queue.specs.declared.Request.{Request}
use Rattle.queue.specs.declared.Queue.{Queue}
use Rattle.queue.specs.Places.{no_request, request_for, kind_in, request_in, request_at, queue_of, empty_of, stored_of, accept_of, shifted_of, remove_of, get_of}
use Rattle.queue.specs.Oldest.{blocked_of, ready_of, oldest_of}
use Rattle.queue.proofs.Order.{Rising, end, next, without}
use Rattle.queue.proofs.Consistent.{applied, Consistent, same, then}

-- a request of a kind at an address, with a number and a halfword
abbrev ask : ℕ → Kind → ℕ → ℕ → Request
ask n k a h = request_for k n a h

abbrev read_at : ℕ → Request
read_at a = ask 1 Read a 0

abbrev write_at : ℕ → Request
write_at a = ask 1 Write a 7

-- a queue, oldest first, with its oldest unblocked read and its oldest unblocked write
record Row : Type 0 where
  queued : List Request
  read : Option ℕ
  write : Option ℕ

abbrev row : List Request → Option ℕ → Option ℕ → Row
row l r w = record { queued = l; read = r; write = w }

abbrev table : List Row
table =
    -- E10, and what is left of it after each service
    row (write_at 0 ∷ read_at 0 ∷ read_at 0x800 ∷ []) (Some 2) (Some 0)
    ∷ row (write_at 0 ∷ read_at 0 ∷ []) None (Some 0)
    ∷ row (read_at 0 ∷ []) (Some 0) None
    -- E11
    ∷ row (write_at 0 ∷ read_at 0x7FE ∷ []) None (Some 0)
    -- blocks end at multiples of 0x800
    ∷ row (write_at 0x7FE ∷ read_at 0x800 ∷ []) (Some 1) (Some 0)
    ∷ row (write_at 0x800 ∷ read_at 0xFFE ∷ []) None (Some 0)
    -- a read blocks too
    ∷ row (read_at 0 ∷ write_at 2 ∷ []) (Some 0) None
    -- the oldest of several
    ∷ row (read_at 0x1000 ∷ read_at 0 ∷ write_at 0x800 ∷ write_at 0x1800 ∷ []) (Some 0) (Some 2)
    ∷ row [] None None
    ∷ []

oldest_examples : map (λ (r : Row). row r.queued (oldest_of Read r.queued) (oldest_of Write r.queued)) table ≡ table
unfolding oldest_of ready_of blocked_of
oldest_examples = refl

-- E10's three places, and one where nothing is queued
blocked_examples : map (blocked_of (write_at 0 ∷ read_at 0 ∷ read_at 0x800 ∷ [])) (0 ∷ 1 ∷ 2 ∷ 3 ∷ []) ≡ false ∷ true ∷ false ∷ false ∷ []
unfolding blocked_of
blocked_examples = refl

-- requests accepted one after the other, on an empty queue
accepted : List Request → Queue
unfolding empty_of accept_of
accepted rs = go empty_of rs
  where
    go : Queue → List Request → Queue
    go q [] = q
    go q (r ∷ rs) = go (accept_of q r) rs

abbrev nth : ℕ → Request
nth n = ask n Write 0 n

abbrev eight : List Request
eight = nth 1 ∷ nth 2 ∷ nth 3 ∷ nth 4 ∷ nth 5 ∷ nth 6 ∷ nth 7 ∷ nth 8 ∷ []

-- a full queue, to which a ninth request is nothing new: the numbers, the addresses, the halfwords of writes
full_example :
    accepted (nth 1 ∷ nth 2 ∷ nth 3 ∷ nth 4 ∷ nth 5 ∷ nth 6 ∷ nth 7 ∷ nth 8 ∷ nth 9 ∷ [])
    ≡ queue_of
    ((1 ∷ 2 ∷ 3 ∷ 4 ∷ 5 ∷ 6 ∷ 7 ∷ 8 ∷ [])
    ++ (replicate 8 0 ++ (65537 ∷ 65538 ∷ 65539 ∷ 65540 ∷ 65541 ∷ 65542 ∷ 65543 ∷ 65544 ∷ [])))
    8
unfolding accepted empty_of stored_of accept_of
full_example = refl

-- removal in the middle, of the last one, of a full queue's first, and where none is queued
remove_examples :
    remove_of (accepted (nth 1 ∷ nth 2 ∷ nth 3 ∷ [])) 1
    ∷ remove_of (accepted (nth 1 ∷ nth 2 ∷ nth 3 ∷ [])) 2
    ∷ remove_of (accepted eight) 0
    ∷ remove_of (accepted []) 0
    ∷ []
    ≡ accepted (nth 1 ∷ nth 3 ∷ [])
    ∷ accepted (nth 1 ∷ nth 2 ∷ [])
    ∷ accepted (nth 2 ∷ nth 3 ∷ nth 4 ∷ nth 5 ∷ nth 6 ∷ nth 7 ∷ nth 8 ∷ [])
    ∷ accepted []
    ∷ []
unfolding accepted empty_of stored_of accept_of shifted_of remove_of
remove_examples = refl

-- at a place where none is queued the youngest is lost
beyond_example : remove_of (accepted (nth 1 ∷ nth 2 ∷ [])) 5 ≡ queue_of (accepted (nth 1 ∷ nth 2 ∷ [])).places 1
unfolding accepted empty_of accept_of stored_of remove_of shifted_of
beyond_example = refl

-- a read, a write, an unused place, and a place that there isn't
get_examples : map (get_of (accepted (ask 1 Read 2 3 ∷ ask 4 Write 6 65535 ∷ []))) (0 ∷ 1 ∷ 2 ∷ 8 ∷ []) ≡ ask 1 Read 2 3 ∷ ask 4 Write 6 65535 ∷ no_request ∷ no_request ∷ []
unfolding accepted empty_of stored_of accept_of kind_in request_in request_at get_of
get_examples = refl

-- the third of four requests taken out of the list
without_example : without 2 (nth 1 ∷ nth 2 ∷ nth 3 ∷ nth 4 ∷ []) ≡ nth 1 ∷ nth 2 ∷ nth 4 ∷ []
unfolding without
without_example = refl

-- a memory that holds each address at itself, around the address of a write of 7 and of a read
served_examples : map (applied (λ a. a) (ask 1 Write 4 7)) (2 ∷ 4 ∷ 6 ∷ []) ++ map (applied (λ a. a) (ask 1 Read 4 7)) (2 ∷ 4 ∷ 6 ∷ [])
    ≡ 2 ∷ 7 ∷ 6 ∷ 2 ∷ 4 ∷ 6 ∷ []
unfolding applied
served_examples = refl

-- a write of 7 and a read of the same address, numbers 1 and 2: the flat memory has the 7 already, and it is the read's answer
consistent_example :
    Consistent (λ a. Unit {0}) (λ n. cond (eqb n 2) 7 0) (λ a. 0) (ask 1 Write 4 7 ∷ ask 2 Read 4 0 ∷ []) (λ a. cond (eqb a 4) 7 0)
unfolding applied
consistent_example =
    then (λ (k : Write ≡ Read). let z : ◌≡◌ {A = ℕ} 0 1 = cc in absurd (omega arith)) (then (λ k. refl) (same (λ a o. refl)))

rising_example : Rising 0 5 (nth 2 ∷ nth 4 ∷ [])
rising_example =
    next {low = 0} {r = nth 2} (omega arith) (next {low = 2} {r = nth 4} (omega arith) (end {low = 4} {high = 5} (omega arith)))
