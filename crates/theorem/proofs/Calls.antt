-- The calls by their cases: what an accepted request shows, and what a call on a record without a number of its own is.
use Prim.Native.Nat.{ℕ}
use mathlib.Core.Path.{◌≡◌, refl}
use mathlib.Core.Bool.{Bool, true, false, cond}
use lib.Dec.{eqb}
use borrow.Author.Tests.{eqb-true, eqb-false, eq-eqb}
use Rattle.queue.specs.declared.Kind.{Kind}
use Rattle.sequencer.specs.declared.Machine.{Machine}
use Rattle.sequencer.specs.Answers.{Requested}
use Rattle.sequencer.specs.Calls.{record_number_of, request_number_of, queued_request, enqueued_of, request_of, backlog_of}

-- a request is accepted, or the record comes back
pub request_cases : (m : Machine) (kind : Kind) (address halfword : ℕ) (P : Requested → Type 0)
    → (request_number_of m address ≡ 0 → P (enqueued_of m (queued_request m kind address halfword)))
    → ((request_number_of m address ≡ 0 → ⊥) → P (record { number = request_number_of m address; request = 0; machine = m }))
    → P (request_of m kind address halfword)
unfolding request_of
request_cases m kind address halfword P yes' no' = by_test (eqb (request_number_of m address) 0) refl
  where
    by_test : (b : Bool) → eqb (request_number_of m address) 0 ≡ b
        → P (cond b (enqueued_of m (queued_request m kind address halfword)) (record { number = request_number_of m address; request = 0; machine = m }))
    by_test true e = yes' (eqb-true _ _ e)
    by_test false e = no' (eqb-false _ _ e)

-- a record with no number: the reading call gives the counter
pub backlog_reads : (m : Machine) → record_number_of m ≡ 0 → backlog_of m ≡ record { number = 0; backlog = m.counters.backlog }
unfolding backlog_of
backlog_reads m h = simp (eq-eqb _ _ h)
