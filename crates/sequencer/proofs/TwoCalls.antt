-- Document 02, (iii): what the one call gives is what document 01's two calls gave. Their definitions are kept here alone, as they stood before (iii) landed,
-- `Before` behind names that are still in use; both sides share `request_number_of`, `enqueued_of` and `request_for`, which it did not touch.
use Prim.Native.Nat.{ℕ, ◌+◌}
use mathlib.Core.Path.{◌≡◌, refl}
use mathlib.Core.Bool.{cond}
use lib.Dec.{eqb}
use Rattle.queue.specs.declared.Kind.{Kind}
use Rattle.queue.specs.declared.Kind.TheVariants.{Read, Write}
use Rattle.queue.specs.declared.Request.{Request}
use Rattle.queue.specs.Places.{request_for}
use Rattle.sequencer.specs.declared.Machine.{Machine}
use Rattle.sequencer.specs.Answers.{Requested}
use Rattle.sequencer.specs.Calls.{request_number_of, queued_request, enqueued_of, request_of}

abbrev queued_request_before : Machine → Kind → ℕ → ℕ → Request
queued_request_before m kind address halfword = request_for kind (m.accepted + 1) address halfword

abbrev request_of_before : Machine → Kind → ℕ → ℕ → Requested
request_of_before m kind address halfword =
    cond (eqb (request_number_of m address) 0)
    (enqueued_of m (queued_request_before m kind address halfword))
    (record { number = request_number_of m address; request = 0; machine = m })

abbrev pub read_request_of : Machine → ℕ → Requested
read_request_of m address = request_of_before m Read address 0

abbrev pub write_request_of : Machine → ℕ → ℕ → Requested
write_request_of m address halfword = request_of_before m Write address halfword

-- For every record and argument: the number, the request's number and the record after it.
pub record SameAsTwo : Type 0 where
  -- whatever halfword is given with a read
  pub read : (m : Machine) (address halfword : ℕ) → request_of m Read address halfword ≡ read_request_of m address
  pub write : (m : Machine) (address halfword : ℕ) → request_of m Write address halfword ≡ write_request_of m address halfword
  -- so that nothing after a read depends on it
  pub ignored : (m : Machine) (address halfword other : ℕ) → request_of m Read address halfword ≡ request_of m Read address other

pub same_as_two : SameAsTwo
unfolding request_of queued_request
same_as_two = record { read = λ m address halfword. refl; write = λ m address halfword. refl; ignored = λ m address halfword other. refl }
