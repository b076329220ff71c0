-- Facts about the machine's parts that no proof here needs any more, for who cites them: a place below the count, one of eight, is held, and a slot keeps the lengths of the past's arrays.
use Prim.Native.Nat.{ℕ, ◌≤◌, ◌<◌}
use native.Mathlib.Decide.{dec_le}
use native.Mathlib.Omega.{arith}
use mathlib.Core.Path.{◌≡◌, refl}
use borrow.Author.Tests.{le-leb, lt-leb}
use lib.ListN.{length}
use Rattle.config.specs.declared.Config.{Config}
use Rattle.ages.specs.declared.Past.{Past}
use Rattle.ages.specs.Ages.{ages_after, sent_of}
use Rattle.queue.specs.declared.Queue.{Queue}
use Rattle.queue.specs.Places.{held_count}
use Rattle.refresh.specs.declared.Counters.{Counters}
use Rattle.plan.specs.declared.Control.{Control}
use Rattle.turn.specs.Parts.{Parts, stepped_of}

pub below_held : (i n : ℕ) → i < n → i < 8 → i < held_count n
unfolding held_count
below_held i n h k = go (dec_le 8 n)
  where
    go : Dec (8 ≤ n) → i < held_count n
    go (yes m) = rw (le-leb 8 n m) k
    go (no m) = rw (lt-leb 8 n (omega arith)) h

pub stepped_lengths : (c : Config) (p : Past) (n : Counters) (x : Control) (q : Queue) (bus : ℕ) {t : Parts} → t ≡ stepped_of c p n x q bus
    → (length t.past.ages ≡ 16) × (length t.past.opened ≡ 4) × (length t.past.rows ≡ 4)
unfolding stepped_of sent_of ages_after
stepped_lengths c p n x q bus e = rw e (refl, refl, refl)
