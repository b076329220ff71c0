-- The invariant: what the definition says of all older places is what it says of those from i on.
use Prim.Native.Nat.{◌≤◌}
use mathlib.Core.Path.{◌≡◌}
use lib.ListN.{take, drop}
use Rattle.queue.specs.Places.{requests_in}
use Rattle.queue.specs.Oldest.{shared_by}
use Rattle.search.proofs.shared.Given as goal

abbrev pub invariant-loop-i : goal.invariant-loop-i
invariant-loop-i l =
    (l.i ≤ l.end) × (shared_by l.wanted (take l.end (requests_in l.queue.places)) ≡ shared_by l.wanted (drop l.i (take l.end (requests_in l.queue.places))))
