-- The invariant: the search from place i on finds what the whole search finds.
use Prim.Native.Nat.{◌-◌}
use mathlib.Core.Path.{◌≡◌}
use Rattle.queue.specs.Places.{held_of, held_count}
use Rattle.queue.specs.Oldest.{ready_of, first_of, oldest_of}
use Rattle.search.proofs.oldest.Given as goal

abbrev pub invariant-loop-i : goal.invariant-loop-i
invariant-loop-i l = oldest_of l.kind (held_of l.queue) ≡ first_of (ready_of l.kind (held_of l.queue)) (held_count l.queue.count - l.i) l.i
