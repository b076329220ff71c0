-- The invariant: the moves that are left give of the array as it is now what all moves give of it as it was at first.
use Prim.Native.Nat.{◌-◌}
use mathlib.Core.Path.{◌≡◌}
use Rattle.queue.specs.Places.{shifting}
use Rattle.queue.proofs.Queue.shift.Given as goal

abbrev pub invariant-loop-i : goal.invariant-loop-i
invariant-loop-i l =
    (shifting (7 - l.i) l.i l.self.places ≡ shifting (7 - l.at) l.at l.initial.self.places) × (l.self.count ≡ l.initial.self.count)
