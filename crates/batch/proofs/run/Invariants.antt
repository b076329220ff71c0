-- The invariant: the slots that are left give of everything as it is what all slots give of it as it was at first.
use mathlib.Core.Path.{◌≡◌}
use Rattle.batch.proofs.Loop.{onwards}
use Rattle.batch.proofs.run.Given as goal

abbrev pub invariant-loop-i : goal.invariant-loop-i
invariant-loop-i l =
    onwards l.i l.slots l.c l.past l.counters l.control l.queue l.bus l.commands l.reports
    ≡ onwards 0 l.slots l.c l.initial.past l.initial.counters l.initial.control l.initial.queue l.bus l.initial.commands l.initial.reports
