-- The loop makes one age after the other older.
use mathlib.Core.Path.{◌≡◌}
use mathlib.Core.Bool.{false}
use Rattle.ages.specs.Ages.{past_of, aged_of}
use Rattle.aging.proofs.Loop.{changed}
use Rattle.aging.proofs.elapse.Given as goal

abbrev pub invariant-loop-i : goal.invariant-loop-i
invariant-loop-i l =
    l.past ≡ past_of (changed (aged_of false) l.i l.initial.past.ages) l.initial.past.opened l.initial.past.rows l.initial.past.programmed
