-- The output keeps its length, and what waits stays within it; the places left are the measure.
use Rattle.std.proofs.Common.{◌-◌, ◌≤◌, ◌≡◌, length}
use Rattle.calls.proofs.beyond.Given as goal

abbrev pub invariant-loop-i : goal.invariant-loop-i
invariant-loop-i g l =
    (length l.output ≡ length l.initial.output) × (l.out.waiting ≤ length l.initial.output)

abbrev pub decreases-loop-i : goal.decreases-loop-i
decreases-loop-i g l = length l.words - l.i
