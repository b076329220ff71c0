-- The output keeps its buffer and its length, and what waits stays within it.
use Rattle.std.proofs.Common.{◌≤◌, ◌≡◌, length}
use Rattle.calls.proofs.unpacked.Given as goal

abbrev pub invariant-loop-command : goal.invariant-loop-command
invariant-loop-command g l =
    (length l.output.buffer.now ≡ length l.initial.output.buffer.now)
    × (l.output.waiting ≤ length l.initial.output.buffer.now)
    × (l.output.buffer.ghost_name ≡ l.initial.output.buffer.ghost_name)
