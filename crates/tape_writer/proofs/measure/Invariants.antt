-- The invariant: the words that are left give, of the length so far, what all words give; and no slot takes more than six bytes.
use Prim.Native.Nat.{◌+◌, ◌*◌, ◌≤◌, ◌<◌, ◌^◌}
use mathlib.Core.Path.{◌≡◌}
use lib.ListN.{length, drop}
use Rattle.tape.specs.Writing.{run_bytes}
use Rattle.tape_writer.specs.Passes.{measured_of}
use Rattle.tape_writer.proofs.Passes.{onward}
use Rattle.tape_writer.proofs.measure.Given as goal

abbrev pub invariant-loop-word : goal.invariant-loop-word
invariant-loop-word l =
    (l.length + length (run_bytes l.open) ≤ 6 * l.word-index + 3)
    × (length l.words * 8 < 2 ^ 63)
    × (onward l.length l.open (drop l.word-index l.words) ≡ measured_of l.pending l.words)
