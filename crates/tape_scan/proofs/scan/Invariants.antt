-- The invariant: the slots so far and the rest of the tape give what the whole tape gives. Every record that is read takes the reader on.
use Rattle.std.proofs.Common.{◌≡◌, ◌-◌, ◌^◌, ◌<◌, length}
use Rattle.tape_scan.specs.Scan.{scanned_after, scanned_of}
use Rattle.tape_scan.proofs.Scans.{rest}
use Rattle.tape_scan.proofs.scan.Given as goal

abbrev pub invariant-loop-at : goal.invariant-loop-at
invariant-loop-at l = (l.count < 2 ^ 64) × (scanned_after l.count (rest l.tape l.at l.run) ≡ scanned_of l.tape)

abbrev pub decreases-loop-at : goal.decreases-loop-at
decreases-loop-at l = length l.tape - l.at
