-- Every record that is read takes the reader on.
use Rattle.std.proofs.Common.{◌-◌, length}
use Rattle.show.proofs.Shown.records.Given as goal

abbrev pub decreases-loop-at : goal.decreases-loop-at
decreases-loop-at g l = length l.part - l.at
