-- Every record that is read takes the reader on.
use Rattle.std.proofs.Common.{◌-◌, length}
use Rattle.bench_tapes.proofs.read_all.Given as goal

abbrev pub decreases-loop-at : goal.decreases-loop-at
decreases-loop-at l = length l.tape - l.at
