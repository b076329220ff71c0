-- The loop keeps what `Along` says; each record that is taken is left behind, and any other halts it.
use Prim.Native.Nat.{◌-◌, ◌≤◌}
use lib.ListN.{length}
use Rattle.config.specs.Accepted.{Accepted}
use Rattle.judge.specs.Judge.{longest}
use Rattle.judge.proofs.Along.{Along}
use Rattle.judge.proofs.follow.Given as goal

abbrev pub invariant-loop-next : goal.invariant-loop-next
invariant-loop-next l = Accepted l.c × (length l.tape ≤ longest) × Along l.c l.tape l.past.last l.past.clock l.p

abbrev pub decreases-loop-next : goal.decreases-loop-next
decreases-loop-next l = length l.tape - l.p.at
