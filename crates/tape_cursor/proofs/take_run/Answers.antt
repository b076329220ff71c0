use lib.Dec.{lit≤}
use Rattle.tape.specs.Reading.{body_length}
use Rattle.tape_cursor.proofs.Records.{cut_halts}
use Rattle.tape_cursor.proofs.take_run.Goals as goal

pub returns-then-tape-p-lt3-clause-last_after : goal.returns-then-tape-p-lt3-clause-last_after
unfolding body_length
returns-then-tape-p-lt3-clause-last_after c =
    λ k. cut_halts k c.args.past.now.last c.args.past.now.clock c.args.tape.now c.args.p c.requires.1 (lit≤ tt) c.if-tape-p-lt3.true
