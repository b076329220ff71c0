-- A refused reading has the tests' number, and any other the backlog.
use Rattle.sequencer.proofs.Laws.{backlog_read, backlog_refused}
use Rattle.sequencer.proofs.Machine.backlog.Goals as goal

pub returns-in_err-check_record : goal.returns-in_err-check_record
returns-in_err-check_record c =
    let m = c.args.self in backlog_refused m _ (c.in_err-check_record.ensures m.control.must) _ c.from_residual.ensures.0 c.from_residual.ensures.1

pub returns : goal.returns
returns c = let m = c.args.self in backlog_read m (c.in_ok-check_record.ensures m.control.must)
