-- Each step is what its own function ensures.
use Rattle.turn.proofs.Laws.{step_is}
use Rattle.turn.proofs.step.Goals as goal

pub returns-clause-parts : goal.returns-clause-parts
returns-clause-parts c =
    let long = c.lengths.ensures in
    step_is _ _ _ _ _ _ _ long.0 long.1 long.2
    c.ticked-ticked.ensures
    c.must_after-run.ensures
    (c.current-current.ensures _)
    c.serve-carried.ensures
    c.counters_after.ensures
    c.dequeue.ensures
    c.elapse.ensures
