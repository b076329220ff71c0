-- The number is the definition's.
use Rattle.sequencer.proofs.Machine.request.Goals as goal

pub answered-requires : goal.answered-requires
answered-requires c = c.check_request-tested.ensures _
