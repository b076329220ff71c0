use Rattle.calls.specs.Played.{played_of}
use Rattle.calls.proofs.bus.Goals as goal

pub returns : goal.returns
unfolding played_of
returns c = simp (← c.line-text.ensures)
