-- The stamps after the command are the same whatever its word.
use Rattle.stamps.proofs.Noted.{noted_earlier}
use Rattle.stamps.proofs.Stamps.note_mrs.Goals as goal

pub invariant_of-self-clause-earlier : goal.invariant_of-self-clause-earlier
invariant_of-self-clause-earlier c = let e = c.note_mrs.ensures 0 in search (e, noted_earlier)
