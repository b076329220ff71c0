use Rattle.std.proofs.Common.{refl}
use Rattle.judge.proofs.Refusals.{set_accepted}
use Rattle.judge.proofs.judge.Goals as goal

pub judged-requires : goal.judged-requires
judged-requires c = (set_accepted _ _ _ _ _ c.in_ok-config.ensures refl, c.if-tape-gt-LONGEST.false)
