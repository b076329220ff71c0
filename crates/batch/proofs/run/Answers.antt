-- One slot more.
use native.Mathlib.Omega.{arith}
use native.Mathlib.Numerals.{add-one}
use mathlib.Core.Path.{◌∙◌}
use Rattle.batch.proofs.Loop.{onwards_next}
use Rattle.batch.proofs.run.Goals as goal

pub loop-i-preserved : goal.loop-i-preserved
loop-i-preserved c =
    let l = c.loop-i in
    let room = c.requires.slots_in_bounds in
    let stepped = c.step-turned.ensures in
    rw (add-one, stepped.words.0, stepped.words.1)
    (onwards_next l.i _ _ _ _ _ _ _ l.commands l.reports c.loop-i-test.true room.0 (omega (arith, room.1, l.auto.commands)) (omega (arith, room.2, l.auto.reports)) stepped.parts ∙ l.invariant)
