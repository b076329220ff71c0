use native.Mathlib.Omega.{arith}
use Rattle.tape_writer.proofs.Passes.{measured_all}
use Rattle.tape_writer.proofs.extend.Goals as goal

pub fill-requires : goal.fill-requires
fill-requires c =
    let a = c.args in
    let m = measured_all a.pending a.words.now c.measure.ensures c.in_ok-found.was in
    (m.0, record { fits = omega (arith, m.1, c.if-tape-found.false) })
