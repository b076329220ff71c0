-- The loop keeps what `Along` says; each record that is taken is left behind, and any other halts it.
use native.Mathlib.Omega.{arith}
use Rattle.std.specs.Prelude.{Some, None}
use Rattle.judge.proofs.Along.{along_start, after}
use Rattle.judge.proofs.follow.Goals as goal

pub loop-next-init : goal.loop-next-init
loop-next-init c = (c.requires.0, c.requires.1, rw (c.requires.2, c.requires.3) (along_start c.args.c c.args.tape.now))

pub loop-next-smaller : goal.loop-next-smaller
loop-next-smaller c =
    let l = c.loop-next in
    let t = c.in-Some in
    (after l.invariant.0 l.invariant.2 (Some t.next) _ _ t.ensures.last_after t.ensures.clock_bound).nearer

pub loop-next-preserved : goal.loop-next-preserved
loop-next-preserved c =
    let l = c.loop-next in
    let t = c.in-Some in
    (l.invariant.0, l.invariant.1, (after l.invariant.0 l.invariant.2 (Some t.next) _ _ t.ensures.last_after t.ensures.clock_bound).along)

pub returns-clause-tape_value : goal.returns-clause-tape_value
returns-clause-tape_value c =
    let l = c.loop-next in
    (after l.invariant.0 l.invariant.2 None _ _ c.in_default.ensures.last_after c.in_default.ensures.clock_bound).said

pub returns-clause-halts : goal.returns-clause-halts
returns-clause-halts c =
    let l = c.loop-next in
    (after l.invariant.0 l.invariant.2 None _ _ c.in_default.ensures.last_after c.in_default.ensures.clock_bound).halts

pub returns-clause-clock_bound : goal.returns-clause-clock_bound
returns-clause-clock_bound c =
    let l = c.loop-next in
    let h = after l.invariant.0 l.invariant.2 None _ _ c.in_default.ensures.last_after c.in_default.ensures.clock_bound in
    (h.started, omega (arith, l.invariant.1, h.bounded))
