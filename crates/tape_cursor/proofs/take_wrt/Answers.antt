use Prim.Native.Nat.{ℕ, ◌+◌}
use mathlib.Core.Path.{ap, ◌∙◌}
use lib.Dec.{lit≤}
use Rattle.tape.specs.Reading.{body_length}
use Rattle.device.proofs.Tests.{told}
use Rattle.tape_cursor.proofs.Records.{pair, wrt_four, wrt_step, cut_halts, legal_sent, illegal_halts}
use Rattle.tape_cursor.proofs.take_wrt.Goals as goal

pub returns-then-tape-p-lt6-clause-last_after : goal.returns-then-tape-p-lt6-clause-last_after
unfolding body_length
returns-then-tape-p-lt6-clause-last_after c =
    cut_halts c.args.c c.args.past.now.last c.args.past.now.clock c.args.tape.now c.args.p c.requires.2 (lit≤ tt) c.if-tape-p-lt6.true

pub note_wrt-requires : goal.note_wrt-requires
note_wrt-requires c =
    wrt_four c.args.c c.requires.0 _ _ _ _ (told (c.wrt_legal.ensures (pair c.args.tape.now (c.args.p.at + 4))) c.if-wrt_legal.true)

pub returns-then-wrt_legal-clause-last_after : goal.returns-then-wrt_legal-clause-last_after
returns-then-wrt_legal-clause-last_after c =
    rw c.sent.ensures (legal_sent c.args.c c.args.past.now.last c.args.past.now.clock c.args.tape.now c.args.p _ 6 (rw (← c.pair_at.ensures) at (wrt_step c.requires.2 c.if-tape-p-lt6.false)) (told (c.wrt_legal.ensures (pair c.args.tape.now (c.args.p.at + 4))) c.if-wrt_legal.true) (c.pass.ensures.last ∙ c.note_wrt.ensures.last _ _) (c.pass.ensures.clock ∙ ap (λ (n : ℕ). n + 1) c.note_wrt.ensures.clock))

pub returns-clause-last_after : goal.returns-clause-last_after
returns-clause-last_after c =
    illegal_halts c.args.c c.args.past.now.last c.args.past.now.clock c.args.tape.now c.args.p _ 6 (rw (← c.pair_at.ensures) at (wrt_step c.requires.2 c.if-tape-p-lt6.false)) (told (c.wrt_legal.ensures (pair c.args.tape.now (c.args.p.at + 4))) c.if-wrt_legal.false)
