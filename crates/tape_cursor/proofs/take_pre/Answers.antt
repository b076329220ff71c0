use Prim.Native.Nat.{ℕ, ◌+◌}
use mathlib.Core.Path.{ap, ◌∙◌}
use lib.Dec.{lit≤}
use Rattle.tape.specs.Reading.{body_length}
use Rattle.device.proofs.Tests.{told}
use Rattle.tape_cursor.proofs.Records.{pre_step, cut_halts, legal_sent, illegal_halts}
use Rattle.tape_cursor.proofs.take_pre.Goals as goal

pub returns-then-tape-p-lt2-clause-last_after : goal.returns-then-tape-p-lt2-clause-last_after
unfolding body_length
returns-then-tape-p-lt2-clause-last_after c =
    cut_halts c.args.c c.args.past.now.last c.args.past.now.clock c.args.tape.now c.args.p c.requires.2 (lit≤ tt) c.if-tape-p-lt2.true

pub returns-then-pre_legal-clause-last_after : goal.returns-then-pre_legal-clause-last_after
returns-then-pre_legal-clause-last_after c =
    rw c.sent.ensures (legal_sent c.args.c c.args.past.now.last c.args.past.now.clock c.args.tape.now c.args.p _ 2 (pre_step c.requires.2 c.if-tape-p-lt2.false) (told c.pre_legal.ensures c.if-pre_legal.true) (c.pass.ensures.last ∙ c.note_pre.ensures.last) (c.pass.ensures.clock ∙ ap (λ (n : ℕ). n + 1) c.note_pre.ensures.clock))

pub returns-clause-last_after : goal.returns-clause-last_after
returns-clause-last_after c =
    illegal_halts c.args.c c.args.past.now.last c.args.past.now.clock c.args.tape.now c.args.p _ 2 (pre_step c.requires.2 c.if-tape-p-lt2.false) (told c.pre_legal.ensures c.if-pre_legal.false)
