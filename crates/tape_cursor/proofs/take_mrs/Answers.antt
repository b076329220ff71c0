use Prim.Native.Nat.{ℕ, ◌+◌}
use mathlib.Core.Path.{ap, ◌∙◌}
use Rattle.device.proofs.Tests.{told}
use Rattle.tape_cursor.proofs.Records.{mrs_step, legal_sent, illegal_halts}
use Rattle.tape_cursor.proofs.take_mrs.Goals as goal

pub returns-then-mrs_legal-clause-last_after : goal.returns-then-mrs_legal-clause-last_after
returns-then-mrs_legal-clause-last_after c =
    rw c.sent.ensures (legal_sent c.args.c c.args.past.now.last c.args.past.now.clock c.args.tape.now c.args.p _ 3 (rw (← c.pair_at.ensures) at (mrs_step c.requires.2 c.if-tape-p-lt3.false)) (told c.mrs_legal.ensures c.if-mrs_legal.true) (c.pass.ensures.last ∙ c.note_mrs.ensures.last _) (c.pass.ensures.clock ∙ ap (λ (n : ℕ). n + 1) c.note_mrs.ensures.clock))

pub returns-clause-last_after : goal.returns-clause-last_after
returns-clause-last_after c =
    illegal_halts c.args.c c.args.past.now.last c.args.past.now.clock c.args.tape.now c.args.p _ 3 (rw (← c.pair_at.ensures) at (mrs_step c.requires.2 c.if-tape-p-lt3.false)) (told c.mrs_legal.ensures c.if-mrs_legal.false)
