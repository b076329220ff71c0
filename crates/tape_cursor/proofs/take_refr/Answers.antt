use Prim.Native.Nat.{ℕ, ◌+◌}
use mathlib.Core.Path.{ap, ◌∙◌}
use Rattle.device.proofs.Tests.{told}
use Rattle.tape_cursor.proofs.Records.{refr_step, legal_sent, illegal_halts}
use Rattle.tape_cursor.proofs.take_refr.Goals as goal

pub returns-then-refr_legal-clause-last_after : goal.returns-then-refr_legal-clause-last_after
returns-then-refr_legal-clause-last_after c =
    rw c.sent.ensures (legal_sent c.args.c c.args.past.now.last c.args.past.now.clock c.args.tape.now c.args.p _ 1 (refr_step c.requires.2) (told c.refr_legal.ensures c.if-refr_legal.true) (c.pass.ensures.last ∙ c.note_refr.ensures.last) (c.pass.ensures.clock ∙ ap (λ (n : ℕ). n + 1) c.note_refr.ensures.clock))

pub returns-clause-last_after : goal.returns-clause-last_after
returns-clause-last_after c =
    illegal_halts c.args.c c.args.past.now.last c.args.past.now.clock c.args.tape.now c.args.p _ 1 (refr_step c.requires.2) (told c.refr_legal.ensures c.if-refr_legal.false)
