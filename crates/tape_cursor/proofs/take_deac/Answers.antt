use Prim.Native.Nat.{ℕ, ◌+◌}
use mathlib.Core.Path.{ap, ◌∙◌}
use Rattle.device.proofs.Tests.{told}
use Rattle.tape_cursor.proofs.Records.{deac_step, legal_sent, illegal_halts}
use Rattle.tape_cursor.proofs.take_deac.Goals as goal

pub returns-then-deac_legal-clause-last_after : goal.returns-then-deac_legal-clause-last_after
returns-then-deac_legal-clause-last_after c =
    rw c.sent.ensures (legal_sent c.args.c c.args.past.now.last c.args.past.now.clock c.args.tape.now c.args.p _ 1 (deac_step c.requires.2) (told c.deac_legal.ensures c.if-deac_legal.true) (c.pass.ensures.last ∙ c.note_deac.ensures.last) (c.pass.ensures.clock ∙ ap (λ (n : ℕ). n + 1) c.note_deac.ensures.clock))

pub returns-clause-last_after : goal.returns-clause-last_after
returns-clause-last_after c =
    illegal_halts c.args.c c.args.past.now.last c.args.past.now.clock c.args.tape.now c.args.p _ 1 (deac_step c.requires.2) (told c.deac_legal.ensures c.if-deac_legal.false)
