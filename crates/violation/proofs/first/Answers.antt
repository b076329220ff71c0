-- Both loops keep: what is left of the rules and banks gives what all of them give, and nothing was found so far.
use Rattle.std.proofs.Common.{sym, ◌∙◌}
use mathlib.Core.Path.{◌∙◌}
use native.Mathlib.Omega.{arith}
use native.Mathlib.Numerals.{add-one}
use Rattle.violation.proofs.Steps.{bank_holds, rule_begins}
use Rattle.violation.proofs.first.Goals as goal

pub loop-bank-init : goal.loop-bank-init
loop-bank-init c = (c.search.invariant.0, rule_begins _ c.search.rule (omega arith) ∙ c.search.invariant.1)

pub loop-bank-preserved : goal.loop-bank-preserved
loop-bank-preserved c =
    let l = c.loop-bank in
    (l.invariant.0, rw add-one (bank_holds _ _ l.bank (omega arith) ((sym c.holds.ensures ∙ c.if-not-holds.false)) ∙ l.invariant.1))
