-- Both loops keep: what is left of the rules and banks gives what all of them give, and nothing was found so far.
use Prim.Native.Nat.{◌-◌, suc}
use mathlib.Core.Path.{◌≡◌}
use mathlib.Core.List.{◌++◌}
use Rattle.std.specs.Prelude.{None}
use Rattle.violation.proofs.Grid.{first_of, from_bank, from_rule, asked}
use Rattle.violation.proofs.first.Given as goal

abbrev pub invariant-loop-bank : goal.invariant-loop-bank
invariant-loop-bank l =
    (l.found ≡ None)
    × (first_of (from_bank (4 - l.bank) (asked l.c l.past.last l.past.clock l.command) l.rule l.bank ++ from_rule (16 - l.rule) (asked l.c l.past.last l.past.clock l.command) (suc l.rule))
    ≡ first_of (from_rule 16 (asked l.c l.past.last l.past.clock l.command) 1))

abbrev pub invariant-search : goal.invariant-search
invariant-search l =
    (l.found ≡ None)
    × (first_of (from_rule (17 - l.rule) (asked l.c l.past.last l.past.clock l.command) l.rule) ≡ first_of (from_rule 16 (asked l.c l.past.last l.past.clock l.command) 1))
