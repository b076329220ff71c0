-- What a judge says of a command in a slot (document 02, (v): the rule broken, and the bank).
use Rattle.std.specs.Prelude.{cond, List, [], ◌∷◌, Option, Some, None}
use Rattle.device.specs.Rules.{Requirement}
use Rattle.violation.specs.declared.Violation.{Violation}

-- the first requirement of the table (crate `device`, specs/Rules.antt) that does not hold: its rule, and the bank that it names; 0 and 0 where all hold
unfoldable pub violation_of : List Requirement → Violation
violation_of [] = record { rule = 0; bank = 0 }
violation_of (x ∷ xs) = cond x.holds (violation_of xs) (record { rule = x.rule; bank = x.bank })

-- what the search finds, in these numbers
abbrev pub violation_in : Option Violation → Violation
violation_in None = record { rule = 0; bank = 0 }
violation_in (Some x) = x
