-- R1 to R16 as a table (document 01, "Commands and their distances"; R16: document 02, (iv)), over whatever is known of the past: what a command
-- requires, by rising number of the rule and then of the bank.
use Rattle.std.specs.Prelude.{ℕ, ◌*◌, ◌^◌, Bool, true, cond, ◌&&◌, ◌||◌, not, List, [], ◌∷◌, ◌++◌, map, eqb, ltb}
use Rattle.config.specs.declared.Config.{Config}
use Rattle.command.specs.declared.Command.{Command}
use Rattle.command.specs.declared.Command.TheVariants.{Nop, Act, Read, Wrt, Pre, Deac, Refr, Mrs}
use Rattle.device.specs.View.{
  View,
  refresh_cycle,
  mode_register,
  read_to_write,
  any_precharge,
  row_precharge,
  row_cycle,
  row_to_row,
  row_to_column,
  row_active,
  write_recovery,
  opened,
}

-- a requirement: the rule, the bank that a judge names for it, and whether it holds. The bank (document 02, (v)): the command's own for R4 to R9 and for a PRE's R11 to R13, the
-- bank found for R12 and R13 of a DEAC, R14 and R16, and 0 for R1 to R3, R10 and R15
pub record Requirement : Type 0 where
  pub rule : ℕ
  pub bank : ℕ
  pub holds : Bool

abbrev require : ℕ → ℕ → Bool → Requirement
require rule bank holds = record { rule = rule; bank = bank; holds = holds }

-- one for each bank that a device can have, in order
abbrev for_banks : (ℕ → Requirement) → List Requirement
for_banks f = map f (0 ∷ 1 ∷ 2 ∷ 3 ∷ [])

-- R1, in its four parts
abbrev pub R1-bank : Config → ℕ → Requirement
R1-bank c b = require 1 0 (ltb b (2 ^ c.geometry.banks))

abbrev pub R1-row : Config → ℕ → Requirement
R1-row c r = require 1 0 (ltb r (2 ^ c.geometry.rows))

abbrev pub R1-column : Config → ℕ → Requirement
R1-column c k = require 1 0 (ltb k (2 ^ c.geometry.columns))

abbrev pub R1-word : Config → ℕ → Requirement
R1-word c w = require 1 0 (eqb w (16 * c.latency))

abbrev pub R2 : View → List Requirement
R2 v = require 2 0 (v.kept refresh_cycle) ∷ require 2 0 (v.kept mode_register) ∷ []

abbrev pub R3 : View → Requirement
R3 v = require 3 0 v.programmed

abbrev pub R4 : View → ℕ → Requirement
R4 v b = require 4 b (not (opened v b))

abbrev pub R5 : View → ℕ → Requirement
R5 v b = require 5 b (v.kept (row_precharge b))

abbrev pub R6 : View → ℕ → Requirement
R6 v b = require 6 b (v.kept (row_cycle b))

-- the other banks' ACTs; the bank that it names is the command's own
unfoldable pub R7 : View → ℕ → List Requirement
R7 v b = for_banks (λ other. require 7 b (eqb other b || v.kept (row_to_row other)))

abbrev pub R8 : View → ℕ → Requirement
R8 v b = require 8 b (opened v b)

abbrev pub R9 : View → ℕ → Requirement
R9 v b = require 9 b (v.kept (row_to_column b))

abbrev pub R10 : View → Requirement
R10 v = require 10 0 (v.kept read_to_write)

abbrev pub R11 : View → ℕ → Requirement
R11 v b = require 11 b (opened v b)

abbrev pub R12 : View → ℕ → Requirement
R12 v b = require 12 b (v.kept (row_active b))

abbrev pub R13 : View → ℕ → Requirement
R13 v b = require 13 b (v.kept (write_recovery b))

-- R12 and R13 as a DEAC has them, for every open bank
unfoldable pub R12-open : View → List Requirement
R12-open v = for_banks (λ b. require 12 b (not (opened v b) || v.kept (row_active b)))

unfoldable pub R13-open : View → List Requirement
R13-open v = for_banks (λ b. require 13 b (not (opened v b) || v.kept (write_recovery b)))

unfoldable pub R14 : View → List Requirement
R14 v = for_banks (λ b. require 14 b (not (opened v b)))

abbrev pub R15 : View → Requirement
R15 v = require 15 0 (v.kept any_precharge)

-- for REFR and not for MRS: tRC after every bank's last ACT, whether the bank is open or closed; it names the bank found
unfoldable pub R16 : View → List Requirement
R16 v = for_banks (λ b. require 16 b (v.kept (row_cycle b)))

-- the table: each command's requirements
unfoldable pub requirements : Config → View → Command → List Requirement
requirements c v Nop = []
requirements c v (Act b r) =
    R1-bank c b.0 ∷ R1-row c r.0 ∷ R2 v ++ R3 v ∷ R4 v b.0 ∷ R5 v b.0 ∷ R6 v b.0 ∷ R7 v b.0
requirements c v (Read b k) = R1-bank c b.0 ∷ R1-column c k.0 ∷ R2 v ++ R8 v b.0 ∷ R9 v b.0 ∷ []
requirements c v (Wrt b k h) = R1-bank c b.0 ∷ R1-column c k.0 ∷ R2 v ++ R8 v b.0 ∷ R9 v b.0 ∷ R10 v ∷ []
requirements c v (Pre b) = R1-bank c b.0 ∷ R2 v ++ R11 v b.0 ∷ R12 v b.0 ∷ R13 v b.0 ∷ []
requirements c v Deac = R2 v ++ R12-open v ++ R13-open v
requirements c v Refr = R2 v ++ R14 v ++ R15 v ∷ R16 v
requirements c v (Mrs w) = R1-word c w ∷ R2 v ++ R14 v ++ R15 v ∷ []

abbrev pub all_hold : List Requirement → Bool
all_hold [] = true
all_hold (x ∷ xs) = x.holds && all_hold xs

-- a command is legal when all rules hold that it has
unfoldable pub legal_of : Config → View → Command → Bool
legal_of c v k = all_hold (requirements c v k)

-- a slot in which a command is tried: it is sent if legal, otherwise the slot is a NOP
unfoldable pub carried_of : Config → View → Command → Command
carried_of c v k = cond (legal_of c v k) k Nop
