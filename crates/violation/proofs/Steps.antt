-- One turn of each loop of the walk, and its end.
use Prim.Native.Nat.{ℕ, suc, ◌-◌, ◌≤◌, ◌<◌}
use mathlib.Core.Path.{◌≡◌, sym, ◌∙◌}
use mathlib.Core.Bool.{Bool, true, false}
use mathlib.Core.List.{List, ◌++◌}
use Rattle.std.specs.Prelude.{Some, None}
use native.Mathlib.Omega.{arith}
use Rattle.config.specs.declared.Config.{Config}
use Rattle.config.specs.Accepted.{Shaped}
use Rattle.command.specs.declared.Command.{Command}
use Rattle.device.specs.Rules.{Requirement, requirements, legal_of}
use Rattle.stamps.specs.Stamps.{by_stamps}
use Rattle.violation.specs.Violation.{violation_of}
use Rattle.violation.specs.Walk.{holds_of, named_of}
use Rattle.violation.proofs.Grid.{first_of, from_bank, from_rule, asked, value_is, none_is}

module _ (f : ℕ → ℕ → Requirement) (rule : ℕ) where
  -- one bank after another, and the rules behind them
  abbrev left : ℕ → List Requirement
  left bank = from_bank (4 - bank) f rule bank ++ from_rule (16 - rule) f (suc rule)

  next_bank : (bank : ℕ) → bank < 4 → 4 - bank ≡ suc (4 - suc bank)
  next_bank bank h = omega arith

  pub bank_holds : (bank : ℕ) → bank < 4 → (f rule bank).holds ≡ true → first_of (left (suc bank)) ≡ first_of (left bank)
  unfolding first_of
  bank_holds bank h e = rw (next_bank bank h, e)

  pub bank_broken : (bank : ℕ) → bank < 4 → (f rule bank).holds ≡ false → Some (record { rule = (f rule bank).rule; bank = (f rule bank).bank }) ≡ first_of (left bank)
  unfolding first_of
  bank_broken bank h e = rw (next_bank bank h, e)

  -- all banks of a rule
  pub banks_end : (bank : ℕ) → bank ≤ 4 → 4 ≤ bank → first_of (from_rule (17 - suc rule) f (suc rule)) ≡ first_of (left bank)
  banks_end bank h g = let z : 4 - bank ≡ 0 = omega arith in rw (z, r)
    where
      r : 17 - suc rule ≡ 16 - rule
      r = omega arith

  pub rule_begins : rule ≤ 16 → first_of (left 0) ≡ first_of (from_rule (17 - rule) f rule)
  rule_begins h = rw r
    where
      r : 17 - rule ≡ suc (16 - rule)
      r = omega arith

  pub rules_end : rule ≤ 17 → 16 < rule → None ≡ first_of (from_rule (17 - rule) f rule)
  unfolding first_of
  rules_end h g = let z : 17 - rule ≡ 0 = omega arith in rw z

-- A rule that does not hold for a bank, where all before it did: it is the first.
module _ (c : Config) (l : List ℕ) (now : ℕ) (k : Command) where
  -- what is left from a bank of a rule on gives what all gives
  abbrev All : ℕ → ℕ → Type 0
  All rule bank = first_of (left (asked c l now k) rule bank) ≡ first_of (from_rule 16 (asked c l now k) 1)

  pub value_broken : (rule bank : ℕ) (t : Bool) → t ≡ holds_of c l now k rule bank → t ≡ false → bank < 4 → All rule bank → Shaped c.geometry
      → record { rule = rule; bank = named_of rule bank } ≡ violation_of (requirements c (by_stamps c l now) k)
  value_broken rule bank t f z b a s = value_is c l now s k _ (bank_broken (asked c l now k) rule bank b (sym f ∙ z) ∙ a)

  pub none_broken : (rule bank : ℕ) (t : Bool) → t ≡ holds_of c l now k rule bank → t ≡ false → bank < 4 → All rule bank → Shaped c.geometry
      → false ≡ legal_of c (by_stamps c l now) k
  none_broken rule bank t f z b a s = none_is c l now s k _ (bank_broken (asked c l now k) rule bank b (sym f ∙ z) ∙ a)
