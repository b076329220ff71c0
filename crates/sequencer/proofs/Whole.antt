-- The setting that a contract speaks of is the whole answer to four register words: no two answers have one setting.
use native.Mathlib.Omega.{arith}
use Rattle.std.proofs.Common.{ℕ, ◌≡◌, sym, ap, ◌≤◌}
use Rattle.std.specs.Prelude.{Result, Ok, Err}
use Rattle.refusal.specs.declared.Refusal.{Refusal}
use Rattle.refusal.specs.Refused.{number_of}
use Rattle.refusal.proofs.Laws.{one_each, least}
use Rattle.config.specs.declared.Config.{Config}
use Rattle.config.specs.Setting.{Setting}
use Rattle.config.specs.Answer.{setting_in}

apart : (r : Refusal) → 0 ≡ number_of r → ⊥
apart r e = omega (arith, least r, e)

pub setting_whole : (a b : Result Config Refusal) → setting_in a ≡ setting_in b → a ≡ b
setting_whole (Ok c) (Ok d) e = ap Ok (ap (λ (s : Setting). s.config) e)
setting_whole (Ok c) (Err r) e = absurd (apart r (ap (λ (s : Setting). s.number) e))
setting_whole (Err r) (Ok c) e = absurd (apart r (sym (ap (λ (s : Setting). s.number) e)))
setting_whole (Err r) (Err s) e = ap Err (one_each r s (ap (λ (s : Setting). s.number) e))
