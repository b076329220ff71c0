-- A command's rules in parts: lists of requirements, and REFR and MRS, which have R2, R14 and R15 in common.
use Prim.Native.Nat.{ℕ, ◌*◌}
use mathlib.Core.Path.{◌≡◌, refl, ap, ◌∙◌}
use mathlib.Core.Bool.{Bool, true, false, ◌&&◌, not}
use mathlib.Core.List.{List, [], ◌∷◌, ◌++◌}
use lib.Dec.{eqb}
use Rattle.config.specs.declared.Config.{Config}
use Rattle.command.specs.declared.Command.TheVariants.{Refr, Mrs}
use Rattle.device.specs.View.{View, any_precharge, opened, all_closed}
use Rattle.device.specs.Rules.{Requirement, all_hold, R2, R14, R15, R16, requirements, legal_of}
use Rattle.device.specs.Shared.{precharged_of}
use Rattle.device.proofs.Tests.{and_true}

-- two lists of requirements hold together where each does
pub hold_append : (xs ys : List Requirement) → all_hold (xs ++ ys) ≡ (all_hold xs && all_hold ys)
hold_append [] ys = refl
hold_append (x ∷ xs) ys = go (hold_append xs ys) x.holds
  where
    go : all_hold (xs ++ ys) ≡ (all_hold xs && all_hold ys) → (t : Bool) → (t && all_hold (xs ++ ys)) ≡ ((t && all_hold xs) && all_hold ys)
    go e true = e
    go e false = refl

-- all banks closed, as R14 asks it
R14-closed : (v : View) → all_hold (R14 v) ≡ all_closed v.row
unfolding R14 all_closed
R14-closed v = rw (and_true (not (opened v 3)))

shared : (v : View) → all_hold (R2 v ++ R14 v ++ R15 v ∷ []) ≡ precharged_of v
unfolding precharged_of
shared v = rw (hold_append (R14 v) (R15 v ∷ []), R14-closed v, and_true (v.kept any_precharge))

-- REFR has R16 besides
pub refr_parts : (c : Config) (v : View) → legal_of c v Refr ≡ (precharged_of v && all_hold (R16 v))
unfolding legal_of requirements R14
refr_parts c v = hold_append (R2 v ++ R14 v ++ R15 v ∷ []) (R16 v) ∙ ap (λ (t : Bool). t && all_hold (R16 v)) (shared v)

-- and MRS the word of R1
pub mrs_parts : (c : Config) (v : View) (w : ℕ) → legal_of c v (Mrs w) ≡ (eqb w (16 * c.latency) && precharged_of v)
unfolding legal_of requirements
mrs_parts c v w = rw (shared v)
