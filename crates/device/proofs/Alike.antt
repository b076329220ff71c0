-- Two views of the past that no rule tells apart: they agree on the banks that a device can have.
use Prim.Native.Nat.{ℕ, suc, ◌^◌, ◌<◌}
use mathlib.Core.Path.{◌≡◌, refl}
use mathlib.Core.Bool.{true, false}
use mathlib.Core.List.{List, ◌∷◌}
use native.Mathlib.Omega.{arith}
use lib.Dec.{lit<}
use lib.Pow.{pow_mono}
use borrow.Author.Tests.{leb-true}
use Rattle.config.specs.declared.Config.{Config}
use Rattle.config.specs.Accepted.{Shaped}
use Rattle.command.specs.declared.Command.{Command}
use Rattle.command.specs.declared.Command.TheVariants.{Nop, Act, Read, Wrt, Pre, Deac, Refr, Mrs}
use Rattle.device.specs.View.{
  View,
  Distance,
  refresh_cycle,
  mode_register,
  read_to_write,
  any_precharge,
  row_precharge,
  row_cycle,
  row_to_row,
  row_to_column,
  row_active,
  write_recovery,
  opened,
  all_closed,
}
use Rattle.device.specs.Rules.{Requirement, all_hold, R1-bank, R7, R12-open, R13-open, R14, R16, requirements, legal_of}
use Rattle.device.proofs.Tests.{by_test}

-- a distance of one of the banks that a device can have, or of none
abbrev pub Known : Distance → Type 0
Known refresh_cycle = Unit {0}
Known mode_register = Unit {0}
Known read_to_write = Unit {0}
Known any_precharge = Unit {0}
Known (row_precharge b) = b < 4
Known (row_cycle b) = b < 4
Known (row_to_row b) = b < 4
Known (row_to_column b) = b < 4
Known (row_active b) = b < 4
Known (write_recovery b) = b < 4

-- they need not know the same row of an open bank: no rule asks for it
pub record Alike (v w : View) : Type 0 where
  pub programmed : v.programmed ≡ w.programmed
  pub opened : (b : ℕ) → b < 4 → opened v b ≡ opened w b
  pub kept : (d : Distance) → Known d → v.kept d ≡ w.kept d

-- a bank in the geometry is one of the four
pub in_four : (c : Config) → Shaped c.geometry → (b : ℕ) → (R1-bank c b).holds ≡ true → b < 4
in_four c n b e = omega (arith, leb-true (suc b) (2 ^ c.geometry.banks) e, pow_mono n.banks_most)

module _ {v w : View} (a : Alike v w) where
  pub all_closed_same : all_closed v.row ≡ all_closed w.row
  unfolding all_closed
  all_closed_same = rw (a.opened 0 (lit< tt), a.opened 1 (lit< tt), a.opened 2 (lit< tt), a.opened 3 (lit< tt))

  -- The requirements of a command whose bank is one of the four.

  R7-same : (b : ℕ) → R7 v b ≡ R7 w b
  unfolding R7
  R7-same b = rw (a.kept (row_to_row 0) (lit< tt), a.kept (row_to_row 1) (lit< tt), a.kept (row_to_row 2) (lit< tt), a.kept (row_to_row 3) (lit< tt))

  R12-same : R12-open v ≡ R12-open w
  unfolding R12-open
  R12-same =
      rw (
        a.opened 0 (lit< tt),
        a.opened 1 (lit< tt),
        a.opened 2 (lit< tt),
        a.opened 3 (lit< tt),
        a.kept (row_active 0) (lit< tt),
        a.kept (row_active 1) (lit< tt),
        a.kept (row_active 2) (lit< tt),
        a.kept (row_active 3) (lit< tt),
      )

  R13-same : R13-open v ≡ R13-open w
  unfolding R13-open
  R13-same =
      rw (
        a.opened 0 (lit< tt),
        a.opened 1 (lit< tt),
        a.opened 2 (lit< tt),
        a.opened 3 (lit< tt),
        a.kept (write_recovery 0) (lit< tt),
        a.kept (write_recovery 1) (lit< tt),
        a.kept (write_recovery 2) (lit< tt),
        a.kept (write_recovery 3) (lit< tt),
      )

  R14-same : R14 v ≡ R14 w
  unfolding R14
  R14-same = rw (a.opened 0 (lit< tt), a.opened 1 (lit< tt), a.opened 2 (lit< tt), a.opened 3 (lit< tt))

  R16-same : R16 v ≡ R16 w
  unfolding R16
  R16-same = rw (a.kept (row_cycle 0) (lit< tt), a.kept (row_cycle 1) (lit< tt), a.kept (row_cycle 2) (lit< tt), a.kept (row_cycle 3) (lit< tt))

  -- What is read off a command's requirements up to the first that does not hold is the same: a bank outside breaks R1 first.
  module _ {A : Type 0} (f : List Requirement → A) (stops : (x : Requirement) (xs ys : List Requirement) → x.holds ≡ false → f (x ∷ xs) ≡ f (x ∷ ys)) where
    pub requirements_read : (c : Config) → Shaped c.geometry → (k : Command) → f (requirements c v k) ≡ f (requirements c w k)
    unfolding requirements
    requirements_read c n Nop = refl
    requirements_read c n (Act b r) =
        by_test
        (R1-bank c b.0).holds
        (λ h. let i = in_four c n b.0 h in
        rw (
          R7-same b.0,
          a.kept refresh_cycle tt,
          a.kept mode_register tt,
          a.programmed,
          a.opened b.0 i,
          a.kept (row_precharge b.0) i,
          a.kept (row_cycle b.0) i,
        ))
        (stops (R1-bank c b.0) _ _)
    requirements_read c n (Read b k) =
        by_test
        (R1-bank c b.0).holds
        (λ h. let i = in_four c n b.0 h in
        rw (a.kept refresh_cycle tt, a.kept mode_register tt, a.opened b.0 i, a.kept (row_to_column b.0) i))
        (stops (R1-bank c b.0) _ _)
    requirements_read c n (Wrt b k x) =
        by_test
        (R1-bank c b.0).holds
        (λ h. let i = in_four c n b.0 h in
        rw (a.kept refresh_cycle tt, a.kept mode_register tt, a.opened b.0 i, a.kept (row_to_column b.0) i, a.kept read_to_write tt))
        (stops (R1-bank c b.0) _ _)
    requirements_read c n (Pre b) =
        by_test
        (R1-bank c b.0).holds
        (λ h. let i = in_four c n b.0 h in
        rw (a.kept refresh_cycle tt, a.kept mode_register tt, a.opened b.0 i, a.kept (row_active b.0) i, a.kept (write_recovery b.0) i))
        (stops (R1-bank c b.0) _ _)
    requirements_read c n Deac = rw (a.kept refresh_cycle tt, a.kept mode_register tt, R12-same, R13-same)
    requirements_read c n Refr = rw (a.kept refresh_cycle tt, a.kept mode_register tt, R14-same, a.kept any_precharge tt, R16-same)
    requirements_read c n (Mrs x) = rw (a.kept refresh_cycle tt, a.kept mode_register tt, R14-same, a.kept any_precharge tt)

  -- so a command is legal by the one exactly where it is by the other
  pub legal_same : (c : Config) → Shaped c.geometry → (k : Command) → legal_of c v k ≡ legal_of c w k
  unfolding legal_of
  legal_same = requirements_read all_hold (λ x xs ys h. rw h)
