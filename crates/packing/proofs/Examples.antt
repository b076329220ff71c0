-- Each command and each report with its word, and words that pack neither.
use Prim.Native.Nat.{ℕ}
use mathlib.Core.Path.{◌≡◌, refl}
use mathlib.Core.Bool.{false}
use mathlib.Core.List.{List, [], ◌∷◌, map}
use Rattle.command.specs.declared.Command.{Command}
use Rattle.command.specs.declared.Command.TheVariants.{Nop, Act, Read, Wrt, Pre, Deac, Refr, Mrs}
use Rattle.plan.specs.declared.Report.{Report}
use Rattle.packing.specs.Packing.{word_of, command_word, command_in, packs_command, report_word, report_in, packs_report}

-- docs/PACKING.md has these
abbrev commands : List Command
commands =
    Nop
    ∷ Act (record { 0 = 2 }) (record { 0 = 0x1234 })
    ∷ Read (record { 0 = 1 }) (record { 0 = 0x56 })
    ∷ Wrt (record { 0 = 3 }) (record { 0 = 0x78 }) 0xBEEF
    ∷ Pre (record { 0 = 1 })
    ∷ Deac
    ∷ Refr
    ∷ Mrs 0x30
    ∷ []

abbrev command_words : List ℕ
command_words = 0 ∷ 0x12340201 ∷ 0x560102 ∷ 0xBEEF00780303 ∷ 0x104 ∷ 5 ∷ 6 ∷ 0x300007 ∷ []

abbrev reports : List Report
reports = Report.Nothing ∷ Report.Read 1000 0xBEEF ∷ Report.Write 1001 ∷ []

abbrev report_words : List ℕ
report_words = 0 ∷ 0x3E8BEEF0001 ∷ 0x3E900000002 ∷ []

-- the largest numbers
abbrev widest : List Command
widest =
    Act (record { 0 = 255 }) (record { 0 = 65535 })
    ∷ Read (record { 0 = 255 }) (record { 0 = 65535 })
    ∷ Wrt (record { 0 = 255 }) (record { 0 = 65535 }) 65535
    ∷ Mrs 65535
    ∷ []

abbrev widest_words : List ℕ
widest_words = 0xFFFFFF01 ∷ 0xFFFFFF02 ∷ 0xFFFFFFFFFF03 ∷ 0xFFFF0007 ∷ []

pub record Packed : Type 0 where
  pub packed : map command_word commands ≡ command_words
  pub unpacked : map command_in command_words ≡ commands
  pub wide : map command_word widest ≡ widest_words
  pub narrowed : map command_in widest_words ≡ widest
  pub reported : map report_word reports ≡ report_words
  pub told : map report_in report_words ≡ reports
  pub last : report_word (Report.Read 4294967295 65535) ≡ 0xFFFFFFFFFFFF0001
  -- a kind that no command has; NOP with a bank; PRE with a number; READ with a halfword; a WRT with a bit above its halfword
  pub none_packed : map packs_command (8 ∷ 0x100 ∷ 0x10004 ∷ 0x100000002 ∷ 0x1000000000003 ∷ []) ≡ false ∷ false ∷ false ∷ false ∷ false ∷ []
  -- a kind that no report has; a bank; a write's halfword
  pub none_reported : map packs_report (3 ∷ 0x101 ∷ 0x10002 ∷ []) ≡ false ∷ false ∷ false ∷ []

pub packed_examples : Packed
unfolding word_of command_word command_in packs_command report_word report_in packs_report
packed_examples =
    record {
      packed = refl;
      unpacked = refl;
      wide = refl;
      narrowed = refl;
      reported = refl;
      told = refl;
      last = refl;
      none_packed = refl;
      none_reported = refl;
    }
