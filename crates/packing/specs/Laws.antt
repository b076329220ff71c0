-- What is promised of the packing: what was packed is unpacked again, and no two words pack the same.
use Rattle.std.specs.Prelude.{ℕ, ◌<◌, ◌≡◌, true}
use Rattle.command.specs.declared.Command.{Command}
use Rattle.command.specs.declared.Command.TheVariants.{Nop, Act, Read, Wrt, Pre, Deac, Refr, Mrs}
use Rattle.plan.specs.declared.Report.{Report}
use Rattle.packing.specs.Packing.{command_word, command_in, packs_command, report_word, report_in, packs_report}

-- a word has 64 bits
abbrev pub Word : ℕ → Type 0
Word w = w < 18446744073709551616

-- a bank goes to 255, a row, a column, a halfword and the mode register's word to 65,535
abbrev pub FitsCommand : Command → Type 0
FitsCommand Nop = Unit {0}
FitsCommand (Act b r) = (b.0 < 256) × (r.0 < 65536)
FitsCommand (Read b k) = (b.0 < 256) × (k.0 < 65536)
FitsCommand (Wrt b k h) = (b.0 < 256) × (k.0 < 65536) × (h < 65536)
FitsCommand (Pre b) = b.0 < 256
FitsCommand Deac = Unit {0}
FitsCommand Refr = Unit {0}
FitsCommand (Mrs w) = w < 65536

-- a request's number goes to 4,294,967,295
abbrev pub FitsReport : Report → Type 0
FitsReport Report.Nothing = Unit {0}
FitsReport (Report.Read n h) = (n < 4294967296) × (h < 65536)
FitsReport (Report.Write n) = n < 4294967296

pub record PackedCommands : Type 0 where
  -- a packed command is a word, that word packs a command, and unpacking gives the command back
  pub packed : (k : Command) → FitsCommand k → Word (command_word k) × (packs_command (command_word k) ≡ true) × (command_in (command_word k) ≡ k)
  -- a word that packs a command is that command's word; so no command has two
  pub spelled : (w : ℕ) → Word w → packs_command w ≡ true → FitsCommand (command_in w) × (command_word (command_in w) ≡ w)

-- The same of reports.
pub record PackedReports : Type 0 where
  pub packed : (r : Report) → FitsReport r → Word (report_word r) × (packs_report (report_word r) ≡ true) × (report_in (report_word r) ≡ r)
  pub spelled : (w : ℕ) → Word w → packs_report w ≡ true → FitsReport (report_in w) × (report_word (report_in w) ≡ w)
