-- Commands and reports as words of 64 bits (document 02, (i); docs/PACKING.md has the table).
use Rattle.std.specs.Prelude.{ℕ, ◌+◌, ◌*◌, ◌/◌, ◌%◌, Bool, cond, eqb}
use Rattle.command.specs.declared.Command.{Command}
use Rattle.command.specs.declared.Command.TheVariants.{Nop, Act, Read, Wrt, Pre, Deac, Refr, Mrs}
use Rattle.plan.specs.declared.Report.{Report}

-- a word of its four fields: the kind in bits 0 to 7, the bank in bits 8 to 15, a number in bits 16 to 31 and one in bits 32 to 63
unfoldable pub word_of : ℕ → ℕ → ℕ → ℕ → ℕ
word_of kind bank low high = kind + 256 * bank + 65536 * low + 4294967296 * high

-- the fields of a word
abbrev pub kind_of : ℕ → ℕ
kind_of w = w % 256

abbrev pub bank_of : ℕ → ℕ
bank_of w = w / 256 % 256

abbrev pub low_of : ℕ → ℕ
low_of w = w / 65536 % 65536

abbrev pub high_of : ℕ → ℕ
high_of w = w / 4294967296

-- Commands. A row, a column and the mode register's word are the low number; WRT's halfword is the high one, and bits 48 to 63 stay 0.

unfoldable pub command_word : Command → ℕ
command_word Nop = word_of 0 0 0 0
command_word (Act b r) = word_of 1 b.0 r.0 0
command_word (Read b k) = word_of 2 b.0 k.0 0
command_word (Wrt b k h) = word_of 3 b.0 k.0 h
command_word (Pre b) = word_of 4 b.0 0 0
command_word Deac = word_of 5 0 0 0
command_word Refr = word_of 6 0 0 0
command_word (Mrs w) = word_of 7 0 w 0

-- what a word unpacks to, by its kind; NOP for a kind that no command has
unfoldable pub command_in : ℕ → Command
command_in w =
    cond (eqb (kind_of w) 1) (Act (record { 0 = bank_of w }) (record { 0 = low_of w }))
    (cond (eqb (kind_of w) 2) (Read (record { 0 = bank_of w }) (record { 0 = low_of w }))
    (cond (eqb (kind_of w) 3) (Wrt (record { 0 = bank_of w }) (record { 0 = low_of w }) (high_of w % 65536))
    (cond (eqb (kind_of w) 4) (Pre (record { 0 = bank_of w }))
    (cond (eqb (kind_of w) 5) Deac
    (cond (eqb (kind_of w) 6) Refr
    (cond (eqb (kind_of w) 7) (Mrs (low_of w)) Nop))))))

-- a word packs a command if it is the word of the command that it unpacks to
unfoldable pub packs_command : ℕ → Bool
packs_command w = eqb (command_word (command_in w)) w

-- Reports. A read's halfword is the low number, and a request's number the high one.

unfoldable pub report_word : Report → ℕ
report_word Report.Nothing = word_of 0 0 0 0
report_word (Report.Read n h) = word_of 1 0 h n
report_word (Report.Write n) = word_of 2 0 0 n

unfoldable pub report_in : ℕ → Report
report_in w =
    cond (eqb (kind_of w) 1) (Report.Read (high_of w) (low_of w))
    (cond (eqb (kind_of w) 2) (Report.Write (high_of w)) Report.Nothing)

unfoldable pub packs_report : ℕ → Bool
packs_report w = eqb (report_word (report_in w)) w
