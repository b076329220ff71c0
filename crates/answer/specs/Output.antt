-- The line that is written for an answer (REPLAY.md, "Output"), and for a record of a tape (TAPES.md, `show`).
use Rattle.std.specs.Prelude.{ℕ, cond}
use Rattle.std.proofs.Math.Option.{Option, none, some}
use Rattle.text.specs.declared.Text.{Text}
use Rattle.text.specs.Spelling.{letters, empty_of, byte_of, word_of, decimal_of}
use Rattle.standalone.specs.Standalone.{ToCell}
use Rattle.command.specs.declared.Command.{Command}
use Rattle.command.specs.declared.Command.TheVariants.{Nop, Act, Wrt, Pre, Deac, Refr, Mrs, Read as Fetch}
use Rattle.plan.specs.declared.Report.{Report}
use Rattle.plan.specs.Completion.{Completion, completion_of}
use Rattle.queue.specs.declared.Kind.{Kind}
use Rattle.packing.specs.Packing.{command_in, packs_command, report_in, packs_report}
use Rattle.answer.specs.declared.Answer.{Answer}
use Rattle.answer.specs.declared.Answer.TheVariants.{
  Config,
  Read,
  Write,
  Slot,
  Backlog,
  Cell,
  Address,
  Bus,
  Slots,
  Packed,
  Unknown,
  Wrong,
  Record,
  Run,
  Ended,
  Refused,
}

unfoldable pub and_word : Text → ℕ → Text
and_word t w = word_of (byte_of t 32) w

unfoldable pub and_number : Text → ℕ → Text
and_number t n = decimal_of (byte_of t 32) n

unfoldable pub and_one : Text → ℕ → ℕ → Text
and_one t w a = and_number (and_word t w) a

unfoldable pub and_two : Text → ℕ → ℕ → ℕ → Text
and_two t w a b = and_number (and_one t w a) b

-- COMMAND
unfoldable pub command_of : Text → Command → Text
command_of t Nop = and_word t (letters "NOP")
command_of t (Act b r) = and_two t (letters "ACT") b.0 r.0
command_of t (Fetch b c) = and_two t (letters "READ") b.0 c.0
command_of t (Wrt b c h) = and_number (and_two t (letters "WRT") b.0 c.0) h
command_of t (Pre b) = and_one t (letters "PRE") b.0
command_of t Deac = and_word t (letters "DEAC")
command_of t Refr = and_word t (letters "REFR")
command_of t (Mrs w) = and_one t (letters "MRS") w

-- REPORT

abbrev pub kind_word : Kind → ℕ
kind_word Kind.Read = letters "read"
kind_word Kind.Write = letters "write"

abbrev pub and_halfword : Text → Option ℕ → Text
and_halfword t none = t
and_halfword t (some h) = and_number t h

abbrev pub completion_text : Text → Option Completion → Text
completion_text t none = byte_of (byte_of t 32) 45
completion_text t (some x) = and_halfword (and_one t (kind_word x.kind) x.number) x.halfword

unfoldable pub report_of : Text → Report → Text
report_of t r = completion_text t (completion_of r)

-- the beginning of a line: the call's word and a number
unfoldable pub begun_of : ℕ → ℕ → Text
begun_of w n = and_number (word_of empty_of w) n

-- a line of a word and a number
unfoldable pub number_line : ℕ → ℕ → Text
number_line w n = byte_of (begun_of w n) 10

-- a line of a word and two numbers
unfoldable pub pair_line : ℕ → ℕ → ℕ → Text
pair_line w a b = byte_of (and_number (begun_of w a) b) 10

unfoldable pub slot_line : ℕ → Command → Report → Text
slot_line n c r = byte_of (report_of (command_of (begun_of (letters "slot") n) c) r) 10

-- COMMAND and REPORT from the words that pack them; `?` for a word that packs none

unfoldable pub unknown_of : Text → Text
unknown_of t = byte_of (byte_of t 32) 63

unfoldable pub packed_command : Text → ℕ → Text
packed_command t w = cond (packs_command w) (command_of t (command_in w)) (unknown_of t)

unfoldable pub packed_report : Text → ℕ → Text
packed_report t w = cond (packs_report w) (report_of t (report_in w)) (unknown_of t)

-- a slot's line as `slot` gives it, from its two words
unfoldable pub packed_line : ℕ → ℕ → Text
packed_line c r = byte_of (packed_report (packed_command (begun_of (letters "slot") 0) c) r) 10

-- a place beyond the count that is not 0 any more
unfoldable pub unknown_line : Text
unknown_line = byte_of (byte_of empty_of 63) 10

unfoldable pub cell_line : ToCell → Text
cell_line a =
    byte_of
    (and_number
    (and_number (and_number (begun_of (letters "cell") a.number) a.cell.bank.0) a.cell.row.0)
    a.cell.column.0)
    10

-- a record of a tape: its slot, and COMMAND

unfoldable pub record_line : ℕ → Command → Text
record_line s c = byte_of (command_of (decimal_of empty_of s) c) 10

-- a run's COMMAND is NOP with the run's count
unfoldable pub run_line : ℕ → ℕ → Text
run_line s n = byte_of (and_one (decimal_of empty_of s) (letters "NOP") n) 10

-- the line of an answer
unfoldable pub answer_line : Answer → Text
answer_line (Config n) = number_line (letters "config") n
answer_line (Read n r) = pair_line (letters "read") n r
answer_line (Write n r) = pair_line (letters "write") n r
answer_line (Slot n c r) = slot_line n c r
answer_line (Backlog n b) = pair_line (letters "backlog") n b
answer_line (Cell n c) = cell_line (record { number = n; cell = c })
answer_line (Address n a) = pair_line (letters "address") n a
answer_line (Bus n) = number_line (letters "bus") n
answer_line (Slots n k) = pair_line (letters "slots") n k
answer_line (Packed c r) = packed_line c r
answer_line Unknown = unknown_line
answer_line (Wrong n) = number_line (letters "error") n
answer_line (Record s c) = record_line s c
answer_line (Run s n) = run_line s n
answer_line (Ended n) = number_line (letters "end") n
answer_line (Refused n p) = pair_line (letters "refused") n p
