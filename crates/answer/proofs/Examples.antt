-- Worked examples: answers with the lines that are written.
use Prim.Native.Nat.{ℕ}
use Prim.Native.String.{String}
use mathlib.Core.Path.{◌≡◌, refl}
use mathlib.Core.List.{List, [], ◌∷◌, map}
use Rattle.text.specs.Spelling.{ascii, said_of, empty_of, byte_of, spelled_of, word_of, decimal_of}
use Rattle.address.specs.declared.Cell as A
use Rattle.command.specs.declared.Command.TheVariants.{Nop, Act, Wrt, Pre, Deac, Refr, Mrs, Read as Fetch}
use Rattle.plan.specs.declared.Report.TheVariants.{Nothing as Silent, Read as Got, Write as Put}
use Rattle.packing.specs.Packing.{
  command_word,
  command_in,
  packs_command,
  report_word,
  report_in,
  packs_report,
  word_of as fields_of,
}
use Rattle.answer.specs.declared.Answer.{Answer}
use Rattle.answer.specs.Output.{
  and_word,
  and_number,
  and_one,
  and_two,
  command_of,
  report_of,
  begun_of,
  number_line,
  pair_line,
  slot_line,
  unknown_of,
  packed_command,
  packed_report,
  packed_line,
  unknown_line,
  cell_line,
  record_line,
  run_line,
  answer_line,
}

abbrev place : ℕ → ℕ → ℕ → A.Cell
place b r c = record { bank = record { 0 = b }; row = record { 0 = r }; column = record { 0 = c } }

pub record Written : Type 0 where
  pub answer : Answer
  pub text : List ℕ

abbrev said : Answer → String → Written
said a s = record { answer = a; text = ascii s }

abbrev answers : List Written
answers =
    said (Answer.Config 3) "config 3\n"
    ∷ said (Answer.Read 0 4294967295) "read 0 4294967295\n"
    ∷ said (Answer.Write 6 0) "write 6 0\n"
    ∷ said (Answer.Backlog 0 12) "backlog 0 12\n"
    ∷ said (Answer.Cell 0 (place 3 8191 255)) "cell 0 3 8191 255\n"
    ∷ said (Answer.Address 10 0) "address 10 0\n"
    ∷ said (Answer.Wrong 18446744073709551615) "error 18446744073709551615\n"
    ∷ said (Answer.Slot 8 Nop Silent) "slot 8 NOP -\n"
    ∷ said (Answer.Slot 0 (Act (record { 0 = 1 }) (record { 0 = 8191 })) Silent) "slot 0 ACT 1 8191 -\n"
    ∷ said (Answer.Slot 0 (Fetch (record { 0 = 1 }) (record { 0 = 2047 })) Silent) "slot 0 READ 1 2047 -\n"
    ∷ said (Answer.Slot 0 (Wrt (record { 0 = 3 }) (record { 0 = 0 }) 65535) (Put 10)) "slot 0 WRT 3 0 65535 write 10\n"
    ∷ said (Answer.Slot 0 (Pre (record { 0 = 2 })) Silent) "slot 0 PRE 2 -\n"
    ∷ said (Answer.Slot 0 Deac Silent) "slot 0 DEAC -\n"
    ∷ said (Answer.Slot 0 Refr Silent) "slot 0 REFR -\n"
    ∷ said (Answer.Slot 0 (Mrs 48) Silent) "slot 0 MRS 48 -\n"
    ∷ said (Answer.Slot 0 Nop (Got 2 7)) "slot 0 NOP read 2 7\n"
    -- the longest line that the numbers' types allow
    ∷ said (Answer.Slot 255 (Wrt (record { 0 = 255 }) (record { 0 = 65535 }) 65535) (Got 4294967295 65535))
    "slot 255 WRT 255 65535 65535 read 4294967295 65535\n"
    ∷ said (Answer.Bus 4096) "bus 4096\n"
    ∷ said (Answer.Slots 0 3) "slots 0 3\n"
    ∷ said (Answer.Slots 255 18446744073709551615) "slots 255 18446744073709551615\n"
    -- the words of a command and a report
    ∷ said (Answer.Packed 0 0) "slot 0 NOP -\n"
    ∷ said (Answer.Packed 0x1fff0301 0) "slot 0 ACT 3 8191 -\n"
    ∷ said (Answer.Packed 0xffff07ff0203 0xa00000002) "slot 0 WRT 2 2047 65535 write 10\n"
    ∷ said (Answer.Packed 5 0x200070001) "slot 0 DEAC read 2 7\n"
    ∷ said (Answer.Packed 0xffffffffff03 0xffffffffffff0001) "slot 0 WRT 255 65535 65535 read 4294967295 65535\n"
    -- words that pack none: another kind, a bank or a number where none belongs
    ∷ said (Answer.Packed 8 0) "slot 0 ? -\n"
    ∷ said (Answer.Packed 0x100 3) "slot 0 ? ?\n"
    ∷ said (Answer.Packed 0x1000007ff0203 0xa00000002) "slot 0 ? write 10\n"
    ∷ said (Answer.Packed 6 0xa00010002) "slot 0 REFR ?\n"
    ∷ said Answer.Unknown "?\n"
    -- the records of a tape
    ∷ said (Answer.Run 1 216) "1 NOP 216\n"
    ∷ said (Answer.Record 217 Deac) "217 DEAC\n"
    ∷ said (Answer.Record 218 Refr) "218 REFR\n"
    ∷ said (Answer.Record 227 (Mrs 48)) "227 MRS 48\n"
    ∷ said (Answer.Record 228 (Act (record { 0 = 0 }) (record { 0 = 0 }))) "228 ACT 0 0\n"
    ∷ said (Answer.Record 229 (Wrt (record { 0 = 0 }) (record { 0 = 0 }) 7)) "229 WRT 0 0 7\n"
    ∷ said (Answer.Record 230 (Fetch (record { 0 = 3 }) (record { 0 = 511 }))) "230 READ 3 511\n"
    ∷ said (Answer.Record 231 (Pre (record { 0 = 2 }))) "231 PRE 2\n"
    ∷ said (Answer.Ended 0) "end 0\n"
    ∷ said (Answer.Refused 12 3) "refused 12 3\n"
    ∷ said (Answer.Run 18446744073709551615 65535) "18446744073709551615 NOP 65535\n"
    ∷ said (Answer.Record 18446744073709551615 (Wrt (record { 0 = 255 }) (record { 0 = 65535 }) 65535))
    "18446744073709551615 WRT 255 65535 65535\n"
    ∷ said (Answer.Refused 255 18446744073709551615) "refused 255 18446744073709551615\n"
    ∷ []

written_lines : map (λ (w : Written). said_of (answer_line w.answer)) answers ≡ map (λ (w : Written). w.text) answers
unfolding empty_of byte_of spelled_of word_of decimal_of and_word and_number and_one and_two command_of report_of begun_of number_line pair_line slot_line unknown_of packed_command packed_report packed_line unknown_line fields_of command_word command_in packs_command report_word report_in packs_report cell_line record_line run_line answer_line
written_lines = refl
