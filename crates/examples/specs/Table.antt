-- Document 01's marked examples, and some of our own where the paper's figures leave two things alike or do not reach a rule: what is asked, what the definitions
-- answer, and what is said.
use Rattle.std.specs.Prelude.{ℕ, ◌-◌, false, List, [], ◌∷◌, map, drop, replicate}
use Rattle.config.specs.declared.Config.{Config}
use Rattle.config.specs.Setting.{Setting, setting_of}
use Rattle.standalone.specs.Standalone.{ToCell, to_cell_of}
use Rattle.command.specs.declared.Command.{Command}
use Rattle.command.specs.declared.Command.TheVariants.{Act, Read, Wrt, Pre, Deac, Refr, Mrs}
use Rattle.queue.specs.declared.Kind.{Kind}
use Rattle.plan.specs.Completion.{read_done, write_done}
use Rattle.packing.specs.Packing.{command_in}
use Rattle.tape.specs.Writing.{tape_of}
use Rattle.sequencer.specs.Calls.{configure_of}
use Rattle.sequencer.specs.Batch.{series_of}
use Rattle.model.specs.World.{Call, request}
use Rattle.examples.specs.Run.{Event, sent, told, free, watched, requested, numbers_of}

pub data Question : Type 0 where
  -- what do four register words give?
  words : (cfg row ref tim : ℕ) → Question
  -- which distances do they hold: tRFC, tRP, tRCD, tWR, tRAS, tRC, tRRD?
  distances : (cfg row ref tim : ℕ) → Question
  -- which cell has this address, under a CFG and a ROW word?
  cell : (cfg row address : ℕ) → Question
  -- with these requests queued before slot 1, what happens in the first n slots, from slot `from` on, if the bus carries 7?
  bus : (cfg row ref tim : ℕ) (calls : List Call) (n from : ℕ) → Question
  -- with these requests queued before slot 1 and those more before slot `from`, what happens in so many slots from there on, if the bus carries 7?
  later : (cfg row ref tim : ℕ) (calls : List Call) (from : ℕ) (more : List Call) (count : ℕ) → Question
  -- in which order are these requests reported within n slots?
  order : (cfg row ref tim : ℕ) (calls : List Call) (n : ℕ) → Question
  -- with these requests queued before slot 1, what is the tape of the first n slots without the first `gone` of them, if the bus carries 7?
  tape : (cfg row ref tim : ℕ) (calls : List Call) (n gone : ℕ) → Question

pub data Answer : Type 0 where
  -- a number of the table, the access span A and the refresh span F
  spans : (number access refresh : ℕ) → Answer
  -- a number of the table and a cell
  place : (number bank row column : ℕ) → Answer
  events : List Event → Answer
  numbers : List ℕ → Answer

abbrev pub of_setting : Setting → Answer
of_setting s = spans s.number s.config.access s.config.refresh

abbrev pub of_cell : ToCell → Answer
of_cell r = place r.number r.cell.bank.0 r.cell.row.0 r.cell.column.0

abbrev pub distances_of : Config → List ℕ
distances_of c = c.rfc ∷ c.rp ∷ c.rcd ∷ c.wr ∷ c.ras ∷ c.rc ∷ c.rrd ∷ []

-- what the definitions answer
unfoldable pub answer : Question → Answer
answer (words cfg row ref tim) = of_setting (setting_of cfg row ref tim)
answer (distances cfg row ref tim) = numbers (distances_of (setting_of cfg row ref tim).config)
answer (cell cfg row a) = of_cell (to_cell_of cfg row a)
answer (bus cfg row ref tim calls n from) = events (watched n 1 from false 7 (requested (configure_of cfg row ref tim).machine calls))
answer (later cfg row ref tim calls from more count) =
    events (watched count from from false 7 (requested (series_of (requested (configure_of cfg row ref tim).machine calls) (replicate (from - 1) 7)).machine more))
answer (order cfg row ref tim calls n) = numbers (numbers_of (watched n 1 1 false 7 (requested (configure_of cfg row ref tim).machine calls)))
answer (tape cfg row ref tim calls n gone) = numbers (tape_of (map command_in (drop gone (series_of (requested (configure_of cfg row ref tim).machine calls) (replicate n 7)).commands)))

pub record Example : Type 0 where
  pub asked : Question
  pub said : Answer

-- commands with plain numbers
abbrev pub ACT : ℕ → ℕ → Command
ACT b r = Act (record { 0 = b }) (record { 0 = r })

abbrev pub READ : ℕ → ℕ → Command
READ b k = Read (record { 0 = b }) (record { 0 = k })

abbrev pub WRT : ℕ → ℕ → ℕ → Command
WRT b k h = Wrt (record { 0 = b }) (record { 0 = k }) h

abbrev pub PRE : ℕ → Command
PRE b = Pre (record { 0 = b })

abbrev pub row : Question → Answer → Example
row q a = record { asked = q; said = a }

unfoldable pub table : List Example
table =
    -- E1
    row (words 0x4400 0 27 0) (spans 0 9 3)
    -- E2
    ∷ row (words 0x4400 0 26 0) (spans 3 0 0)
    -- E3: all TIM fields full, CL 3; the least RR is 397
    ∷ row (words 0x4600 0 397 0xff77ff70) (spans 0 61 56)
    ∷ row (words 0x4600 0 396 0xff77ff70) (spans 3 0 0)
    -- E4
    ∷ row (words 0x4620 4 136 0x42215810) (spans 0 28 18)
    ∷ row (words 0x4620 4 135 0x42215810) (spans 3 0 0)
    ∷ row (distances 0x4620 4 136 0x42215810) (numbers (9 ∷ 3 ∷ 3 ∷ 2 ∷ 6 ∷ 9 ∷ 2 ∷ []))
    -- not the paper's: no two distances alike, none equal to CL, tWR above tRAS
    ∷ row (words 0x4612 4 185 0x63175a40) (spans 0 35 25)
    ∷ row (words 0x4612 4 184 0x63175a40) (spans 3 0 0)
    ∷ row (distances 0x4612 4 185 0x63175a40) (numbers (13 ∷ 4 ∷ 2 ∷ 8 ∷ 6 ∷ 11 ∷ 5 ∷ []))
    -- not the paper's: tRC above M + tRP decides F (document 02, (iv)); the least RR is 147
    ∷ row (words 0x4420 4 147 0x31324b50) (spans 0 33 19)
    ∷ row (words 0x4420 4 146 0x31324b50) (spans 3 0 0)
    ∷ row (distances 0x4420 4 147 0x31324b50) (numbers (7 ∷ 2 ∷ 4 ∷ 3 ∷ 5 ∷ 12 ∷ 6 ∷ []))
    -- E5
    ∷ row (bus 0x4400 0 27 0 (request Kind.Write 0 9 ∷ request Kind.Read 0 0 ∷ []) 234 1)
    (events
    (sent 217 Deac ∷ sent 218 Refr ∷ sent 219 Refr ∷ sent 220 Refr ∷ sent 221 Refr ∷ sent 222 Refr ∷ sent 223 Refr ∷ sent 224 Refr ∷ sent 225 Refr ∷ sent 226 (Mrs 32)
    ∷ sent 228 (ACT 0 0) ∷ sent 229 (WRT 0 0 9) ∷ told 229 (write_done 1) ∷ free 230 ∷ sent 230 (READ 0 0) ∷ told 232 (read_done 2 7) ∷ free 234 ∷ []))
    -- E5's slots 217 to 229 on a tape, with halfword 7 written (document 02, (ii)); not the paper's: the run before them, in the tape from slot 1 on
    ∷ row (tape 0x4400 0 27 0 (request Kind.Write 0 7 ∷ request Kind.Read 0 0 ∷ []) 229 216)
    (numbers
    (0x05 ∷ 0x06 ∷ 0x06 ∷ 0x06 ∷ 0x06 ∷ 0x06 ∷ 0x06 ∷ 0x06 ∷ 0x06 ∷ 0x07 ∷ 0x20 ∷ 0x00 ∷ 0x00 ∷ 0x01 ∷ 0x00
    ∷ 0x01 ∷ 0x00 ∷ 0x00 ∷ 0x00 ∷ 0x03 ∷ 0x00 ∷ 0x00 ∷ 0x00 ∷ 0x07 ∷ 0x00 ∷ []))
    ∷ row (tape 0x4400 0 27 0 [] 217 0) (numbers (0x00 ∷ 0xd8 ∷ 0x00 ∷ 0x05 ∷ []))
    -- E6
    ∷ row (bus 0x4400 0 27 0 (request Kind.Write 0 9 ∷ request Kind.Read 0 0 ∷ []) 362 235)
    (events (sent 335 Deac ∷ sent 336 Refr ∷ free 337 ∷ sent 337 Deac ∷ sent 338 Refr ∷ free 339 ∷ sent 339 Deac ∷ sent 340 Refr ∷ free 341 ∷ sent 341 Deac ∷ sent 342 Refr ∷ free 343 ∷ sent 362 Deac ∷ []))
    -- E7, with s = 1166, the first service slot of E4's machine
    ∷ row (bus 0x4620 4 136 0x42215810 (request Kind.Write 0 1 ∷ request Kind.Write 0x800 2 ∷ []) 1178 1166)
    (events
    (sent 1166 (ACT 0 0) ∷ sent 1169 (WRT 0 0 1) ∷ told 1169 (write_done 1) ∷ free 1170
    ∷ sent 1172 (PRE 0) ∷ sent 1175 (ACT 0 1) ∷ sent 1178 (WRT 0 0 2) ∷ told 1178 (write_done 2) ∷ []))
    -- E8
    ∷ row (bus 0x4620 4 136 0x42215810 (request Kind.Write 0 1 ∷ request Kind.Write 0x200 2 ∷ []) 1173 1166)
    (events
    (sent 1166 (ACT 0 0) ∷ sent 1169 (WRT 0 0 1) ∷ told 1169 (write_done 1) ∷ free 1170
    ∷ sent 1170 (ACT 1 0) ∷ sent 1173 (WRT 1 0 2) ∷ told 1173 (write_done 2) ∷ []))
    -- E9
    ∷ row (bus 0x4620 4 136 0x42215810 (request Kind.Read 0 0 ∷ []) 1174 1166)
    (events (sent 1166 (ACT 0 0) ∷ sent 1169 (READ 0 0) ∷ told 1172 (read_done 1 7) ∷ free 1174 ∷ []))
    -- not the paper's: E7, E8 and E9 in one, on the machine whose distances differ; its first service slot is 1591.
    -- The halfword given with the read means nothing
    ∷ row (bus 0x4612 4 185 0x63175a40 (request Kind.Write 0 1 ∷ request Kind.Write 0x1000 2 ∷ request Kind.Write 0x800 3 ∷ request Kind.Read 0x2000 9 ∷ []) 1624 1)
    (events
    (sent 1481 Deac ∷ sent 1485 Refr ∷ sent 1498 Refr ∷ sent 1511 Refr ∷ sent 1524 Refr ∷ sent 1537 Refr ∷ sent 1550 Refr ∷ sent 1563 Refr ∷ sent 1576 Refr ∷ sent 1589 (Mrs 48)
    ∷ sent 1591 (ACT 0 2) ∷ sent 1593 (READ 0 0) ∷ told 1596 (read_done 4 7) ∷ free 1598
    ∷ sent 1598 (PRE 0) ∷ sent 1602 (ACT 0 0) ∷ sent 1604 (WRT 0 0 1) ∷ told 1604 (write_done 1) ∷ free 1605
    ∷ sent 1612 (PRE 0) ∷ sent 1616 (ACT 0 1) ∷ sent 1618 (WRT 0 0 2) ∷ told 1618 (write_done 2) ∷ free 1619
    ∷ sent 1621 (ACT 1 0) ∷ sent 1623 (WRT 1 0 3) ∷ told 1623 (write_done 3) ∷ free 1624 ∷ []))
    -- not the paper's: R16, on the machine in which tRC decides F; its first service slot is 1237. The write to 0 leaves bank 0 open, so nothing is refreshed before
    -- the fourth expiry, in slot 1824. The refresh behind the write to bank 1 has its DEAC tWR after the WRT, and its REFR tRC after the ACT; the next one tRP after its DEAC
    ∷ row (later 0x4420 4 147 0x31324b50 (request Kind.Write 0 1 ∷ []) 1823 (request Kind.Write 0x200 2 ∷ []) 22)
    (events
    (sent 1823 (ACT 1 0) ∷ sent 1827 (WRT 1 0 2) ∷ told 1827 (write_done 2) ∷ free 1828 ∷ sent 1830 Deac ∷ sent 1835 Refr ∷ free 1842 ∷ sent 1842 Deac ∷ sent 1844 Refr ∷ []))
    -- E10, on E4's machine (document 01 names none): read 0x800, write 0, read 0
    ∷ row (order 0x4620 4 136 0x42215810 (request Kind.Write 0 1 ∷ request Kind.Read 0 0 ∷ request Kind.Read 0x800 0 ∷ []) 1226) (numbers (3 ∷ 1 ∷ 2 ∷ []))
    -- E11, on E4's machine too: the read waits
    ∷ row (order 0x4620 4 136 0x42215810 (request Kind.Write 0 1 ∷ request Kind.Read 0x7fe 0 ∷ []) 1226) (numbers (1 ∷ 2 ∷ []))
    -- E12: 8 column, 2 bank, 13 row bits
    ∷ row (cell 0x4420 4 0x200) (place 0 1 0 0)
    ∷ row (cell 0x4420 4 0x7fe) (place 0 3 0 255)
    ∷ row (cell 0x4420 4 0x800) (place 0 0 1 0)
    ∷ row (cell 0x4420 4 0xfffffe) (place 0 3 8191 255)
    ∷ row (cell 0x4420 4 0x1000000) (place 5 0 0 0)
    ∷ row (cell 0x4420 4 0x1000001) (place 4 0 0 0)
    ∷ []
