-- Worked examples: words, a tape and what is said of it, one table under one claim.
use Prim.Native.Nat.{ℕ}
use mathlib.Core.Path.{◌≡◌, refl}
use mathlib.Core.List.{List, [], ◌∷◌, ◌++◌, map}
use Rattle.words.specs.Words.{reserved_map, reserved_all}
use Rattle.config.specs.Setting.{offered_of, geometry_of, config_of, checked_of, setting_of}
use Rattle.device.specs.View.{marks_of, row_of}
use Rattle.device.specs.Rules.{R7, R12-open, R13-open, R14, R16, requirements, legal_of}
use Rattle.device.specs.History.{last, open_row, start_log, fed}
use Rattle.tape.specs.Reading.{body_length, command_of, wrong_run, record_number, record_at, kind_at, rest_at, step_of, contents_from}
use Rattle.violation.specs.Violation.{violation_of}
use Rattle.judge.specs.Judge.{Verdict, first_illegal, judge_of}

pub record Example : Type 0 where
  pub cfg : ℕ
  pub row : ℕ
  pub ref : ℕ
  pub tim : ℕ
  pub tape : List ℕ
  pub said : Verdict

-- a tape judged with E1's words; with E4's, where DEAC, REFR and MRS go before in slots 1 to 14; and with words of a long row cycle (tRC 12, tRAS 5, tRP 2), where the same take
-- slots 1 to 11
abbrev E1 : List ℕ → ℕ → ℕ → ℕ → ℕ → Example
E1 tape number slot rule bank =
    record { cfg = 0x4400; row = 0; ref = 27; tim = 0; tape = tape; said = record { number = number; slot = slot; rule = rule; bank = bank } }

abbrev E4 : List ℕ → ℕ → ℕ → ℕ → ℕ → Example
E4 tape number slot rule bank =
    record {
      cfg = 0x4620;
      row = 4;
      ref = 136;
      tim = 0x42215810;
      tape = 5 ∷ 0 ∷ 2 ∷ 0 ∷ 6 ∷ 0 ∷ 8 ∷ 0 ∷ 7 ∷ 48 ∷ 0 ∷ 0 ∷ 1 ∷ 0 ∷ tape;
      said = record { number = number; slot = slot; rule = rule; bank = bank };
    }

abbrev long_cycle : List ℕ → ℕ → ℕ → ℕ → ℕ → Example
long_cycle tape number slot rule bank =
    record {
      cfg = 0x4420;
      row = 4;
      ref = 147;
      tim = 0x31324b50;
      tape = 5 ∷ 0 ∷ 1 ∷ 0 ∷ 6 ∷ 0 ∷ 6 ∷ 0 ∷ 7 ∷ 32 ∷ 0 ∷ 0 ∷ 1 ∷ 0 ∷ tape;
      said = record { number = number; slot = slot; rule = rule; bank = bank };
    }

-- other words, with a tape that the reader refuses
abbrev words : ℕ → ℕ → ℕ → ℕ → ℕ → Example
words cfg row ref tim number =
    record { cfg = cfg; row = row; ref = ref; tim = tim; tape = 8 ∷ []; said = record { number = number; slot = 0; rule = 0; bank = 0 } }

-- 216 NOPs, DEAC, eight REFRs and MRS: slots 1 to 226 of E5
abbrev start : List ℕ
start = 0 ∷ 216 ∷ 0 ∷ 5 ∷ 6 ∷ 6 ∷ 6 ∷ 6 ∷ 6 ∷ 6 ∷ 6 ∷ 6 ∷ 7 ∷ 32 ∷ 0 ∷ []

abbrev examples : List Example
examples =
    E1 [] 0 0 0 0
    -- E5 to slot 229: NOP, ACT, WRT
    ∷ E1 (start ++ 0 ∷ 1 ∷ 0 ∷ 1 ∷ 0 ∷ 0 ∷ 0 ∷ 3 ∷ 0 ∷ 0 ∷ 0 ∷ 7 ∷ 0 ∷ []) 0 0 0 0
    -- the same without the NOP after MRS: R2
    ∷ E1 (start ++ 1 ∷ 0 ∷ 0 ∷ 0 ∷ []) 0 227 2 0
    -- an ACT in the first slot: R3; and a refusal behind it, which goes before it
    ∷ E1 (1 ∷ 0 ∷ 0 ∷ 0 ∷ []) 0 1 3 0
    ∷ E1 (1 ∷ 0 ∷ 0 ∷ 0 ∷ 8 ∷ []) 11 0 0 0
    ∷ E1 (1 ∷ 0 ∷ 0 ∷ 0 ∷ 3 ∷ 0 ∷ []) 12 0 0 0
    ∷ E1 (1 ∷ 0 ∷ 0 ∷ 0 ∷ 0 ∷ 2 ∷ 0 ∷ 0 ∷ 2 ∷ 0 ∷ []) 13 0 0 0
    -- each NOP of a run is a slot: R11
    ∷ E1 (0 ∷ 44 ∷ 1 ∷ 4 ∷ 0 ∷ []) 0 301 11 0
    -- DEAC, and REFR before tRP is over: R15, which names no bank
    ∷ E4 (5 ∷ 6 ∷ []) 0 16 15 0
    -- a bank outside: R1, whatever else it breaks
    ∷ E4 (2 ∷ 4 ∷ 0 ∷ 0 ∷ []) 0 15 1 0
    -- ACT 2, and READ a slot too early: R9
    ∷ E4 (1 ∷ 2 ∷ 0 ∷ 0 ∷ 0 ∷ 1 ∷ 0 ∷ 2 ∷ 2 ∷ 0 ∷ 0 ∷ []) 0 17 9 2
    -- ACT 0 and ACT 1: R7 looks at bank 0 and names the command's own
    ∷ E4 (1 ∷ 0 ∷ 0 ∷ 0 ∷ 1 ∷ 1 ∷ 0 ∷ 0 ∷ []) 0 16 7 1
    -- ACT 0, READ 0 and WRT 0: R10
    ∷ E4 (1 ∷ 0 ∷ 0 ∷ 0 ∷ 0 ∷ 2 ∷ 0 ∷ 2 ∷ 0 ∷ 0 ∷ 0 ∷ 3 ∷ 0 ∷ 0 ∷ 0 ∷ 7 ∷ 0 ∷ []) 0 19 10 0
    -- a DEAC that breaks R13 of bank 0 and R12 of bank 3: the lower rule, and its bank
    ∷ E4 (1 ∷ 0 ∷ 0 ∷ 0 ∷ 0 ∷ 1 ∷ 0 ∷ 1 ∷ 3 ∷ 0 ∷ 0 ∷ 0 ∷ 3 ∷ 0 ∷ 3 ∷ 0 ∷ 0 ∷ 0 ∷ 7 ∷ 0 ∷ 5 ∷ []) 0 22 12 3
    -- a slot later R13 alone
    ∷ E4 (1 ∷ 0 ∷ 0 ∷ 0 ∷ 0 ∷ 1 ∷ 0 ∷ 1 ∷ 3 ∷ 0 ∷ 0 ∷ 0 ∷ 4 ∷ 0 ∷ 3 ∷ 0 ∷ 0 ∷ 0 ∷ 7 ∷ 0 ∷ 5 ∷ []) 0 23 13 0
    -- REFR with banks 1 and 3 open: R14 of the lower
    ∷ E4 (1 ∷ 1 ∷ 0 ∷ 0 ∷ 0 ∷ 1 ∷ 0 ∷ 1 ∷ 3 ∷ 0 ∷ 0 ∷ 6 ∷ []) 0 18 14 1
    -- ACT 2, PRE 2, and REFR within tRC of the ACT: R16; an MRS there is legal
    ∷ long_cycle (1 ∷ 2 ∷ 0 ∷ 0 ∷ 0 ∷ 4 ∷ 0 ∷ 4 ∷ 2 ∷ 0 ∷ 1 ∷ 0 ∷ 6 ∷ []) 0 19 16 2
    ∷ long_cycle (1 ∷ 2 ∷ 0 ∷ 0 ∷ 0 ∷ 4 ∷ 0 ∷ 4 ∷ 2 ∷ 0 ∷ 1 ∷ 0 ∷ 7 ∷ 32 ∷ 0 ∷ []) 0 0 0 0
    -- the words go before the tape: a bit that no field has, NM 0, RR too short
    ∷ words 0x4408 8 26 0 1
    ∷ words 0x0400 0 26 0 2
    ∷ words 0x4400 0 26 0 3
    ∷ []

judged : map (λ (e : Example). judge_of e.cfg e.row e.ref e.tim e.tape) examples ≡ map (λ (e : Example). e.said) examples
unfolding
    reserved_map
    reserved_all
    offered_of
    geometry_of
    config_of
    checked_of
    setting_of
    marks_of
    row_of
    R7
    R12-open
    R13-open
    R14
    R16
    requirements
    legal_of
    last
    open_row
    start_log
    fed
    body_length
    command_of
    wrong_run
    record_number
    record_at
    kind_at
    rest_at
    step_of
    contents_from
    violation_of
    first_illegal
    judge_of
judged = refl
