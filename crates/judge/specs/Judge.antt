-- What the judge says of four register words and a tape (document 02, (v)).
use Rattle.std.specs.Prelude.{ℕ, cond, List, [], ◌∷◌, eqb, ltb, length}
use Rattle.config.specs.declared.Config.{Config}
use Rattle.config.specs.Setting.{Setting, setting_of}
use Rattle.command.specs.declared.Command.{Command}
use Rattle.device.specs.Rules.{requirements}
use Rattle.device.specs.History.{Log, start_log, by_history, allowed, fed}
use Rattle.tape.specs.Reading.{Answer, end, command, run, refusal, Contents, contents_of}
use Rattle.violation.specs.declared.Violation.{Violation}
use Rattle.violation.specs.Violation.{violation_of}

-- What is said: a number of documents 01 and 02, and where it is 0 the first illegal slot, counted from 1, with its rule and bank; all 0 where every slot is legal.
pub record Verdict : Type 0 where
  pub number : ℕ
  pub slot : ℕ
  pub rule : ℕ
  pub bank : ℕ

-- a number without slot, rule and bank; 0 where all is legal
abbrev pub said_of : ℕ → Verdict
said_of number = record { number = number; slot = 0; rule = 0; bank = 0 }

-- an illegal slot: number 0, the rule broken and the bank named for it
abbrev pub illegal_at : ℕ → Violation → Verdict
illegal_at slot x = record { number = 0; slot = slot; rule = x.rule; bank = x.bank }

-- The plain SDRAM is fed the commands, one a slot; l is its log before them. Said is the first command that it would reject, and the first requirement of the table that this
-- command does not keep. Both go by the SDRAM's own history.
unfoldable pub first_illegal : Config → Log → List Command → Verdict
first_illegal c l [] = said_of 0
first_illegal c l (k ∷ later) =
    cond (allowed c l k) (first_illegal c (fed c l k) later)
    (illegal_at l.now (violation_of (requirements c (by_history c l) k)))

-- the reader's refusal goes before whatever was said of the slots before it
abbrev pub refused_or : Answer → Verdict → Verdict
refused_or end v = v
refused_or (command k) v = v
refused_or (run n) v = v
refused_or (refusal number place) v = said_of number

-- a tape's contents, its slots counted from 1
abbrev pub judged_of : Config → Contents → Verdict
judged_of c t = refused_or t.last (first_illegal c start_log t.slots)

-- the longest tape that is judged, in bytes
abbrev pub longest : ℕ
longest = 16777216

-- 1 to 3 for the words; then 19 for a tape that is too long; then the reader's first refusal; then the first illegal slot
unfoldable pub judge_of : ℕ → ℕ → ℕ → ℕ → List ℕ → Verdict
judge_of cfg row ref tim tape =
    let s : Setting = setting_of cfg row ref tim in
    cond (eqb s.number 0)
    (cond (ltb longest (length tape)) (said_of 19) (judged_of s.config (contents_of tape)))
    (said_of s.number)
