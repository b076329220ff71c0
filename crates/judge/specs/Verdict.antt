-- What the code's answers say in the paper's numbers.
use Rattle.std.specs.Prelude.{ℕ, Option, Some, None, Result, Ok, Err}
use Rattle.refusal.specs.Refused.{number_of as words_number_of}
use Rattle.tape.specs.Reading.{number_of as record_number_of}
use Rattle.judge.specs.declared.IllegalSlot.{IllegalSlot}
use Rattle.judge.specs.declared.JudgeError.{JudgeError}
use Rattle.judge.specs.Judge.{Verdict}

abbrev pub number_of : JudgeError → ℕ
number_of (JudgeError.Configuration why) = words_number_of why
number_of JudgeError.TooLong = 19
number_of (JudgeError.Record why) = record_number_of why

-- written out, and not by what `judge_of` is made of: so a contract ties that to the code
abbrev pub verdict_in : Result (Option IllegalSlot) JudgeError → Verdict
verdict_in (Ok None) = record { number = 0; slot = 0; rule = 0; bank = 0 }
verdict_in (Ok (Some x)) = record { number = 0; slot = x.slot; rule = x.violation.rule; bank = x.violation.bank }
verdict_in (Err why) = record { number = number_of why; slot = 0; rule = 0; bank = 0 }
