-- What is said of a tape where the judge halts, as the code's contracts put it. Nothing here has to be believed: the contract of `judge` cites none of it.
use Rattle.std.specs.Prelude.{ℕ, ◌≡◌, false, List}
use Rattle.config.specs.declared.Config.{Config}
use Rattle.command.specs.declared.Command.{Command}
use Rattle.device.specs.Rules.{requirements, legal_of}
use Rattle.tape.specs.Reading.{Answer, end, command, run, refusal}
use Rattle.stamps.specs.Stamps.{slot_of, by_stamps}
use Rattle.violation.specs.Violation.{violation_of}
use Rattle.judge.specs.Judge.{Verdict, said_of, illegal_at, refused_or}

-- at a command that is not legal by the stamps: a refusal behind it goes before it
unfoldable pub illegal_by : Config → List ℕ → ℕ → Command → Answer → Verdict
illegal_by c l clock k last = refused_or last (illegal_at (slot_of clock) (violation_of (requirements c (by_stamps c l clock) k)))

-- by what the reader finds there, and what the whole tape ends with; at a run no judge halts
unfoldable pub halted_at : Config → List ℕ → ℕ → Answer → Answer → Verdict
halted_at c l clock end last = said_of 0
halted_at c l clock (command k) last = illegal_by c l clock k last
halted_at c l clock (run n) last = said_of 0
halted_at c l clock (refusal number place) last = said_of number

-- where a judge halts: at the end, at a refusal, or at a command that is not legal
abbrev pub Halts : Config → List ℕ → ℕ → Answer → Type 0
Halts c l clock end = Unit {0}
Halts c l clock (command k) = legal_of c (by_stamps c l clock) k ≡ false
Halts c l clock (run n) = ⊥
Halts c l clock (refusal n place) = Unit {0}
