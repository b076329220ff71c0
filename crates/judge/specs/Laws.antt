-- What the judge's answers mean, for all words and tapes. `allowed` and `fed` are the plain SDRAM's own (crate `device`, specs/History.antt); crate `own_tapes` says the same
-- of the SDRAM of the third condition, with its cells.
use Rattle.std.specs.Prelude.{ℕ, suc, ◌≤◌, ◌<◌, ◌≡◌, true, false, List, [], ◌∷◌, length, get_or, take}
use Rattle.config.specs.declared.Config.{Config}
use Rattle.config.specs.Setting.{setting_of}
use Rattle.command.specs.declared.Command.{Command}
use Rattle.command.specs.declared.Command.TheVariants.{Nop}
use Rattle.device.specs.Rules.{requirements}
use Rattle.device.specs.History.{Log, start_log, by_history, allowed, fed}
use Rattle.tape.specs.Reading.{end, contents_of}
use Rattle.violation.specs.declared.Violation.{Violation}
use Rattle.violation.specs.Violation.{violation_of}
use Rattle.judge.specs.Judge.{said_of, illegal_at, longest, judge_of}

-- the plain SDRAM's log after commands, one a slot
unfoldable pub fed_all : Config → Log → List Command → Log
fed_all c l [] = l
fed_all c l (k ∷ later) = fed_all c (fed c l k) later

-- before the command at a place of a list, counted from 0, and that command
abbrev pub log_at : Config → List Command → ℕ → Log
log_at c slots i = fed_all c start_log (take i slots)

abbrev pub command_at : List Command → ℕ → Command
command_at slots i = get_or slots i Nop

-- it rejects none of the first so many
abbrev pub NoneRejected : Config → List Command → ℕ → Type 0
NoneRejected c slots n = (i : ℕ) → i < n → allowed c (log_at c slots i) (command_at slots i) ≡ true

-- the one at place i is the first that it rejects
pub record FirstRejected (c : Config) (slots : List Command) (i : ℕ) (x : Violation) : Type 0 where
  pub here : i < length slots
  pub earlier : NoneRejected c slots i
  pub rejected : allowed c (log_at c slots i) (command_at slots i) ≡ false
  pub broken : x ≡ violation_of (requirements c (by_history c (log_at c slots i)) (command_at slots i))

-- words that are accepted, and a tape that is not too long and is read to its end
pub record Readable (cfg row ref tim : ℕ) (tape : List ℕ) : Type 0 where
  pub words : (setting_of cfg row ref tim).number ≡ 0
  pub short : length tape ≤ longest
  pub whole : (contents_of tape).last ≡ end

-- every command is legal
pub record Legal (cfg row ref tim : ℕ) (tape : List ℕ) : Type 0 where
  pub readable : Readable cfg row ref tim tape
  pub none : NoneRejected (setting_of cfg row ref tim).config (contents_of tape).slots (length (contents_of tape).slots)

-- the command at place i is the first that is not, and x its first broken rule with the bank named for it
pub record Illegal (cfg row ref tim : ℕ) (tape : List ℕ) (i : ℕ) (x : Violation) : Type 0 where
  pub readable : Readable cfg row ref tim tape
  pub first : FirstRejected (setting_of cfg row ref tim).config (contents_of tape).slots i x

pub record Judges : Type 0 where
  -- accepted means exactly that the plain SDRAM would reject nothing
  pub accepted : (cfg row ref tim : ℕ) (tape : List ℕ) → judge_of cfg row ref tim tape ≡ said_of 0 → Legal cfg row ref tim tape
  pub legal : (cfg row ref tim : ℕ) (tape : List ℕ) → Legal cfg row ref tim tape → judge_of cfg row ref tim tape ≡ said_of 0
  -- a slot with a rule and a bank means exactly that its command is the first that the SDRAM would reject; slots count from 1
  pub found : (cfg row ref tim : ℕ) (tape : List ℕ) (i : ℕ) (x : Violation) → judge_of cfg row ref tim tape ≡ illegal_at (suc i) x → Illegal cfg row ref tim tape i x
  pub illegal : (cfg row ref tim : ℕ) (tape : List ℕ) (i : ℕ) (x : Violation) → Illegal cfg row ref tim tape i x → judge_of cfg row ref tim tape ≡ illegal_at (suc i) x
  -- nothing else is said: a number that is not 0 comes alone, and with number 0 and slot 0 all is legal
  pub alone : (cfg row ref tim : ℕ) (tape : List ℕ) → ((judge_of cfg row ref tim tape).number ≡ 0 → ⊥) → judge_of cfg row ref tim tape ≡ said_of (judge_of cfg row ref tim tape).number
  pub zero : (cfg row ref tim : ℕ) (tape : List ℕ) → (judge_of cfg row ref tim tape).number ≡ 0 → (judge_of cfg row ref tim tape).slot ≡ 0 → judge_of cfg row ref tim tape ≡ said_of 0
