-- What a record does to a judge's cursor and to the stamps, as the code's contracts put it. Nothing here has to be believed: crate `judge` shows what it is by the
-- plain SDRAM's history.
use Rattle.std.specs.Prelude.{ℕ, ◌+◌, ◌<◌, ◌≡◌, cond, List, length, get_or, Option, Some, None}
use Rattle.config.specs.declared.Config.{Config}
use Rattle.device.specs.Rules.{legal_of}
use Rattle.tape.specs.Reading.{Answer, end, command, run, refusal, Step}
use Rattle.stamps.specs.Stamps.{by_stamps, stamped_of}
use Rattle.tape_cursor.specs.declared.Cursor.{Cursor}

-- the cursor after a record, none where the judge halts, and the stamps with their clock
pub record Taken : Type 0 where
  pub cursor : Option Cursor
  pub last : List ℕ
  pub clock : ℕ

-- as the contracts put what the code leaves
abbrev pub taken_as : Option Cursor → List ℕ → ℕ → Taken
taken_as p l now = record { cursor = p; last = l; clock = now }

-- by what the reader finds at the cursor
unfoldable pub taken_by : Config → List ℕ → ℕ → Cursor → Step → Answer → Taken
taken_by c l now p s end = record { cursor = None; last = l; clock = now }
taken_by c l now p s (command k) =
    cond (legal_of c (by_stamps c l now) k)
    (record { cursor = Some (record { at = s.at; before = s.before }); last = stamped_of now k l; clock = now + 1 })
    (record { cursor = None; last = l; clock = now })
taken_by c l now p s (run n) = record { cursor = Some (record { at = s.at; before = s.before }); last = l; clock = now + n }
taken_by c l now p s (refusal n place) = record { cursor = None; last = l; clock = now }

abbrev pub taken_of : Config → List ℕ → ℕ → Cursor → Step → Taken
taken_of c l now p s = taken_by c l now p s s.answer

-- what the parts of `take` require: a kind at the cursor's place
pub record Here (tape : List ℕ) (p : Cursor) (kind : ℕ) : Type 0 where
  pub here : p.at < length tape
  pub is : kind ≡ get_or tape p.at 0
