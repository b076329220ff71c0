-- The plain SDRAM's reading of the past (document 01): the commands that were sent, with their slots.
use Rattle.std.specs.Prelude.{ℕ, suc, ◌+◌, Bool, true, cond, List, [], ◌∷◌, leb}
use Rattle.std.proofs.Math.Option.{Option, none, some}
use Rattle.address.specs.declared.Row.{Row}
use Rattle.config.specs.declared.Config.{Config}
use Rattle.command.specs.declared.Command.{Command}
use Rattle.device.specs.View.{View, Distance, mode_register, row_cycle, row_precharge, slots_of, starts, row_of, is_some}
use Rattle.device.specs.Rules.{legal_of}

pub record Sent : Type 0 where
  pub slot : ℕ
  pub command : Command

-- newest first
abbrev pub History : Type 0
History = List Sent

-- the slot of the last command that starts the distance
unfoldable pub last : Distance → History → Option ℕ
last d [] = none
last d (s ∷ h) = cond (starts d s.command) (some s.slot) (last d h)

-- is slot `now` so many slots or more after that slot? After none it is.
abbrev pub kept_since : Option ℕ → ℕ → ℕ → Bool
kept_since none now n = true
kept_since (some s) now n = leb (s + n) now

-- the row of bank b that is open: ACT opens its row, PRE closes its bank, DEAC closes all; at first all are closed
unfoldable pub open_row : History → ℕ → Option Row
open_row [] b = none
open_row (s ∷ h) b =
    cond (starts (row_cycle b) s.command) (some (row_of s.command)) (cond (starts (row_precharge b) s.command) none (open_row h b))

-- the next slot, counted from 1, and what was sent before it
pub record Log : Type 0 where
  pub now : ℕ
  pub past : History

unfoldable pub start_log : Log
start_log = record { now = 1; past = [] }

-- the past as the next slot sees it
abbrev pub by_history : Config → Log → View
by_history c l =
    record {
      programmed = is_some (last mode_register l.past);
      row = open_row l.past;
      kept = λ d. kept_since (last d l.past) l.now (slots_of c d);
    }

abbrev pub allowed : Config → Log → Command → Bool
allowed c l k = legal_of c (by_history c l) k

-- the device is fed the slot's command: one that is not legal counts as not sent; a NOP is logged too, and starts no distance
unfoldable pub fed : Config → Log → Command → Log
fed c l k = record { now = suc l.now; past = cond (allowed c l k) (record { slot = l.now; command = k } ∷ l.past) l.past }
