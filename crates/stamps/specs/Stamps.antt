-- The past commands of a tape as a judge keeps them (document 02, (v)): of each kind, and of each bank where rules measure by banks, the slot of the last one, and nothing else.
-- Slots are told by a clock that shows 32, the longest distance (tRFC), in slot 1, so that 0 can stand for a command that was never sent: every distance from it is kept.
use Rattle.std.specs.Prelude.{ℕ, ◌+◌, ◌-◌, Bool, cond, List, leb, ltb, get_or, replicate}
use Rattle.std.proofs.Math.Option.{none, some}
use Rattle.address.specs.declared.Row.{Row}
use Rattle.config.specs.declared.Config.{Config}
use Rattle.command.specs.declared.Command.{Command}
use Rattle.device.specs.View.{View, mode_register, slots_of, starts}
use Rattle.ages.specs.Ages.{place_of, each_place}

-- what the clock shows in a slot, and the slot in which it shows that
abbrev pub clock_of : ℕ → ℕ
clock_of slot = 31 + slot

abbrev pub slot_of : ℕ → ℕ
slot_of clock = clock - 31

-- before any command was sent
abbrev pub no_stamps : List ℕ
no_stamps = replicate 16 0

-- a bank is open where its last ACT is later than its last PRE or any DEAC
unfoldable pub open_at : List ℕ → ℕ → Bool
open_at l b = ltb (get_or l (4 + b) 0) (get_or l b 0)

-- rules ask whether a bank is open, and never for its row: row 0 stands for any
abbrev pub any_row : Row
any_row = record { 0 = 0 }

-- the view of the past by stamps, as the slot sees it in which the clock shows `now`
abbrev pub by_stamps : Config → List ℕ → ℕ → View
by_stamps c l now =
    record {
      programmed = ltb 0 (get_or l (place_of mode_register) 0);
      row = λ b. cond (open_at l b) (some any_row) none;
      kept = λ d. leb (get_or l (place_of d) 0 + slots_of c d) now;
    }

-- the stamps after the command k, that was sent in that slot
unfoldable pub stamped_of : ℕ → Command → List ℕ → List ℕ
stamped_of now k l = each_place (λ i d. cond (starts d k) now (get_or l i 0))
