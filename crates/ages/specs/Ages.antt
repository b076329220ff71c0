-- What the sequencer keeps of the past, and what the rules see of it. An age is in slots, as the next slot sees it.
use Rattle.std.specs.Prelude.{ℕ, ◌+◌, Bool, true, false, cond, List, [], ◌∷◌, leb, ltb, get_or, replicate}
use Rattle.std.specs.Prelude.{Option as Answer, Some, None}
use Rattle.std.proofs.Math.Option.{Option, none, some}
use Rattle.address.specs.declared.Row.{Row}
use Rattle.config.specs.declared.Config.{Config}
use Rattle.command.specs.declared.Command.{Command}
use Rattle.device.specs.View.{
  View,
  Distance,
  refresh_cycle,
  mode_register,
  read_to_write,
  any_precharge,
  row_precharge,
  row_cycle,
  row_to_row,
  row_to_column,
  row_active,
  write_recovery,
  slots_of,
  starts,
  row_of,
}
use Rattle.ages.specs.declared.Past.{Past}

-- the largest distance, and where an age stops; a command never sent has this age
abbrev pub cap : ℕ
cap = 32

-- a past of its parts
abbrev pub past_of : List ℕ → List Bool → List ℕ → Bool → Past
past_of ages opened rows programmed = record { ages = ages; opened = opened; rows = rows; programmed = programmed }

unfoldable pub fresh_of : Past
fresh_of = past_of (replicate 16 cap) (replicate 4 false) (replicate 4 0) false

-- the place of the age that a distance is read off: ACT of the four banks, PRE or DEAC of them, REFR, MRS, any PRE or DEAC, READ, WRT to the four banks
abbrev pub place_of : Distance → ℕ
place_of (row_cycle b) = b
place_of (row_to_row b) = b
place_of (row_to_column b) = b
place_of (row_active b) = b
place_of (row_precharge b) = 4 + b
place_of refresh_cycle = 8
place_of mode_register = 9
place_of any_precharge = 10
place_of read_to_write = 11
place_of (write_recovery b) = 12 + b

abbrev pub age_of : Past → Distance → ℕ
age_of p d = get_or p.ages (place_of d) 0

-- is a bank open, and which row was opened in it last? One that a device cannot have is closed.
unfoldable pub open_in : List Bool → ℕ → Bool
open_in opened b = cond (ltb b 4) (get_or opened b false) false

unfoldable pub row_in : List ℕ → ℕ → Row
row_in rows b = record { 0 = cond (ltb b 4) (get_or rows b 0) 0 }

-- the open row
unfoldable pub open_rows : List Bool → List ℕ → ℕ → Option Row
open_rows opened rows b = cond (open_in opened b) (some (row_in rows b)) none

abbrev pub row_at : Past → ℕ → Option Row
row_at p = open_rows p.opened p.rows

-- the open row as the code answers it
abbrev pub row_as : Answer Row → Option Row
row_as None = none
row_as (Some r) = some r

-- the view of the past by ages
abbrev pub by_ages : Config → Past → View
by_ages c p = record { programmed = p.programmed; row = row_at p; kept = λ d. leb (slots_of c d) (age_of p d) }

-- an age after a slot: 1 where the slot's command starts its distances, otherwise one slot older, up to the cap
unfoldable pub aged_of : Bool → ℕ → ℕ
aged_of started a = cond started 1 (cond (leb cap a) cap (a + 1))

-- a number for each place, with the place and the distance that is first read off it
abbrev pub each_place : (ℕ → Distance → ℕ) → List ℕ
each_place f =
    f 0 (row_cycle 0) ∷ f 1 (row_cycle 1) ∷ f 2 (row_cycle 2) ∷ f 3 (row_cycle 3)
    ∷ f 4 (row_precharge 0) ∷ f 5 (row_precharge 1) ∷ f 6 (row_precharge 2) ∷ f 7 (row_precharge 3)
    ∷ f 8 refresh_cycle ∷ f 9 mode_register ∷ f 10 any_precharge ∷ f 11 read_to_write
    ∷ f 12 (write_recovery 0) ∷ f 13 (write_recovery 1) ∷ f 14 (write_recovery 2) ∷ f 15 (write_recovery 3)
    ∷ []

-- all ages after the slot's command k
unfoldable pub ages_after : List ℕ → Command → List ℕ
ages_after a k = each_place (λ i d. aged_of (starts d k) (get_or a i 0))

-- the open flag of bank b, and its row, after the slot's command k: ACT opens, PRE and DEAC close
abbrev pub open_after : List Bool → Command → ℕ → Bool
open_after o k b = cond (starts (row_cycle b) k) true (cond (starts (row_precharge b) k) false (get_or o b false))

abbrev pub row_after : List ℕ → Command → ℕ → ℕ
row_after r k b = cond (starts (row_cycle b) k) (row_of k).0 (get_or r b 0)

-- the past after the slot's command k, that was sent
unfoldable pub sent_of : Past → Command → Past
sent_of p k =
    past_of
    (ages_after p.ages k)
    (open_after p.opened k 0 ∷ open_after p.opened k 1 ∷ open_after p.opened k 2 ∷ open_after p.opened k 3 ∷ [])
    (row_after p.rows k 0 ∷ row_after p.rows k 1 ∷ row_after p.rows k 2 ∷ row_after p.rows k 3 ∷ [])
    (cond (starts mode_register k) true p.programmed)
