-- The numbers of document 01's table that the record, the address and the room decide ("Numbers given back").
use Rattle.std.specs.Prelude.{ℕ, Bool, cond, eqb, leb}
use Rattle.config.specs.declared.Config.{Config}
use Rattle.address.specs.Map.{address_number_of}
use Rattle.ages.specs.declared.Past.{Past}
use Rattle.refresh.specs.declared.Counters.{Counters}
use Rattle.plan.specs.declared.Control.{Control}
use Rattle.numbers.specs.Sound.{sound_by}

-- Every call but a configuration: 9 for an unsound record, then 8 for the blank machine.
unfoldable pub record_number_by : Bool → Config → Past → Counters → Control → ℕ → ℕ
record_number_by configured c p n x count = cond (sound_by configured c p n x count) (cond configured 0 8) 9

-- the most requests that are ever accepted
abbrev pub last_number : ℕ
last_number = 4294967295

-- 6 for a full queue, 7 for the last number
unfoldable pub room_number_of : ℕ → ℕ → ℕ
room_number_of queued accepted = cond (leb 8 queued) 6 (cond (leb last_number accepted) 7 0)

-- Requests: 9 and 8, then 4 and 5 for the address, then 6 and 7.
unfoldable pub request_number_by : Bool → Config → Past → Counters → Control → ℕ → ℕ → ℕ → ℕ
request_number_by configured c p n x count accepted address =
    cond (eqb (record_number_by configured c p n x count) 0)
    (cond (eqb (address_number_of c.geometry address) 0) (room_number_of count accepted) (address_number_of c.geometry address))
    (record_number_by configured c p n x count)
