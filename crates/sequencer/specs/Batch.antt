-- Many slots in one call (document 02, (i)).
use Rattle.std.specs.Prelude.{ℕ, min, cond, List, [], ◌∷◌, ◌++◌, eqb, length, take, drop}
use Rattle.packing.specs.Packing.{command_word, report_word}
use Rattle.sequencer.specs.Calls.{record_number_of, slot_of}
use Rattle.sequencer.specs.declared.Machine.{Machine}
use Rattle.sequencer.specs.Answers.{Slots, Slot}

-- the machine after slots, and the words of their commands and reports, one slot after the other
pub record Series : Type 0 where
  pub machine : Machine
  pub commands : List ℕ
  pub reports : List ℕ

-- a slot before others
abbrev pub before : Slot → Series → Series
before s r = record { machine = r.machine; commands = command_word s.command ∷ r.commands; reports = report_word s.report ∷ r.reports }

-- single slots, one for each of the halfwords that the bus carries; where the first is not refused, none is (`KeptSound` of `progress`)
unfoldable pub series_of : Machine → List ℕ → Series
series_of m [] = record { machine = m; commands = []; reports = [] }
series_of m (bus ∷ later) = let s : Slot = slot_of m bus in before s (series_of s.machine later)

-- as many slots as the shortest of the three arrays has room for: by the arrays' lengths, and by the arrays
abbrev pub room_of : ℕ → ℕ → ℕ → ℕ
room_of bus commands reports = min bus (min commands reports)

abbrev pub count_of : List ℕ → List ℕ → List ℕ → ℕ
count_of bus commands reports = room_of (length bus) (length commands) (length reports)

-- what the call gives: a number of the table, the count of slots run, the machine, and both arrays after it
pub record Batch : Type 0 where
  pub number : ℕ
  pub count : ℕ
  pub machine : Machine
  pub commands : List ℕ
  pub reports : List ℕ

-- n slots; the places beyond the count hold what they held
unfoldable pub batch_of : Machine → ℕ → List ℕ → List ℕ → List ℕ → Batch
batch_of m n bus commands reports =
    let r : Series = series_of m (take n bus) in
    record { number = 0; count = n; machine = r.machine; commands = r.commands ++ drop n commands; reports = r.reports ++ drop n reports }

-- The call. 9 and 8 are tested once; refused, no slot is run, and nothing is stored.
unfoldable pub many_slots_of : Machine → List ℕ → List ℕ → List ℕ → Batch
many_slots_of m bus commands reports =
    cond (eqb (record_number_of m) 0) (batch_of m (count_of bus commands reports) bus commands reports)
    (record { number = record_number_of m; count = 0; machine = m; commands = commands; reports = reports })

-- as the code has it: the arrays changed in place, and the rest in its answer
abbrev pub gathered : Slots → List ℕ → List ℕ → Batch
gathered r commands reports = record { number = r.number; count = r.count; machine = r.machine; commands = commands; reports = reports }
