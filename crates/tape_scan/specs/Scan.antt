-- What reading a whole tape gives, in the terms of the format (crate `tape`, specs/Reading.antt).
use Rattle.std.specs.Prelude.{ℕ, ◌+◌, ◌%◌, ◌^◌, List, length, Result, Ok, Err}
use Rattle.tape.specs.Reading.{number_of, Answer, end, command, run, refusal, Contents, contents_of}
use Rattle.tape_scan.specs.declared.Refused.{Refused}

-- A number of document 02's table, or 0 where the tape was read to its end; the first place of the refused record, or 0; and the slots before that, modulo 2^64.
pub record Scanned : Type 0 where
  pub number : ℕ
  pub place : ℕ
  pub slots : ℕ

-- what a tape ends with: nothing wrong, or a refusal with its number and place
unfoldable pub stopped_of : ℕ → Answer → Scanned
stopped_of slots end = record { number = 0; place = 0; slots = slots }
stopped_of slots (command k) = record { number = 0; place = 0; slots = slots }
stopped_of slots (run n) = record { number = 0; place = 0; slots = slots }
stopped_of slots (refusal number place) = record { number = number; place = place; slots = slots }

-- after so many slots the rest of a tape; slots are counted modulo 2^64
abbrev pub scanned_after : ℕ → Contents → Scanned
scanned_after before c = stopped_of ((before + length c.slots) % 2 ^ 64) c.last

-- a whole tape
abbrev pub scanned_of : List ℕ → Scanned
scanned_of tape = scanned_after 0 (contents_of tape)

-- as the code has it
abbrev pub scanned_in : Result ℕ Refused → Scanned
scanned_in (Ok slots) = record { number = 0; place = 0; slots = slots }
scanned_in (Err r) = record { number = number_of r.why; place = r.place; slots = r.slots }
