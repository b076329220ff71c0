-- The reader's code in the terms of the format (crate `tape`, specs/Reading.antt).
use Rattle.tape.specs.declared.Item.{Item}
use Rattle.tape.specs.Reading.{answer_of, Step}
use Rattle.tape_reader.specs.declared.Reader.{Reader}

-- a step of the reader: its answer, and the reader after it
abbrev pub step_after : Item → Reader → Step
step_after i r = record { answer = answer_of i; at = r.at; before = r.before }
