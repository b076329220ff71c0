-- The decoder's answer in the terms of the format (crate `tape`, specs/Reading.antt).
use Rattle.tape.specs.Reading.{answer_of, Step}
use Rattle.tape_decoder.specs.declared.Found.{Found}

-- what is found, as a step of the reader
abbrev pub step_in : Found → Step
step_in f = record { answer = answer_of f.item; at = f.at; before = f.before }
