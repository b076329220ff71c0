-- The writer of tapes (document 02, (ii)): a row of words and lent bytes in, a number, a length and the lent bytes out.
use Rattle.std.specs.Prelude.{ℕ, Bool, true, cond, ◌&&◌, List, [], ◌∷◌, ◌++◌, map, eqb, ltb, length, drop, Result, Ok, Err}
use Rattle.command.specs.declared.Command.{Command}
use Rattle.packing.specs.Packing.{command_in, packs_command}
use Rattle.tape.specs.Writing.{Piece, piece_of, tape_after}
use Rattle.tape_writer.specs.declared.Extended.{Extended}
use Rattle.tape_writer.specs.declared.WriteError.{WriteError}

-- the slots whose commands a row of words packs
abbrev pub slots_in : List ℕ → List Command
slots_in words = map command_in words

-- does every word pack a command?
unfoldable pub all_pack : List ℕ → Bool
all_pack [] = true
all_pack (w ∷ later) = packs_command w && all_pack later

-- what a call gives: a number of the table, the length of what it has written, and the lent bytes after it
pub record Outcome : Type 0 where
  pub number : ℕ
  pub length : ℕ
  pub bytes : List ℕ

-- refused, nothing is written
abbrev pub refused_of : ℕ → List ℕ → Outcome
refused_of number lent = record { number = number; length = 0; bytes = lent }

-- bytes written to the front of the lent ones: 14 exactly if these are too few; what is beyond them stays
unfoldable pub front_of : List ℕ → List ℕ → Outcome
front_of bytes lent =
    cond (ltb (length lent) (length bytes)) (refused_of 14 lent)
    (record { number = 0; length = length bytes; bytes = bytes ++ drop (length bytes) lent })

-- The tape of so many NOPs that wait and then the slots of a row. 20 is tested over the whole row, before 14.
unfoldable pub written_of : ℕ → List ℕ → List ℕ → Outcome
written_of n words lent = cond (all_pack words) (front_of (tape_after n (slots_in words)) lent) (refused_of 20 lent)

-- The whole tape of a row.
abbrev pub whole_of : List ℕ → List ℕ → Outcome
whole_of words lent = written_of 0 words lent

-- what a call that goes on with a tape gives: besides, how many NOPs at its end still wait for their record
pub record Extending : Type 0 where
  pub outcome : Outcome
  pub pending : ℕ

-- The next piece of a tape, after NOPs that wait: its records are written. 14 is for these alone; refused, as many NOPs wait as before.
unfoldable pub extended_of : ℕ → List ℕ → List ℕ → Extending
extended_of n words lent =
    let p : Piece = piece_of n (slots_in words) in
    let w : Outcome = cond (all_pack words) (front_of p.bytes lent) (refused_of 20 lent) in
    record { outcome = w; pending = cond (eqb w.number 0) p.pending n }

-- the number of each refusal
abbrev pub number_of : WriteError → ℕ
number_of WriteError.NoRoom = 14
number_of WriteError.NotACommand = 20

-- as the code has it: the bytes changed in place, and the rest in its answer, 0 for one that is no refusal. A refusal is written out here: by
-- `refused_of` the contracts would hold whatever that said.
abbrev pub outcome_in : Result ℕ WriteError → List ℕ → Outcome
outcome_in (Ok length) bytes = record { number = 0; length = length; bytes = bytes }
outcome_in (Err why) bytes = record { number = number_of why; length = 0; bytes = bytes }

-- of a call that goes on with a tape, after so many NOPs that wait
abbrev pub extending_in : ℕ → Result Extended WriteError → List ℕ → Extending
extending_in n (Ok r) bytes = record { outcome = record { number = 0; length = r.length; bytes = bytes }; pending = r.pending }
extending_in n (Err why) bytes = record { outcome = record { number = number_of why; length = 0; bytes = bytes }; pending = n }
