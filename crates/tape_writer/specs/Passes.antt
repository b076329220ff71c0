-- The writer's two passes over a row, as the contracts of the code's own functions say them. Nothing here has to be believed.
use Rattle.std.specs.Prelude.{ℕ, cond, List, length, Result, Ok, Err}
use Rattle.tape.specs.Writing.{Piece, piece_of}
use Rattle.tape_writer.specs.declared.Extended.{Extended}
use Rattle.tape_writer.specs.declared.WriteError.{WriteError}
use Rattle.tape_writer.specs.Writer.{slots_in, all_pack}

-- the first pass: does every word pack a command, how long are the records, and how many NOPs still wait?
unfoldable pub measured_of : ℕ → List ℕ → Result Extended WriteError
measured_of n words =
    let p : Piece = piece_of n (slots_in words) in
    cond (all_pack words) (Ok (record { length = length p.bytes; pending = p.pending })) (Err WriteError.NotACommand)
