-- The invariant: there is room for the records that are left, and with them the tape is the one with all records.
use mathlib.Core.Path.{◌≡◌}
use mathlib.Core.Bool.{true}
use lib.ListN.{drop}
use Rattle.tape.specs.Writing.{piece_of}
use Rattle.tape_encoder.specs.declared.Encoder.{Encoder}
use Rattle.tape_encoder.specs.Encoder.{Room, Puts}
use Rattle.tape_writer.specs.Writer.{slots_in, all_pack}
use Rattle.tape_writer.proofs.fill.Given as goal

abbrev pub invariant-loop-word : goal.invariant-loop-word
invariant-loop-word l =
    (all_pack (drop l.word-index l.words) ≡ true)
    × Room l.encoder (piece_of l.open (slots_in (drop l.word-index l.words))).bytes
    × ((after : Encoder) → Puts l.encoder after (piece_of l.open (slots_in (drop l.word-index l.words))).bytes → Puts l.initial.encoder after (piece_of l.pending (slots_in l.words)).bytes)
