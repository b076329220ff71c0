-- Rows and what is written for them.
use Prim.Native.Nat.{ℕ}
use mathlib.Core.Path.{◌≡◌, refl}
use mathlib.Core.List.{List, [], ◌∷◌, map}
use Rattle.packing.specs.Packing.{word_of, command_word, command_in, packs_command}
use Rattle.tape.specs.Writing.{run_bytes, command_bytes, slot_piece, piece_of, tape_after}
use Rattle.tape_writer.specs.Writer.{all_pack, front_of, written_of, whole_of, extended_of}

pub record Exampled : Type 0 where
  -- a word that packs no command, also where no byte is lent; a tape that is too long, that just fits, and that leaves a byte; an empty row
  pub whole : map (λ (lent : List ℕ). whole_of (5 ∷ 8 ∷ []) lent) ([] ∷ (9 ∷ []) ∷ []) ≡ record { number = 20; length = 0; bytes = [] } ∷ record { number = 20; length = 0; bytes = 9 ∷ [] } ∷ []
  pub fitting : map (λ (lent : List ℕ). whole_of (0x12340201 ∷ []) lent) ((9 ∷ 9 ∷ 9 ∷ []) ∷ (9 ∷ 9 ∷ 9 ∷ 9 ∷ []) ∷ (9 ∷ 9 ∷ 9 ∷ 9 ∷ 9 ∷ []) ∷ [])
      ≡ record { number = 14; length = 0; bytes = 9 ∷ 9 ∷ 9 ∷ [] }
      ∷ record { number = 0; length = 4; bytes = 1 ∷ 2 ∷ 0x34 ∷ 0x12 ∷ [] }
      ∷ record { number = 0; length = 4; bytes = 1 ∷ 2 ∷ 0x34 ∷ 0x12 ∷ 9 ∷ [] }
      ∷ []
  pub none : whole_of [] [] ≡ record { number = 0; length = 0; bytes = [] }
  -- 65,535 NOPs wait, and no byte is needed for them; one more begins a run; refused, as many wait as before; at the end the run is written
  pub waiting : extended_of 65534 (0 ∷ []) [] ≡ record { outcome = record { number = 0; length = 0; bytes = [] }; pending = 65535 }
  pub begun : extended_of 65535 (0 ∷ []) (9 ∷ 9 ∷ 9 ∷ []) ≡ record { outcome = record { number = 0; length = 3; bytes = 0 ∷ 255 ∷ 255 ∷ [] }; pending = 1 }
  pub short : extended_of 2 (5 ∷ []) (9 ∷ 9 ∷ 9 ∷ []) ≡ record { outcome = record { number = 14; length = 0; bytes = 9 ∷ 9 ∷ 9 ∷ [] }; pending = 2 }
  pub ended : written_of 2 (0 ∷ []) (9 ∷ 9 ∷ 9 ∷ []) ≡ record { number = 0; length = 3; bytes = 0 ∷ 3 ∷ 0 ∷ [] }

pub writer_examples : Exampled
unfolding word_of command_word command_in packs_command run_bytes command_bytes slot_piece piece_of tape_after all_pack front_of written_of extended_of
writer_examples =
    record {
      whole = refl;
      fitting = refl;
      none = refl;
      waiting = refl;
      begun = refl;
      short = refl;
      ended = refl;
    }
