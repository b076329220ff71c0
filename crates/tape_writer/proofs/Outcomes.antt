-- The writer's calls by their outcome.
use Prim.Native.Nat.{ℕ, ◌+◌, ◌≤◌, ◌<◌}
use mathlib.Core.Path.{◌≡◌}
use mathlib.Core.Bool.{true, false}
use mathlib.Core.List.{List, ◌++◌}
use native.Mathlib.Omega.{arith}
use lib.ListN.{length, length-append}
use lib.Seq.{sets}
use borrow.Author.Tests.{lt-ltb, le-ltb}
use Rattle.tape.specs.Writing.{run_bytes, Piece, piece_of, tape_after}
use Rattle.tape_writer.specs.Writer.{slots_in, all_pack, refused_of, front_of, written_of, extended_of}
use Rattle.tape_encoder.proofs.Stores.{sets_append, sets_front}

-- bytes that are put in front
front_short : (bytes lent : List ℕ) → length lent < length bytes → front_of bytes lent ≡ refused_of 14 lent
unfolding front_of
front_short bytes lent h = simp (lt-ltb _ _ h)

front_fits : (bytes lent : List ℕ) → length bytes ≤ length lent → front_of bytes lent ≡ record { number = 0; length = length bytes; bytes = sets lent 0 bytes }
unfolding front_of
front_fits bytes lent h = simp (le-ltb _ _ h, sets_front lent bytes h)

module _ (n : ℕ) (words lent : List ℕ) where
  abbrev piece : Piece
  piece = piece_of n (slots_in words)

  pub extended_20 : all_pack words ≡ false → extended_of n words lent ≡ record { outcome = refused_of 20 lent; pending = n }
  unfolding extended_of
  extended_20 p = simp p

  pub extended_14 : all_pack words ≡ true → length lent < length piece.bytes → extended_of n words lent ≡ record { outcome = refused_of 14 lent; pending = n }
  unfolding extended_of
  extended_14 p h = simp (p, front_short piece.bytes lent h)

  pub extended_0 : all_pack words ≡ true → length piece.bytes ≤ length lent
      → extended_of n words lent ≡ record { outcome = record { number = 0; length = length piece.bytes; bytes = sets lent 0 piece.bytes }; pending = piece.pending }
  unfolding extended_of
  extended_0 p h = simp (p, front_fits piece.bytes lent h)

  pub written_20 : all_pack words ≡ false → written_of n words lent ≡ refused_of 20 lent
  unfolding written_of
  written_20 p = simp p

  pub written_14 : all_pack words ≡ true → length lent < length piece.bytes + length (run_bytes piece.pending) → written_of n words lent ≡ refused_of 14 lent
  unfolding written_of tape_after
  written_14 p h = simp (p, front_short (piece.bytes ++ run_bytes piece.pending) lent (rw length-append h))

  pub written_0 : all_pack words ≡ true → length piece.bytes + length (run_bytes piece.pending) ≤ length lent
      → written_of n words lent
      ≡ record {
        number = 0;
        length = length piece.bytes + length (run_bytes piece.pending);
        bytes = sets (sets lent 0 piece.bytes) (length piece.bytes) (run_bytes piece.pending);
      }
  unfolding written_of tape_after
  written_0 p h =
      let e : 0 + length piece.bytes ≡ length piece.bytes = omega arith in
      simp (p, front_fits (piece.bytes ++ run_bytes piece.pending) lent (rw length-append h), length-append, sets_append, e)
