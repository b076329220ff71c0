-- What is promised of the writer's calls together with the reader.
use Rattle.std.specs.Prelude.{ℕ, ◌≡◌, List, ◌++◌, map, take}
use Rattle.command.specs.declared.Command.{Command}
use Rattle.packing.specs.Packing.{command_word}
use Rattle.tape.specs.Writing.{tape_after}
use Rattle.tape.specs.Reading.{end, contents_of}
use Rattle.tape.specs.Laws.{Bytes, Accepted}
use Rattle.tape_writer.specs.Writer.{slots_in, Outcome, front_of, written_of, whole_of, extended_of}

-- what a call has written
abbrev pub tape_in : Outcome → List ℕ
tape_in w = take w.length w.bytes

pub record WriterLaws : Type 0 where
  -- what is written is the tape of the slots
  pub finished : (n : ℕ) (words lent : List ℕ) → (written_of n words lent).number ≡ 0 → tape_in (written_of n words lent) ≡ tape_after n (slots_in words)
  -- a piece, and then the tape of whatever follows, are the tape of both parts
  pub continued : (n : ℕ) (words lent : List ℕ) (later : List Command) → (extended_of n words lent).outcome.number ≡ 0
      → tape_in (extended_of n words lent).outcome ++ tape_after (extended_of n words lent).pending later ≡ tape_after n (slots_in words ++ later)
  -- refused, nothing is written
  pub kept : (n : ℕ) (words lent : List ℕ) → ((written_of n words lent).number ≡ 0 → ⊥) → ((written_of n words lent).length ≡ 0) × ((written_of n words lent).bytes ≡ lent)
  pub piece_kept : (n : ℕ) (words lent : List ℕ) → ((extended_of n words lent).outcome.number ≡ 0 → ⊥)
      → ((extended_of n words lent).outcome.length ≡ 0) × ((extended_of n words lent).outcome.bytes ≡ lent) × ((extended_of n words lent).pending ≡ n)
  -- the tape of a row is read to its end, and gives the row's slots back, whose words are the row
  pub returned : (words lent : List ℕ) → (whole_of words lent).number ≡ 0
      → (contents_of (tape_in (whole_of words lent)) ≡ record { slots = slots_in words; last = end }) × (map command_word (slots_in words) ≡ words)
  -- an accepted tape is what is written for the words of its slots
  pub spelled : (tape lent : List ℕ) → Bytes tape → Accepted tape → whole_of (map command_word (contents_of tape).slots) lent ≡ front_of tape lent
