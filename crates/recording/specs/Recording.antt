-- What a recording's calls put behind the bytes that wait in the buffer.
use Rattle.std.specs.Prelude.{ℕ, ◌+◌, ◌≤◌, true, false, ◌≡◌, List, ◌++◌, length, take, drop}
use Rattle.output.specs.declared.Output.{Output}
use Rattle.output.specs.Waiting.{kept_of}
use Rattle.tape.specs.Writing.{run_bytes, piece_of}
use Rattle.tape_writer.specs.Writer.{slots_in, all_pack, extended_of}

-- the bytes that still wait when room is made for a row of 4,096 slots
abbrev pub kept_in : ℕ → List ℕ → List ℕ
kept_in waiting buffer = take (kept_of waiting 24579 (length buffer)) buffer

-- a row that the recording takes, and a buffer that has room for its records
pub record Lent (words buffer : List ℕ) : Type 0 where
  pub pack : all_pack words ≡ true
  pub few : length words ≤ 4096
  pub room : 24579 ≤ length buffer

-- the row's piece of the tape stands behind the bytes that waited, and nothing else waits
pub record Added (before : Output) (n : ℕ) (words : List ℕ) (after : Output) (left : ℕ) : Type 0 where
  pub waiting : take after.waiting after.buffer.now ≡ kept_in before.waiting before.buffer.now ++ (piece_of n (slots_in words)).bytes
  pub pending : left ≡ (piece_of n (slots_in words)).pending

-- Whatever the row and the buffer: what the writer gives behind the bytes that wait. Where it refuses, none are added and as many NOPs wait as before.
pub record Behind (before : Output) (n : ℕ) (words : List ℕ) (after : Output) (left : ℕ) : Type 0 where
  pub place : ℕ
  pub kept : after.failed ≡ false → place ≡ kept_of before.waiting 24579 (length before.buffer.now)
  pub waiting : after.waiting ≡ place + (extended_of n words (drop place before.buffer.now)).outcome.length
  pub bytes : after.buffer.now ≡ take place before.buffer.now ++ (extended_of n words (drop place before.buffer.now)).outcome.bytes
  pub pending : left ≡ (extended_of n words (drop place before.buffer.now)).pending

-- at the end: the record of the NOPs that wait stands there
abbrev pub Ended : Output → ℕ → Output → Type 0
Ended before n after = take after.waiting after.buffer.now ≡ kept_in before.waiting before.buffer.now ++ run_bytes n
