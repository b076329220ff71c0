-- What is promised of tapes, over all tapes and all lists of slots.
use Rattle.std.specs.Prelude.{ℕ, suc, ◌+◌, ◌≤◌, ◌<◌, ◌≡◌, true, false, List, [], ◌∷◌, ◌++◌, length, get_or, drop, replicate}
use Rattle.command.specs.declared.Command.{Command}
use Rattle.command.specs.declared.Command.TheVariants.{Nop}
use Rattle.packing.specs.Laws.{FitsCommand}
use Rattle.tape.specs.Writing.{is_nop, piece_of, tape_after, tape_of}
use Rattle.tape.specs.Reading.{
  Answer,
  end,
  command,
  run,
  refusal,
  record_number,
  Step,
  step_of,
  goes_on,
  followed,
  contents_from,
  contents_of,
}

-- numbers from 0 to 255
abbrev pub Bytes : List ℕ → Type 0
Bytes l = (i : ℕ) → get_or l i 0 < 256

-- banks to 255, other numbers to 65,535
abbrev pub Fit : List Command → Type 0
Fit [] = Unit {0}
Fit (k ∷ later) = FitsCommand k × Fit later

-- a tape that the reader reads to its end
abbrev pub Accepted : List ℕ → Type 0
Accepted tape = (contents_of tape).last ≡ end

pub record Tapes : Type 0 where
  -- writing gives bytes, and reading them gives the slots back
  pub returned : (slots : List Command) → Fit slots → Bytes (tape_of slots) × (contents_of (tape_of slots) ≡ record { slots = slots; last = end })
  -- an accepted tape is the one that is written for its slots
  pub spelled : (tape : List ℕ) → Bytes tape → Accepted tape → Fit (contents_of tape).slots × (tape_of (contents_of tape).slots ≡ tape)
  -- so two accepted tapes with the same slots are the same bytes
  pub same : (s t : List ℕ) → Bytes s → Bytes t → Accepted s → Accepted t → (contents_of s).slots ≡ (contents_of t).slots → s ≡ t

-- A tape that is written in pieces.
pub record Pieces : Type 0 where
  -- the NOPs that wait are NOPs before the slots
  pub opened : (n : ℕ) (slots : List Command) → n ≤ 65535 → tape_after n slots ≡ tape_of (replicate n Nop ++ slots)
  -- the records of a piece, and then the tape of its NOPs that wait and of what follows, are the tape of both parts
  pub continued : (n : ℕ) (first later : List Command) → (piece_of n first).bytes ++ tape_after (piece_of n first).pending later ≡ tape_after n (first ++ later)
  -- a run counts 65,535 at most
  pub limited : (n : ℕ) (slots : List Command) → n ≤ 65535 → (piece_of n slots).pending ≤ 65535

-- so many places further on: an answer, and a step
abbrev pub placed_by : ℕ → Answer → Answer
placed_by n end = end
placed_by n (command k) = command k
placed_by n (run c) = run c
placed_by n (refusal number place) = refusal number (n + place)

abbrev pub moved_by : ℕ → Step → Step
moved_by n s = record { answer = placed_by n s.answer; at = n + s.at; before = s.before }

-- The reader on any tape, at any place and after any run.
pub record Steps : Type 0 where
  -- every record that is read takes the reader on, and not past the tape
  pub progress : (tape : List ℕ) (at before : ℕ) → goes_on (step_of tape at before).answer ≡ true → (at < (step_of tape at before).at) × ((step_of tape at before).at ≤ length tape)
  -- an end or a refusal leaves the reader as it was
  pub stays : (tape : List ℕ) (at before : ℕ) → goes_on (step_of tape at before).answer ≡ false → ((step_of tape at before).at ≡ at) × ((step_of tape at before).before ≡ before)
  -- a refusal has its record's number and first place
  pub refused : (tape : List ℕ) (at before number place : ℕ) → (step_of tape at before).answer ≡ refusal number place
      → (0 < number) × (number ≡ record_number before (get_or tape at 0) (drop (suc at) tape)) × (place ≡ at)
  -- after a command no run stands just before; after a run it is that run, which counts one at least; a NOP is never answered as a command
  pub remembered : (tape : List ℕ) (at before : ℕ) (k : Command) → (step_of tape at before).answer ≡ command k → ((step_of tape at before).before ≡ 0) × (is_nop k ≡ false)
  pub counted : (tape : List ℕ) (at before n : ℕ) → (step_of tape at before).answer ≡ run n → ((step_of tape at before).before ≡ n) × (0 < n)
  -- the end is found exactly at the tape's end and past it
  pub ends : (tape : List ℕ) (at before : ℕ) → (length tape ≤ at → (step_of tape at before).answer ≡ end) × ((step_of tape at before).answer ≡ end → length tape ≤ at)
  -- what is found on a tape is found too where the tape goes on, unless it is the end or a cut record
  pub longer : (tape more : List ℕ) (at before : ℕ)
      → ((step_of tape at before).answer ≡ end → ⊥)
      → ((step_of tape at before).answer ≡ refusal 12 at → ⊥)
      → step_of (tape ++ more) at before ≡ step_of tape at before
  -- and what stands before its place does not matter
  pub moved : (gone tape : List ℕ) (at before : ℕ) → step_of (gone ++ tape) (length gone + at) before ≡ moved_by (length gone) (step_of tape at before)
  -- every tape is read to its end or to a refusal, in no more records than are left bytes
  pub whole : (tape : List ℕ) → goes_on (contents_of tape).last ≡ false
  pub enough : (n : ℕ) (tape : List ℕ) (at before : ℕ) → length tape ≤ at + n → contents_from n tape at before ≡ contents_from (length tape) tape at before
  -- so the contents from a place on are the step there and then the contents from where it leads
  pub unfolds : (tape : List ℕ) (at before : ℕ)
      → contents_from (length tape) tape at before ≡ followed (step_of tape at before).answer (contents_from (length tape) tape (step_of tape at before).at (step_of tape at before).before)
