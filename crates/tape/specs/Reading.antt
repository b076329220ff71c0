-- The reading of a tape (document 02, (ii)).
use Rattle.std.specs.Prelude.{ℕ, zero, suc, ◌+◌, ◌*◌, Bool, true, false, cond, ◌&&◌, ◌||◌, List, [], ◌∷◌, ◌++◌, eqb, ltb, length, get_or, drop, replicate}
use Rattle.command.specs.declared.Command.{Command}
use Rattle.command.specs.declared.Command.TheVariants.{Nop, Act, Read, Wrt, Pre, Deac, Refr, Mrs}
use Rattle.tape.specs.declared.Refusal.{Refusal}
use Rattle.tape.specs.declared.Item.{Item}

-- The reader's answer: the end, a command, a run of NOPs with its count, or a refusal with its number and the first place of its record.
pub data Answer : Type 0 where
  end : Answer
  command : Command → Answer
  run : (count : ℕ) → Answer
  refusal : (number place : ℕ) → Answer

-- Document 02's numbers and values for the code's enums.

abbrev pub number_of : Refusal → ℕ
number_of Refusal.Kind = 11
number_of Refusal.Cut = 12
number_of Refusal.Run = 13

abbrev pub answer_of : Item → Answer
answer_of Item.End = end
answer_of (Item.Command k) = command k
answer_of (Item.Run n) = run n
answer_of (Item.Refused why place) = refusal (number_of why) place

-- how many bytes follow each kind: 0 NOP run, 1 ACT, 2 READ, 3 WRT, 4 PRE, 5 DEAC, 6 REFR, 7 MRS
unfoldable pub body_length : ℕ → ℕ
body_length kind = get_or (2 ∷ 3 ∷ 3 ∷ 5 ∷ 1 ∷ 0 ∷ 0 ∷ 2 ∷ []) kind 0

-- the number in two bytes, the low one first
abbrev pub pair_at : List ℕ → ℕ → ℕ
pair_at body i = get_or body i 0 + 256 * get_or body (suc i) 0

-- the command of a kind from 1 to 7 and its body
unfoldable pub command_of : ℕ → List ℕ → Command
command_of kind body =
    cond (eqb kind 1) (Act (record { 0 = get_or body 0 0 }) (record { 0 = pair_at body 1 }))
    (cond (eqb kind 2) (Read (record { 0 = get_or body 0 0 }) (record { 0 = pair_at body 1 }))
    (cond (eqb kind 3) (Wrt (record { 0 = get_or body 0 0 }) (record { 0 = pair_at body 1 }) (pair_at body 3))
    (cond (eqb kind 4) (Pre (record { 0 = get_or body 0 0 }))
    (cond (eqb kind 5) Deac
    (cond (eqb kind 6) Refr (Mrs (pair_at body 0)))))))

-- a run counts 1 at least, and follows another only if that one counts 65,535; `before` is 0 where no run stands before it
unfoldable pub wrong_run : ℕ → ℕ → Bool
wrong_run before count = eqb count 0 || (ltb 0 before && ltb before 65535)

-- The number that a record gets: its kind, what follows the kind on the tape, and the run just before it. The lowest wins; 0: the record is read.
unfoldable pub record_number : ℕ → ℕ → List ℕ → ℕ
record_number before kind rest =
    cond (ltb 7 kind) 11
    (cond (ltb (length rest) (body_length kind)) 12
    (cond (eqb kind 0 && wrong_run before (pair_at rest 0)) 13 0))

-- A step of the reader: its answer, and afterwards its place and the count of the run just before it, else 0.
pub record Step : Type 0 where
  pub answer : Answer
  pub at : ℕ
  pub before : ℕ

-- the record at a place; a run is remembered, and 0 after any other record
unfoldable pub record_at : ℕ → ℕ → List ℕ → Step
record_at at kind rest =
    cond (eqb kind 0) (record { answer = run (pair_at rest 0); at = at + 3; before = pair_at rest 0 })
    (record { answer = command (command_of kind rest); at = at + suc (body_length kind); before = 0 })

-- a refused record leaves the reader as it was
unfoldable pub kind_at : ℕ → ℕ → ℕ → List ℕ → Step
kind_at at before kind rest =
    let number : ℕ = record_number before kind rest in
    cond (eqb number 0) (record_at at kind rest) (record { answer = refusal number at; at = at; before = before })

-- the reader on what is left of the tape from its place on
unfoldable pub rest_at : ℕ → ℕ → List ℕ → Step
rest_at at before [] = record { answer = end; at = at; before = before }
rest_at at before (kind ∷ rest) = kind_at at before kind rest

-- The reader at a place of a tape, after a run of so many NOPs (0: after no run). Past the tape there is nothing left.
unfoldable pub step_of : List ℕ → ℕ → ℕ → Step
step_of tape at before = rest_at at before (drop at tape)

-- A whole tape.

-- the slots that an answer stands for, and whether the reader goes on after it
abbrev pub slots_of : Answer → List Command
slots_of end = []
slots_of (command k) = k ∷ []
slots_of (run n) = replicate n Nop
slots_of (refusal n p) = []

abbrev pub goes_on : Answer → Bool
goes_on end = false
goes_on (command k) = true
goes_on (run n) = true
goes_on (refusal n p) = false

-- The slots on a tape up to its end or its first refusal, and which of these it was.
pub record Contents : Type 0 where
  pub slots : List Command
  pub last : Answer

-- an answer before what follows it: its slots come first, and an end or a refusal is the last
abbrev pub followed : Answer → Contents → Contents
followed a later =
    cond (goes_on a) (record { slots = slots_of a ++ later.slots; last = later.last })
    (record { slots = []; last = a })

-- from a place on, so many records
unfoldable pub contents_from : ℕ → List ℕ → ℕ → ℕ → Contents
contents_from zero tape at before = record { slots = []; last = (step_of tape at before).answer }
contents_from (suc n) tape at before = let s : Step = step_of tape at before in followed s.answer (contents_from n tape s.at s.before)

-- all: no tape has more records than bytes (`whole` and `unfolds` of Laws.antt)
abbrev pub contents_of : List ℕ → Contents
contents_of tape = contents_from (length tape) tape 0 0
