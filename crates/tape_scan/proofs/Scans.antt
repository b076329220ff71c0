-- The contents of a tape from a place on (crate `tape`, `contents_from`), by what the reader finds there.
use Rattle.std.proofs.Common.{◌≡◌, ℕ, ◌+◌, ◌-◌, ◌%◌, ◌^◌, ◌<◌, ◌≤◌, true, false, List, [], ◌++◌, length, refl, sym, ap, ◌∙◌, add-zero, mod-eq_of_lt, arith, length-append}
use native.Mathlib.Nat.{mod-add-mod}
use Rattle.tape.specs.declared.Item.{Item}
use Rattle.tape.specs.declared.Refusal.{Refusal}
use Rattle.tape.specs.Reading.{answer_of, end, Step, step_of, slots_of, goes_on, Contents, contents_from}
use Rattle.tape.proofs.Steps.{steps}
use Rattle.tape_scan.specs.Scan.{stopped_of, scanned_after}

-- as many records as bytes are enough
abbrev pub rest : List ℕ → ℕ → ℕ → Contents
rest tape at before = contents_from (length tape) tape at before

pub goes : (tape : List ℕ) (at before : ℕ) → goes_on (step_of tape at before).answer ≡ true
    → rest tape at before
    ≡ record {
      slots = slots_of (step_of tape at before).answer ++ (rest tape (step_of tape at before).at (step_of tape at before).before).slots;
      last = (rest tape (step_of tape at before).at (step_of tape at before).before).last;
    }
goes tape at before g = steps.unfolds tape at before ∙ rw g

pub stops : (tape : List ℕ) (at before : ℕ) → goes_on (step_of tape at before).answer ≡ false → rest tape at before ≡ record { slots = []; last = (step_of tape at before).answer }
stops tape at before g = steps.unfolds tape at before ∙ rw g

-- within the tape more is read after whatever is not refused
pub goes_within : (tape : List ℕ) (at before : ℕ) (i : Item)
    → at < length tape
    → answer_of i ≡ (step_of tape at before).answer
    → ((why : Refusal) (place : ℕ) → i ≡ Item.Refused why place → ⊥)
    → goes_on (answer_of i) ≡ true
goes_within tape at before Item.End h e n = absurd (let p = (steps.ends tape at before).1 (sym e) in omega arith)
goes_within tape at before (Item.Command k) h e n = refl
goes_within tape at before (Item.Run count) h e n = refl
goes_within tape at before (Item.Refused why place) h e n = absurd (n why place refl)

-- a record that is read takes the reader on
pub onward : (tape : List ℕ) (at before : ℕ) (s : Step) → s ≡ step_of tape at before → goes_on s.answer ≡ true → length tape - s.at < length tape - at
onward tape at before s e g = rw e (let p = steps.progress tape at before (rw e at g) in omega arith)

-- and its slots are counted
pub counted : (tape : List ℕ) (at before count more : ℕ) (s : Step)
    → s ≡ step_of tape at before
    → goes_on s.answer ≡ true
    → more ≡ (count + length (slots_of s.answer)) % 2 ^ 64
    → scanned_after more (rest tape s.at s.before) ≡ scanned_after count (rest tape at before)
counted tape at before count more s e g k =
    let later : Contents = rest tape s.at s.before in
    let here : rest tape at before ≡ record { slots = slots_of s.answer ++ later.slots; last = later.last } = rw e (goes tape at before (rw e at g)) in
    let sum : (more + length later.slots) % 2 ^ 64 ≡ (count + length (slots_of s.answer ++ later.slots)) % 2 ^ 64 =
    ap (λ (n : ℕ). (n + length later.slots) % 2 ^ 64) k
    ∙ mod-add-mod (count + length (slots_of s.answer)) (2 ^ 64) (length later.slots)
    ∙ ap (λ (n : ℕ). n % 2 ^ 64) (omega (arith, length-append (slots_of s.answer) later.slots)) in
    rw (here, sum)

-- an end or a refusal has none
none : (count : ℕ) → count < 2 ^ 64 → (count + 0) % 2 ^ 64 ≡ count
none count h = rw add-zero (mod-eq_of_lt h)

pub over : (tape : List ℕ) (at before count : ℕ) (s : Step)
    → s ≡ step_of tape at before
    → goes_on s.answer ≡ false
    → count < 2 ^ 64
    → stopped_of count s.answer ≡ scanned_after count (rest tape at before)
over tape at before count s e g h =
    let here : rest tape at before ≡ record { slots = []; last = s.answer } = rw e (stops tape at before (rw e at g)) in
    rw (here, none count h)

-- the tape's end
pub whole : (tape : List ℕ) (at before count : ℕ) → length tape ≤ at → count < 2 ^ 64 → stopped_of count end ≡ scanned_after count (rest tape at before)
whole tape at before count l h =
    let e = (steps.ends tape at before).0 l in
    let here : rest tape at before ≡ record { slots = []; last = end } = rw (← e) (stops tape at before (rw e)) in
    rw (here, none count h)
