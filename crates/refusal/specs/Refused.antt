-- The number of each refusal (document 01, "Numbers given back").
use Rattle.std.specs.Prelude.{ℕ, ◌≡◌, ◌≤◌, Result, Ok, Err, ⊤}
use Rattle.refusal.specs.declared.Refusal.{Refusal}
use Rattle.refusal.specs.declared.Refusal.TheVariants.{ReservedBit, NotOffered, IntervalTooShort, OddAddress, BeyondDevice, QueueFull, NumbersUsedUp, Blank, Unsound, OutsideGeometry}

abbrev pub number_of : Refusal → ℕ
number_of ReservedBit = 1
number_of NotOffered = 2
number_of IntervalTooShort = 3
number_of OddAddress = 4
number_of BeyondDevice = 5
number_of QueueFull = 6
number_of NumbersUsedUp = 7
number_of Blank = 8
number_of Unsound = 9
number_of OutsideGeometry = 10

-- An answer is what was asked for, or a refusal.

-- its number: 0 where nothing is refused
abbrev pub number_in : {A : Type 0} → Result A Refusal → ℕ
number_in (Ok _) = 0
number_in (Err r) = number_of r

-- its value: 0 where it is refused
abbrev pub value_in : Result ℕ Refusal → ℕ
value_in (Ok n) = n
value_in (Err _) = 0

-- No two refusals have one number, none has that of an acceptance, and an answer's number and value leave nothing of it out.
pub record Numbered : Type 0 where
  pub one_each : (r s : Refusal) → number_of r ≡ number_of s → r ≡ s
  pub least : (r : Refusal) → 1 ≤ number_of r
  pub most : (r : Refusal) → number_of r ≤ 10
  pub tested : (a b : Result ⊤ Refusal) → number_in a ≡ number_in b → a ≡ b
  pub valued : (a b : Result ℕ Refusal) → number_in a ≡ number_in b → value_in a ≡ value_in b → a ≡ b
