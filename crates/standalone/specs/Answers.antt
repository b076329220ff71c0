-- The code's answers, in document 01's numbers and values: zeros with a refusal.
use Rattle.std.specs.Prelude.{ℕ, Result, Ok, Err}
use Rattle.refusal.specs.declared.Refusal.{Refusal}
use Rattle.refusal.specs.Refused.{number_of}
use Rattle.address.specs.declared.Cell.{Cell}
use Rattle.address.specs.Map.{cell_at}
use Rattle.standalone.specs.Standalone.{ToCell, ToAddress}

abbrev pub cell_in : Result Cell Refusal → ToCell
cell_in (Ok c) = record { number = 0; cell = c }
cell_in (Err r) = record { number = number_of r; cell = cell_at 0 0 0 }

abbrev pub address_in : Result ℕ Refusal → ToAddress
address_in (Ok a) = record { number = 0; address = a }
address_in (Err r) = record { number = number_of r; address = 0 }
