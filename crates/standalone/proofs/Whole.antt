-- What the contracts speak of is the whole answer: no two answers have one number and cell, or one number and address.
use native.Mathlib.Omega.{arith}
use Rattle.std.proofs.Common.{ℕ, ◌≡◌, sym, ap, ◌≤◌}
use Rattle.std.specs.Prelude.{Result, Ok, Err}
use Rattle.refusal.specs.declared.Refusal.{Refusal}
use Rattle.refusal.specs.Refused.{number_of}
use Rattle.refusal.proofs.Laws.{one_each, least}
use Rattle.address.specs.declared.Cell.{Cell}
use Rattle.standalone.specs.Standalone.{ToCell, ToAddress}
use Rattle.standalone.specs.Answers.{cell_in, address_in}

apart : (r : Refusal) → 0 ≡ number_of r → ⊥
apart r e = omega (arith, least r, e)

pub cell_whole : (a b : Result Cell Refusal) → cell_in a ≡ cell_in b → a ≡ b
cell_whole (Ok c) (Ok d) e = ap Ok (ap (λ (x : ToCell). x.cell) e)
cell_whole (Ok c) (Err r) e = absurd (apart r (ap (λ (x : ToCell). x.number) e))
cell_whole (Err r) (Ok c) e = absurd (apart r (sym (ap (λ (x : ToCell). x.number) e)))
cell_whole (Err r) (Err s) e = ap Err (one_each r s (ap (λ (x : ToCell). x.number) e))

pub address_whole : (a b : Result ℕ Refusal) → address_in a ≡ address_in b → a ≡ b
address_whole (Ok c) (Ok d) e = ap Ok (ap (λ (x : ToAddress). x.address) e)
address_whole (Ok c) (Err r) e = absurd (apart r (ap (λ (x : ToAddress). x.number) e))
address_whole (Err r) (Ok c) e = absurd (apart r (sym (ap (λ (x : ToAddress). x.number) e)))
address_whole (Err r) (Err s) e = ap Err (one_each r s (ap (λ (x : ToAddress). x.number) e))
