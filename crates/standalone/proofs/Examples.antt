-- Document 01's E12 both ways, a geometry whose widths all differ, and what lies outside it, computed.
use Prim.Native.Nat.{ℕ}
use mathlib.Core.Path.{◌≡◌, refl}
use mathlib.Core.List.{List, [], ◌∷◌, map}
use Rattle.words.specs.Words.{reserved_map}
use Rattle.config.specs.Setting.{offered_of, geometry_of, map_number_of}
use Rattle.address.specs.declared.Cell.{Cell}
use Rattle.address.specs.Map.{cell_at, capacity_of, cell_of, address_of, holds_of, address_number_of}
use Rattle.standalone.specs.Standalone.{no_cell, no_address, located_of, addressed_of, to_cell_of, to_address_of}

-- an address and its cell, under a CFG and a ROW word
record Place : Type 0 where
  cfg : ℕ
  row : ℕ
  address : ℕ
  cell : Cell

abbrev place : ℕ → ℕ → ℕ → Cell → Place
place cfg row a c = record { cfg = cfg; row = row; address = a; cell = c }

-- E12's; then 10 column bits, 1 bank bit and 13 row bits
abbrev places : List Place
places =
    place 0x4420 4 0x200 (cell_at 1 0 0)
    ∷ place 0x4420 4 0x7fe (cell_at 3 0 255)
    ∷ place 0x4420 4 0x800 (cell_at 0 1 0)
    ∷ place 0x4420 4 0xfffffe (cell_at 3 8191 255)
    ∷ place 0x4612 4 0x7fe (cell_at 0 0 1023)
    ∷ place 0x4612 4 0x800 (cell_at 1 0 0)
    ∷ place 0x4612 4 0x1000 (cell_at 0 1 0)
    ∷ place 0x4612 4 0x1fffffe (cell_at 1 8191 1023)
    ∷ []

-- `refused`: 4 before 5; 1 and 2 before both. `outside`: the bank, the row, the column.
record Examples : Type 0 where
  cells : map (λ p. to_cell_of p.cfg p.row p.address) places ≡ map (λ p. record { number = 0; cell = p.cell }) places
  addresses : map (λ p. to_address_of p.cfg p.row p.cell) places ≡ map (λ p. record { number = 0; address = p.address }) places
  refused :
      to_cell_of 0x4420 4 0x1000000 ∷ to_cell_of 0x4420 4 0x1000001 ∷ to_cell_of 0x4428 4 0x1000001 ∷ to_cell_of 0x0420 4 0x1000001 ∷ []
      ≡ map no_cell (5 ∷ 4 ∷ 1 ∷ 2 ∷ [])
  outside : map (to_address_of 0x4612 4) (cell_at 2 0 0 ∷ cell_at 0 8192 0 ∷ cell_at 0 0 1024 ∷ []) ≡ map no_address (10 ∷ 10 ∷ 10 ∷ [])

examples : Examples
unfolding reserved_map offered_of geometry_of map_number_of capacity_of cell_of address_of holds_of address_number_of located_of addressed_of to_cell_of to_address_of
examples = record { cells = refl; addresses = refl; refused = refl; outside = refl }
