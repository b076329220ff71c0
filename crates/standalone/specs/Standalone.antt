-- The address map on its own, given a CFG and a ROW word (document 01, "Numbers given back").
use Rattle.std.specs.Prelude.{ℕ, cond, eqb}
use Rattle.config.specs.declared.Geometry.{Geometry}
use Rattle.config.specs.Setting.{map_number_of, geometry_of}
use Rattle.address.specs.Map.{cell_at, cell_of, address_of, holds_of, address_number_of}
use Rattle.address.specs.declared.Cell.{Cell}

-- The standalone map's answers: a number of document 01's table, and what was asked for where it is 0; zeros where it is not.

pub record ToCell : Type 0 where
  pub number : ℕ
  pub cell : Cell

pub record ToAddress : Type 0 where
  pub number : ℕ
  pub address : ℕ

-- refused: bank 0, row 0, column 0; or address 0
abbrev pub no_cell : ℕ → ToCell
no_cell n = record { number = n; cell = cell_at 0 0 0 }

abbrev pub no_address : ℕ → ToAddress
no_address n = record { number = n; address = 0 }

unfoldable pub located_of : Geometry → ℕ → ToCell
located_of g a = cond (eqb (address_number_of g a) 0) (record { number = 0; cell = cell_of g a }) (no_cell (address_number_of g a))

unfoldable pub addressed_of : Geometry → Cell → ToAddress
addressed_of g c = cond (holds_of g c) (record { number = 0; address = address_of g c }) (no_address 10)

-- 1 and 2 for the words first; then 4 and 5
unfoldable pub to_cell_of : ℕ → ℕ → ℕ → ToCell
to_cell_of cfg row a = cond (eqb (map_number_of cfg row) 0) (located_of (geometry_of cfg row) a) (no_cell (map_number_of cfg row))

-- 1 and 2 for the words first; then 10
unfoldable pub to_address_of : ℕ → ℕ → Cell → ToAddress
to_address_of cfg row c = cond (eqb (map_number_of cfg row) 0) (addressed_of (geometry_of cfg row) c) (no_address (map_number_of cfg row))
