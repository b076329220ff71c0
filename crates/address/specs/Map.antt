-- Byte address and cell (document 01, "Address and cell").
use Rattle.std.specs.Prelude.{ℕ, ◌+◌, ◌*◌, ◌/◌, ◌%◌, ◌^◌, ◌<◌, Bool, cond, ◌&&◌, ◌≡◌, eqb, leb, ltb}
use Rattle.config.specs.declared.Geometry.{Geometry}
use Rattle.address.specs.declared.Cell.{Cell}

abbrev pub cell_at : ℕ → ℕ → ℕ → Cell
cell_at b r c = record { bank = record { 0 = b }; row = record { 0 = r }; column = record { 0 = c } }

-- the bytes that the device holds
unfoldable pub capacity_of : Geometry → ℕ
capacity_of g = 2 ^ (g.rows + g.banks + g.columns + 1)

-- an address from the low end: one zero bit, the column bits, the bank bits, the row bits; higher bits, which no address below the capacity has, are
-- left out
unfoldable pub cell_of : Geometry → ℕ → Cell
cell_of g a =
    let word : ℕ = a / 2 in
    let page : ℕ = word / 2 ^ g.columns in
    cell_at (page % 2 ^ g.banks) (page / 2 ^ g.banks % 2 ^ g.rows) (word % 2 ^ g.columns)

unfoldable pub address_of : Geometry → Cell → ℕ
address_of g c = ((c.row.0 * 2 ^ g.banks + c.bank.0) * 2 ^ g.columns + c.column.0) * 2

-- the cell lies in the geometry
unfoldable pub holds_of : Geometry → Cell → Bool
holds_of g c = ltb c.bank.0 (2 ^ g.banks) && (ltb c.row.0 (2 ^ g.rows) && ltb c.column.0 (2 ^ g.columns))

pub record Holds (g : Geometry) (c : Cell) : Type 0 where
  pub bank : c.bank.0 < 2 ^ g.banks
  pub row : c.row.0 < 2 ^ g.rows
  pub column : c.column.0 < 2 ^ g.columns

-- Address and cell determine each other: every even address below the capacity has one cell within the geometry, and every such cell one
-- such address. No address at all has a cell outside.
pub record Determined (g : Geometry) : Type 0 where
  pub within : (a : ℕ) → Holds g (cell_of g a)
  pub even : (c : Cell) → address_of g c % 2 ≡ 0
  pub below : (c : Cell) → Holds g c → address_of g c < capacity_of g
  pub back : (a : ℕ) → a % 2 ≡ 0 → a < capacity_of g → address_of g (cell_of g a) ≡ a
  pub forth : (c : Cell) → Holds g c → cell_of g (address_of g c) ≡ c

-- the number for an address: 4 where it is odd, then 5 where it is at or beyond the capacity, else 0
unfoldable pub address_number_of : Geometry → ℕ → ℕ
address_number_of g a = cond (eqb (a % 2) 1) 4 (cond (leb (capacity_of g) a) 5 0)

-- a block is 2,048 bytes
abbrev pub block_of : ℕ → ℕ
block_of a = a / 2048
