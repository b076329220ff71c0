-- Address and cell determine each other, over all widths at once: every even address below the capacity has one cell within the geometry,
-- and every cell within the geometry has one such address.
use Prim.Native.Nat.{ℕ, ◌+◌, ◌*◌, ◌/◌, ◌%◌, ◌^◌, ◌<◌, ◌≤◌}
use native.Mathlib.Nat.{mod-lt, mod-eq_of_lt}
use native.Mathlib.Omega.{arith}
use mathlib.Core.Path.{◌≡◌, refl, sym, ap, ◌∙◌}
use mathlib.Core.Bool.{Bool, true, false, cond, ◌&&◌, and-eq-true_iff}
use lib.Pow.{pow_pos, pow_mono, shr_lt, shl-shr, shl_lt, pow-add, split, high, low}
use lib.Arith.{digits_lt}
use lib.Dec.{ltb, leb, eqb}
use borrow.Author.Tests.{ltb-true, leb-false, eqb-false, lt-ltb}
use Rattle.config.specs.Accepted.{Shaped}
use Rattle.config.specs.declared.Geometry.{Geometry}
use Rattle.address.specs.Map.{capacity_of, address_number_of, cell_of, address_of, holds_of, Holds, Determined}
use Rattle.address.specs.declared.Cell.{Cell}

module _ (g : Geometry) where
  -- every address has a cell within the geometry
  pub cell_within : (a : ℕ) → Holds g (cell_of g a)
  unfolding cell_of
  cell_within a =
      record { bank = mod-lt _ (pow_pos g.banks); row = mod-lt _ (pow_pos g.rows); column = mod-lt _ (pow_pos g.columns) }

  -- below the capacity no bit of the row is left out
  row_whole : (a : ℕ) → a < capacity_of g → a / 2 / 2 ^ g.columns / 2 ^ g.banks % 2 ^ g.rows ≡ a / 2 / 2 ^ g.columns / 2 ^ g.banks
  unfolding capacity_of
  row_whole a h =
      mod-eq_of_lt
      (shr_lt g.rows g.banks (shr_lt (g.rows + g.banks) g.columns (shr_lt (g.rows + g.banks + g.columns) 1 h)))

  -- from an even address below the capacity to its cell and back
  pub address_back : (a : ℕ) → a % 2 ≡ 0 → a < capacity_of g → address_of g (cell_of g a) ≡ a
  unfolding cell_of address_of
  address_back a even below =
      simp (row_whole a below, split (a / 2 / 2 ^ g.columns) g.banks, split (a / 2) g.columns) (omega (arith, split a 1))

  -- from a cell within the geometry to its address and back
  pub cell_back : (c : Cell) → Holds g c → cell_of g (address_of g c) ≡ c
  unfolding cell_of address_of
  cell_back c h =
      let page : ℕ = c.row.0 * 2 ^ g.banks + c.bank.0 in
      simp (
        shl-shr (page * 2 ^ g.columns + c.column.0) 1,
        high page g.columns h.column,
        low page g.columns h.column,
        high c.row.0 g.banks h.bank,
        low c.row.0 g.banks h.bank,
        mod-eq_of_lt h.row,
      )

  -- a cell's address is even
  pub address_even : (c : Cell) → address_of g c % 2 ≡ 0
  unfolding address_of
  address_even c = omega arith

  -- the numbers that a cell's address is put together from
  pub page_below : (c : Cell) → Holds g c → c.row.0 * 2 ^ g.banks + c.bank.0 < 2 ^ (g.rows + g.banks)
  page_below c h = rw (pow-add 2 g.rows g.banks) (digits_lt h.row h.bank)

  pub word_below : (c : Cell) → Holds g c
      → (c.row.0 * 2 ^ g.banks + c.bank.0) * 2 ^ g.columns + c.column.0 < 2 ^ (g.rows + g.banks + g.columns)
  word_below c h = rw (pow-add 2 (g.rows + g.banks) g.columns) (digits_lt (page_below c h) h.column)

  -- and below the capacity
  pub address_below : (c : Cell) → Holds g c → address_of g c < capacity_of g
  unfolding address_of capacity_of
  address_below c h = shl_lt (g.rows + g.banks + g.columns) 1 (word_below c h)

  -- no two even addresses below the capacity share a cell
  pub cells_differ : (a b : ℕ) → a % 2 ≡ 0 → b % 2 ≡ 0 → a < capacity_of g → b < capacity_of g → cell_of g a ≡ cell_of g b → a ≡ b
  cells_differ a b ea eb la lb same = sym (address_back a ea la) ∙ ap (address_of g) same ∙ address_back b eb lb

  -- the test and the fact
  pub holds_true : (c : Cell) → holds_of g c ≡ true → Holds g c
  unfolding holds_of
  holds_true c h =
      let banks = ltb c.bank.0 (2 ^ g.banks) in
      let rows = ltb c.row.0 (2 ^ g.rows) in
      let columns = ltb c.column.0 (2 ^ g.columns) in
      let p = (and-eq-true_iff banks (rows && columns)).0 h in
      let q = (and-eq-true_iff rows columns).0 p.1 in
      record { bank = ltb-true _ _ p.0; row = ltb-true _ _ q.0; column = ltb-true _ _ q.1 }

  pub true_holds : (c : Cell) → Holds g c → holds_of g c ≡ true
  unfolding holds_of
  true_holds c h = simp (lt-ltb _ _ h.bank, lt-ltb _ _ h.row, lt-ltb _ _ h.column)

pub determined : (g : Geometry) → Determined g
determined g =
    record { within = cell_within g; even = address_even g; below = address_below g; back = address_back g; forth = cell_back g }

-- What an accepted geometry bounds.

pub capacity_range : (g : Geometry) → Shaped g → (262144 ≤ capacity_of g) × (capacity_of g ≤ 134217728)
unfolding capacity_of
capacity_range g s = (
  pow_mono {i = 18} {j = g.rows + g.banks + g.columns + 1} (omega (arith, s.rows_least, s.columns_least)),
  pow_mono {i = g.rows + g.banks + g.columns + 1} {j = 27} (omega (arith, s.rows_most, s.banks_most, s.columns_most)),
)

pub record Small (c : Cell) : Type 0 where
  pub bank : c.bank.0 < 4
  pub row : c.row.0 < 8192
  pub column : c.column.0 < 2048

pub small : (g : Geometry) → Shaped g → (c : Cell) → Holds g c → Small c
small g s c h =
    omega (
      arith,
      h.bank,
      h.row,
      h.column,
      pow_mono {i = g.banks} {j = 2} s.banks_most,
      pow_mono {i = g.rows} {j = 13} s.rows_most,
      pow_mono {i = g.columns} {j = 11} s.columns_most,
    )

pub page_small : (g : Geometry) → Shaped g → 2 ^ (g.rows + g.banks) ≤ 32768
page_small g s = pow_mono {i = g.rows + g.banks} {j = 15} (omega (arith, s.rows_most, s.banks_most))

pub word_small : (g : Geometry) → Shaped g → 2 ^ (g.rows + g.banks + g.columns) ≤ 67108864
word_small g s = pow_mono {i = g.rows + g.banks + g.columns} {j = 26} (omega (arith, s.rows_most, s.banks_most, s.columns_most))

-- an address that gets no number is even and below the capacity
pub address_good : (g : Geometry) (a : ℕ) → address_number_of g a ≡ 0 → (a % 2 ≡ 0) × (a < capacity_of g)
unfolding address_number_of
address_good g a h = by_tests (eqb (a % 2) 1) (leb (capacity_of g) a) refl refl h
  where
    by_tests : (o b : Bool) → eqb (a % 2) 1 ≡ o → leb (capacity_of g) a ≡ b → ◌≡◌ {A = ℕ} (cond o 4 (cond b 5 0)) 0 → (a % 2 ≡ 0) × (a < capacity_of g)
    by_tests true b e f n = absurd (eqb-false 4 0 refl n)
    by_tests false true e f n = absurd (eqb-false 5 0 refl n)
    by_tests false false e f n = let odd = eqb-false (a % 2) 1 e in (omega arith, leb-false (capacity_of g) a f)
