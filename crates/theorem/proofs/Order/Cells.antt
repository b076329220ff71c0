-- What a slot does to the SDRAM: a legal READ and WRT go to the cell of the request that they are sent for, since its row is the open one.
use Prim.Native.Nat.{ℕ, suc, ◌+◌, ◌<◌}
use mathlib.Core.Path.{◌≡◌, refl, ap}
use mathlib.Core.Bool.{true, cond, ◌&&◌, and-eq-true_iff}
use mathlib.Core.List.{◌∷◌}
use mathlib.Core.Option.{some}
use native.Mathlib.Decide.{ℕ_discrete}
use borrow.Author.Tests.{eqb-true, eq-eqb, ne_eqb}
use lib.Dec.{eqb}
use Rattle.config.specs.declared.Config.{Config}
use Rattle.config.specs.declared.Geometry.{Geometry}
use Rattle.address.specs.declared.Bank.{Bank}
use Rattle.address.specs.declared.Row.{Row}
use Rattle.address.specs.declared.Column.{Column}
use Rattle.address.specs.declared.Cell.{Cell}
use Rattle.address.specs.Map.{cell_at, cell_of}
use Rattle.address.proofs.Laws.{cells_differ}
use Rattle.command.specs.declared.Command.{Command}
use Rattle.command.specs.declared.Command.TheVariants.{Nop, Act, Read, Wrt, Pre, Deac, Refr, Mrs}
use Rattle.device.specs.History.{Log, fed, open_row}
use Rattle.device.proofs.Tests.{by_test, cond_same}
use Rattle.ages.specs.declared.Past.{Past}
use Rattle.ages.specs.Ages.{row_at}
use Rattle.ages.proofs.Agree.{Agrees}
use Rattle.model.specs.Sdram.{Cells, Sdram, same_cell, stored, open_cell, cells_after, driven_after, takes, sdram_after}
use Rattle.theorem.proofs.Invariant.{Ok, seen}

-- commands that are no WRT change no cell, taken or not
abbrev pub Unwritten : Command → Type 0
Unwritten Nop = Unit {0}
Unwritten (Act b r) = Unit {0}
Unwritten (Read b k) = Unit {0}
Unwritten (Wrt b k h) = ⊥
Unwritten (Pre b) = Unit {0}
Unwritten Deac = Unit {0}
Unwritten Refr = Unit {0}
Unwritten (Mrs w) = Unit {0}

unwritten_after : (d : Sdram) (k : Command) → Unwritten k → cells_after d k ≡ d.cells
unfolding cells_after
unwritten_after d Nop u = refl
unwritten_after d (Act b r) u = refl
unwritten_after d (Read b k) u = refl
unwritten_after d (Wrt b k h) u = absurd u
unwritten_after d (Pre b) u = refl
unwritten_after d Deac u = refl
unwritten_after d Refr u = refl
unwritten_after d (Mrs w) u = refl

pub cells-unwritten : (c : Config) (d : Sdram) (k : Command) → Unwritten k → (sdram_after c d k).cells ≡ d.cells
unfolding sdram_after
cells-unwritten c d k u = rw (unwritten_after d k u) (cond_same (takes c d k) d.cells)

-- a NOP leaves the bus alone, and every slot counts
pub driven-nop : (c : Config) (d : Sdram) → (sdram_after c d Nop).driven ≡ d.driven
unfolding sdram_after driven_after
driven-nop c d = cond_same (takes c d Nop) d.driven

pub now-after : (c : Config) (d : Sdram) (k : Command) → (sdram_after c d k).log.now ≡ suc d.log.now
unfolding sdram_after fed
now-after c d k = refl

-- the cell at the open row
pub open-cell : {p : Past} {l : Log} → Agrees p l → (x : Cell) → x.bank.0 < 4 → {r : Row} → row_at p x.bank.0 ≡ some r → eqb r.0 x.row.0 ≡ true
    → open_cell (open_row l.past x.bank.0) x.bank x.column ≡ some x
open-cell {p} a x four {r} opened row =
    let e : r ≡ x.row = ap {B = Row} (λ (n : ℕ). record { 0 = n }) (eqb-true _ _ row) in
    rw (← a.rows x.bank.0 four, opened, e)

-- a READ that is taken puts what that cell holds on the bus
pub driven-read : (c : Config) (d : Sdram) (b : Bank) (k : Column) (x : Cell) → takes c d (Read b k) ≡ true
    → open_cell (open_row d.log.past b.0) b k ≡ some x
    → (sdram_after c d (Read b k)).driven ≡ record { slot = d.log.now + c.latency; halfword = d.cells x } ∷ d.driven
unfolding sdram_after driven_after
driven-read c d b k x t e = rw (t, e)

-- a WRT that is taken writes it
pub cells_written : (c : Config) (d : Sdram) (b : Bank) (k : Column) (h : ℕ) (x : Cell) → takes c d (Wrt b k h) ≡ true
    → open_cell (open_row d.log.past b.0) b k ≡ some x → (sdram_after c d (Wrt b k h)).cells ≡ stored d.cells x h
unfolding sdram_after cells_after
cells_written c d b k h x t e = rw (t, e)

same-cell : (x y : Cell) → same_cell x y ≡ true → x ≡ y
same-cell x y e =
    let p = (and-eq-true_iff (eqb x.bank.0 y.bank.0) (eqb x.row.0 y.row.0 && eqb x.column.0 y.column.0)).0 e in
    let q = (and-eq-true_iff (eqb x.row.0 y.row.0) (eqb x.column.0 y.column.0)).0 p.1 in
    alike x.bank.0 y.bank.0 x.row.0 y.row.0 x.column.0 y.column.0 (eqb-true _ _ p.0) (eqb-true _ _ q.0) (eqb-true _ _ q.1)
  where
    alike : (a b r s k l : ℕ) → a ≡ b → r ≡ s → k ≡ l → cell_at a r k ≡ cell_at b s l
    alike a b r s k l e f g = cc

cell_same : (x : Cell) → same_cell x x ≡ true
cell_same x = rw (eq-eqb x.bank.0 _ refl, eq-eqb x.row.0 _ refl, eq-eqb x.column.0 _ refl)

-- one cell for each address that counts: a halfword written to an address's cell is written to that address alone
pub seen_stored : (g : Geometry) (m : Cells) (at h a : ℕ) → Ok g at → Ok g a
    → seen g (stored m (cell_of g at) h) a ≡ cond (eqb a at) h (seen g m a)
unfolding stored
seen_stored g m at h a even other = go (ℕ_discrete a at)
  where
    go : Dec (a ≡ at) → cond (same_cell (cell_of g a) (cell_of g at)) h (m (cell_of g a)) ≡ cond (eqb a at) h (m (cell_of g a))
    go (yes e) = rw (eq-eqb a at e, e, cell_same (cell_of g at))
    go (no n) =
        by_test (same_cell (cell_of g a) (cell_of g at))
        (λ s. absurd (n (cells_differ g a at other.0 even.0 other.1 even.1 (same-cell _ _ s))))
        (λ s. rw (s, ne_eqb a at n))
