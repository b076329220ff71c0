-- The plain SDRAM (document 01, "Commands and their distances"): it looks at the commands alone, and at its own history.
use Rattle.std.specs.Prelude.{ℕ, ◌+◌, Bool, cond, ◌&&◌, List, [], ◌∷◌, eqb}
use Rattle.std.proofs.Math.Option.{Option, none, some}
use Rattle.config.specs.declared.Config.{Config}
use Rattle.address.specs.declared.Bank.{Bank}
use Rattle.address.specs.declared.Row.{Row}
use Rattle.address.specs.declared.Column.{Column}
use Rattle.address.specs.declared.Cell.{Cell}
use Rattle.address.specs.Memory.{put}
use Rattle.command.specs.declared.Command.{Command}
use Rattle.command.specs.declared.Command.TheVariants.{Nop, Act, Read, Wrt, Pre, Deac, Refr, Mrs}
use Rattle.device.specs.History.{Log, start_log, allowed, fed, open_row}

-- a halfword for each cell
abbrev pub Cells : Type 0
Cells = Cell → ℕ

abbrev pub same_cell : Cell → Cell → Bool
same_cell x y = eqb x.bank.0 y.bank.0 && (eqb x.row.0 y.row.0 && eqb x.column.0 y.column.0)

unfoldable pub stored : Cells → Cell → ℕ → Cells
stored m x h = put same_cell m x h

-- a halfword that is on the bus in a slot
pub record Driven : Type 0 where
  pub slot : ℕ
  pub halfword : ℕ

pub record Sdram : Type 0 where
  -- the next slot, and the past commands with their slots; the open rows are read off them
  pub log : Log
  pub cells : Cells
  -- what READs have put on the bus, newest first
  pub driven : List Driven

unfoldable pub start_sdram : Cells → Sdram
start_sdram m = record { log = start_log; cells = m; driven = [] }

-- the halfword that it has on the bus in a slot, if it has one
abbrev pub driven_in : ℕ → List Driven → Option ℕ
driven_in s [] = none
driven_in s (d ∷ ds) = cond (eqb d.slot s) (some d.halfword) (driven_in s ds)

-- the cell at a bank's open row and a column
abbrev pub open_cell : Option Row → Bank → Column → Option Cell
open_cell none b k = none
open_cell (some r) b k = some (record { bank = b; row = r; column = k })

-- WRT puts its halfword into that cell
abbrev pub stored_at : Cells → Option Cell → ℕ → Cells
stored_at m none h = m
stored_at m (some x) h = stored m x h

-- READ in slot t takes the halfword that the cell holds then; it is on the bus in slot t + CL
abbrev pub driven_from : Cells → Option Cell → ℕ → List Driven → List Driven
driven_from m none s ds = ds
driven_from m (some x) s ds = record { slot = s; halfword = m x } ∷ ds

-- a legal command's effect on the cells; all other commands change none
unfoldable pub cells_after : Sdram → Command → Cells
cells_after d Nop = d.cells
cells_after d (Act b r) = d.cells
cells_after d (Read b k) = d.cells
cells_after d (Wrt b k h) = stored_at d.cells (open_cell (open_row d.log.past b.0) b k) h
cells_after d (Pre b) = d.cells
cells_after d Deac = d.cells
cells_after d Refr = d.cells
cells_after d (Mrs w) = d.cells

-- and on the bus
unfoldable pub driven_after : Config → Sdram → Command → List Driven
driven_after c d Nop = d.driven
driven_after c d (Act b r) = d.driven
driven_after c d (Read b k) = driven_from d.cells (open_cell (open_row d.log.past b.0) b k) (d.log.now + c.latency) d.driven
driven_after c d (Wrt b k h) = d.driven
driven_after c d (Pre b) = d.driven
driven_after c d Deac = d.driven
driven_after c d Refr = d.driven
driven_after c d (Mrs w) = d.driven

-- it takes a command exactly if that is legal by its own history
unfoldable pub takes : Config → Sdram → Command → Bool
takes c d k = allowed c d.log k

-- fed the slot's command; a rejected one changes nothing and counts as not sent
unfoldable pub sdram_after : Config → Sdram → Command → Sdram
sdram_after c d k =
    record {
      log = fed c d.log k;
      cells = cond (takes c d k) (cells_after d k) d.cells;
      driven = cond (takes c d k) (driven_after c d k) d.driven;
    }
