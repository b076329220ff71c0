-- The plain SDRAM rejects a command that is not legal and keeps everything, computed on E4's device with cells that all hold 5: a command of each
-- kind in the slot after an ACT, then a READ and a WRT as soon as they are legal. And R16, on a device on which tRC is above M + tRP.
use Prim.Native.Nat.{ℕ, suc}
use mathlib.Core.Path.{◌≡◌, refl}
use mathlib.Core.Bool.{true, false}
use mathlib.Core.List.{List, [], ◌∷◌, ◌++◌, map}
use lib.ListN.{replicate}
use Rattle.config.specs.declared.Config.{Config}
use Rattle.config.specs.Setting.{geometry_of, config_of}
use Rattle.address.specs.Map.{cell_at}
use Rattle.command.specs.declared.Command.{Command}
use Rattle.command.specs.declared.Command.TheVariants.{Nop, Act, Read, Wrt, Pre, Deac, Refr, Mrs}
use Rattle.device.specs.View.{marks_of, row_of}
use Rattle.device.specs.Rules.{R7, R12-open, R13-open, R14, R16, requirements, legal_of}
use Rattle.device.specs.History.{last, open_row, start_log, fed}
use Rattle.model.specs.Sdram.{Sdram, stored, start_sdram, cells_after, driven_after, takes, sdram_after}

-- CL 3, tRCD 3, tRAS 6
config : Config
config = config_of 0x4620 4 136 0x42215810

sdram : Config → Sdram → List Command → Sdram
sdram c d [] = d
sdram c d (k ∷ ks) = sdram c (sdram_after c d k) ks

-- row 2 of bank 1 was opened in slot 3
opened : Sdram
opened = sdram config (start_sdram (λ x. 5)) (Mrs 48 ∷ Nop ∷ Act (record { 0 = 1 }) (record { 0 = 2 }) ∷ [])

-- column 4 of it
fetch : Command
fetch = Read (record { 0 = 1 }) (record { 0 = 4 })

store : Command
store = Wrt (record { 0 = 1 }) (record { 0 = 4 }) 9

illegal : List Command
illegal = Act (record { 0 = 1 }) (record { 0 = 2 }) ∷ fetch ∷ store ∷ Pre (record { 0 = 1 }) ∷ Deac ∷ Refr ∷ Mrs 48 ∷ []

-- the next slot, and all else as it was
kept : Sdram → Sdram
kept d = record { log = record { now = suc d.log.now; past = d.log.past }; cells = d.cells; driven = d.driven }

-- in slot 6, after those that were rejected
ready : Sdram
ready = sdram config opened (fetch ∷ store ∷ [])

-- tRP 2, tRAS 5, tRC 12
cycling : Config
cycling = config_of 0x4420 4 147 0x31324b50

-- bank 1 was opened in slot 3 and closed in slot 8; so many slots after slot 10, in which tRP is kept
closed : ℕ → Sdram
closed n = sdram cycling (start_sdram (λ x. 5)) (Mrs 32 ∷ Nop ∷ Act (record { 0 = 1 }) (record { 0 = 2 }) ∷ replicate 4 Nop ++ Pre (record { 0 = 1 }) ∷ Nop ∷ replicate n Nop)

record Rejects : Type 0 where
  rejected : map (takes config opened) illegal ≡ replicate 7 false
  keeps : map (sdram_after config opened) illegal ≡ replicate 7 (kept opened)
  untouched : ready.cells (cell_at 1 2 4) ≡ 5
  taken : map (takes config ready) (fetch ∷ store ∷ []) ≡ true ∷ true ∷ []
  -- a READ in slot 6 is on the bus in slot 9; a WRT changes its own cell alone
  driven : (sdram_after config ready fetch).driven ≡ record { slot = 9; halfword = 5 } ∷ []
  written :
      map (sdram_after config ready store).cells (cell_at 1 2 4 ∷ cell_at 1 2 0 ∷ cell_at 1 2 5 ∷ cell_at 1 0 4 ∷ cell_at 0 2 4 ∷ [])
      ≡ 9 ∷ 5 ∷ 5 ∷ 5 ∷ 5 ∷ []
  -- R16: no REFR before slot 15, tRC after the ACT; an MRS does not wait for it
  cycled :
      takes cycling (closed 0) Refr ∷ takes cycling (closed 4) Refr ∷ takes cycling (closed 5) Refr ∷ takes cycling (closed 0) (Mrs 32) ∷ []
      ≡ false ∷ false ∷ true ∷ true ∷ []

rejects : Rejects
unfolding config cycling closed sdram opened fetch store illegal kept ready config_of geometry_of marks_of row_of R7 R12-open R13-open R14 R16 requirements legal_of last open_row start_log fed stored start_sdram cells_after driven_after takes sdram_after
rejects = record { rejected = refl; keeps = refl; untouched = refl; taken = refl; driven = refl; written = refl; cycled = refl }
