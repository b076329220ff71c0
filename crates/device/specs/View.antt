-- What the rules see of the past commands, as the present slot sees them (document 01, "Commands and their distances").
use Rattle.std.specs.Prelude.{ℕ, ◌+◌, Bool, true, false, ◌&&◌, not, eqb}
use Rattle.std.proofs.Math.Option.{Option, none, some}
use Rattle.address.specs.declared.Row.{Row}
use Rattle.config.specs.declared.Config.{Config}
use Rattle.command.specs.declared.Command.{Command}
use Rattle.command.specs.declared.Command.TheVariants.{Nop, Act, Read, Wrt, Pre, Deac, Refr, Mrs}

-- The distances by name, by the first rule that has them. One of a bank has the bank's number.
pub data Distance : Type 0 where
  -- R2: tRFC after REFR, and 2 slots after MRS
  refresh_cycle mode_register : Distance
  -- R5: tRP after the bank's PRE or any DEAC
  row_precharge : ℕ → Distance
  -- R6 and R16: tRC; R7: tRRD, for the other banks; R9: tRCD; R12: tRAS, each after the bank's ACT
  row_cycle row_to_row row_to_column row_active : ℕ → Distance
  -- R10: CL + 2 after any READ
  read_to_write : Distance
  -- R13: tWR after a WRT to the bank
  write_recovery : ℕ → Distance
  -- R15: tRP after any PRE or DEAC
  any_precharge : Distance

-- its length in slots
abbrev pub slots_of : Config → Distance → ℕ
slots_of c refresh_cycle = c.rfc
slots_of c mode_register = 2
slots_of c read_to_write = c.latency + 2
slots_of c any_precharge = c.rp
slots_of c (row_precharge b) = c.rp
slots_of c (row_cycle b) = c.rc
slots_of c (row_to_row b) = c.rrd
slots_of c (row_to_column b) = c.rcd
slots_of c (row_active b) = c.ras
slots_of c (write_recovery b) = c.wr

-- what a command is, as bank b sees it
pub record Marks : Type 0 where
  pub refr : Bool
  pub mrs : Bool
  pub read : Bool
  -- any PRE or DEAC
  pub close : Bool
  -- an ACT of the bank
  pub act : Bool
  -- its PRE, or any DEAC
  pub pre : Bool
  -- a WRT to it
  pub wrt : Bool

unfoldable pub marks_of : Command → ℕ → Marks
marks_of Nop b = record { refr = false; mrs = false; read = false; close = false; act = false; pre = false; wrt = false }
marks_of (Act n r) b = record { refr = false; mrs = false; read = false; close = false; act = eqb n.0 b; pre = false; wrt = false }
marks_of (Read n k) b = record { refr = false; mrs = false; read = true; close = false; act = false; pre = false; wrt = false }
marks_of (Wrt n k h) b = record { refr = false; mrs = false; read = false; close = false; act = false; pre = false; wrt = eqb n.0 b }
marks_of (Pre n) b = record { refr = false; mrs = false; read = false; close = true; act = false; pre = eqb n.0 b; wrt = false }
marks_of Deac b = record { refr = false; mrs = false; read = false; close = true; act = false; pre = true; wrt = false }
marks_of Refr b = record { refr = true; mrs = false; read = false; close = false; act = false; pre = false; wrt = false }
marks_of (Mrs w) b = record { refr = false; mrs = true; read = false; close = false; act = false; pre = false; wrt = false }

-- does the command start the distance?
abbrev pub starts : Distance → Command → Bool
starts refresh_cycle k = (marks_of k 0).refr
starts mode_register k = (marks_of k 0).mrs
starts read_to_write k = (marks_of k 0).read
starts any_precharge k = (marks_of k 0).close
starts (row_precharge b) k = (marks_of k b).pre
starts (row_cycle b) k = (marks_of k b).act
starts (row_to_row b) k = (marks_of k b).act
starts (row_to_column b) k = (marks_of k b).act
starts (row_active b) k = (marks_of k b).act
starts (write_recovery b) k = (marks_of k b).wrt

-- the row that a command opens in its bank; row 0 where it opens none
unfoldable pub row_of : Command → Row
row_of Nop = record { 0 = 0 }
row_of (Act b r) = r
row_of (Read b k) = record { 0 = 0 }
row_of (Wrt b k h) = record { 0 = 0 }
row_of (Pre b) = record { 0 = 0 }
row_of Deac = record { 0 = 0 }
row_of Refr = record { 0 = 0 }
row_of (Mrs w) = record { 0 = 0 }

-- All that the rules, the plan of a slot and the choice ask of the past.
pub record View : Type 0 where
  -- has an MRS been sent?
  pub programmed : Bool
  -- the row of a bank that is open, if one is
  pub row : ℕ → Option Row
  -- does the present slot keep the distance from the last command that starts it? From one not yet sent it does.
  pub kept : Distance → Bool

abbrev pub is_some : {A : Type 0} → Option A → Bool
is_some none = false
is_some (some a) = true

-- is the bank open?
abbrev pub opened : View → ℕ → Bool
opened v b = is_some (v.row b)

-- by the banks' open rows: are all banks that a device can have closed?
unfoldable pub all_closed : (ℕ → Option Row) → Bool
all_closed row = not (is_some (row 0)) && (not (is_some (row 1)) && (not (is_some (row 2)) && not (is_some (row 3))))
