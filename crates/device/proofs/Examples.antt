-- Worked examples of R1 to R16 by computation: each rule broken alone, the bank that it is about, and each distance just kept. `ages` holds its
-- own reading against the same table.
use Prim.Native.Nat.{ℕ, suc, ◌-◌}
use mathlib.Core.Path.{◌≡◌, refl}
use mathlib.Core.Bool.{cond}
use mathlib.Core.List.{List, [], ◌∷◌, ◌++◌, map}
use mathlib.Core.Option.{Option, none, some}
use lib.ListN.{replicate, take}
use Rattle.address.specs.declared.Row.{Row}
use Rattle.config.specs.declared.Config.{Config}
use Rattle.command.specs.declared.Command.{Command}
use Rattle.command.specs.declared.Command.TheVariants.{Nop, Act, Read, Wrt, Pre, Deac, Refr, Mrs}
use Rattle.device.specs.View.{refresh_cycle, marks_of, row_of}
use Rattle.device.specs.Rules.{Requirement, R7, R12-open, R13-open, R14, R16, requirements, legal_of}
use Rattle.device.specs.History.{Log, start_log, by_history, fed, last, open_row}

-- the first rule that a command breaks, and the bank that it is about; 0 and 0 for a legal one
pub record Broken : Type 0 where
  pub rule : ℕ
  pub bank : ℕ

abbrev pub broken : List Requirement → Broken
broken [] = record { rule = 0; bank = 0 }
broken (x ∷ xs) = cond x.holds (broken xs) (record { rule = x.rule; bank = x.bank })

-- a command tried in a slot, and what it breaks there
pub record Try : Type 0 where
  pub slot : ℕ
  pub command : Command
  pub wanted : Broken

abbrev pub breaks : ℕ → Command → ℕ → ℕ → Try
breaks s k rule bank = record { slot = s; command = k; wanted = record { rule = rule; bank = bank } }

abbrev pub legal : ℕ → Command → Try
legal s k = breaks s k 0 0

abbrev pub act : ℕ → ℕ → Command
act b r = Act (record { 0 = b }) (record { 0 = r })

abbrev pub rd : ℕ → ℕ → Command
rd b k = Read (record { 0 = b }) (record { 0 = k })

abbrev pub wrt : ℕ → ℕ → Command
wrt b k = Wrt (record { 0 = b }) (record { 0 = k }) 7

abbrev pub pre : ℕ → Command
pre b = Pre (record { 0 = b })

-- every slot's command from slot `now` on: NOP where nothing is tried
unfoldable pub commands : ℕ → List Try → List Command
commands now [] = []
commands now (t ∷ ts) = replicate (t.slot - now) Nop ++ t.command ∷ commands (suc t.slot) ts

unfoldable pub wanted : ℕ → List Try → List Broken
wanted now [] = []
wanted now (t ∷ ts) = replicate (t.slot - now) (record { rule = 0; bank = 0 }) ++ t.wanted ∷ wanted (suc t.slot) ts

-- CL 3, tRP 3, tRCD 3, tWR 4, tRAS 6, tRC 12 and tRRD 2, with the bank bits and tRFC that are given: E4's but for tWR and tRC,
-- without which neither R6 nor a DEAC's forgotten tWR can be broken alone
unfoldable pub device : ℕ → ℕ → Config
device banks rfc =
    record {
      geometry = record { columns = 8; banks = banks; rows = 13 };
      latency = 3;
      rfc = rfc;
      rp = 3;
      rcd = 3;
      wr = 4;
      ras = 6;
      rc = 12;
      rrd = 2;
      rr = 0;
      access = 0;
      refresh = 0;
    }

unfoldable pub tries : List Try
tries =
    breaks 1 (act 0 5) 3 0
    ∷ breaks 2 (rd 0 0) 8 0
    ∷ breaks 3 (pre 0) 11 0
    ∷ breaks 4 (Mrs 47) 1 0
    ∷ legal 5 Deac  -- no bank is open
    ∷ breaks 6 (Mrs 48) 15 0
    ∷ breaks 7 Refr 15 0
    ∷ legal 8 Refr  -- R15 kept, after a DEAC
    ∷ breaks 16 (Mrs 48) 2 0  -- after REFR
    ∷ legal 17 (Mrs 48)  -- R2 kept
    ∷ breaks 18 (act 0 5) 2 0  -- after MRS
    ∷ breaks 19 (act 4 0) 1 0
    ∷ breaks 20 (act 0 8192) 1 0
    ∷ legal 21 (act 0 8191)  -- R2 kept, R1 kept
    ∷ breaks 22 (act 1 7) 7 1
    ∷ legal 23 (act 1 7)  -- R7 kept
    ∷ breaks 24 (rd 0 256) 1 0
    ∷ breaks 25 (rd 1 0) 9 1
    ∷ legal 26 (rd 1 255)  -- R9 kept, R1 kept
    ∷ breaks 28 Refr 14 0
    ∷ breaks 29 (Mrs 48) 14 0
    ∷ breaks 30 (wrt 0 0) 10 0  -- after a READ of another bank
    ∷ legal 31 (wrt 0 0)  -- R10 kept
    ∷ legal 32 (rd 1 0)
    ∷ breaks 33 Deac 13 0  -- where the written bank is not the last one used
    ∷ breaks 34 (pre 0) 13 0
    ∷ legal 35 (pre 0)  -- R13 kept
    ∷ breaks 36 (act 1 7) 4 1
    ∷ breaks 37 (act 0 6) 5 0  -- after its PRE
    ∷ legal 38 (act 0 6)  -- R5 kept
    ∷ breaks 39 (act 3 1) 7 3
    ∷ legal 40 (act 2 9)
    ∷ breaks 41 (act 3 1) 7 3
    ∷ breaks 42 (wrt 3 0) 8 3
    ∷ breaks 43 (pre 0) 12 0
    ∷ legal 44 (pre 0)  -- R12 kept
    ∷ breaks 45 Deac 12 2
    ∷ legal 46 Deac  -- R12 kept
    ∷ breaks 47 Refr 15 0
    ∷ breaks 48 (act 3 1) 5 3  -- after a DEAC while it was closed
    ∷ breaks 49 (act 0 6) 6 0
    ∷ legal 50 (act 0 6)  -- R6 kept
    ∷ legal 52 (act 3 1)
    ∷ breaks 53 (act 1 7) 7 1  -- after bank 3
    ∷ breaks 54 (wrt 3 0) 9 3
    ∷ legal 55 (wrt 3 0)
    ∷ legal 56 (pre 0)
    ∷ breaks 57 (wrt 3 256) 1 0
    ∷ breaks 58 Deac 13 3  -- in bank 3
    ∷ breaks 59 (Mrs 48) 14 3  -- by bank 3
    ∷ legal 60 (pre 3)
    ∷ breaks 62 (Mrs 48) 15 0
    ∷ legal 63 (Mrs 48)  -- R15 kept, after a PRE
    ∷ breaks 64 Deac 2 0  -- after MRS
    ∷ legal 65 Deac  -- R2 kept
    ∷ legal 68 (act 0 1)  -- R5 kept, after a DEAC
    ∷ legal 70 (act 1 1)
    ∷ legal 74 (pre 0)  -- R12 by bank
    ∷ legal 75 (act 2 1)  -- R5 by bank
    ∷ legal 76 (rd 1 0)  -- R9 by bank
    ∷ legal 81 (wrt 1 0)
    ∷ legal 82 (pre 2)  -- R13 by bank
    ∷ []

-- no two distances are equal; CL + 2 is 4
abbrev pub unlike : Config
unlike =
    record {
      geometry = record { columns = 8; banks = 2; rows = 13 };
      latency = 2;
      rfc = 11;
      rp = 5;
      rcd = 3;
      wr = 6;
      ras = 9;
      rc = 15;
      rrd = 7;
      rr = 0;
      access = 0;
      refresh = 0;
    }

-- each distance broken by one slot, and just kept
abbrev pub distances : List Try
distances =
    legal 1 (Mrs 32)
    ∷ breaks 2 (act 0 0) 2 0
    ∷ legal 3 (act 0 0)
    ∷ breaks 5 (rd 0 0) 9 0
    ∷ legal 6 (rd 0 0)
    ∷ breaks 9 (act 1 0) 7 1
    ∷ legal 10 (act 1 0)
    ∷ legal 12 (rd 0 1)
    ∷ breaks 15 (wrt 0 0) 10 0
    ∷ legal 16 (wrt 0 0)
    ∷ legal 17 (wrt 0 1)  -- R10 is not about a WRT
    ∷ breaks 22 (pre 0) 13 0
    ∷ legal 23 (pre 0)
    ∷ breaks 27 (act 0 1) 5 0
    ∷ legal 28 (act 0 1)
    ∷ breaks 36 (pre 0) 12 0
    ∷ legal 37 (pre 0)
    ∷ breaks 42 (act 0 2) 6 0
    ∷ legal 43 (act 0 2)
    ∷ breaks 51 Deac 12 0
    ∷ legal 52 Deac
    ∷ breaks 56 Refr 15 0
    ∷ breaks 57 Refr 16 0
    ∷ legal 58 Refr
    ∷ breaks 68 Refr 2 0
    ∷ legal 69 Refr
    ∷ []

-- after a REFR with the longest distance: R1 for each command with a bank, and R2 for every command
abbrev pub refreshing : List Try
refreshing =
    legal 1 Refr
    ∷ breaks 2 (act 0 0) 2 0
    ∷ breaks 3 (rd 0 0) 2 0
    ∷ breaks 4 (wrt 0 0) 2 0
    ∷ breaks 5 (pre 0) 2 0
    ∷ breaks 6 Refr 2 0
    ∷ breaks 7 (Mrs 48) 2 0
    ∷ breaks 8 (act 4 0) 1 0
    ∷ breaks 9 (rd 4 0) 1 0
    ∷ breaks 10 (wrt 4 0) 1 0
    ∷ breaks 11 (pre 4) 1 0
    ∷ breaks 32 Deac 2 0
    ∷ legal 33 Deac
    ∷ []

-- CL 3, tWR 8, and all other distances 1
abbrev pub recovering : Config
recovering =
    record {
      geometry = record { columns = 8; banks = 2; rows = 13 };
      latency = 3;
      rfc = 1;
      rp = 1;
      rcd = 1;
      wr = 8;
      ras = 1;
      rc = 1;
      rrd = 1;
      rr = 0;
      access = 0;
      refresh = 0;
    }

-- what starts no distance: a WRT soon after MRS, ACT, PRE, DEAC and REFR, none of which is a READ; a PRE soon after MRS, ACT, READ, its own PRE,
-- DEAC and REFR, none of which is a WRT to its bank; an ACT right after a READ
abbrev pub unstarted : List Try
unstarted =
    legal 1 (Mrs 48)
    ∷ legal 3 (act 0 0)
    ∷ legal 4 (wrt 0 0)
    ∷ legal 5 (act 1 0)
    ∷ legal 6 (pre 1)
    ∷ legal 7 (wrt 0 1)
    ∷ legal 8 (act 1 0)
    ∷ legal 9 (rd 1 0)
    ∷ legal 10 (pre 1)
    ∷ breaks 14 Deac 13 0
    ∷ legal 15 Deac
    ∷ legal 16 (act 0 1)
    ∷ legal 17 (wrt 0 0)
    ∷ legal 18 (act 1 1)
    ∷ legal 19 (pre 1)
    ∷ legal 25 (pre 0)
    ∷ legal 26 Refr
    ∷ legal 27 (act 0 2)
    ∷ legal 28 (wrt 0 0)
    ∷ legal 29 (act 1 2)
    ∷ legal 30 (pre 1)
    ∷ legal 31 (rd 0 0)
    ∷ legal 32 (act 1 3)
    ∷ []

-- CL 3, tRP 2, tRAS 3, tRC 9, and all other distances 1
abbrev pub cycling : Config
cycling =
    record {
      geometry = record { columns = 8; banks = 2; rows = 13 };
      latency = 3;
      rfc = 1;
      rp = 2;
      rcd = 1;
      wr = 1;
      ras = 3;
      rc = 9;
      rrd = 1;
      rr = 0;
      access = 0;
      refresh = 0;
    }

-- R16 behind the rules of smaller numbers and bank by bank, with all banks closed by a DEAC; after a PRE; not for an MRS; from the last ACT of a bank
abbrev pub cycles : List Try
cycles =
    legal 1 (Mrs 48)
    ∷ legal 3 (act 0 0)
    ∷ legal 4 (act 1 0)
    ∷ legal 5 (act 2 0)
    ∷ legal 6 (act 3 0)
    ∷ legal 9 Deac
    ∷ breaks 10 Refr 15 0
    ∷ breaks 11 Refr 16 0
    ∷ breaks 12 Refr 16 1
    ∷ breaks 13 Refr 16 2
    ∷ breaks 14 Refr 16 3
    ∷ legal 15 Refr  -- R16 kept
    ∷ legal 16 (act 2 5)
    ∷ breaks 18 Refr 14 2
    ∷ legal 19 (pre 2)
    ∷ breaks 20 (Mrs 48) 15 0
    ∷ breaks 21 Refr 16 2
    ∷ legal 22 (Mrs 48)  -- R16 is not about an MRS
    ∷ breaks 23 Refr 2 0  -- R2 before R16
    ∷ breaks 24 Refr 16 2
    ∷ legal 25 Refr  -- R16 kept, after a PRE
    ∷ legal 26 (act 1 1)
    ∷ legal 27 (act 3 1)
    ∷ legal 29 (pre 1)
    ∷ breaks 30 Refr 14 3  -- R14 before R15 and R16
    ∷ legal 31 (pre 3)
    ∷ legal 35 (act 1 2)
    ∷ legal 38 (pre 1)
    ∷ breaks 43 Refr 16 1  -- after its second ACT
    ∷ legal 44 Refr
    ∷ []

-- a device and what is tried on it
pub record Run : Type 0 where
  pub config : Config
  pub tries : List Try

abbrev run : Config → List Try → Run
run c ts = record { config = c; tries = ts }

-- the sixth and seventh are about a tRFC below tRP, and the last has one bank
unfoldable pub runs : List Run
runs =
    run (device 2 9) tries
    ∷ run unlike distances
    ∷ run (device 2 32) refreshing
    ∷ run recovering unstarted
    ∷ run cycling cycles
    ∷ run (device 2 1) (legal 1 Refr ∷ legal 2 Refr ∷ legal 3 (Mrs 48) ∷ [])
    ∷ run (device 2 1) (legal 1 (Mrs 48) ∷ legal 3 Refr ∷ legal 4 (act 0 0) ∷ [])
    ∷ run (device 0 9) (legal 1 (Mrs 48) ∷ breaks 3 (act 1 0) 1 0 ∷ legal 4 (act 0 0) ∷ [])
    ∷ []

unfoldable pub wanted_of : Run → List Broken
wanted_of r = wanted 1 r.tries

broken_by : Config → Log → List Command → List Broken
broken_by c l [] = []
broken_by c l (k ∷ ks) = broken (requirements c (by_history c l) k) ∷ broken_by c (fed c l k) ks

broken_by_history : map (λ (r : Run). broken_by r.config start_log (commands 1 r.tries)) runs ≡ map wanted_of runs
unfolding runs tries device commands wanted wanted_of broken_by fed start_log last open_row legal_of requirements R7 R12-open R13-open R14 R16 marks_of row_of
broken_by_history = refl

-- the rows that are open after the first n slots of the first run
log_after : Log → List Command → Log
log_after l [] = l
log_after l (k ∷ ks) = log_after (fed (device 2 9) l k) ks

abbrev pub four : (ℕ → Option Row) → List (Option Row)
four f = f 0 ∷ f 1 ∷ f 2 ∷ f 3 ∷ []

abbrev row : ℕ → Option Row
row n = some (record { 0 = n })

-- none; two opened; one closed by its PRE; four tried and one of them too early; all closed by a DEAC
unfoldable pub instants : List ℕ
instants = 20 ∷ 23 ∷ 35 ∷ 41 ∷ 46 ∷ []

unfoldable pub rows_of : List (List (Option Row))
rows_of =
    (none ∷ none ∷ none ∷ none ∷ [])
    ∷ (row 8191 ∷ row 7 ∷ none ∷ none ∷ [])
    ∷ (none ∷ row 7 ∷ none ∷ none ∷ [])
    ∷ (row 6 ∷ row 7 ∷ row 9 ∷ none ∷ [])
    ∷ (none ∷ none ∷ none ∷ none ∷ [])
    ∷ []

rows_by_history : map (λ n. four (open_row (log_after start_log (take n (commands 1 tries))).past)) instants ≡ rows_of
unfolding instants rows_of log_after tries device commands fed start_log last open_row legal_of requirements R7 R12-open R13-open R14 R16 marks_of row_of
rows_by_history = refl

-- the log has the slots, counted from 1
logged : last refresh_cycle (log_after start_log (commands 1 tries)).past ≡ some 8
unfolding log_after tries device commands fed start_log last open_row legal_of requirements R7 R12-open R13-open R14 R16 marks_of row_of
logged = refl
