-- Worked examples by computation, over the plain SDRAM's own history: the choice; accesses and refreshes, slot by slot; the initialisation of
-- document 01's E1 machine, whose slots are E5's.
use Prim.Native.Nat.{ℕ, zero, suc}
use mathlib.Core.Path.{◌≡◌, refl}
use mathlib.Core.Bool.{Bool, true, false, cond}
use mathlib.Core.List.{List, [], ◌∷◌, ◌++◌, map}
use mathlib.Core.Option.{Option, some, none as nothing}
use lib.ListN.{length, replicate}
use Rattle.std.specs.Prelude.{Option as StdOption, Some, None}
use Rattle.config.specs.declared.Config.{Config}
use Rattle.config.specs.declared.Geometry.{Geometry}
use Rattle.address.specs.Map.{cell_at, cell_of, address_of}
use Rattle.config.specs.Setting.{geometry_of, config_of}
use Rattle.command.specs.declared.Command.{Command}
use Rattle.command.specs.declared.Command.TheVariants.{Nop, Act, Wrt, Pre, Deac, Refr, Mrs}
use Rattle.device.specs.View.{marks_of, row_of, all_closed}
use Rattle.device.specs.Rules.{R7, R12-open, R13-open, R14, R16, requirements, legal_of, carried_of}
use Rattle.device.specs.History.{Log, last, open_row, start_log, by_history, fed}
use Rattle.queue.specs.declared.Kind.{Kind}
use Rattle.queue.specs.declared.Request.{Request}
use Rattle.queue.specs.declared.Queue.{Queue}
use Rattle.queue.specs.Places.{request_for, kind_in, request_in, request_at, held_of, empty_of, stored_of, accept_of, shifted_of, remove_of, get_of}
use Rattle.queue.specs.Oldest.{blocked_of, ready_of, oldest_of}
use Rattle.refresh.specs.declared.Counters.{Counters}
use Rattle.refresh.specs.declared.Level.{Level}
use Rattle.refresh.specs.Counting.{tick_of, refreshed_of}
use Rattle.refresh.specs.Urgency.{level_of, run_of}
use Rattle.plan.specs.declared.Action.{Action}
use Rattle.plan.specs.declared.Action.TheVariants.{
  PowerUp,
  InitPrecharge,
  InitRefresh,
  InitMode,
  InitSettle,
  Idle,
  Access,
  CasLatency,
  Turnaround,
  PrechargeAll,
  Refresh,
  RefreshCycle,
}
use Rattle.plan.specs.declared.Control.{Control}
use Rattle.plan.specs.declared.Report.{Report}
use Rattle.plan.specs.Actions.{is_idle, in_service, under_way, first_action}
use Rattle.plan.specs.Plan.{
  Plan,
  quietly,
  outcome_of,
  tries,
  rest,
  after_pause,
  after_init_refresh,
  read_plan,
  write_plan,
  transfer_plan,
  access_plan,
  taken_plan,
  latency_plan,
  cycle_left,
  refresh_plan,
  plan_of,
  queue_after,
  counters_after,
}
use Rattle.plan.specs.Choice.{Choice, rules_of, choice_of, current_of}
use Rattle.plan.specs.Slot.{Turn, ticked_of, turn_of}
use Rattle.plan.specs.Completion.{Completion, read_done, write_done, completion_of}

-- a choice: was a Must run on, the backlog, the oldest unblocked read and write, are all banks closed; and what is chosen
record Row : Type 0 where
  running : Bool
  backlog : ℕ
  read : StdOption ℕ
  write : StdOption ℕ
  closed : Bool
  chosen : Action

abbrev choice : Bool → ℕ → StdOption ℕ → StdOption ℕ → Bool → Action → Row
choice running b r w closed a = record { running = running; backlog = b; read = r; write = w; closed = closed; chosen = a }

none : StdOption ℕ
none = None

choices : List Row
choices =
    -- rule 1: before reads, from 12 on, and in a run down to 8
    choice false 12 (Some 2) (Some 0) false PrechargeAll
    ∷ choice false 15 none none true PrechargeAll
    ∷ choice true 11 (Some 2) (Some 0) false PrechargeAll
    ∷ choice true 8 (Some 2) none true PrechargeAll
    -- 7 ends the run, and that choice goes on with rule 2
    ∷ choice true 7 (Some 2) (Some 0) true (Access 2)
    ∷ choice true 7 none none false PrechargeAll
    -- rule 2 before rule 3
    ∷ choice false 11 (Some 2) (Some 0) false (Access 2)
    ∷ choice false 8 (Some 0) none true (Access 0)
    -- rule 3 before rule 4; a blocked read is no read here
    ∷ choice false 11 none (Some 0) false PrechargeAll
    ∷ choice false 8 none (Some 0) true PrechargeAll
    -- rule 4 before rule 5
    ∷ choice false 7 none (Some 1) true (Access 1)
    ∷ choice false 1 none (Some 0) true (Access 0)
    -- rule 5: 4 to 7, banks open or closed
    ∷ choice false 7 none none false PrechargeAll
    ∷ choice false 4 none none false PrechargeAll
    -- 1 to 3, with all banks closed only
    ∷ choice false 3 none none true PrechargeAll
    ∷ choice false 1 none none true PrechargeAll
    ∷ choice false 3 none none false Idle
    ∷ choice false 1 none none false Idle
    -- rule 6
    ∷ choice false 0 none none true Idle
    ∷ choice false 0 none (Some 3) false (Access 3)
    ∷ []

made : Row → Row
made x =
    let level : Level = level_of x.backlog in
    choice x.running x.backlog x.read x.write x.closed (rules_of (run_of x.running level) level x.read x.write x.closed)

choices_made : map made choices ≡ choices
unfolding none choices made rules_of level_of
choices_made = refl

-- The queue has a write of block 0, a read of block 0 and a read of block 1 (E10's, for the smallest geometry): the choice takes the oldest
-- unblocked read, and with no such read the oldest write; the flag goes with it, and an action under way keeps both.

asks : Kind → ℕ → ℕ → Request
asks kind n address = request_for kind n address 0

mixed : Queue
mixed = accept_of (accept_of (accept_of empty_of (asks Kind.Write 1 0)) (asks Kind.Read 2 2046)) (asks Kind.Read 3 2048)

held : Queue
held = accept_of (accept_of empty_of (asks Kind.Write 1 0)) (asks Kind.Read 2 2046)

control : Action → Bool → Control
control a must = record { action = a; must = must }

currents : map (λ (x : Choice). x.control)
    (current_of (control Idle false) 0 mixed false
    ∷ current_of (control Idle false) 0 held false
    ∷ current_of (control Idle false) 11 held false
    ∷ current_of (control Idle true) 11 mixed false
    ∷ current_of (control Idle true) 8 mixed true
    ∷ current_of (control Idle true) 7 held false
    ∷ current_of (control Idle false) 12 mixed true
    ∷ current_of (control Turnaround true) 0 mixed true
    ∷ current_of (control (PowerUp 3) false) 12 mixed true
    ∷ [])
    ≡ control (Access 2) false
    ∷ control (Access 0) false
    ∷ control PrechargeAll false
    ∷ control PrechargeAll true
    ∷ control PrechargeAll true
    ∷ control (Access 0) false
    ∷ control PrechargeAll true
    ∷ control Turnaround true
    ∷ control (PowerUp 3) false
    ∷ []
unfolding asks mixed held control current_of choice_of rules_of level_of empty_of kind_in request_in stored_of accept_of get_of oldest_of ready_of blocked_of
currents = refl

-- which actions leave a choice open, in which the refresh counters run, and whose request is under way

actions : List Action
actions =
    PowerUp 3 ∷ InitPrecharge ∷ InitRefresh 3 ∷ InitMode ∷ InitSettle
    ∷ Idle ∷ Access 1 ∷ CasLatency 1 2 ∷ Turnaround ∷ PrechargeAll ∷ Refresh ∷ RefreshCycle 2 ∷ []

idle : map is_idle actions ≡ replicate 5 false ++ true ∷ replicate 6 false
unfolding actions
idle = refl

service : map in_service actions ≡ replicate 5 false ++ replicate 7 true
unfolding actions
service = refl

places : map under_way actions ≡ replicate 6 0 ++ 1 ∷ 1 ∷ replicate 4 0
unfolding actions
places = refl

-- what each case of a report says
completions : map completion_of (Report.Nothing ∷ Report.Read 4 5 ∷ Report.Write 6 ∷ [])
    ≡ nothing
    ∷ some (record { number = 4; kind = Kind.Read; halfword = some 5 })
    ∷ some (record { number = 6; kind = Kind.Write; halfword = nothing })
    ∷ []
completions = refl

-- the configurations of E1 and E4
abbrev tight : Config
tight = config_of 0x4400 0 27 0

abbrev wide : Config
wide = config_of 0x4620 4 136 0x42215810

-- no two distances alike: tRFC 13, tRP 4, tRCD 2, tWR 8, tRAS 6, tRC 11, tRRD 5, and CL 3
abbrev unlike : Config
unlike = config_of 0x4612 4 185 0x63175a40

-- tRC above M + tRP: tRFC 7, tRP 2, tRCD 4, tWR 3, tRAS 5, tRC 12, tRRD 6, and CL 2
abbrev cycling : Config
cycling = config_of 0x4420 4 147 0x31324b50

-- a slot of an action: its command and report, then the action, the backlog and the numbers of the queued requests
record Line : Type 0 where
  command : Command
  report : Option Completion
  next : Action
  backlog : ℕ
  queued : List ℕ

abbrev line : Command → Option Completion → Action → ℕ → List ℕ → Line
line k r a b ns = record { command = k; report = r; next = a; backlog = b; queued = ns }

-- an action on a machine, after the commands `before`, with a backlog of 5, and what its slots do; the bus carries 100, 101, ..
record Run : Type 0 where
  config : Config
  before : List Command
  requests : List Request
  action : Action
  lines : List Line

abbrev run : Config → List Command → List (Geometry → Request) → Action → List Line → Run
run c ks rs a ls = record { config = c; before = ks; requests = map (λ f. f c.geometry) rs; action = a; lines = ls }

-- the requests at bank, row and column are numbered 41, 42, ..; a write's halfword is 7
asked : Kind → ℕ → ℕ → ℕ → ℕ → Geometry → Request
asked kind n b r k g = request_for kind n (address_of g (cell_at b r k)) 7

act : ℕ → ℕ → Command
act b r = Act (record { 0 = b }) (record { 0 = r })

rd : ℕ → ℕ → Command
rd b k = Command.Read (record { 0 = b }) (record { 0 = k })

wrt : ℕ → ℕ → Command
wrt b k = Wrt (record { 0 = b }) (record { 0 = k }) 7

pre : ℕ → Command
pre b = Pre (record { 0 = b })

-- a slot that reports nothing, with the backlog at 5
still : Command → Action → List ℕ → Line
still k a ns = line k nothing a 5 ns

-- initialised; and with row 0 of bank 0 open and written to, as E7 and E8 have it in slot s + 3
ready : ℕ → List Command
ready word = Mrs word ∷ Nop ∷ []

opened : List Command
opened = ready 48 ++ act 0 0 ∷ Nop ∷ Nop ∷ wrt 0 0 ∷ []

-- the same where tRCD is 2
written : List Command
written = ready 48 ++ act 0 0 ∷ Nop ∷ wrt 0 0 ∷ []

runs : List Run
runs =
    -- E9: ACT s, READ s + 3, the halfword of s + 6, free at s + 8
    run wide (ready 48) (asked Kind.Read 41 3 8191 255 ∷ []) (Access 0)
    (still (act 3 8191) (Access 0) (41 ∷ [])
    ∷ still Nop (Access 0) (41 ∷ [])
    ∷ still Nop (Access 0) (41 ∷ [])
    ∷ still (rd 3 255) (CasLatency 0 3) (41 ∷ [])
    ∷ still Nop (CasLatency 0 2) (41 ∷ [])
    ∷ still Nop (CasLatency 0 1) (41 ∷ [])
    ∷ line Nop (some (read_done 41 106)) Turnaround 5 []
    ∷ still Nop Idle []
    ∷ [])
    -- E5: a read whose row is open, between requests that stay
    ∷ run tight (ready 32 ++ act 0 2 ∷ wrt 0 0 ∷ []) (asked Kind.Write 41 0 0 0 ∷ asked Kind.Read 42 0 2 1 ∷ asked Kind.Read 43 0 3 1 ∷ []) (Access 1)
    (still (rd 0 1) (CasLatency 1 2) (41 ∷ 42 ∷ 43 ∷ [])
    ∷ still Nop (CasLatency 1 1) (41 ∷ 42 ∷ 43 ∷ [])
    ∷ line Nop (some (read_done 42 102)) Turnaround 5 (41 ∷ 43 ∷ [])
    ∷ still Nop Idle (41 ∷ 43 ∷ [])
    ∷ [])
    -- E7 from s + 4 on: another row of the bank, PRE s + 6, ACT s + 9, WRT s + 12
    ∷ run wide opened (asked Kind.Write 42 0 1 0 ∷ []) (Access 0)
    (still Nop (Access 0) (42 ∷ [])
    ∷ still Nop (Access 0) (42 ∷ [])
    ∷ still (pre 0) (Access 0) (42 ∷ [])
    ∷ still Nop (Access 0) (42 ∷ [])
    ∷ still Nop (Access 0) (42 ∷ [])
    ∷ still (act 0 1) (Access 0) (42 ∷ [])
    ∷ still Nop (Access 0) (42 ∷ [])
    ∷ still Nop (Access 0) (42 ∷ [])
    ∷ line (wrt 0 0) (some (write_done 42)) Idle 5 []
    ∷ [])
    -- E8 from s + 4 on: another bank
    ∷ run wide opened (asked Kind.Write 42 1 0 0 ∷ []) (Access 0)
    (still (act 1 0) (Access 0) (42 ∷ [])
    ∷ still Nop (Access 0) (42 ∷ [])
    ∷ still Nop (Access 0) (42 ∷ [])
    ∷ line (wrt 1 0) (some (write_done 42)) Idle 5 []
    ∷ [])
    -- a write whose row is open: its WRT is its only slot
    ∷ run wide opened (asked Kind.Read 41 2 0 9 ∷ asked Kind.Write 42 0 0 9 ∷ []) (Access 1) (line (wrt 0 9) (some (write_done 42)) Idle 5 (41 ∷ []) ∷ [])
    -- E6: with tRFC 1 a refresh ends in its REFR slot, and has a DEAC though no bank is open
    ∷ run tight (ready 32) [] PrechargeAll (still Deac Refresh [] ∷ line Refr nothing Idle 4 [] ∷ [])
    -- a refresh with a bank open: DEAC at s + 6 as a PRE would be, REFR tRP later, then tRFC - 1 slots
    ∷ run wide opened (asked Kind.Read 41 2 0 9 ∷ []) PrechargeAll
    (still Nop PrechargeAll (41 ∷ [])
    ∷ still Nop PrechargeAll (41 ∷ [])
    ∷ still Deac Refresh (41 ∷ [])
    ∷ still Nop Refresh (41 ∷ [])
    ∷ still Nop Refresh (41 ∷ [])
    ∷ line Refr nothing (RefreshCycle 8) 4 (41 ∷ [])
    ∷ map (λ (a : Action). line Nop nothing a 4 (41 ∷ []))
    (RefreshCycle 7 ∷ RefreshCycle 6 ∷ RefreshCycle 5 ∷ RefreshCycle 4 ∷ RefreshCycle 3 ∷ RefreshCycle 2 ∷ RefreshCycle 1 ∷ Idle ∷ []))
    -- where no two distances are alike: a read has its READ tRCD after its ACT, and its halfword CL later
    ∷ run unlike (ready 48) (asked Kind.Read 41 1 8191 1023 ∷ []) (Access 0)
    (still (act 1 8191) (Access 0) (41 ∷ [])
    ∷ still Nop (Access 0) (41 ∷ [])
    ∷ still (rd 1 1023) (CasLatency 0 3) (41 ∷ [])
    ∷ still Nop (CasLatency 0 2) (41 ∷ [])
    ∷ still Nop (CasLatency 0 1) (41 ∷ [])
    ∷ line Nop (some (read_done 41 105)) Turnaround 5 []
    ∷ still Nop Idle []
    ∷ [])
    -- a write to another row: its PRE waits for tWR, its ACT for tRP, its WRT for tRCD
    ∷ run unlike written (asked Kind.Write 42 0 1 0 ∷ []) (Access 0)
    (replicate 7 (still Nop (Access 0) (42 ∷ []))
    ++ still (pre 0) (Access 0) (42 ∷ [])
    ∷ replicate 3 (still Nop (Access 0) (42 ∷ []))
    ++ still (act 0 1) (Access 0) (42 ∷ [])
    ∷ still Nop (Access 0) (42 ∷ [])
    ∷ line (wrt 0 0) (some (write_done 42)) Idle 5 []
    ∷ [])
    -- and to another bank: its ACT waits for tRRD
    ∷ run unlike written (asked Kind.Write 42 1 0 0 ∷ []) (Access 0)
    (replicate 2 (still Nop (Access 0) (42 ∷ []))
    ++ still (act 1 0) (Access 0) (42 ∷ [])
    ∷ still Nop (Access 0) (42 ∷ [])
    ∷ line (wrt 1 0) (some (write_done 42)) Idle 5 []
    ∷ [])
    -- a refresh: its DEAC waits for tWR, its REFR for tRP, and it lasts tRFC - 1 slots more
    ∷ run unlike written [] PrechargeAll
    (replicate 7 (still Nop PrechargeAll [])
    ++ still Deac Refresh []
    ∷ replicate 3 (still Nop Refresh [])
    ++ line Refr nothing (RefreshCycle 12) 4 []
    ∷ map (λ (a : Action). line Nop nothing a 4 [])
    (map RefreshCycle (11 ∷ 10 ∷ 9 ∷ 8 ∷ 7 ∷ 6 ∷ 5 ∷ 4 ∷ 3 ∷ 2 ∷ 1 ∷ []) ++ Idle ∷ []))
    -- where tRC decides F: its DEAC waits for tWR, its REFR for tRC, and not only for tRP
    ∷ run cycling (ready 32 ++ act 1 0 ∷ Nop ∷ Nop ∷ Nop ∷ wrt 1 0 ∷ []) [] PrechargeAll
    (replicate 2 (still Nop PrechargeAll [])
    ++ still Deac Refresh []
    ∷ replicate 4 (still Nop Refresh [])
    ++ line Refr nothing (RefreshCycle 6) 4 []
    ∷ map (λ (a : Action). line Nop nothing a 4 [])
    (map RefreshCycle (5 ∷ 4 ∷ 3 ∷ 2 ∷ 1 ∷ []) ++ Idle ∷ []))
    ∷ []

-- so many slots from an action on; the past is the device's log
played : ℕ → Config → Log → Counters → Control → Queue → ℕ → List Line
played zero c l n x q bus = []
played (suc left) c l n x q bus =
    let t : Turn = turn_of c (by_history c l) n x q bus in
    line t.command (completion_of t.report) t.control.action t.counters.backlog (map (λ (r : Request). r.number) (held_of t.queue))
    ∷ played left c (fed c l t.command) t.counters t.control t.queue (suc bus)

logged : Config → Log → List Command → Log
logged c l [] = l
logged c l (k ∷ ks) = logged c (fed c l k) ks

queue : Queue → List Request → Queue
queue q [] = q
queue q (r ∷ rs) = queue (accept_of q r) rs

start : Run → List Line
start x =
    played (length x.lines) x.config (logged x.config start_log x.before) (record { interval = 25; backlog = 5 }) (control x.action false)
    (queue empty_of x.requests) 100

runs_played : map start runs ≡ map (λ (x : Run). x.lines) runs
unfolding config_of geometry_of cell_of address_of asked act rd wrt pre still ready opened written control runs played logged queue start turn_of ticked_of current_of choice_of rules_of plan_of refresh_plan cycle_left latency_plan taken_plan access_plan transfer_plan write_plan read_plan rest tries outcome_of quietly queue_after counters_after refreshed_of tick_of empty_of kind_in request_in request_at stored_of accept_of shifted_of remove_of get_of fed start_log last open_row legal_of carried_of requirements R7 R12-open R13-open R14 R16 marks_of row_of
runs_played = refl

-- The initialisation of E1's machine, in which each command is legal in the first slot that tries it: E5's slots 1 to 227, and then service.

blank : Request
blank = get_of empty_of 0

planned : Action → Plan
planned a = plan_of tight (by_history tight start_log) blank a 0

sends : ℕ → Action → List Command
sends zero a = []
sends (suc fuel) a = cond (in_service a) [] ((planned a).command ∷ sends fuel (planned a).sent.action)

initialisation : sends 300 (first_action tight) ≡ replicate 216 Nop ++ Deac ∷ replicate 8 Refr ++ Mrs 32 ∷ Nop ∷ []
unfolding config_of geometry_of blank planned sends plan_of after_pause after_init_refresh rest tries quietly empty_of get_of
initialisation = refl

-- where a command is not legal yet, the action stays
stay : map (λ a. (planned a).stays) (InitPrecharge ∷ InitRefresh 3 ∷ InitMode ∷ []) ≡ InitPrecharge ∷ InitRefresh 3 ∷ InitMode ∷ []
unfolding planned plan_of tries
stay = refl

-- no refresh of the initialisation is taken off the backlog, and none reports
quiet : map (λ a. (planned a).sent) (InitPrecharge ∷ InitRefresh 3 ∷ InitRefresh 1 ∷ InitMode ∷ [])
    ≡ quietly (InitRefresh 8) ∷ quietly (InitRefresh 2) ∷ quietly InitMode ∷ quietly InitSettle ∷ []
unfolding planned plan_of tries after_init_refresh
quiet = refl

-- The counters come first: at the expiry that makes a backlog of 4 there is a refresh with a bank open; before service they stand still.

counted : Control → Counters → ℕ → Counters
counted x n bus = (turn_of tight (by_history tight (logged tight start_log (ready 32 ++ act 0 2 ∷ []))) n x empty_of bus).counters

next : Control → Counters → ℕ → Action
next x n bus = (turn_of tight (by_history tight (logged tight start_log (ready 32 ++ act 0 2 ∷ []))) n x empty_of bus).control.action

counters_first : (next (control Idle false) (record { interval = 1; backlog = 3 }) 0 ≡ Refresh)
    × (next (control Idle false) (record { interval = 2; backlog = 3 }) 0 ≡ Idle)
    × (counted (control Idle false) (record { interval = 1; backlog = 3 }) 0 ≡ record { interval = 27; backlog = 4 })
    × (counted (control InitSettle false) (record { interval = 1; backlog = 3 }) 0 ≡ record { interval = 1; backlog = 3 })
unfolding config_of geometry_of act ready control counted next logged turn_of ticked_of current_of choice_of rules_of plan_of rest tries outcome_of quietly queue_after counters_after tick_of level_of empty_of get_of oldest_of fed start_log last open_row legal_of carried_of requirements R7 R12-open R13-open R14 R16 all_closed marks_of row_of
counters_first = (refl, refl, refl, refl)

-- A slot sees whether all banks are closed, and keeps the Must run flag as of its choice; where no choice is made, the flag stays.

after : List Command → Control → ℕ → Control
after ks x b = (turn_of tight (by_history tight (logged tight start_log ks)) (record { interval = 9; backlog = b }) x empty_of 0).control

flags : after (ready 32) (control Idle false) 3
    ∷ after (ready 32 ++ act 0 2 ∷ []) (control Idle false) 3
    ∷ after (ready 32) (control Idle false) 12
    ∷ after (ready 32) (control Idle true) 8
    ∷ after (ready 32) (control Idle true) 0
    ∷ after (ready 32) (control Turnaround true) 0
    ∷ []
    ≡ control Refresh false ∷ control Idle false ∷ control Refresh true ∷ control Refresh true ∷ control Idle false ∷ control Idle true ∷ []
unfolding config_of geometry_of act ready control after logged turn_of ticked_of current_of choice_of rules_of plan_of rest tries outcome_of quietly queue_after counters_after tick_of level_of empty_of get_of oldest_of fed start_log last open_row legal_of carried_of requirements R7 R12-open R13-open R14 R16 all_closed marks_of row_of
flags = refl
