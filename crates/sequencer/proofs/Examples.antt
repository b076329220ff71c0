-- Worked examples of the calls, computed: soundness, each refusal with its record, the order of the numbers, acceptance, and single slots.
use Prim.Native.Nat.{ℕ, zero, suc}
use mathlib.Core.Path.{◌≡◌, refl}
use mathlib.Core.Bool.{Bool, true, false}
use mathlib.Core.List.{List, [], ◌∷◌, ◌++◌, map}
use lib.ListN.{replicate}
use Rattle.config.specs.declared.Config.{Config}
use Rattle.words.specs.Words.{reserved_map, reserved_all}
use Rattle.config.specs.Setting.{offered_of, geometry_of, config_of, checked_of, setting_of}
use Rattle.config.specs.Accepted.{accepted_of as config_accepted, shaped_of, distances_of, spanned_of}
use Rattle.address.specs.Map.{capacity_of, cell_of, holds_of, address_number_of}
use Rattle.command.specs.declared.Command.{Command}
use Rattle.command.specs.declared.Command.TheVariants.{Nop, Deac, Refr}
use Rattle.device.specs.View.{all_closed, marks_of, row_of}
use Rattle.device.specs.Rules.{R7, R12-open, R13-open, R14, R16, requirements, legal_of, carried_of}
use Rattle.ages.specs.declared.Past.{Past}
use Rattle.ages.specs.Ages.{cap, past_of, fresh_of, open_in, row_in, open_rows, aged_of, ages_after, sent_of}
use Rattle.queue.specs.declared.Kind.{Kind}
use Rattle.queue.specs.declared.Request.{Request}
use Rattle.queue.specs.declared.Queue.{Queue}
use Rattle.queue.specs.Places.{request_for, kind_in, request_in, request_at, queue_of, get_of, empty_of, stored_of, accept_of, shifted_of, remove_of}
use Rattle.queue.specs.Oldest.{blocked_of, ready_of, oldest_of}
use Rattle.refresh.specs.declared.Counters.{Counters}
use Rattle.refresh.specs.Counting as counting
use Rattle.refresh.specs.Urgency.{level_of}
use Rattle.plan.specs.declared.Action.{Action}
use Rattle.plan.specs.declared.Action.TheVariants.{
  PowerUp,
  InitPrecharge,
  InitRefresh,
  InitMode,
  InitSettle,
  Idle,
  Access,
  CasLatency,
  Turnaround,
  PrechargeAll,
  Refresh,
  RefreshCycle,
}
use Rattle.plan.specs.declared.Report.{Report}
use Rattle.plan.specs.declared.Report.TheVariants.{Nothing}
use Rattle.plan.specs.Actions.{sound_action}
use Rattle.plan.specs.Plan as plan
use Rattle.plan.specs.Choice as choice
use Rattle.plan.specs.Slot.{ticked_of, turn_of}
use Rattle.packing.specs.Packing.{word_of, command_word, report_word}
use Rattle.sequencer.specs.declared.Machine.{Machine}
use Rattle.sequencer.specs.Answers.{Slot, Requested, Configured}
use Rattle.sequencer.specs.Machine.{blank_of, machine_of, step_of}
use Rattle.numbers.specs.Sound.{state_by, fit_by, sound_by}
use Rattle.numbers.specs.Numbers.{record_number_by, last_number, room_number_of, request_number_by}
use Rattle.sequencer.specs.Sound.{sound_of}
use Rattle.sequencer.specs.Calls.{
  refused_with,
  configured_by,
  configure_of,
  queued_request,
  enqueued_of,
  request_of,
  slot_of,
  backlog_of,
}
use Rattle.sequencer.specs.Batch.{Batch, series_of, batch_of, many_slots_of}

-- E1's configuration, with other widths: CL 2, all distances 1, RR 27
abbrev shaped : ℕ → ℕ → ℕ → Config
shaped c b r =
    record {
      geometry = record { columns = c; banks = b; rows = r };
      latency = 2;
      rfc = 1;
      rp = 1;
      rcd = 1;
      wr = 1;
      ras = 1;
      rc = 1;
      rrd = 1;
      rr = 27;
      access = 9;
      refresh = 3;
    }

-- E1's own: one bank of 512 rows and 256 columns, which is 262,144 bytes
abbrev e1 : Config
e1 = shaped 8 0 9

-- the same device with tRFC 3: F 5, RR 39
abbrev cycling : Config
cycling =
    record {
      geometry = e1.geometry;
      latency = 2;
      rfc = 3;
      rp = 1;
      rcd = 1;
      wr = 1;
      ras = 1;
      rc = 1;
      rrd = 1;
      rr = 39;
      access = 9;
      refresh = 5;
    }

-- the device after its initialisation, with row 1 open, or with none
abbrev known : Bool → Past
known opened = past_of (replicate 16 cap) (opened ∷ replicate 3 false) (1 ∷ replicate 3 0) true

abbrev counted : ℕ → ℕ → Counters
counted i b = record { interval = i; backlog = b }

-- request n, of row 1, column 0
abbrev ask : Kind → ℕ → Request
ask k n = request_for k n 512 7

-- n writes are queued; one read is
abbrev filled : ℕ → Queue
filled zero = empty_of
filled (suc n) = accept_of (filled n) (ask Kind.Write (suc n))

abbrev one_read : Queue
one_read = accept_of empty_of (ask Kind.Read 1)

abbrev made : Config → Past → Counters → Bool → Queue → Action → ℕ → Machine
made c p n must q a accepted =
    record { configured = true; config = c; past = p; counters = n; control = record { action = a; must = must }; queue = q; accepted = accepted }

-- E1's machine in service
abbrev serving : Past → Counters → Bool → Queue → Action → Machine
serving p n must q a = made e1 p n must q a 8

-- Soundness, part by part.

abbrev at : Config → Counters → Queue → Action → Machine
at c n q a = made c (known false) n false q a 8

-- a request of an address that the device does not have
abbrev beyond : Machine
beyond = at e1 (counted 27 0) (accept_of empty_of (request_for Kind.Read 1 4294967295 7)) Idle

-- before any MRS, with a queue and an action
abbrev early : Queue → Action → Machine
early q a = made e1 fresh_of (counted 27 0) false q a 0

-- with a bank open
abbrev opened : Action → Machine
opened a = made e1 (known true) (counted 27 0) false empty_of a 8

sound : List Machine
sound =
    blank_of
    ∷ machine_of e1
    ∷ early empty_of (PowerUp 1)
    ∷ early (filled 8) (PowerUp 216)
    ∷ early empty_of InitPrecharge
    ∷ early empty_of (InitRefresh 1)
    ∷ early empty_of (InitRefresh 8)
    ∷ early empty_of InitMode
    ∷ at e1 (counted 27 0) empty_of InitSettle
    ∷ opened InitPrecharge
    ∷ opened PrechargeAll
    ∷ at (shaped 11 2 13) (counted 27 0) empty_of Idle
    ∷ at e1 (counted 1 15) empty_of Idle
    ∷ at e1 (counted 27 0) (filled 8) (Access 7)
    ∷ at e1 (counted 27 0) (filled 2) (CasLatency 1 1)
    ∷ at e1 (counted 27 0) (filled 2) (CasLatency 1 2)
    ∷ at e1 (counted 27 0) empty_of Turnaround
    ∷ at e1 (counted 27 0) empty_of PrechargeAll
    ∷ at e1 (counted 27 0) empty_of Refresh
    ∷ at cycling (counted 39 0) empty_of (RefreshCycle 1)
    ∷ at cycling (counted 39 0) empty_of (RefreshCycle 2)
    ∷ beyond
    ∷ []

unsound : List Machine
unsound =
    early empty_of (PowerUp 0)
    ∷ early empty_of (PowerUp 217)
    ∷ early empty_of (InitRefresh 0)
    ∷ early empty_of (InitRefresh 9)
    -- the end of the initialisation, and service, before any MRS
    ∷ early empty_of InitSettle
    ∷ early empty_of Idle
    ∷ early (filled 2) (Access 1)
    ∷ early (filled 2) (CasLatency 1 2)
    ∷ early empty_of Turnaround
    ∷ early empty_of PrechargeAll
    ∷ early empty_of Refresh
    ∷ early empty_of (RefreshCycle 1)
    -- REFR and MRS with a bank open
    ∷ opened (InitRefresh 8)
    ∷ opened InitMode
    ∷ opened Refresh
    -- counts out of their ranges: CL is 2, tRFC 3
    ∷ at e1 (counted 27 0) (filled 2) (CasLatency 1 0)
    ∷ at e1 (counted 27 0) (filled 2) (CasLatency 1 3)
    ∷ at cycling (counted 39 0) empty_of (RefreshCycle 0)
    ∷ at cycling (counted 39 0) empty_of (RefreshCycle 3)
    ∷ at (shaped 7 0 9) (counted 27 0) empty_of Idle
    ∷ at (shaped 12 0 9) (counted 27 0) empty_of Idle
    ∷ at (shaped 8 3 9) (counted 27 0) empty_of Idle
    ∷ at (shaped 8 0 8) (counted 27 0) empty_of Idle
    ∷ at (shaped 8 0 14) (counted 27 0) empty_of Idle
    ∷ at e1 (counted 0 0) empty_of Idle
    ∷ at e1 (counted 28 0) empty_of Idle
    ∷ at e1 (counted 27 16) empty_of Idle
    ∷ at e1 (counted 27 0) (queue_of (replicate 24 0) 9) Idle
    ∷ at e1 (counted 27 0) (filled 2) (Access 2)
    ∷ at e1 (counted 27 0) (filled 2) (CasLatency 2 1)
    ∷ []

-- Configuration: E1's words; an unnamed bit in each word, also where a field is not offered; fields that are not; RR 26.

abbrev words : List Configured
words =
    configure_of 0x4400 0 27 0
    ∷ configure_of 0x0408 0 27 0
    ∷ configure_of 0x4400 8 27 0
    ∷ configure_of 0x4400 0 0x2000 0
    ∷ configure_of 0x4400 0 26 1
    ∷ configure_of 0x0400 0 26 0
    ∷ configure_of 0x4400 5 27 0
    ∷ configure_of 0x4400 0 26 0
    ∷ []

abbrev refused : ℕ → Configured
refused n = record { number = n; machine = blank_of }

-- Requests that are refused: the record and the address handed in, and the number given back.

record Refusal : Type 0 where
  machine : Machine
  address : ℕ
  number : ℕ

abbrev refusal : Machine → ℕ → ℕ → Refusal
refusal m a n = record { machine = m; address = a; number = n }

abbrev unchanged : Refusal → Requested
unchanged f = record { number = f.number; request = 0; machine = f.machine }

-- so many queued, and so many accepted
abbrev loaded : ℕ → ℕ → ℕ → Machine
loaded i n accepted = made e1 (known true) (counted i 0) false (filled n) Idle accepted

-- two lines for a number: with the conditions of all later numbers, and alone
refusals : List Refusal
refusals =
    refusal (loaded 28 8 last_number) 262145 9
    ∷ refusal (loaded 28 0 0) 0 9
    ∷ refusal blank_of 262145 8
    ∷ refusal blank_of 0 8
    ∷ refusal (loaded 27 8 last_number) 262145 4
    ∷ refusal (loaded 27 0 0) 1 4
    ∷ refusal (loaded 27 8 last_number) 262144 5
    ∷ refusal (loaded 27 0 0) 262144 5
    ∷ refusal (loaded 27 8 last_number) 0 6
    ∷ refusal (loaded 27 8 8) 0 6
    ∷ refusal (loaded 27 7 last_number) 0 7
    ∷ []

-- Slots: the record and the bus halfword handed in, and what is given back.

record Row : Type 0 where
  machine : Machine
  bus : ℕ
  given : Slot

abbrev row : Machine → ℕ → ℕ → Command → Report → Machine → Row
row m bus n k r after = record { machine = m; bus = bus; given = record { number = n; command = k; report = r; machine = after } }

abbrev read : Command
read = Command.Read (record { 0 = 0 }) (record { 0 = 0 })

abbrev write : Command
write = Command.Wrt (record { 0 = 0 }) (record { 0 = 0 }) 7

slots : List Row
slots =
    -- refused
    row (loaded 28 1 1) 5 9 Nop Nothing (loaded 28 1 1)
    ∷ row blank_of 5 8 Nop Nothing blank_of
    -- the initialisation: the counters stand still
    ∷ row (machine_of e1) 5 0 Nop Nothing (made e1 fresh_of (counted 27 0) false empty_of (PowerUp 215) 0)
    ∷ row (serving (known false) (counted 27 0) false (filled 1) InitSettle) 5 0 Nop Nothing
    (serving (known false) (counted 27 0) false (filled 1) Idle)
    -- the counters come first: at backlog 4 there is a refresh with a bank open, at 3 there is none
    ∷ row (serving (known true) (counted 1 3) false empty_of Idle) 5 0 Deac Nothing
    (serving (sent_of (known true) Deac) (counted 27 4) false empty_of Refresh)
    ∷ row (serving (known true) (counted 2 3) false empty_of Idle) 5 0 Nop Nothing
    (serving (known true) (counted 1 3) false empty_of Idle)
    ∷ row (serving (known false) (counted 2 3) false empty_of Idle) 5 0 Deac Nothing
    (serving (sent_of (known false) Deac) (counted 1 3) false empty_of Refresh)
    -- a Must run goes on at 8, and ends at 7 before the choice; 8 alone starts none
    ∷ row (serving (known true) (counted 9 8) true one_read Idle) 5 0 Deac Nothing
    (serving (sent_of (known true) Deac) (counted 8 8) true one_read Refresh)
    ∷ row (serving (known true) (counted 9 7) true one_read Idle) 5 0 read Nothing
    (serving (sent_of (known true) read) (counted 8 7) false one_read (CasLatency 0 2))
    ∷ row (serving (known true) (counted 9 8) false one_read Idle) 5 0 read Nothing
    (serving (sent_of (known true) read) (counted 8 8) false one_read (CasLatency 0 2))
    -- a fruitless choice ends a run too; where there is no choice, the flag stays
    ∷ row (serving (known true) (counted 9 0) true empty_of Idle) 5 0 Nop Nothing
    (serving (known true) (counted 8 0) false empty_of Idle)
    ∷ row (serving (known true) (counted 9 5) true empty_of Turnaround) 5 0 Nop Nothing
    (serving (known true) (counted 8 5) true empty_of Idle)
    ∷ row (made cycling (known false) (counted 1 11) false empty_of (RefreshCycle 2) 8) 5 0 Nop Nothing
    (made cycling (known false) (counted 39 12) false empty_of (RefreshCycle 1) 8)
    -- the reports of a read and of a write
    ∷ row (serving (known true) (counted 9 0) false one_read (CasLatency 0 1)) 5 0 Nop (Report.Read 1 5)
    (serving (known true) (counted 8 0) false empty_of Turnaround)
    ∷ row (serving (known true) (counted 9 0) false (filled 1) Idle) 5 0 write (Report.Write 1)
    (serving (sent_of (known true) write) (counted 8 0) false empty_of Idle)
    -- the backlog falls with the REFR
    ∷ row (serving (known false) (counted 9 12) true empty_of Refresh) 5 0 Refr Nothing
    (serving (sent_of (known false) Refr) (counted 8 11) true empty_of Idle)
    ∷ []

-- Many slots: the number and the count, and both arrays after the call.
abbrev shown : Batch → List (List ℕ)
shown r = (r.number ∷ r.count ∷ []) ∷ r.commands ∷ r.reports ∷ []

-- a read's halfword comes in the second slot; a WRT
abbrev reading : Machine
reading = serving (known true) (counted 9 0) false one_read (CasLatency 0 2)

abbrev writing : Machine
writing = serving (known true) (counted 9 0) false (filled 1) Idle

-- a refresh's REFR comes next, and then a WRT's row is opened
abbrev refreshing : Machine
refreshing = serving (known false) (counted 9 1) false (filled 1) Refresh

abbrev three : List ℕ
three = 5 ∷ 6 ∷ 7 ∷ []

many : List Batch
many =
    many_slots_of (loaded 28 1 1) three three three
    ∷ many_slots_of blank_of three three three
    ∷ many_slots_of reading [] three three
    ∷ many_slots_of reading three three (8 ∷ 9 ∷ 10 ∷ 11 ∷ [])
    ∷ many_slots_of writing three (8 ∷ 9 ∷ []) three
    ∷ many_slots_of writing three three (8 ∷ [])
    ∷ many_slots_of refreshing three three three
    ∷ []

shown_many : List (List (List ℕ))
shown_many =
    ((9 ∷ 0 ∷ []) ∷ three ∷ three ∷ [])
    ∷ ((8 ∷ 0 ∷ []) ∷ three ∷ three ∷ [])
    ∷ ((0 ∷ 0 ∷ []) ∷ three ∷ three ∷ [])
    ∷ ((0 ∷ 3 ∷ []) ∷ (0 ∷ 0 ∷ 0 ∷ []) ∷ (0 ∷ 0x100060001 ∷ 0 ∷ 11 ∷ []) ∷ [])
    ∷ ((0 ∷ 2 ∷ []) ∷ (0x700000003 ∷ 0 ∷ []) ∷ (0x100000002 ∷ 0 ∷ 7 ∷ []) ∷ [])
    ∷ ((0 ∷ 1 ∷ []) ∷ (0x700000003 ∷ 6 ∷ 7 ∷ []) ∷ (0x100000002 ∷ []) ∷ [])
    ∷ ((0 ∷ 3 ∷ []) ∷ (6 ∷ 0x10001 ∷ 0x700000003 ∷ []) ∷ (0 ∷ 0 ∷ 0x100000002 ∷ []) ∷ [])
    ∷ []

-- `room`: a queue of eight that one request has left has room for one. `last`: the last number is given, and a read's halfword is not kept.
record Examples : Type 0 where
  soundness : map sound_of sound ++ map sound_of unsound ≡ replicate 22 true ++ replicate 30 false
  configured : words ≡ record { number = 0; machine = machine_of e1 } ∷ map refused (1 ∷ 1 ∷ 1 ∷ 1 ∷ 2 ∷ 2 ∷ 3 ∷ [])
  reads : map (λ f. request_of f.machine Kind.Read f.address 7) refusals ≡ map unchanged refusals
  writes : map (λ f. request_of f.machine Kind.Write f.address 7) refusals ≡ map unchanged refusals
  room :
      request_of (serving (known true) (counted 9 0) false (remove_of (filled 8) 0) Idle) Kind.Write 512 7
      ≡ record { number = 0; request = 9; machine = made e1 (known true) (counted 9 0) false (accept_of (remove_of (filled 8) 0) (ask Kind.Write 9)) Idle 9 }
  last :
      request_of (made e1 (known false) (counted 27 0) true empty_of Turnaround 4294967294) Kind.Read 262142 65535
      ≡ record {
        number = 0;
        request = 4294967295;
        machine = made e1 (known false) (counted 27 0) true
            (accept_of empty_of (request_for Kind.Read 4294967295 262142 0))
            Turnaround 4294967295;
      }
  steps : map (λ r. slot_of r.machine r.bus) slots ≡ map (λ r. r.given) slots
  batches : map shown many ≡ shown_many
  batch_machine : (many_slots_of reading three three three).machine ≡ serving (known true) (counted 6 0) false empty_of Idle
  readings :
      map backlog_of (loaded 28 0 0 ∷ blank_of ∷ machine_of e1 ∷ at e1 (counted 1 15) empty_of Idle ∷ [])
      ≡ record { number = 9; backlog = 0 } ∷ record { number = 8; backlog = 0 } ∷ record { number = 0; backlog = 0 } ∷ record { number = 0; backlog = 15 } ∷ []

examples : Examples
unfolding sound unsound refusals slots many shown_many series_of batch_of many_slots_of word_of command_word report_word configured_by configure_of record_number_by room_number_of request_number_by queued_request enqueued_of request_of refused_with slot_of backlog_of blank_of machine_of step_of config_accepted shaped_of distances_of spanned_of state_by fit_by sound_by sound_action reserved_map reserved_all offered_of geometry_of config_of checked_of setting_of capacity_of cell_of holds_of address_number_of all_closed marks_of row_of legal_of requirements R7 R12-open R13-open R14 R16 fresh_of open_in row_in open_rows aged_of ages_after sent_of carried_of empty_of accept_of stored_of remove_of shifted_of get_of request_at request_in kind_in blocked_of ready_of oldest_of counting.start_of counting.tick_of counting.refreshed_of counting.sound_counters level_of plan.quietly plan.outcome_of plan.tries plan.rest plan.after_pause plan.after_init_refresh plan.read_plan plan.write_plan plan.transfer_plan plan.access_plan plan.taken_plan plan.latency_plan plan.cycle_left plan.refresh_plan plan.plan_of plan.queue_after plan.counters_after choice.rules_of choice.choice_of choice.current_of ticked_of turn_of
examples = record { soundness = refl; configured = refl; reads = refl; writes = refl; room = refl; last = refl; steps = refl; batches = refl; batch_machine = refl; readings = refl }
