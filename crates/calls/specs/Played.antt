-- What playing a call gives: the machine that the call gives back, and the line of its answer (REPLAY.md).
use Rattle.std.specs.Prelude.{ℕ}
use Rattle.address.specs.declared.Cell.{Cell}
use Rattle.standalone.specs.Standalone.{ToCell, ToAddress, to_cell_of, to_address_of}
use Rattle.queue.specs.declared.Kind.{Kind}
use Rattle.queue.specs.declared.Kind.TheVariants.{Read, Write}
use Rattle.sequencer.specs.declared.Machine.{Machine}
use Rattle.sequencer.specs.Answers.{Reading, Slot, Requested, Configured}
use Rattle.sequencer.specs.Calls.{configure_of, request_of, slot_of, backlog_of}
use Rattle.answer.specs.declared.Answer.{Answer}
use Rattle.answer.specs.declared.Answer.TheVariants as line
use Rattle.answer.specs.Output.{answer_line}
use Rattle.calls.specs.declared.Played.{Played}

unfoldable pub played_of : Machine → Answer → Played
played_of m a = record { machine = m; text = answer_line a }

unfoldable pub config_played : ℕ → ℕ → ℕ → ℕ → Played
config_played cfg row ref tim = let r : Configured = configure_of cfg row ref tim in played_of r.machine (line.Config r.number)

-- a request's line names its kind
abbrev pub request_line : Kind → ℕ → ℕ → Answer
request_line Read number request = line.Read number request
request_line Write number request = line.Write number request

unfoldable pub request_played : Machine → Kind → ℕ → ℕ → Played
request_played m kind address halfword =
    let r : Requested = request_of m kind address halfword in played_of r.machine (request_line kind r.number r.request)

unfoldable pub slot_played : Machine → ℕ → Played
slot_played m bus = let r : Slot = slot_of m bus in played_of r.machine (line.Slot r.number r.command r.report)

-- a reading call and the standalone map leave the machine
unfoldable pub backlog_played : Machine → Played
backlog_played m = let r : Reading = backlog_of m in played_of m (line.Backlog r.number r.backlog)

unfoldable pub cell_played : Machine → ℕ → ℕ → ℕ → Played
cell_played m cfg row address = let r : ToCell = to_cell_of cfg row address in played_of m (line.Cell r.number r.cell)

unfoldable pub address_played : Machine → ℕ → ℕ → Cell → Played
address_played m cfg row cell = let r : ToAddress = to_address_of cfg row cell in played_of m (line.Address r.number r.address)
