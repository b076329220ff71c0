use Rattle.packing.specs.Packing.{command_in}
use Rattle.tape.specs.Writing.{run_bytes, command_bytes}
use Rattle.tape_encoder.proofs.Slots.{no_nop, ends}
use Rattle.tape_encoder.proofs.Stores.{puts_both, room_first, room_left}
use Rattle.tape_encoder.proofs.Encoder.put_slot.Goals as goal

pub put_run-requires-2 : goal.put_run-requires-2
put_run-requires-2 c =
    let a = c.args in
    let e = ends a.pending (command_in a.slot.word) (no_nop _ a.slot.packs c.if-slot-eq0.false) in
    room_first (run_bytes a.pending) (command_bytes (command_in a.slot.word)) (rw e at c.requires)

pub put_command-requires : goal.put_command-requires
put_command-requires c =
    let a = c.args in
    let n = c.if-slot-eq0.false in
    let e = ends a.pending (command_in a.slot.word) (no_nop _ a.slot.packs n) in
    (n, room_left (run_bytes a.pending) (command_bytes (command_in a.slot.word)) (rw e at c.requires) c.put_run-2.ensures)

pub returns : goal.returns
returns c =
    let a = c.args in
    let e = ends a.pending (command_in a.slot.word) (no_nop _ a.slot.packs c.if-slot-eq0.false) in
    rw e (puts_both (run_bytes a.pending) (command_bytes (command_in a.slot.word)) c.put_run-2.ensures c.put_command.ensures)
