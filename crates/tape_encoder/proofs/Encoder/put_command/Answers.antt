-- The room, by the length of the whole record.
use native.Mathlib.Omega.{arith}
use Rattle.packing.specs.Packing.{command_in}
use Rattle.tape.specs.Writing.{command_bytes}
use Rattle.tape_encoder.proofs.Slots.{mode_bytes, write_bytes, four_bytes, two_bytes}
use Rattle.tape_encoder.proofs.Stores.{puts_both, room_for}
use Rattle.tape_encoder.proofs.Encoder.put_command.Goals as goal

pub put_pair-requires : goal.put_pair-requires
put_pair-requires c =
    let s = c.args.slot in
    room_for (command_bytes (command_in s.word)) _ _ c.requires.1 (rw (mode_bytes s.word s.packs c.requires.0 c.if-kind-gt6.true) (omega arith)) c.put_byte.ensures

pub put_byte-requires-2 : goal.put_byte-requires-2
put_byte-requires-2 c =
    let s = c.args.slot in
    room_for (command_bytes (command_in s.word)) _ _ c.requires.1 (two_bytes s.word s.packs c.requires.0 c.if-kind-gt4.false) c.put_byte.ensures

pub put_pair-requires-2 : goal.put_pair-requires-2
put_pair-requires-2 c =
    let s = c.args.slot in
    let p = puts_both _ _ c.put_byte.ensures c.put_byte-2.ensures in
    room_for (command_bytes (command_in s.word)) _ _ c.requires.1 (four_bytes s.word s.packs c.requires.0 c.if-kind-gt3.false) p

pub put_pair-requires-3 : goal.put_pair-requires-3
put_pair-requires-3 c =
    let s = c.args.slot in
    let p = puts_both _ _ (puts_both _ _ c.put_byte.ensures c.put_byte-2.ensures) c.put_pair-2.ensures in
    room_for (command_bytes (command_in s.word)) _ _ c.requires.1 (rw (write_bytes s.word s.packs c.requires.0 c.if-kind-lt3.false c.if-kind-gt3.false) (omega arith)) p
