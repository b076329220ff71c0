-- The invariant: there is room for the records that are left, and with them the tape is the one with all records.
use native.Mathlib.Numerals.{add-one}
use Rattle.tape_encoder.proofs.Stores.{puts_both, puts_none, room_first, room_left}
use Rattle.tape_writer.proofs.Passes.{now_slot, later_bytes, bytes_next, bytes_end, packs_next}
use Rattle.tape_writer.proofs.fill.Goals as goal

pub invariant_of-slot : goal.invariant_of-slot
invariant_of-slot c = let l = c.loop-word in record { packs = (packs_next c.args.words.now l.word-index l.open c.loop-word-test.true l.invariant.0).0 }

pub put_slot-requires : goal.put_slot-requires
put_slot-requires c =
    let l = c.loop-word in
    let w = c.args.words.now in
    let here = c.loop-word-test.true in
    room_first (now_slot w l.word-index l.open here).bytes (later_bytes w l.word-index l.open here) (rw (bytes_next w l.word-index l.open here) at l.invariant.1)

pub loop-word-preserved : goal.loop-word-preserved
loop-word-preserved c =
    let l = c.loop-word in
    let w = c.args.words.now in
    let here = c.loop-word-test.true in
    let slot = (now_slot w l.word-index l.open here).bytes in
    let later = later_bytes w l.word-index l.open here in
    let next = bytes_next w l.word-index l.open here in
    let n = c.pending_after-open.ensures in (
      rw add-one (packs_next w l.word-index l.open here l.invariant.0).1,
      rw (n, add-one) (room_left slot later (rw next at l.invariant.1) c.put_slot.ensures),
      λ after p. l.invariant.2 after (rw next (puts_both slot later c.put_slot.ensures (rw (n, add-one) at p))),
    )

pub returns : goal.returns
returns c =
    let l = c.loop-word in
    l.invariant.2 l.encoder (rw (bytes_end c.args.words.now l.word-index l.open c.loop-word-test.false) (puts_none l.encoder))
