-- Slots that the tests let through have a geometry.
use Rattle.std.proofs.Common.{sym, ◌∙◌}
use Rattle.sequencer.proofs.Batch.{room_shows}
use Rattle.sequencer.proofs.Sound.{record_facts}
use Rattle.sequencer.proofs.Machine.slots.Goals as goal

pub run-requires-clause-shaped : goal.run-requires-clause-shaped
run-requires-clause-shaped c =
    let m = c.args.self in
    let shows = room_shows _ _ _ _ c.room-count.ensures in λ h. (record_facts m (sym (c.check_record-tested.ensures m.control.must) ∙ shows.0 h)).accepted.shaped
