-- A slot that the tests let through has a geometry.
use Rattle.std.proofs.Common.{sym, ◌∙◌}
use Rattle.sequencer.proofs.Sound.{record_facts}
use Rattle.sequencer.proofs.Machine.slot.Goals as goal

pub turn-turned-requires : goal.turn-turned-requires
turn-turned-requires c =
    let m = c.args.self in λ h. (record_facts m (sym (c.check_record-tested.ensures m.control.must) ∙ sym c.number_in.ensures ∙ h)).accepted.shaped
