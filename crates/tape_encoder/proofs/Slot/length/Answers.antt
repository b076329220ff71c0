use lib.ListN.{length-append}
use Rattle.packing.specs.Packing.{command_in}
use Rattle.tape_encoder.proofs.Slots.{no_nop, ends}
use Rattle.tape_encoder.proofs.Slot.length.Goals as goal

pub returns : goal.returns
returns c =
    simp (ends c.args.pending (command_in c.args.self.word) (no_nop _ c.args.self.packs c.if-self-eq0.false), length-append, ← c.run_length.ensures, ← c.command_length.ensures)
