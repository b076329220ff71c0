use native.Mathlib.Omega.{arith}
use Rattle.tape.specs.Writing.{run_bytes}
use Rattle.tape_encoder.proofs.Slots.{some_run}
use Rattle.tape_encoder.proofs.Stores.{room_for}
use Rattle.tape_encoder.proofs.Encoder.put_run.Goals as goal

pub put_pair-requires : goal.put_pair-requires
put_pair-requires c = room_for (run_bytes c.args.run) _ _ c.requires (rw (some_run _ c.if-run-eq0.false) (omega arith)) c.put_byte.ensures
