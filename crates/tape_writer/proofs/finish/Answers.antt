use Prim.Native.Nat.{ℕ, ◌≤◌}
use mathlib.Core.Path.{◌≡◌}
use native.Mathlib.Omega.{arith}
use lib.ListN.{length, length-append, length-map}
use Rattle.tape.specs.Writing.{run_bytes}
use Rattle.packing.specs.Packing.{command_in}
use Rattle.tape_writer.specs.Writer.{slots_in}
use Rattle.tape_encoder.proofs.Slots.{short_run}
use Rattle.tape_encoder.proofs.Stores.{room_left}
use Rattle.tape_writer.proofs.Passes.{of_row, measured_all, piece_short}
use Rattle.tape_writer.proofs.finish.Goals as goal

-- a run's record has three bytes at most
few : (n : ℕ) {m : ℕ} → m ≡ length (run_bytes n) → m ≤ 3
few n e = rw e (short_run n)

pub overflow_add-length : goal.overflow_add-length
overflow_add-length c =
    let a = c.args in
    let m = measured_all a.pending a.words.now c.measure.ensures c.in_ok-found.was in
    record { fits = omega (arith, m.1, few _ c.run_length.ensures, piece_short a.pending (slots_in a.words.now), short_run a.pending, length-map a.words.now command_in, c.well_formed) }

pub fill-requires : goal.fill-requires
fill-requires c =
    let a = c.args in
    let m = measured_all a.pending a.words.now c.measure.ensures c.in_ok-found.was in
    (m.0, record { fits = omega (arith, m.1, c.if-tape-length.false) })

pub put_run-requires : goal.put_run-requires
put_run-requires c =
    let a = c.args in
    let m = measured_all a.pending a.words.now c.measure.ensures c.in_ok-found.was in
    let bytes = (of_row a.pending a.words.now).bytes in
    let run = run_bytes c.in_ok-found.found.pending in
    room_left bytes run (record { fits = omega (arith, m.1, c.run_length.ensures, length-append bytes run, c.if-tape-length.false) }) c.fill.ensures
