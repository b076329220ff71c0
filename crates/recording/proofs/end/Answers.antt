-- What is written fits behind the bytes that wait.
use Rattle.std.proofs.Common.{ℕ, ◌≡◌, ◌≤◌, ◌∙◌, List, length, arith}
use Rattle.output.specs.Waiting.{kept_of}
use Rattle.output.proofs.Laws.{kept_room}
use Rattle.recording.proofs.Laws.{ended_bytes, no_longer_end}
use Rattle.recording.proofs.end.Goals as goal

pub overflow_add-output : goal.overflow_add-output
overflow_add-output g c = let e = no_longer_end c.finish.result _ _ _ _ c.unwrap_or-length.ensures c.finish.ensures in omega arith

pub returns-clause-ended : goal.returns-clause-ended
returns-clause-ended g c =
    λ full f.
    let a = c.args in
    let held = a.output.now.waiting in
    let m = c.min-waiting in
    let r = c.make_room.ensures in
    let buffer : List ℕ = c.make_room.new.self.buffer.now in
    let room : 24579 ≤ length buffer = rw r.kept full in
    let w : c.make_room.new.self.waiting ≡ kept_of held 24579 (length buffer) = rw r.kept (r.roomy.kept f) in
    let same : m.result ≡ c.make_room.new.self.waiting =
    omega (arith, kept_room held 24579 (length buffer) room, w, m.ensures) in
    let k = same ∙ w in
    rw (← r.kept) (ended_bytes held a.pending m.result buffer _ _ room k c.finish.result c.unwrap_or-length.ensures c.finish.ensures)
