-- What is written fits behind the bytes that wait.
use Rattle.std.proofs.Common.{ℕ, ◌+◌, ◌-◌, ◌≡◌, ◌≤◌, ◌∙◌, ap, List, [], length, length-drop, drop, arith}
use Rattle.std.proofs.lemmas.List.{drop_all}
use Rattle.output.specs.Waiting.{kept_of}
use Rattle.output.proofs.Laws.{kept_room}
use Rattle.recording.specs.Recording.{Lent}
use Rattle.recording.proofs.Laws.{added_bytes, added_pending, more_length, more_bytes, more_pending, kept_within, no_longer}
use Rattle.recording.proofs.add.Goals as goal

pub overflow_add-output : goal.overflow_add-output
overflow_add-output g c = let e = no_longer c.extend.result _ _ _ _ _ c.unwrap_or-more.ensures c.extend.ensures in omega arith

pub returns-clause-behind : goal.returns-clause-behind
returns-clause-behind g c =
    let a = c.args in
    let held = a.output.now.waiting in
    let m = c.min-waiting in
    let u = c.unwrap_or-more.ensures in
    let e = c.extend.ensures in
    let r = c.make_room.ensures in
    let buffer : List ℕ = c.make_room.new.self.buffer.now in
    record {
      place = m.result;
      kept = λ f.
          let w : c.make_room.new.self.waiting ≡ kept_of held 24579 (length buffer) = rw r.kept (r.roomy.kept f) in
          let same : m.result ≡ c.make_room.new.self.waiting = omega (arith, kept_within held 24579 (length buffer), w, m.ensures) in
          let k : m.result ≡ kept_of held 24579 (length buffer) = same ∙ w in
          rw (← r.kept) k;
      waiting = rw (← r.kept) (ap (λ k. m.result + k) (more_length a.pending _ m.result a.words.now buffer _ c.extend.result u e));
      bytes =
          let none = drop_all (length buffer - m.result) (drop m.result buffer) (omega (arith, length-drop m.result buffer)) in
          rw (← r.kept) (more_bytes a.pending _ m.result a.words.now buffer _ c.extend.result u e _ none);
      pending = rw (← r.kept) (more_pending a.pending _ m.result a.words.now buffer _ c.extend.result u e u);
    }

pub returns-clause-added : goal.returns-clause-added
returns-clause-added g c =
    λ l f.
    let a = c.args in
    let held = a.output.now.waiting in
    let m = c.min-waiting in
    let u = c.unwrap_or-more.ensures in
    let e = c.extend.ensures in
    let r = c.make_room.ensures in
    let buffer : List ℕ = c.make_room.new.self.buffer.now in
    let room : 24579 ≤ length buffer = rw r.kept l.room in
    let w : c.make_room.new.self.waiting ≡ kept_of held 24579 (length buffer) = rw r.kept (r.roomy.kept f) in
    let same : m.result ≡ c.make_room.new.self.waiting =
    omega (arith, kept_room held 24579 (length buffer) room, w, m.ensures) in
    let k = same ∙ w in
    let lent : Lent a.words.now buffer = record { pack = l.pack; few = l.few; room = room } in
    record {
      waiting = rw (← r.kept) (added_bytes held a.pending m.result a.words.now buffer _ _ lent k c.extend.result u e);
      pending = added_pending held a.pending m.result a.words.now buffer c.extend.new.tape [] lent k c.extend.result u e;
    }
