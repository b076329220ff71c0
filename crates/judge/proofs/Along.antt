-- What the judge keeps as it goes through a tape: the stamps agree with the log of a plain SDRAM that was fed the slots so far, and the rest of the tape, from that log on,
-- gives what the whole tape gives.
use Prim.Native.Nat.{ℕ, zero, suc, ◌+◌, ◌*◌, ◌-◌, ◌^◌, ◌≤◌, ◌<◌}
use mathlib.Core.Path.{◌≡◌, refl, sym, ap, subst, ◌∙◌}
use mathlib.Core.Bool.{true, false}
use mathlib.Core.List.{List, ◌∷◌, ◌++◌}
use native.Mathlib.Omega.{arith}
use lib.ListN.{length, replicate}
use Rattle.std.specs.Prelude.{Option, Some, None}
use Rattle.config.specs.declared.Config.{Config}
use Rattle.config.specs.Accepted.{Accepted}
use Rattle.command.specs.declared.Command.{Command}
use Rattle.command.specs.declared.Command.TheVariants.{Nop}
use Rattle.device.specs.Rules.{requirements, legal_of}
use Rattle.device.specs.History.{Log, start_log, by_history, allowed, fed}
use Rattle.device.proofs.Tests.{by_test}
use Rattle.device.proofs.Follows.{fed_now}
use Rattle.device.proofs.Alike.{requirements_read}
use Rattle.tape.specs.Reading.{Answer, end, command, run, refusal, answer_of, Step, step_of, slots_of, goes_on, Contents, contents_of}
use Rattle.tape.proofs.Steps.{steps}
use Rattle.tape.specs.declared.Item.{Item}
use Rattle.tape_decoder.specs.declared.Found.{Found}
use Rattle.tape_decoder.specs.Decoder.{step_in}
use Rattle.tape_scan.proofs.Scans.{rest, goes, stops}
use Rattle.stamps.specs.Stamps.{clock_of, slot_of, no_stamps, by_stamps, stamped_of}
use Rattle.stamps.proofs.Agree.{Agrees, alike, same_verdict, agrees_none, agrees_sent, agrees_nop}
use Rattle.violation.specs.Violation.{violation_of}
use Rattle.tape_cursor.specs.declared.Cursor.{Cursor}
use Rattle.tape_cursor.specs.Taken.{Taken, taken_as, taken_by, taken_of}
use Rattle.judge.specs.Judge.{Verdict, said_of, first_illegal, refused_or, judged_of, longest}
use Rattle.judge.specs.Halted.{illegal_by, halted_at, Halts}

-- the rest of a tape from a log on
abbrev judged_from : Config → Log → Contents → Verdict
judged_from c g t = refused_or t.last (first_illegal c g t.slots)

pub record Along (c : Config) (tape l : List ℕ) (now : ℕ) (p : Cursor) : Type 0 where
  pub log : Log
  pub agrees : Agrees l log
  pub clock : now ≡ clock_of log.now
  pub within : p.at ≤ length tape
  pub bounded : now ≤ 32 + 65535 * p.at
  pub same : judged_from c log (rest tape p.at p.before) ≡ judged_of c (contents_of tape)
  pub ends : (rest tape p.at p.before).last ≡ (contents_of tape).last

-- so the clock is far from its end
pub room : {c : Config} {tape l : List ℕ} {now : ℕ} {p : Cursor} → length tape ≤ longest → Along c tape l now p → now < 2 ^ 62
room n a = omega (arith, a.within, a.bounded)

pub along_start : (c : Config) (tape : List ℕ) → Along c tape no_stamps 32 (record { at = 0; before = 0 })
unfolding start_log
along_start c tape = record {
  log = start_log;
  agrees = agrees_none;
  clock = refl;
  within = omega arith;
  bounded = omega arith;
  same = refl;
  ends = refl;
}

-- A run of NOPs: the SDRAM takes each.

nops_fed : Config → ℕ → Log → Log
nops_fed c zero g = g
nops_fed c (suc n) g = nops_fed c n (fed c g Nop)

skip_nops : (c : Config) (n : ℕ) (g : Log) (later : List Command) → first_illegal c g (replicate n Nop ++ later) ≡ first_illegal c (nops_fed c n g) later
unfolding first_illegal legal_of requirements nops_fed
skip_nops c zero g later = refl
skip_nops c (suc n) g later = skip_nops c n (fed c g Nop) later

agrees_nops : (c : Config) (n : ℕ) {l : List ℕ} {g : Log} → Agrees l g → Agrees l (nops_fed c n g)
unfolding nops_fed
agrees_nops c zero a = a
agrees_nops c (suc n) a = agrees_nops c n (agrees_nop c a)

now_nops : (c : Config) (n : ℕ) (g : Log) → (nops_fed c n g).now ≡ n + g.now
unfolding nops_fed fed
now_nops c zero g = omega arith
now_nops c (suc n) g = now_nops c n (fed c g Nop) ∙ omega arith

-- One record. What follows it is the rest of the tape from where it leads.

abbrev later : List ℕ → ℕ → ℕ → Contents
later tape at before = rest tape (step_of tape at before).at (step_of tape at before).before

-- a record that is read, before what follows it
read_on : (tape : List ℕ) (at before : ℕ) (x : Answer) → (step_of tape at before).answer ≡ x → goes_on x ≡ true
    → rest tape at before ≡ record { slots = slots_of x ++ (later tape at before).slots; last = (later tape at before).last }
read_on tape at before x e g =
    goes tape at before (ap goes_on e ∙ g)
    ∙ ap {B = Contents} (λ y. record { slots = slots_of y ++ (later tape at before).slots; last = (later tape at before).last }) e

module _ {c : Config} {tape l : List ℕ} {now : ℕ} {p : Cursor} (n : Accepted c) (a : Along c tape l now p) where
  along_run : (count : ℕ) → (step_of tape p.at p.before).answer ≡ run count → count ≤ 65535
      → Along c tape l (now + count) (record { at = (step_of tape p.at p.before).at; before = (step_of tape p.at p.before).before })
  along_run count e m =
      let t = read_on tape p.at p.before (run count) e refl in
      let w = steps.progress tape p.at p.before (ap goes_on e) in
      record {
        log = nops_fed c count a.log;
        agrees = agrees_nops c count a.agrees;
        clock = omega (arith, a.clock, now_nops c count a.log);
        within = w.1;
        bounded = omega (arith, a.bounded, w.0);
        same = ap (refused_or (later tape p.at p.before).last) (sym (skip_nops c count a.log (later tape p.at p.before).slots)) ∙ sym (ap (judged_from c a.log) t) ∙ a.same;
        ends = sym (ap (λ (x : Contents). x.last) t) ∙ a.ends;
      }

  along_sent : (k : Command) → (step_of tape p.at p.before).answer ≡ command k → legal_of c (by_stamps c l now) k ≡ true
      → Along c tape (stamped_of now k l) (now + 1) (record { at = (step_of tape p.at p.before).at; before = (step_of tape p.at p.before).before })
  unfolding first_illegal
  along_sent k e y =
      let t = read_on tape p.at p.before (command k) e refl in
      let w = steps.progress tape p.at p.before (ap goes_on e) in
      let ok : allowed c a.log k ≡ true = sym (same_verdict n a.agrees k) ∙ rw (← a.clock) y in
      let sent : first_illegal c a.log (k ∷ (later tape p.at p.before).slots) ≡ first_illegal c (fed c a.log k) (later tape p.at p.before).slots = rw ok in
      record {
        log = fed c a.log k;
        agrees = rw a.clock (agrees_sent c a.agrees k ok);
        clock = omega (arith, a.clock, fed_now c a.log k);
        within = w.1;
        bounded = omega (arith, a.bounded, w.0);
        same = ap (refused_or (later tape p.at p.before).last) (sym sent) ∙ sym (ap (judged_from c a.log) t) ∙ a.same;
        ends = sym (ap (λ (x : Contents). x.last) t) ∙ a.ends;
      }

  -- A judge that has halted knows what is said of the tape.

  -- the row that a command breaks is the same by the stamps and by the history
  same_violation : (k : Command) → violation_of (requirements c (by_stamps c l now) k) ≡ violation_of (requirements c (by_history c a.log) k)
  unfolding violation_of
  same_violation k = rw a.clock (requirements_read (alike n a.agrees) violation_of (λ x xs ys h. rw h) c n.shaped k)

  -- the tape ends here
  over : (x : Answer) → (step_of tape p.at p.before).answer ≡ x → goes_on x ≡ false → judged_of c (contents_of tape) ≡ refused_or x (said_of 0)
  unfolding first_illegal
  over x e g = sym a.same ∙ ap (judged_from c a.log) (stops tape p.at p.before (ap goes_on e ∙ g)) ∙ ap (λ (y : Answer). refused_or y (said_of 0)) e

  -- a command is not legal
  broken : (k : Command) → (step_of tape p.at p.before).answer ≡ command k → legal_of c (by_stamps c l now) k ≡ false
      → judged_of c (contents_of tape) ≡ illegal_by c l now k (contents_of tape).last
  unfolding first_illegal illegal_by
  broken k e y =
      let t = read_on tape p.at p.before (command k) e refl in
      let no : allowed c a.log k ≡ false = sym (same_verdict n a.agrees k) ∙ rw (← a.clock) y in
      let slot : a.log.now ≡ slot_of now = omega (arith, a.clock) in
      let ends : (later tape p.at p.before).last ≡ (contents_of tape).last = sym (ap (λ (x : Contents). x.last) t) ∙ a.ends in
      sym a.same ∙ ap (judged_from c a.log) t ∙ rw (no, ends, ← same_violation k, slot)

  halted_is : (x : Answer) → (step_of tape p.at p.before).answer ≡ x → Halts c l now x → judged_of c (contents_of tape) ≡ halted_at c l now x (contents_of tape).last
  unfolding halted_at
  halted_is end e h = over end e refl
  halted_is (command k) e h = broken k e h
  halted_is (run count) e h = absurd h
  halted_is (refusal number place) e h = over (refusal number place) e refl

  -- What is known after a record: on a judge that halts what is said, and of one that goes on that it keeps on, nearer to the end.

  pub record Halted (m : List ℕ) (late : ℕ) : Type 0 where
    pub said : judged_of c (contents_of tape) ≡ halted_at c m late (step_of tape p.at p.before).answer (contents_of tape).last
    pub halts : Halts c m late (step_of tape p.at p.before).answer
    pub started : 31 < late
    pub bounded : late ≤ 32 + 65535 * length tape

  pub record Onward (m : List ℕ) (late : ℕ) (r : Cursor) : Type 0 where
    pub along : Along c tape m late r
    pub nearer : length tape - r.at < length tape - p.at

  abbrev pub After : Option Cursor → List ℕ → ℕ → Type 0
  After None m late = Halted m late
  After (Some r) m late = Onward m late r

  halted_here : (x : Answer) → (step_of tape p.at p.before).answer ≡ x → Halts c l now x → Halted l now
  halted_here x e h =
      record {
        said = rw e (halted_is x e h);
        halts = rw e h;
        started = omega (arith, a.clock, a.agrees.started);
        bounded = omega (arith, a.within, a.bounded);
      }

  nearer_here : (x : Answer) → (step_of tape p.at p.before).answer ≡ x → goes_on x ≡ true → length tape - (step_of tape p.at p.before).at < length tape - p.at
  nearer_here x e g = let w = steps.progress tape p.at p.before (ap goes_on e ∙ g) in omega arith

  pub after : (r : Option Cursor) (m : List ℕ) (late : ℕ) → taken_as r m late ≡ taken_of c l now p (step_of tape p.at p.before) → late ≤ now + 65535 → After r m late
  unfolding taken_by
  after r m late e b = subst (λ (t : Taken). After t.cursor t.last t.clock) (sym e) (go (step_of tape p.at p.before).answer refl (rw (ap (λ (t : Taken). t.clock) e) at b))
    where
      go : (x : Answer) → (step_of tape p.at p.before).answer ≡ x
          → (taken_by c l now p (step_of tape p.at p.before) x).clock ≤ now + 65535
          → After (taken_by c l now p (step_of tape p.at p.before) x).cursor (taken_by c l now p (step_of tape p.at p.before) x).last (taken_by c l now p (step_of tape p.at p.before) x).clock
      go end f h = halted_here end f tt
      go (command k) f h = by_test (legal_of c (by_stamps c l now) k)
          (λ y. rw y (record { along = along_sent k f y; nearer = nearer_here (command k) f refl }))
          (λ y. rw y (halted_here (command k) f y))
      go (run count) f h = record { along = along_run count f (omega arith); nearer = nearer_here (run count) f refl }
      go (refusal number place) f h = halted_here (refusal number place) f tt

-- what is said there, by what the decoder found
pub found_as : (c : Config) (l : List ℕ) (clock : ℕ) (whole : Answer) (v : Verdict) (s : Step) (f : Found) (i : Item)
    → v ≡ halted_at c l clock s.answer whole → step_in f ≡ s → f.item ≡ i → halted_at c l clock (answer_of i) whole ≡ v
found_as c l clock whole v s f i e r t = sym (e ∙ ap (λ (x : Answer). halted_at c l clock x whole) (ap (λ (x : Step). x.answer) (sym r) ∙ ap answer_of t))
