-- Written tapes are read back, and accepted tapes are written ones (`Tapes` of Laws.antt).
use Prim.Native.Nat.{ℕ, zero, suc, ◌+◌, ◌*◌, ◌/◌, ◌%◌, ◌≤◌, ◌<◌}
use mathlib.Core.Path.{◌≡◌, refl, sym, ap, ◌∙◌}
use mathlib.Core.Bool.{false, true≢false}
use mathlib.Core.List.{List, [], ◌∷◌, ◌++◌}
use native.Mathlib.Omega.{arith}
use lib.ListN.{length, drop, length-append, drop_of_length-le}
use lib.Seq.{get_or-drop, drop-drop, drop-append_seam}
use Rattle.command.specs.declared.Command.{Command}
use Rattle.command.specs.declared.Command.TheVariants.{Nop, Act, Read, Wrt, Pre, Deac, Refr, Mrs}
use Rattle.packing.specs.Laws.{FitsCommand}
use Rattle.tape.specs.Writing.{pair_of, command_bytes, is_nop, tape_of}
use Rattle.tape.specs.Reading.{end, Step, rest_at, step_of, Contents, contents_from, contents_of, followed}
use Rattle.tape.specs.Laws.{Bytes, Fit, Accepted, Tapes}
use Rattle.tape.proofs.Records.{never, Spelt, act, read, wrt, pre, deac, refr, mrs, spelt_some, command_read, run_read, Found, ended, refused, ran, commanded, found}
use Rattle.tape.proofs.Steps.{ends}
use Rattle.tape.proofs.Formed.{Formed, none, one, nops, written, told, Small, bytes_small, small_bytes, formed_small}

-- The bytes that are written for a command are its record, and bytes that are its record are written for it.

pair_back : (n : ℕ) → n % 256 + 256 * (n / 256) ≡ n
pair_back n = omega arith

written_spelt : (k : Command) → is_nop k ≡ false → Spelt (command_bytes k) k
unfolding command_bytes
written_spelt Nop e = absurd (true≢false e)
written_spelt (Act b r) e = act (pair_back r.0)
written_spelt (Read b k) e = read (pair_back k.0)
written_spelt (Wrt b k h) e = wrt (pair_back k.0) (pair_back h)
written_spelt (Pre b) e = pre
written_spelt Deac e = deac
written_spelt Refr e = refr
written_spelt (Mrs w) e = mrs (pair_back w)

pair_is : (low high n : ℕ) → low < 256 → low + 256 * high ≡ n → (n % 256 ≡ low) × (n / 256 ≡ high)
pair_is low high n l e = (omega arith, omega arith)

record Written (bytes : List ℕ) (k : Command) : Type 0 where
  fits : FitsCommand k
  other : is_nop k ≡ false
  same : command_bytes k ≡ bytes

spelt_written : {bytes : List ℕ} {k : Command} → Spelt bytes k → (rest : List ℕ) → Small (bytes ++ rest) → Written bytes k
unfolding command_bytes
spelt_written (act {r} {low} {high} e) rest s =
    let p = pair_is low high r.0 (omega arith) e in
    record { fits = (omega arith, omega arith); other = refl; same = rw (p.0, p.1) }
spelt_written (read {k} {low} {high} e) rest s =
    let p = pair_is low high k.0 (omega arith) e in
    record { fits = (omega arith, omega arith); other = refl; same = rw (p.0, p.1) }
spelt_written (wrt {k} {h} {low} {high} {low'} {high'} e f) rest s =
    let p = pair_is low high k.0 (omega arith) e in
    let q = pair_is low' high' h (omega arith) f in
    record { fits = (omega arith, omega arith, omega arith); other = refl; same = rw (p.0, p.1, q.0, q.1) }
spelt_written pre rest s = record { fits = omega arith; other = refl; same = refl }
spelt_written deac rest s = record { fits = tt; other = refl; same = refl }
spelt_written refr rest s = record { fits = tt; other = refl; same = refl }
spelt_written (mrs {w} {low} {high} e) rest s =
    let p = pair_is low high w (omega arith) e in
    record { fits = omega arith; other = refl; same = rw (p.0, p.1) }

-- A well-formed tape is read to its end, and a tape that is read to its end is well-formed.

-- the contents from a step on
abbrev after : ℕ → List ℕ → Step → Contents
after n tape s = followed s.answer (contents_from n tape s.at s.before)

-- what follows a record on the tape
dropped : (tape : List ℕ) (at : ℕ) (bytes rest : List ℕ) → drop at tape ≡ bytes ++ rest → drop (at + length bytes) tape ≡ rest
dropped tape at bytes rest e = rw (← drop-drop (length bytes) at tape, e) (drop-append_seam bytes rest)

formed_read : (fuel : ℕ) (tape : List ℕ) (at : ℕ) {before : ℕ} {left : List ℕ} {slots : List Command} → Formed before left slots
    → drop at tape ≡ left → length left ≤ fuel
    → contents_from fuel tape at before ≡ record { slots = slots; last = end }
unfolding contents_from step_of rest_at
formed_read zero tape at none e h = rw e
formed_read (suc n) tape at none e h = rw e
formed_read zero tape at (one k {rest} fits o later) e h =
    absurd (omega (arith, spelt_some (written_spelt k o), length-append (command_bytes k) rest))
formed_read (suc n) tape at {before} (one k {rest} fits o later) e h =
    let s = written_spelt k o in
    rw (
      e,
      command_read at before s rest,
      formed_read n tape (at + length (command_bytes k)) later (dropped tape at (command_bytes k) rest e)
          (omega (arith, spelt_some s, length-append (command_bytes k) rest)),
    )
formed_read zero tape at (nops n p l f later) e h = absurd (omega arith)
formed_read (suc m) tape at {before} (nops n {rest} p l f later) e h =
    rw (
      e,
      run_read at before _ _ n rest (pair_back n) p f,
      formed_read m tape (at + 3) later (dropped tape at (0 ∷ pair_of n) rest e) (omega arith),
    )

-- one step, with what holds from the next place on
step_formed : (n : ℕ) (tape : List ℕ) {at before : ℕ} {left : List ℕ} {s : Step}
    → ((at before : ℕ) → (contents_from n tape at before).last ≡ end → Formed before (drop at tape) (contents_from n tape at before).slots)
    → Found at before left s → drop at tape ≡ left → Small left
    → (after n tape s).last ≡ end
    → Formed before left (after n tape s).slots
step_formed n tape later ended e s l = none
step_formed n tape later (refused number p q f) e s l = never (cc)
step_formed n tape {at} {before} later (ran {low} {high} {n = count} rest c p f) e s l =
    let b = pair_is low high count (omega arith) c in
    let r = rw (dropped tape at (0 ∷ low ∷ high ∷ []) rest e) at (later (at + 3) count l) in
    rw (b.0, b.1) at (nops {before = before} count p (omega arith) f r)
step_formed n tape {at} {before} later (commanded {bytes} {k} rest t) e s l =
    let w = spelt_written t rest s in
    let r = rw (dropped tape at bytes rest e) at (later (at + length bytes) 0 l) in
    rw w.same at (one {before = before} k w.fits w.other r)

read_formed : (fuel : ℕ) (tape : List ℕ) (at before : ℕ) → Bytes tape → (contents_from fuel tape at before).last ≡ end
    → Formed before (drop at tape) (contents_from fuel tape at before).slots
unfolding contents_from step_of
read_formed zero tape at before b l = rw (drop_of_length-le tape ((ends tape at before).1 l)) none
read_formed (suc n) tape at before b l =
    step_formed n tape (λ at before l. read_formed n tape at before b l) (found at before (drop at tape)) refl
    (bytes_small (drop at tape) (λ i. rw get_or-drop (b (at + i)))) l

spelled : (tape : List ℕ) → Bytes tape → Accepted tape → Fit (contents_of tape).slots × (tape_of (contents_of tape).slots ≡ tape)
spelled tape b l = let t = told (read_formed (length tape) tape 0 0 b l) in (t.fit, t.same)

pub tapes : Tapes
tapes =
    record {
      returned = λ slots f.
          let w = written 0 0 slots (omega arith) (λ p. absurd (omega arith)) f in
          (small_bytes (tape_of slots) (formed_small w), formed_read (length (tape_of slots)) (tape_of slots) 0 w refl (omega arith));
      spelled = spelled;
      same = λ s t b c k l e. sym (spelled s b k).1 ∙ ap tape_of e ∙ (spelled t c l).1;
    }
