-- What number 0 means: of the words a configuration that is accepted, and of a tape's scan no refusal.
use Prim.Native.Nat.{ℕ, zero, suc, ◌+◌, ◌%◌, ◌^◌, ◌<◌}
use mathlib.Core.Path.{◌≡◌, refl, sym, ap, ◌∙◌}
use mathlib.Core.List.{List}
use native.Mathlib.Omega.{arith}
use lib.ListN.{length}
use Rattle.config.specs.Setting.{Setting, setting_of}
use Rattle.config.specs.Accepted.{Accepted}
use Rattle.config.proofs.Laws.{accepted}
use Rattle.device.proofs.Tests.{if_both}
use Rattle.tape.specs.Reading.{Answer, end, command, run, refusal, step_of, goes_on, Contents, contents_from, contents_of}
use Rattle.tape.proofs.Steps.{steps}
use Rattle.tape_scan.specs.Scan.{stopped_of, scanned_of}
use Rattle.judge.specs.Judge.{Verdict, said_of, refused_or}

pub set_accepted : (cfg row ref tim : ℕ) (s : Setting) → s ≡ setting_of cfg row ref tim → s.number ≡ 0 → Accepted s.config
set_accepted cfg row ref tim s e z =
    let a = accepted cfg row ref tim (rw e at z) in
    rw (e ∙ a.0) a.1

-- no refusal has number 0
abbrev pub Numbered : Answer → Type 0
Numbered x = (number place : ℕ) → x ≡ refusal number place → 0 < number

numbered_step : (tape : List ℕ) (at before : ℕ) → Numbered (step_of tape at before).answer
numbered_step tape at before number place e = (steps.refused tape at before number place e).0

numbered_contents : (n : ℕ) (tape : List ℕ) (at before : ℕ) → Numbered (contents_from n tape at before).last
unfolding contents_from
numbered_contents zero tape at before = numbered_step tape at before
numbered_contents (suc n) tape at before =
    if_both (λ (t : Contents). Numbered t.last) (goes_on (step_of tape at before).answer)
    (λ g. numbered_contents n tape (step_of tape at before).at (step_of tape at before).before)
    (λ g. numbered_step tape at before)

pub numbered_tape : (tape : List ℕ) → Numbered (contents_of tape).last
numbered_tape tape = numbered_contents (length tape) tape 0 0

pub refused_as : (tape : List ℕ) (n : ℕ) (v : Verdict) → (scanned_of tape).number ≡ n → (n ≡ 0 → ⊥) → said_of n ≡ refused_or (contents_of tape).last v
unfolding stopped_of
refused_as tape n v e z = go (contents_of tape).last e
  where
    go : (x : Answer) → (stopped_of ((0 + length (contents_of tape).slots) % 2 ^ 64) x).number ≡ n → said_of n ≡ refused_or x v
    go end f = absurd (z (sym f))
    go (command k) f = absurd (z (sym f))
    go (run m) f = absurd (z (sym f))
    go (refusal number place) f = ap said_of (sym f)

pub passed_as : (tape : List ℕ) (v : Verdict) → (scanned_of tape).number ≡ 0 → v ≡ refused_or (contents_of tape).last v
unfolding stopped_of
passed_as tape v e = go (contents_of tape).last (numbered_tape tape) e
  where
    go : (x : Answer) → Numbered x → (stopped_of ((0 + length (contents_of tape).slots) % 2 ^ 64) x).number ≡ 0 → v ≡ refused_or x v
    go end q f = refl
    go (command k) q f = refl
    go (run m) q f = refl
    go (refusal number place) q f = absurd (let z = q number place refl in omega arith)
