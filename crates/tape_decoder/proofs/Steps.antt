-- A step of the format (crate `tape`, specs/Reading.antt) at each outcome, in the terms of places of the tape.
use Prim.Native.Nat.{ℕ, zero, suc, ◌+◌, ◌*◌, ◌-◌, ◌<◌, ◌≤◌}
use native.Mathlib.Omega.{arith}
use mathlib.Core.Path.{◌≡◌, refl, ap, ◌∙◌}
use mathlib.Core.List.{List}
use mathlib.Core.Bool.{Bool, true, false, cond}
use lib.Dec.{lit≤, eqb}
use lib.ListN.{length, get_or, drop, length-drop, drop_of_length-le}
use lib.Seq.{drop-cons, get_or-drop}
use borrow.Author.Tests.{lt-ltb, le-ltb, eq-eqb, ne_eqb}
use Rattle.tape.specs.Reading.{end, command, run, refusal, body_length, command_of, wrong_run, record_number, Step, record_at, kind_at, rest_at, step_of}
use Rattle.tape_decoder.specs.Shapes.{run_step, Whole}

-- the bodies of kinds that are known by bounds

pub bank_body : {kind : ℕ} → 1 ≤ kind → kind ≤ 4 → 1 ≤ body_length kind
unfolding body_length
bank_body {kind = zero} l h = omega arith
bank_body {kind = suc zero} l h = lit≤ tt
bank_body {kind = suc (suc zero)} l h = lit≤ tt
bank_body {kind = suc (suc (suc zero))} l h = lit≤ tt
bank_body {kind = suc (suc (suc (suc zero)))} l h = lit≤ tt
bank_body {kind = suc (suc (suc (suc (suc n))))} l h = omega arith

pub low_body : {kind : ℕ} → 1 ≤ kind → kind ≤ 3 → 3 ≤ body_length kind
unfolding body_length
low_body {kind = zero} l h = omega arith
low_body {kind = suc zero} l h = lit≤ tt
low_body {kind = suc (suc zero)} l h = lit≤ tt
low_body {kind = suc (suc (suc zero))} l h = lit≤ tt
low_body {kind = suc (suc (suc (suc n)))} l h = omega arith

pub no_body : {kind : ℕ} → 4 < kind → (kind ≡ 7 → ⊥) → body_length kind ≡ 0
unfolding body_length
no_body {kind = zero} h n = omega arith
no_body {kind = suc zero} h n = omega arith
no_body {kind = suc (suc zero)} h n = omega arith
no_body {kind = suc (suc (suc zero))} h n = omega arith
no_body {kind = suc (suc (suc (suc zero)))} h n = omega arith
no_body {kind = suc (suc (suc (suc (suc zero))))} h n = refl
no_body {kind = suc (suc (suc (suc (suc (suc zero)))))} h n = refl
no_body {kind = suc (suc (suc (suc (suc (suc (suc zero))))))} h n = absurd (n refl)
no_body {kind = suc (suc (suc (suc (suc (suc (suc (suc k)))))))} h n = refl

-- what follows a kind

rest_length : (tape : List ℕ) (at : ℕ) → length (drop (suc at) tape) ≡ length tape - at - 1
rest_length tape at = simp length-drop (omega arith)

pub rest_at_lem : (tape : List ℕ) (at i : ℕ) → get_or (drop (suc at) tape) i 0 ≡ get_or tape (at + suc i) 0
rest_at_lem tape at i = rw get_or-drop (ap (λ (n : ℕ). get_or tape n 0) (omega arith))

-- a step, by what is known of its place

pub end_here : (tape : List ℕ) (at before : ℕ) → length tape ≤ at → step_of tape at before ≡ record { answer = end; at = at; before = before }
unfolding step_of rest_at
end_here tape at before h = rw (drop_of_length-le tape h)

module _ (tape : List ℕ) (at before : ℕ) (here : at < length tape) where
  kind_here : step_of tape at before ≡ kind_at at before (get_or tape at 0) (drop (suc at) tape)
  unfolding step_of rest_at
  kind_here = rw (drop-cons tape at 0 here)

  pub refused_kind : 7 < get_or tape at 0 → step_of tape at before ≡ record { answer = refusal 11 at; at = at; before = before }
  unfolding kind_at record_number
  refused_kind k = kind_here ∙ simp (lt-ltb _ _ k)

  pub refused_cut : get_or tape at 0 ≤ 7 → length tape - at - 1 < body_length (get_or tape at 0) → step_of tape at before ≡ record { answer = refusal 12 at; at = at; before = before }
  unfolding kind_at record_number
  refused_cut k l = kind_here ∙ simp (le-ltb _ _ k, rest_length, lt-ltb _ _ l)

-- a run with the number 13 or with none
picked : (b : Bool) (at before count : ℕ)
    → ◌≡◌ {A = Step} (cond (eqb (cond b 13 0) 0) (record { answer = run count; at = at + 3; before = count }) (record { answer = refusal (cond b 13 0) at; at = at; before = before }))
    (cond b (record { answer = refusal 13 at; at = at; before = before }) (record { answer = run count; at = at + 3; before = count }))
picked true at before count = refl
picked false at before count = refl

module _ {tape : List ℕ} {at kind : ℕ} (w : Whole tape at kind) (before : ℕ) where
  pub run_here : kind < 1 → step_of tape at before ≡ run_step at before (get_or tape (at + 1) 0 + 256 * get_or tape (at + 2) 0)
  unfolding kind_at record_number record_at run_step
  run_here k =
      let z : kind ≡ 0 = omega arith in
      kind_here tape at before w.here ∙ simp (← w.is, le-ltb _ _ w.known, rest_length, le-ltb _ _ w.whole, eq-eqb _ _ z, rest_at_lem) (picked (wrong_run before _) at before _)

  pub command_here : (k : ℕ) → kind ≡ suc k
      → step_of tape at before ≡ record { answer = command (command_of (suc k) (drop (suc at) tape)); at = at + suc (body_length (suc k)); before = 0 }
  unfolding kind_at record_number record_at
  command_here k e =
      let z : kind ≡ 0 → ⊥ = λ q. omega arith in
      kind_here tape at before w.here ∙ simp (← w.is, le-ltb _ _ w.known, rest_length, le-ltb _ _ w.whole, ne_eqb _ _ z) (simp e)
