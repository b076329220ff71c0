-- The reader's steps (`Steps` of Laws.antt).
use Prim.Native.Nat.{ℕ, zero, suc, ◌+◌, ◌≤◌, ◌<◌}
use mathlib.Core.Path.{◌≡◌, refl, ap}
use mathlib.Core.Bool.{true, false, true≢false, false≢true}
use mathlib.Core.List.{List, ◌++◌, append_assoc}
use native.Mathlib.Nat.{add-zero, add_assoc}
use native.Mathlib.Numerals.{add-one}
use native.Mathlib.Omega.{arith}
use lib.Dec.{ltb}
use lib.ListN.{length, get_or, drop, length-append, length-drop, drop_of_length-le}
use lib.Seq.{get_or-drop, drop-drop, drop-append-le, drop-append-add}
use borrow.Author.Tests.{ltb-true, ltb-false}
use Rattle.device.proofs.Tests.{by_test}
use Rattle.command.specs.declared.Command.{Command}
use Rattle.tape.specs.Writing.{is_nop}
use Rattle.tape.specs.Reading.{end, command, run, refusal, record_number, Step, rest_at, step_of, goes_on, contents_from}
use Rattle.tape.specs.Laws.{moved_by, Steps}
use Rattle.tape.proofs.Records.{never, spelt_some, spelt_other, record_refused, command_read, run_read, Found, ended, refused, ran, commanded, found}

-- The laws on what is left of a tape.
module _ {at before : ℕ} where
  found_on : {left : List ℕ} {s : Step} → Found at before left s → goes_on s.answer ≡ true → (at < s.at) × (s.at ≤ at + length left)
  found_on ended g = absurd (false≢true g)
  found_on (refused number h r f) g = absurd (false≢true g)
  found_on (ran rest e p f) g = (omega arith, omega arith)
  found_on (commanded {bytes} rest k) g = (omega (arith, spelt_some k), omega (arith, length-append bytes rest))

  found_stays : {left : List ℕ} {s : Step} → Found at before left s → goes_on s.answer ≡ false → (s.at ≡ at) × (s.before ≡ before)
  found_stays ended g = (refl, refl)
  found_stays (refused number h r f) g = (refl, refl)
  found_stays (ran rest e p f) g = absurd (true≢false g)
  found_stays (commanded rest k) g = absurd (true≢false g)

  found_refused : (number place : ℕ) {left : List ℕ} {s : Step} → Found at before left s → s.answer ≡ refusal number place
      → (0 < number) × (number ≡ record_number before (get_or left 0 0) (drop 1 left)) × (place ≡ at)
  found_refused number place ended e = never (cc)
  found_refused number place (refused n h r f) e = let same : n ≡ number = cc in (omega arith, cc, cc)
  found_refused number place (ran rest _ p f) e = never (cc)
  found_refused number place (commanded rest k) e = never (cc)

  found_command : (k : Command) {left : List ℕ} {s : Step} → Found at before left s → s.answer ≡ command k → (s.before ≡ 0) × (is_nop k ≡ false)
  found_command k ended e = never (cc)
  found_command k (refused n h r f) e = never (cc)
  found_command k (ran rest _ p f) e = never (cc)
  found_command k (commanded rest t) e = (refl, cc (spelt_other t))

  found_run : (n : ℕ) {left : List ℕ} {s : Step} → Found at before left s → s.answer ≡ run n → (s.before ≡ n) × (0 < n)
  found_run n ended e = never (cc)
  found_run n (refused _ h r f) e = never (cc)
  found_run n (ran {n = count} rest _ p f) e =
      let same : count ≡ n = cc in
      (same, omega arith)
  found_run n (commanded rest k) e = never (cc)

  found_end : {left : List ℕ} {s : Step} → Found at before left s → s.answer ≡ end → length left ≡ 0
  found_end ended e = refl
  found_end (refused number h r f) e = never (cc)
  found_end (ran rest _ p f) e = never (cc)
  found_end (commanded rest k) e = never (cc)

  found_longer : (more : List ℕ) {left : List ℕ} {s : Step} → Found at before left s → (s.answer ≡ end → ⊥) → (s.answer ≡ refusal 12 at → ⊥)
      → rest_at at before (left ++ more) ≡ s
  unfolding rest_at
  found_longer more ended e c = absurd (e refl)
  found_longer more (refused number h r f) e c =
      record_refused at before _ _ number h (f more (λ z. c (ap (λ (n : ℕ). refusal n at) z)))
  found_longer more (ran rest e p f) _ c = run_read at before _ _ _ (rest ++ more) e p f
  found_longer more (commanded rest k) e c = rw append_assoc (command_read at before k (rest ++ more))

  found_moved : (n : ℕ) {left : List ℕ} {s : Step} → Found at before left s → rest_at (n + at) before left ≡ moved_by n s
  unfolding rest_at
  found_moved n ended = refl
  found_moved n (refused number h r f) = record_refused (n + at) before _ _ number h r
  found_moved n (ran rest e p f) = rw (← add_assoc n at 3) (run_read (n + at) before _ _ _ rest e p f)
  found_moved n (commanded {bytes} rest k) = rw (← add_assoc n at (length bytes)) (command_read (n + at) before k rest)

-- The laws on the whole tape.
module _ (tape : List ℕ) (at before : ℕ) where
  progress : goes_on (step_of tape at before).answer ≡ true → (at < (step_of tape at before).at) × ((step_of tape at before).at ≤ length tape)
  unfolding step_of
  progress g =
      let p = found_on (found at before (drop at tape)) g in
      (p.0, omega (arith, p.0, p.1, length-drop at tape))

  pub ends : (length tape ≤ at → (step_of tape at before).answer ≡ end) × ((step_of tape at before).answer ≡ end → length tape ≤ at)
  unfolding step_of rest_at
  ends = (
    λ h. rw (drop_of_length-le tape h),
    λ e. omega (arith, length-drop at tape, found_end (found at before (drop at tape)) e),
  )

  longer : (more : List ℕ) → ((step_of tape at before).answer ≡ end → ⊥) → ((step_of tape at before).answer ≡ refusal 12 at → ⊥)
      → step_of (tape ++ more) at before ≡ step_of tape at before
  unfolding step_of
  longer more e c =
      by_test (ltb at (length tape))
      (λ t. rw (drop-append-le at tape more (omega (arith, ltb-true))) (found_longer more (found at before (drop at tape)) e c))
      (λ t. absurd (e (ends.0 (ltb-false _ _ t))))

-- every record takes a byte at least, so there are enough of them
whole : (n : ℕ) (tape : List ℕ) (at before : ℕ) → length tape ≤ at + n → goes_on (contents_from n tape at before).last ≡ false
unfolding contents_from
whole zero tape at before h = rw ((ends tape at before).0 (omega arith))
whole (suc n) tape at before h =
    by_test (goes_on (step_of tape at before).answer)
    (λ g. rw g (whole n tape (step_of tape at before).at (step_of tape at before).before (omega (arith, (progress tape at before g).0))))
    (λ g. rw g g)

-- and the contents are the same for any numbers of records that are enough
enough : (m n : ℕ) (tape : List ℕ) (at before : ℕ) → length tape ≤ at + m → length tape ≤ at + n → contents_from m tape at before ≡ contents_from n tape at before
unfolding contents_from
enough zero zero tape at before h l = refl
enough zero (suc n) tape at before h l = rw ((ends tape at before).0 (omega arith))
enough (suc m) zero tape at before h l = rw ((ends tape at before).0 (omega arith))
enough (suc m) (suc n) tape at before h l =
    by_test (goes_on (step_of tape at before).answer)
    (λ g.
    let p = (progress tape at before g).0 in
    rw (g, enough m n tape (step_of tape at before).at (step_of tape at before).before (omega arith) (omega arith)))
    (λ g. rw g)

pub steps : Steps
unfolding step_of contents_from
steps =
    record {
      progress = progress;
      stays = λ tape at before g. found_stays (found at before (drop at tape)) g;
      refused = λ tape at before number place e.
          rw (get_or-drop at tape 0 0, drop-drop 1 at tape, add-zero, add-one) at (found_refused number place (found at before (drop at tape)) e);
      remembered = λ tape at before k e. found_command k (found at before (drop at tape)) e;
      counted = λ tape at before n e. found_run n (found at before (drop at tape)) e;
      ends = ends;
      longer = λ tape more at before e c. longer tape at before more e c;
      moved = λ gone tape at before. rw drop-append-add (found_moved (length gone) (found at before (drop at tape)));
      whole = λ tape. whole (length tape) tape 0 0 (omega arith);
      enough = λ n tape at before h. enough n (length tape) tape at before h (omega arith);
      unfolds = λ tape at before. enough (length tape) (suc (length tape)) tape at before (omega arith) (omega arith);
    }
