-- What the judge's answers mean (specs/Laws.antt).
use Prim.Native.Nat.{ℕ, zero, suc, ◌+◌, ◌<◌}
use mathlib.Core.Path.{◌≡◌, refl, sym, ap, subst, ◌∙◌}
use mathlib.Core.Bool.{Bool, true, false, cond, true≢false}
use mathlib.Core.List.{List, [], ◌∷◌}
use native.Mathlib.Omega.{arith}
use lib.Dec.{eqb, ltb}
use lib.ListN.{length, take}
use borrow.Author.Tests.{eqb-true, eqb-false, ltb-false, le-ltb, eq-eqb}
use Rattle.config.specs.declared.Config.{Config}
use Rattle.config.specs.Setting.{setting_of}
use Rattle.command.specs.declared.Command.{Command}
use Rattle.device.specs.Rules.{requirements}
use Rattle.device.specs.History.{Log, start_log, by_history, allowed, fed}
use Rattle.device.proofs.Tests.{by_test, if_both}
use Rattle.device.proofs.Follows.{fed_now}
use Rattle.tape.specs.Reading.{Answer, end, command, run, refusal, goes_on, contents_of}
use Rattle.tape.proofs.Steps.{steps}
use Rattle.violation.specs.declared.Violation.{Violation}
use Rattle.violation.specs.Violation.{violation_of}
use Rattle.judge.specs.Judge.{Verdict, said_of, illegal_at, first_illegal, refused_or, judged_of, longest, judge_of}
use Rattle.judge.specs.Laws.{fed_all, log_at, command_at, NoneRejected, Readable, Legal, Illegal, Judges}
use Rattle.judge.proofs.Refusals.{Numbered, numbered_tape}

-- From any log on: none of the first so many is rejected.
abbrev NoneFrom : Config → Log → List Command → ℕ → Type 0
NoneFrom c g slots n = (i : ℕ) → i < n → allowed c (fed_all c g (take i slots)) (command_at slots i) ≡ true

-- the first is allowed, and from then on none
none_later : (c : Config) (g : Log) (k : Command) (later : List Command) (n : ℕ) → NoneFrom c g (k ∷ later) (suc n) → (allowed c g k ≡ true) × NoneFrom c (fed c g k) later n
unfolding fed_all
none_later c g k later n h = (h 0 (omega arith), λ i j. h (suc i) (omega arith))

none_before : (c : Config) (g : Log) (k : Command) (later : List Command) (n : ℕ) → allowed c g k ≡ true → NoneFrom c (fed c g k) later n → NoneFrom c g (k ∷ later) (suc n)
unfolding fed_all
none_before c g k later n a h zero j = a
none_before c g k later n a h (suc i) j = h i (omega arith)

-- All of a list.

none_said : (c : Config) (slots : List Command) (g : Log) → NoneFrom c g slots (length slots) → first_illegal c g slots ≡ said_of 0
unfolding first_illegal
none_said c [] g h = refl
none_said c (k ∷ later) g h = let z = none_later c g k later (length later) h in rw z.0 (none_said c later (fed c g k) z.1)

-- the verdict on a list: nothing is illegal, or a place of it
data Found (c : Config) (g : Log) (slots : List Command) : Type 0 where
  none_broken : first_illegal c g slots ≡ said_of 0 → NoneFrom c g slots (length slots) → Found c g slots
  broken_at : (i : ℕ) → i < length slots → NoneFrom c g slots i → allowed c (fed_all c g (take i slots)) (command_at slots i) ≡ false
      → first_illegal c g slots ≡ illegal_at (i + g.now) (violation_of (requirements c (by_history c (fed_all c g (take i slots))) (command_at slots i))) → Found c g slots

find : (c : Config) (slots : List Command) (g : Log) → Found c g slots
unfolding first_illegal fed_all
find c [] g = none_broken refl (λ i h. absurd (omega arith))
find c (k ∷ later) g = by_test (allowed c g k) (λ a. go a (find c later (fed c g k)))
    (λ a. broken_at 0 (omega arith) (λ i j. absurd (omega arith)) a (rw a (ap (λ (n : ℕ). illegal_at n (violation_of (requirements c (by_history c g) k))) (omega arith))))
  where
    go : allowed c g k ≡ true → Found c (fed c g k) later → Found c g (k ∷ later)
    go a (none_broken e h) = none_broken (rw a e) (none_before c g k later (length later) a h)
    go a (broken_at i l h r e) = broken_at (suc i) (omega arith) (none_before c g k later i a h) r
        (rw a (e ∙ ap (λ (n : ℕ). illegal_at n (violation_of (requirements c (by_history c (fed_all c (fed c g k) (take i later))) (command_at later i)))) (omega (arith, fed_now c g k))))

place_said : (c : Config) (slots : List Command) (g : Log) (i : ℕ) → i < length slots → NoneFrom c g slots i → allowed c (fed_all c g (take i slots)) (command_at slots i) ≡ false
    → first_illegal c g slots ≡ illegal_at (i + g.now) (violation_of (requirements c (by_history c (fed_all c g (take i slots))) (command_at slots i)))
unfolding first_illegal fed_all
place_said c [] g i l h r = absurd (omega arith)
place_said c (k ∷ later) g zero l h r = rw r (ap (λ (n : ℕ). illegal_at n (violation_of (requirements c (by_history c g) k))) (omega arith))
place_said c (k ∷ later) g (suc i) l h r =
    let z = none_later c g k later i h in
    rw z.0 (place_said c later (fed c g k) i (omega arith) z.1 r
    ∙ ap (λ (n : ℕ). illegal_at n (violation_of (requirements c (by_history c (fed_all c (fed c g k) (take i later))) (command_at later i)))) (omega (arith, fed_now c g k)))

-- slots get no number
slots_number : (c : Config) (slots : List Command) (g : Log) → (first_illegal c g slots).number ≡ 0
unfolding first_illegal
slots_number c [] g = refl
slots_number c (k ∷ later) g = if_both (λ (v : Verdict). v.number ≡ 0) (allowed c g k) (λ a. slots_number c later (fed c g k)) (λ a. refl)

same_violation : (x y : Violation) → x.rule ≡ y.rule → x.bank ≡ y.bank → x ≡ y
same_violation x y e f = ap {B = Violation} (λ (r : ℕ). record { rule = r; bank = x.bank }) e ∙ ap {B = Violation} (λ (b : ℕ). record { rule = y.rule; bank = b }) f

-- A whole tape.

module _ (cfg row ref tim : ℕ) (tape : List ℕ) where
  readable_said : Readable cfg row ref tim tape → judge_of cfg row ref tim tape ≡ first_illegal (setting_of cfg row ref tim).config start_log (contents_of tape).slots
  unfolding judge_of
  readable_said h = rw (eq-eqb _ _ h.words, le-ltb _ _ h.short) (ap (λ (x : Answer). refused_or x (first_illegal (setting_of cfg row ref tim).config start_log (contents_of tape).slots)) h.whole)

  -- a verdict with number 0 is of a tape that can be read
  zero_readable : (v : Verdict) → judge_of cfg row ref tim tape ≡ v → v.number ≡ 0
      → Readable cfg row ref tim tape × (first_illegal (setting_of cfg row ref tim).config start_log (contents_of tape).slots ≡ v)
  unfolding judge_of
  zero_readable v e z = go (eqb (setting_of cfg row ref tim).number 0) (ltb longest (length tape)) refl refl e
    where
      ends : (x : Answer) → (contents_of tape).last ≡ x → Numbered x → goes_on x ≡ false
          → refused_or x (first_illegal (setting_of cfg row ref tim).config start_log (contents_of tape).slots) ≡ v
          → ((contents_of tape).last ≡ end) × (first_illegal (setting_of cfg row ref tim).config start_log (contents_of tape).slots ≡ v)
      ends end l n g q = (l, q)
      ends (command k) l n g q = absurd (true≢false g)
      ends (run m) l n g q = absurd (true≢false g)
      ends (refusal number place) l n g q = absurd (let p = n number place refl in omega (arith, ap (λ (w : Verdict). w.number) q))

      go : (a b : Bool) → eqb (setting_of cfg row ref tim).number 0 ≡ a → ltb longest (length tape) ≡ b
          → cond a (cond b (said_of 19) (judged_of (setting_of cfg row ref tim).config (contents_of tape))) (said_of (setting_of cfg row ref tim).number) ≡ v
          → Readable cfg row ref tim tape × (first_illegal (setting_of cfg row ref tim).config start_log (contents_of tape).slots ≡ v)
      go false b f g q = absurd (eqb-false _ _ f (ap (λ (w : Verdict). w.number) q ∙ z))
      go true true f g q = absurd (omega (arith, ap (λ (w : Verdict). w.number) q))
      go true false f g q =
          let r = ends (contents_of tape).last refl (numbered_tape tape) (steps.whole tape) q in
          (record { words = eqb-true _ _ f; short = ltb-false _ _ g; whole = r.0 }, r.1)

  is_legal : judge_of cfg row ref tim tape ≡ said_of 0 → Legal cfg row ref tim tape
  unfolding start_log
  is_legal e =
      let r = zero_readable (said_of 0) e refl in
      record { readable = r.0; none = go (find (setting_of cfg row ref tim).config (contents_of tape).slots start_log) r.1 }
    where
      go : Found (setting_of cfg row ref tim).config start_log (contents_of tape).slots
          → first_illegal (setting_of cfg row ref tim).config start_log (contents_of tape).slots ≡ said_of 0
          → NoneRejected (setting_of cfg row ref tim).config (contents_of tape).slots (length (contents_of tape).slots)
      go (none_broken e h) f = h
      go (broken_at i l h r e) f = absurd (omega (arith, ap (λ (w : Verdict). w.slot) (sym e ∙ f)))

  is_illegal : (i : ℕ) (x : Violation) → judge_of cfg row ref tim tape ≡ illegal_at (suc i) x → Illegal cfg row ref tim tape i x
  unfolding start_log
  is_illegal i x e =
      let r = zero_readable (illegal_at (suc i) x) e refl in
      go r.0 (find (setting_of cfg row ref tim).config (contents_of tape).slots start_log) r.1
    where
      go : Readable cfg row ref tim tape → Found (setting_of cfg row ref tim).config start_log (contents_of tape).slots
          → first_illegal (setting_of cfg row ref tim).config start_log (contents_of tape).slots ≡ illegal_at (suc i) x → Illegal cfg row ref tim tape i x
      go d (none_broken e h) f = absurd (omega (arith, ap (λ (w : Verdict). w.slot) (sym e ∙ f)))
      go d (broken_at j l h r e) f =
          let q = sym f ∙ e in
          let same : j ≡ i = omega (arith, ap (λ (w : Verdict). w.slot) q) in
          subst (λ (n : ℕ). Illegal cfg row ref tim tape n x) same
          (record {
            readable = d;
            first = record { here = l; earlier = h; rejected = r; broken = same_violation x _ (ap (λ (w : Verdict). w.rule) q) (ap (λ (w : Verdict). w.bank) q) };
          })

  illegal_said : (i : ℕ) (x : Violation) → Illegal cfg row ref tim tape i x → judge_of cfg row ref tim tape ≡ illegal_at (suc i) x
  unfolding start_log
  illegal_said i x h =
      readable_said h.readable ∙ place_said (setting_of cfg row ref tim).config (contents_of tape).slots start_log i h.first.here h.first.earlier h.first.rejected
      ∙ rw h.first.broken (ap (λ (n : ℕ). illegal_at n (violation_of (requirements (setting_of cfg row ref tim).config (by_history (setting_of cfg row ref tim).config (log_at (setting_of cfg row ref tim).config (contents_of tape).slots i)) (command_at (contents_of tape).slots i)))) (omega arith))

  -- a number that is not 0
  is_alone : ((judge_of cfg row ref tim tape).number ≡ 0 → ⊥) → judge_of cfg row ref tim tape ≡ said_of (judge_of cfg row ref tim tape).number
  unfolding judge_of
  is_alone z = go (eqb (setting_of cfg row ref tim).number 0) (ltb longest (length tape)) z
    where
      ends : (x : Answer) (v : Verdict) → v.number ≡ 0 → ((refused_or x v).number ≡ 0 → ⊥) → refused_or x v ≡ said_of (refused_or x v).number
      ends end v e f = absurd (f e)
      ends (command k) v e f = absurd (f e)
      ends (run n) v e f = absurd (f e)
      ends (refusal number place) v e f = refl

      answer : Bool → Bool → Verdict
      answer a b = cond a (cond b (said_of 19) (judged_of (setting_of cfg row ref tim).config (contents_of tape))) (said_of (setting_of cfg row ref tim).number)

      go : (a b : Bool) → ((answer a b).number ≡ 0 → ⊥) → answer a b ≡ said_of (answer a b).number
      go false b f = refl
      go true true f = refl
      go true false f = ends (contents_of tape).last (first_illegal (setting_of cfg row ref tim).config start_log (contents_of tape).slots) (slots_number (setting_of cfg row ref tim).config (contents_of tape).slots start_log) f

  -- number 0 and slot 0
  is_zero : (judge_of cfg row ref tim tape).number ≡ 0 → (judge_of cfg row ref tim tape).slot ≡ 0 → judge_of cfg row ref tim tape ≡ said_of 0
  unfolding start_log
  is_zero n z =
      let r = zero_readable (judge_of cfg row ref tim tape) refl n in
      go (find (setting_of cfg row ref tim).config (contents_of tape).slots start_log) r.1
    where
      go : Found (setting_of cfg row ref tim).config start_log (contents_of tape).slots
          → first_illegal (setting_of cfg row ref tim).config start_log (contents_of tape).slots ≡ judge_of cfg row ref tim tape → judge_of cfg row ref tim tape ≡ said_of 0
      go (none_broken e h) f = sym f ∙ e
      go (broken_at i l h r e) f = absurd (omega (arith, ap (λ (w : Verdict). w.slot) (sym e ∙ f)))

pub judges : Judges
judges = record {
  accepted = is_legal;
  legal = λ cfg row ref tim tape h. readable_said cfg row ref tim tape h.readable ∙ none_said (setting_of cfg row ref tim).config (contents_of tape).slots start_log h.none;
  found = is_illegal;
  illegal = illegal_said;
  alone = is_alone;
  zero = is_zero;
}
