-- The levels by their ranges, both ways, and the Must run by the backlog (document 01, "A service slot").
-- Each test of a definition is decided by the range that its backlog lies in.
use mathlib.Core.Path.{◌≡◌, refl, sym, ◌∙◌}
use mathlib.Core.Bool.{Bool, true, false, cond, true≢false, false≢true}
use Prim.Native.Nat.{ℕ, ◌≤◌}
use native.Mathlib.Omega.{arith}
use native.Mathlib.Nat.{pos_of_ne-zero, lt_of_not-le, le_of_suc-le-suc}
use lib.Dec.{leb, eqb}
use borrow.Author.Tests.{eq-eqb, ne_eqb, le-leb, lt-leb, eqb-false, eqb-true, leb-true, leb-false}
use Rattle.refresh.specs.declared.Level.{Level}
use Rattle.refresh.specs.declared.Level.TheVariants.{Clear, May, Release, Need, Must}
use Rattle.refresh.specs.Urgency.{level_of, run_of}

-- the backlogs of a level
abbrev pub Within : Level → ℕ → Type 0
Within Clear b = b ≡ 0
Within May b = (1 ≤ b) × (b ≤ 3)
Within Release b = (4 ≤ b) × (b ≤ 7)
Within Need b = (8 ≤ b) × (b ≤ 11)
Within Must b = 12 ≤ b

pub level_at : (l : Level) (b : ℕ) → Within l b → level_of b ≡ l
unfolding level_of
level_at Clear b h = simp (eq-eqb b 0 h)
level_at May b h = simp (ne_eqb b 0 (λ e. omega arith), le-leb b 3 h.1)
level_at Release b h = simp (ne_eqb b 0 (λ e. omega arith), lt-leb b 3 h.0, le-leb b 7 h.1)
level_at Need b h =
    simp (ne_eqb b 0 (λ e. omega arith), lt-leb b 3 (omega arith), lt-leb b 7 h.0, le-leb b 11 h.1)
level_at Must b h =
    simp (ne_eqb b 0 (λ e. omega arith), lt-leb b 3 (omega arith), lt-leb b 7 (omega arith), lt-leb b 11 h)

if_both : {A : Type 0} (P : A → Type 0) (t : Bool) {x y : A} → (t ≡ true → P x) → (t ≡ false → P y) → P (cond t x y)
if_both P true p q = p refl
if_both P false p q = q refl

pub level_in : (b : ℕ) → Within (level_of b) b
unfolding level_of
level_in b =
    if_both (λ l. Within l b) (eqb b 0) (eqb-true b 0)
    (λ n. let z = pos_of_ne-zero (eqb-false b 0 n) in
    if_both (λ l. Within l b) (leb b 3) (λ h. (z, leb-true b 3 h))
    (λ m. if_both (λ l. Within l b) (leb b 7) (λ h. (leb-false b 3 m, leb-true b 7 h))
    (λ o. if_both (λ l. Within l b) (leb b 11) (λ h. (leb-false b 7 o, leb-true b 11 h)) (λ p. leb-false b 11 p))))

-- the run after a choice, by the backlog: started with 12 or more, ended with 7 or less, kept between
abbrev pub run_by : Bool → ℕ → Bool
run_by running b = cond (leb 12 b) true (cond (leb b 7) false running)

run_within : (running : Bool) (l : Level) (b : ℕ) → Within l b → run_of running l ≡ run_by running b
run_within running Clear b h = simp (lt-leb 12 b (omega arith), le-leb b 7 (omega arith))
run_within running May b h = simp (lt-leb 12 b (omega arith), le-leb b 7 (omega arith))
run_within running Release b h = simp (lt-leb 12 b (omega arith), le-leb b 7 (omega arith))
run_within running Need b h = simp (lt-leb 12 b (omega arith), lt-leb b 7 (omega arith))
run_within running Must b h = simp (le-leb 12 b h)

pub run_by_lem : (running : Bool) (b : ℕ) → run_of running (level_of b) ≡ run_by running b
run_by_lem running b = run_within running (level_of b) b (level_in b)

pub run_starts : (running : Bool) (b : ℕ) → 12 ≤ b → run_of running (level_of b) ≡ true
run_starts running b h = simp (level_at Must b h)

pub run_ends : (running : Bool) (b : ℕ) → b ≤ 7 → run_of running (level_of b) ≡ false
run_ends running b h = run_by_lem running b ∙ simp (lt-leb 12 b (omega arith), le-leb b 7 h)

pub run_off : (running : Bool) (b : ℕ) → run_of running (level_of b) ≡ false → b ≤ 11
run_off running b e =
    le_of_suc-le-suc (lt_of_not-le (λ h. true≢false (sym (run_starts running b h) ∙ e)))

pub run_on : (running : Bool) (b : ℕ) → run_of running (level_of b) ≡ true → 8 ≤ b
run_on running b e = lt_of_not-le (λ h. false≢true (sym (run_ends running b h) ∙ e))
