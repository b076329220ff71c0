-- The rules 1 to 16, each at the banks 0 to 3, in the order of the walk: the first that does not hold is the first requirement of the table that does not.
use Prim.Native.Nat.{ℕ, zero, suc, ◌+◌, ◌*◌, ◌^◌, ◌<◌}
use mathlib.Core.Path.{◌≡◌, refl, ap, ◌∙◌}
use mathlib.Core.Bool.{Bool, true, false, cond, not, ◌&&◌, ◌||◌}
use mathlib.Core.List.{List, [], ◌∷◌, ◌++◌}
use mathlib.Core.Option.{none, some}
use Rattle.std.specs.Prelude.{Option, Some, None, is_none}
use lib.Dec.{leb, ltb, eqb}
use lib.ListN.{get_or}
use Rattle.address.specs.declared.Row.{Row}
use Rattle.address.specs.declared.Column.{Column}
use Rattle.config.specs.declared.Config.{Config}
use Rattle.config.specs.Accepted.{Shaped}
use Rattle.command.specs.declared.Command.{Command}
use Rattle.command.specs.declared.Command.TheVariants.{Nop, Act, Read, Wrt, Pre, Deac, Refr, Mrs}
use Rattle.device.specs.View.{is_some}
use Rattle.device.specs.Rules.{Requirement, all_hold, R1-bank, R7, R12-open, R13-open, R14, R16, requirements, legal_of}
use Rattle.device.proofs.Tests.{by_test, four_banks}
use Rattle.device.proofs.Alike.{in_four}
use Rattle.stamps.specs.Stamps.{open_at, any_row, by_stamps}
use Rattle.tape_legality.specs.Tests.{settled_of, free_of}
use Rattle.stamps.proofs.Agree.{open_is}
use Rattle.violation.specs.declared.Violation.{Violation}
use Rattle.violation.specs.Violation.{violation_in, violation_of}
use Rattle.violation.specs.Walk.{act_holds, access_holds, wrt_holds, pre_holds, deac_holds, rest_holds, refr_holds, mrs_holds, holds_of, named_of}

-- the first requirement that does not hold
unfoldable pub first_of : List Requirement → Option Violation
first_of [] = None
first_of (x ∷ xs) = cond x.holds (first_of xs) (Some (record { rule = x.rule; bank = x.bank }))

pub first_is : (xs : List Requirement) → violation_in (first_of xs) ≡ violation_of xs
unfolding first_of violation_of
first_is [] = refl
first_is (x ∷ xs) = go x.holds (first_of xs) (first_is xs)
  where
    go : (t : Bool) (o : Option Violation) {v : Violation} → violation_in o ≡ v
        → violation_in (cond t o (Some (record { rule = x.rule; bank = x.bank }))) ≡ cond t v (record { rule = x.rule; bank = x.bank })
    go true o h = h
    go false o h = refl

pub first_none : (xs : List Requirement) → is_none (first_of xs) ≡ all_hold xs
unfolding first_of
first_none [] = refl
first_none (x ∷ xs) = go x.holds (first_of xs) (first_none xs)
  where
    go : (t : Bool) (o : Option Violation) {r : Bool} → is_none o ≡ r → is_none (cond t o (Some (record { rule = x.rule; bank = x.bank }))) ≡ (t && r)
    go true o h = h
    go false o h = refl

-- a rule at so many banks, from a bank on
abbrev pub from_bank : ℕ → (ℕ → ℕ → Requirement) → ℕ → ℕ → List Requirement
from_bank zero f rule bank = []
from_bank (suc n) f rule bank = f rule bank ∷ from_bank n f rule (suc bank)

-- so many rules at the four banks, from a rule on
abbrev pub from_rule : ℕ → (ℕ → ℕ → Requirement) → ℕ → List Requirement
from_rule zero f rule = []
from_rule (suc n) f rule = from_bank 4 f rule 0 ++ from_rule n f (suc rule)

-- what the walk asks
abbrev pub asked : Config → List ℕ → ℕ → Command → ℕ → ℕ → Requirement
asked c l now k rule bank = record { rule = rule; bank = named_of rule bank; holds = holds_of c l now k rule bank }

abbrev at : ℕ → ℕ → Option Violation
at rule bank = Some (record { rule = rule; bank = bank })

-- Requirements of both sides, one after the other, before what is left of each.

-- one
more : (v : Option Violation) {s t : Bool} {x y : Option Violation} → s ≡ t → x ≡ y → cond s x v ≡ cond t y v
more v e f = rw (e, f)

-- a rule about no bank is asked four times over
once : (v : Option Violation) (t : Bool) {x y : Option Violation} → x ≡ y → cond t (cond t (cond t (cond t x v) v) v) v ≡ cond t y v
once v true e = e
once v false e = refl

-- and one with two requirements in the table, as both together
twice : (v : Option Violation) (s t : Bool) {x y : Option Violation} → x ≡ y → cond (s && t) (cond (s && t) (cond (s && t) (cond (s && t) x v) v) v) v ≡ cond s (cond t y v) v
twice v true t e = once v t e
twice v false t e = refl

-- four that name the same
four : (v : Option Violation) (a b c d : Bool) (x : Option Violation) → cond (a && (b && (c && (d && true)))) x v ≡ cond a (cond b (cond c (cond d x v) v) v) v
four v true true true true x = refl
four v true true true false x = refl
four v true true false d x = refl
four v true false c d x = refl
four v false b c d x = refl

module _ (c : Config) (l : List ℕ) (now : ℕ) where
  -- what the walk finds, and the table's first
  abbrev Same : Command → Type 0
  Same k = first_of (from_rule 16 (asked c l now k) 1) ≡ first_of (requirements c (by_stamps c l now) k)

  nop_same : Same Nop
  unfolding first_of requirements holds_of
  nop_same = refl

  -- R2, as the walk asks it and in the table
  settled : {x y : Option Violation} → x ≡ y → cond (settled_of c l now) (cond (settled_of c l now) (cond (settled_of c l now) (cond (settled_of c l now) x (at 2 0)) (at 2 0)) (at 2 0)) (at 2 0)
      ≡ cond (leb (get_or l 8 0 + c.rfc) now) (cond (leb (get_or l 9 0 + 2) now) y (at 2 0)) (at 2 0)
  unfolding settled_of
  settled e = twice (at 2 0) (leb (get_or l 8 0 + c.rfc) now) (leb (get_or l 9 0 + 2) now) e

  -- what a rule asks of a bank, as the walk asks it and in the table
  opens : (b : ℕ) → open_at l b ≡ is_some (cond (open_at l b) (some any_row) none)
  opens b = rw (open_is l b)

  closes : (b : ℕ) → not (open_at l b) ≡ not (is_some (cond (open_at l b) (some any_row) none))
  closes b = rw (open_is l b)

  frees : (from n b : ℕ) → free_of l from n now b ≡ (not (is_some (cond (open_at l b) (some any_row) none)) || leb (get_or l (from + b) 0 + n) now)
  unfolding free_of
  frees from n b = rw (open_is l b)

  deac_same : Same Deac
  unfolding first_of requirements R12-open R13-open holds_of deac_holds named_of
  deac_same =
      settled
      (more (at 12 0) (frees 0 c.ras 0) (more (at 12 1) (frees 0 c.ras 1) (more (at 12 2) (frees 0 c.ras 2) (more (at 12 3) (frees 0 c.ras 3)
      (more (at 13 0) (frees 12 c.wr 0) (more (at 13 1) (frees 12 c.wr 1) (more (at 13 2) (frees 12 c.wr 2) (more (at 13 3) (frees 12 c.wr 3) refl))))))))

  closed : {x y : Option Violation} → x ≡ y
      → cond (not (open_at l 0)) (cond (not (open_at l 1)) (cond (not (open_at l 2)) (cond (not (open_at l 3)) x (at 14 3)) (at 14 2)) (at 14 1)) (at 14 0)
      ≡ cond (not (is_some (cond (open_at l 0) (some any_row) none))) (cond (not (is_some (cond (open_at l 1) (some any_row) none)))
      (cond (not (is_some (cond (open_at l 2) (some any_row) none))) (cond (not (is_some (cond (open_at l 3) (some any_row) none))) y (at 14 3)) (at 14 2)) (at 14 1)) (at 14 0)
  closed e = more (at 14 0) (closes 0) (more (at 14 1) (closes 1) (more (at 14 2) (closes 2) (more (at 14 3) (closes 3) e)))

  refr_same : Same Refr
  unfolding first_of requirements R14 R16 holds_of refr_holds rest_holds named_of
  refr_same = settled (closed (once (at 15 0) (leb (get_or l 10 0 + c.rp) now) refl))

  mrs_same : (w : ℕ) → Same (Mrs w)
  unfolding first_of requirements R14 holds_of mrs_holds rest_holds named_of
  mrs_same w = once (at 1 0) (eqb w (16 * c.latency)) (settled (closed (once (at 15 0) (leb (get_or l 10 0 + c.rp) now) refl)))

  -- a command's bank that is one of the four

  inside : (b n width : ℕ) {x y : Option Violation} → x ≡ y
      → let t : Bool = ltb b (2 ^ c.geometry.banks) && ltb n (2 ^ width) in cond t (cond t (cond t (cond t x (at 1 0)) (at 1 0)) (at 1 0)) (at 1 0)
      ≡ cond (ltb b (2 ^ c.geometry.banks)) (cond (ltb n (2 ^ width)) y (at 1 0)) (at 1 0)
  inside b n width e = twice (at 1 0) (ltb b (2 ^ c.geometry.banks)) (ltb n (2 ^ width)) e

  -- R5, R6 and then R7, whose four requirements name one bank: the last of an ACT's
  abbrev other : ℕ → ℕ → Bool
  other n i = eqb i n || leb (get_or l i 0 + c.rrd) now

  last_three : (n : ℕ) (s t : Bool) → cond s (cond t (cond (all_hold (R7 (by_stamps c l now) n)) None (at 7 n)) (at 6 n)) (at 5 n)
      ≡ cond s (cond t (cond (other n 0) (cond (other n 1) (cond (other n 2) (cond (other n 3) None (at 7 n)) (at 7 n)) (at 7 n)) (at 7 n)) (at 6 n)) (at 5 n)
  unfolding R7
  last_three n s t =
      more (at 5 n) {s = s} {t = s} refl (more (at 6 n) {s = t} {t = t} refl (four (at 7 n) (other n 0) (other n 1) (other n 2) (other n 3) None))

  act_own : (r : Row) (b : ℕ) → b < 4 → Same (Act (record { 0 = b }) r)
  unfolding first_of requirements R7 holds_of act_holds named_of
  act_own r b h =
      four_banks (λ n. Same (Act (record { 0 = n }) r))
      (inside 0 r.0 c.geometry.rows (settled (once (at 3 0) (ltb 0 (get_or l 9 0)) (more (at 4 0) (closes 0) (last_three 0 (leb (get_or l 4 0 + c.rp) now) (leb (get_or l 0 0 + c.rc) now))))))
      (inside 1 r.0 c.geometry.rows (settled (once (at 3 0) (ltb 0 (get_or l 9 0)) (more (at 4 1) (closes 1) (last_three 1 (leb (get_or l 5 0 + c.rp) now) (leb (get_or l 1 0 + c.rc) now))))))
      (inside 2 r.0 c.geometry.rows (settled (once (at 3 0) (ltb 0 (get_or l 9 0)) (more (at 4 2) (closes 2) (last_three 2 (leb (get_or l 6 0 + c.rp) now) (leb (get_or l 2 0 + c.rc) now))))))
      (inside 3 r.0 c.geometry.rows (settled (once (at 3 0) (ltb 0 (get_or l 9 0)) (more (at 4 3) (closes 3) (last_three 3 (leb (get_or l 7 0 + c.rp) now) (leb (get_or l 3 0 + c.rc) now))))))
      b h

  read_own : (k : Column) (b : ℕ) → b < 4 → Same (Read (record { 0 = b }) k)
  unfolding first_of requirements holds_of access_holds named_of
  read_own k b h =
      four_banks (λ n. Same (Read (record { 0 = n }) k))
      (inside 0 k.0 c.geometry.columns (settled (more (at 8 0) (opens 0) refl)))
      (inside 1 k.0 c.geometry.columns (settled (more (at 8 1) (opens 1) refl)))
      (inside 2 k.0 c.geometry.columns (settled (more (at 8 2) (opens 2) refl)))
      (inside 3 k.0 c.geometry.columns (settled (more (at 8 3) (opens 3) refl)))
      b h

  -- R9 and then R10, the last of a WRT's
  abbrev turned : Bool
  turned = leb (get_or l 11 0 + (c.latency + 2)) now

  last_two : (n : ℕ) (t : Bool) → cond t (cond turned (cond turned (cond turned (cond turned None (at 10 0)) (at 10 0)) (at 10 0)) (at 10 0)) (at 9 n)
      ≡ cond t (cond turned None (at 10 0)) (at 9 n)
  last_two n t = more (at 9 n) {s = t} {t = t} refl (once (at 10 0) turned {x = None} {y = None} refl)

  wrt_own : (k : Column) (x b : ℕ) → b < 4 → Same (Wrt (record { 0 = b }) k x)
  unfolding first_of requirements holds_of wrt_holds access_holds named_of
  wrt_own k x b h =
      four_banks (λ n. Same (Wrt (record { 0 = n }) k x))
      (inside 0 k.0 c.geometry.columns (settled (more (at 8 0) (opens 0) (last_two 0 (leb (get_or l 0 0 + c.rcd) now)))))
      (inside 1 k.0 c.geometry.columns (settled (more (at 8 1) (opens 1) (last_two 1 (leb (get_or l 1 0 + c.rcd) now)))))
      (inside 2 k.0 c.geometry.columns (settled (more (at 8 2) (opens 2) (last_two 2 (leb (get_or l 2 0 + c.rcd) now)))))
      (inside 3 k.0 c.geometry.columns (settled (more (at 8 3) (opens 3) (last_two 3 (leb (get_or l 3 0 + c.rcd) now)))))
      b h

  pre_own : (b : ℕ) → b < 4 → Same (Pre (record { 0 = b }))
  unfolding first_of requirements holds_of pre_holds named_of
  pre_own b h =
      four_banks (λ n. Same (Pre (record { 0 = n })))
      (once (at 1 0) (ltb 0 (2 ^ c.geometry.banks)) (settled (more (at 11 0) (opens 0) refl)))
      (once (at 1 0) (ltb 1 (2 ^ c.geometry.banks)) (settled (more (at 11 1) (opens 1) refl)))
      (once (at 1 0) (ltb 2 (2 ^ c.geometry.banks)) (settled (more (at 11 2) (opens 2) refl)))
      (once (at 1 0) (ltb 3 (2 ^ c.geometry.banks)) (settled (more (at 11 3) (opens 3) refl)))
      b h

  -- a bank outside breaks R1 on both sides
  pub grid_is : Shaped c.geometry → (k : Command) → Same k
  unfolding first_of requirements holds_of act_holds access_holds wrt_holds pre_holds named_of
  grid_is n Nop = nop_same
  grid_is n (Act b r) = by_test (R1-bank c b.0).holds (λ h. act_own r b.0 (in_four c n b.0 h)) (λ h. rw h)
  grid_is n (Read b k) = by_test (R1-bank c b.0).holds (λ h. read_own k b.0 (in_four c n b.0 h)) (λ h. rw h)
  grid_is n (Wrt b k x) = by_test (R1-bank c b.0).holds (λ h. wrt_own k x b.0 (in_four c n b.0 h)) (λ h. rw h)
  grid_is n (Pre b) = by_test (R1-bank c b.0).holds (λ h. pre_own b.0 (in_four c n b.0 h)) (λ h. rw h)
  grid_is n Deac = deac_same
  grid_is n Refr = refr_same
  grid_is n (Mrs w) = mrs_same w

  -- so what the walk finds says both
  pub value_is : Shaped c.geometry → (k : Command) (o : Option Violation) → o ≡ first_of (from_rule 16 (asked c l now k) 1)
      → violation_in o ≡ violation_of (requirements c (by_stamps c l now) k)
  value_is n k o e = ap violation_in (e ∙ grid_is n k) ∙ first_is (requirements c (by_stamps c l now) k)

  pub none_is : Shaped c.geometry → (k : Command) (o : Option Violation) → o ≡ first_of (from_rule 16 (asked c l now k) 1)
      → is_none o ≡ legal_of c (by_stamps c l now) k
  unfolding legal_of
  none_is n k o e = ap is_none (e ∙ grid_is n k) ∙ first_none (requirements c (by_stamps c l now) k)
