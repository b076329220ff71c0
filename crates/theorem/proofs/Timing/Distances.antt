-- What is left of the distances: a slot takes one from each that its command does not start anew, and where nothing is left a command is legal.
use Prim.Native.Nat.{ℕ, suc, ◌+◌, ◌-◌, ◌^◌, ◌≤◌, ◌<◌, min, max}
use mathlib.Core.Path.{◌≡◌, refl, ap, ap₂, ◌∙◌}
use mathlib.Core.Bool.{Bool, true, false, cond, not, ◌&&◌, ◌||◌}
use native.Mathlib.Omega.{arith}
use lib.Dec.{leb, eqb, lit<}
use borrow.Author.Tests.{le-leb, lt-ltb, eq-eqb}
use Rattle.config.specs.declared.Config.{Config}
use Rattle.config.specs.Accepted.{Accepted}
use Rattle.address.specs.declared.Bank.{Bank}
use Rattle.address.specs.declared.Row.{Row}
use Rattle.address.specs.declared.Column.{Column}
use Rattle.command.specs.declared.Command.{Command}
use Rattle.command.specs.declared.Command.TheVariants.{Nop, Act, Read, Wrt, Pre, Deac, Refr, Mrs}
use Rattle.device.specs.View.{
  Distance,
  refresh_cycle,
  mode_register,
  read_to_write,
  any_precharge,
  row_precharge,
  row_cycle,
  row_to_row,
  row_to_column,
  row_active,
  write_recovery,
  slots_of,
  starts,
  marks_of,
  is_some,
  all_closed,
}
use Rattle.device.specs.Rules.{all_hold, R7, R12-open, R13-open, R16, requirements, legal_of}
use Rattle.device.specs.Shared.{precharged_of}
use Rattle.device.proofs.Parts.{refr_parts, mrs_parts}
use Rattle.device.proofs.Alike.{Known}
use Rattle.ages.specs.declared.Past.{Past}
use Rattle.ages.specs.Ages.{cap, age_of, row_at, by_ages, sent_of}
use Rattle.ages.proofs.Slot.{Aged, sent_age, sent_row, reached, some_slots}
use Rattle.plan.specs.Plan.{mode_word}
use Rattle.theorem.proofs.Invariant.{short, bank_held, open_held, all_held, row_cycle_held, refr_held, refresh_held, other_held, others_held}

-- less by one, down to nothing
pub record Falls (after before : ℕ) : Type 0 where
  pub by : after ≤ before - 1

max_falls : {x y s t : ℕ} → Falls x s → Falls y t → Falls (max x y) (max s t)
max_falls f g = omega arith

cond-falls : (t : Bool) {x y : ℕ} → Falls x y → Falls (cond t x 0) (cond t y 0)
cond-falls true f = f
cond-falls false f = omega arith

-- One distance.

age-falls : {n : ℕ} (a : ℕ) → n ≤ cap → Falls (n - min cap (suc a)) (n - a)
age-falls a h = omega arith

pub short-falls : {c : Config} → Accepted c → (p : Past) (k : Command) (d : Distance) → Known d → starts d k ≡ false
    → Falls (short c (sent_of p k) d) (short c p d)
unfolding short
short-falls ok p k d h f = rw (sent_age p k d h, f) (age-falls (age_of p d) (reached ok d))

pub short-new : (c : Config) (p : Past) (k : Command) (d : Distance) → Known d → starts d k ≡ true → short c (sent_of p k) d ≡ slots_of c d - 1
unfolding short
short-new c p k d h f = rw (sent_age p k d h, f)

pub short-least : {c : Config} → Accepted c → {p : Past} → Aged p → (d : Distance) → Known d → short c p d + 1 ≤ slots_of c d
unfolding short
short-least ok aged d h = let x = aged.least d h in let y = some_slots ok d in omega arith

pub short-kept : (c : Config) (p : Past) (d : Distance) → short c p d ≡ 0 → leb (slots_of c d) (age_of p d) ≡ true
unfolding short
short-kept c p d e = le-leb (slots_of c d) (age_of p d) (omega arith)

-- a bank's open row through a NOP
pub nop-row : (p : Past) (b : ℕ) → b < 4 → row_at (sent_of p Nop) b ≡ row_at p b
unfolding marks_of
nop-row p b h = sent_row p Nop b h

-- Several of them.

module _ {c : Config} (ok : Accepted c) (p : Past) where
  pub bank-falls : (k : Command) (b : ℕ) → b < 4 → starts (row_active b) k ≡ false → starts (write_recovery b) k ≡ false
      → Falls (bank_held c (sent_of p k) b) (bank_held c p b)
  unfolding bank_held
  bank-falls k b h f g = max_falls (short-falls ok p k (row_active b) h f) (short-falls ok p k (write_recovery b) h g)

  open-falls : (b : ℕ) → b < 4 → Falls (open_held c (sent_of p Nop) b) (open_held c p b)
  unfolding open_held marks_of
  open-falls b h = rw (nop-row p b h) (cond-falls (is_some (row_at p b)) (bank-falls Nop b h refl refl))

  all-falls : Falls (all_held c (sent_of p Nop)) (all_held c p)
  unfolding all_held
  all-falls =
      max_falls (max_falls (open-falls 0 (lit< tt)) (open-falls 1 (lit< tt))) (max_falls (open-falls 2 (lit< tt)) (open-falls 3 (lit< tt)))

  -- by every command but an ACT
  pub row-cycle-falls : (k : Command) → ((b : ℕ) → starts (row_cycle b) k ≡ false) → Falls (row_cycle_held c (sent_of p k)) (row_cycle_held c p)
  unfolding row_cycle_held
  row-cycle-falls k f = max_falls (max_falls (at 0 (lit< tt)) (at 1 (lit< tt))) (max_falls (at 2 (lit< tt)) (at 3 (lit< tt)))
    where
      at : (b : ℕ) → b < 4 → Falls (short c (sent_of p k) (row_cycle b)) (short c p (row_cycle b))
      at b h = short-falls ok p k (row_cycle b) h (f b)

  -- by every command but an ACT, a PRE and a DEAC
  pub refr-falls : (k : Command) → starts any_precharge k ≡ false → ((b : ℕ) → starts (row_cycle b) k ≡ false) → Falls (refr_held c (sent_of p k)) (refr_held c p)
  unfolding refr_held
  refr-falls k f g = max_falls (short-falls ok p k any_precharge tt f) (row-cycle-falls k g)

  -- with the DEAC to come, a NOP takes one, but leaves tRP, which the DEAC has still to start; a DEAC takes one
  pub refresh-falls : refresh_held c (sent_of p Nop) + 1 ≤ max (c.rp + 1) (refresh_held c p)
  unfolding refresh_held marks_of
  refresh-falls = omega (arith, all-falls.by, (row-cycle-falls Nop (λ b. refl)).by)

  pub refresh-some : all_held c p + c.rp ≤ refresh_held c p
  unfolding refresh_held
  refresh-some = omega arith

  pub deac-falls : refr_held c (sent_of p Deac) + 1 ≤ refresh_held c p
  unfolding refr_held refresh_held marks_of
  deac-falls = omega (arith, short-new c p Deac any_precharge tt refl, (row-cycle-falls Deac (λ b. refl)).by, ok.rp_least)

  other-falls : (k : Command) (b o : ℕ) → o < 4 → starts (row_to_row o) k ≡ false → Falls (other_held c (sent_of p k) b o) (other_held c p b o)
  unfolding other_held
  other-falls k b o h f = go (eqb o b)
    where
      go : (t : Bool) → Falls (cond t 0 (short c (sent_of p k) (row_to_row o))) (cond t 0 (short c p (row_to_row o)))
      go true = omega arith
      go false = short-falls ok p k (row_to_row o) h f

  pub others-fall : (k : Command) (b : ℕ) → ((o : ℕ) → starts (row_to_row o) k ≡ false) → Falls (others_held c (sent_of p k) b) (others_held c p b)
  unfolding others_held
  others-fall k b f =
      max_falls
      (max_falls (other-falls k b 0 (lit< tt) (f 0)) (other-falls k b 1 (lit< tt) (f 1)))
      (max_falls (other-falls k b 2 (lit< tt) (f 2)) (other-falls k b 3 (lit< tt) (f 3)))

-- Every age is 1 at least, so at least one slot of each distance is over.

module _ {c : Config} (ok : Accepted c) {p : Past} (aged : Aged p) where
  pub bank-least : (b : ℕ) → b < 4 → bank_held c p b + 1 ≤ max c.ras c.wr
  unfolding bank_held
  bank-least b h =
      let x : short c p (row_active b) + 1 ≤ c.ras = short-least ok aged (row_active b) h in
      let y : short c p (write_recovery b) + 1 ≤ c.wr = short-least ok aged (write_recovery b) h in
      omega arith

  open-least : (b : ℕ) → b < 4 → open_held c p b + 1 ≤ max c.ras c.wr
  unfolding open_held
  open-least b h = go (is_some (row_at p b))
    where
      go : (t : Bool) → cond t (bank_held c p b) 0 + 1 ≤ max c.ras c.wr
      go true = bank-least b h
      go false = omega (arith, ok.ras_least)

  all-least : all_held c p + 1 ≤ max c.ras c.wr
  unfolding all_held
  all-least = omega (arith, open-least 0 (lit< tt), open-least 1 (lit< tt), open-least 2 (lit< tt), open-least 3 (lit< tt))

  row-cycle-least : row_cycle_held c p + 1 ≤ c.rc
  unfolding row_cycle_held
  row-cycle-least = omega (arith, at 0 (lit< tt), at 1 (lit< tt), at 2 (lit< tt), at 3 (lit< tt))
    where
      at : (b : ℕ) → b < 4 → short c p (row_cycle b) + 1 ≤ c.rc
      at b h = short-least ok aged (row_cycle b) h

  pub refresh-least : refresh_held c p + 1 ≤ max (max c.ras c.wr + c.rp) c.rc
  unfolding refresh_held
  refresh-least = omega (arith, all-least, row-cycle-least)

  other-least : (b o : ℕ) → o < 4 → other_held c p b o + 1 ≤ c.rrd
  unfolding other_held
  other-least b o h = go (eqb o b)
    where
      go : (t : Bool) → cond t 0 (short c p (row_to_row o)) + 1 ≤ c.rrd
      go true = ok.rrd_least
      go false = short-least ok aged (row_to_row o) h

  pub others-least : (b : ℕ) → others_held c p b + 1 ≤ c.rrd
  unfolding others_held
  others-least b = omega (arith, other-least b 0 (lit< tt), other-least b 1 (lit< tt), other-least b 2 (lit< tt), other-least b 3 (lit< tt))

-- Where nothing is left, the rules are kept.

infixr 35 ◌both◌
◌both◌ : {x y : Bool} → x ≡ true → y ≡ true → (x && y) ≡ true
p both q = ap₂ ◌&&◌ p q

-- a test that excuses a distance, as written in the rules and in the sums
excused : (c : Config) (p : Past) (t : Bool) (d : Distance) → cond t 0 (short c p d) ≡ 0 → (t || leb (slots_of c d) (age_of p d)) ≡ true
excused c p true d e = refl
excused c p false d e = short-kept c p d e

-- R2 is kept
pub record Ready (c : Config) (p : Past) : Type 0 where
  pub cycle : c.rfc ≤ age_of p refresh_cycle
  pub mode : 2 ≤ age_of p mode_register

module _ (c : Config) (p : Past) where
  R7-ready : (b : ℕ) → others_held c p b ≡ 0 → all_hold (R7 (by_ages c p) b) ≡ true
  unfolding R7 others_held other_held
  R7-ready b e =
      let z : (other_held c p b 0 ≡ 0) × (other_held c p b 1 ≡ 0) × (other_held c p b 2 ≡ 0) × (other_held c p b 3 ≡ 0) = omega arith in
      at 0 z.0 both at 1 z.1 both at 2 z.2 both at 3 z.3 both refl
    where
      at : (o : ℕ) → other_held c p b o ≡ 0 → (eqb o b || leb c.rrd (age_of p (row_to_row o))) ≡ true
      at o z = excused c p (eqb o b) (row_to_row o) z

  bank-ready : (b : ℕ) → bank_held c p b ≡ 0 → (leb c.ras (age_of p (row_active b)) ≡ true) × (leb c.wr (age_of p (write_recovery b)) ≡ true)
  unfolding bank_held
  bank-ready b e = (short-kept c p (row_active b) (omega arith), short-kept c p (write_recovery b) (omega arith))

  open-ready : (b : ℕ) → open_held c p b ≡ 0
      → ((not (is_some (row_at p b)) || leb c.ras (age_of p (row_active b))) ≡ true) × ((not (is_some (row_at p b)) || leb c.wr (age_of p (write_recovery b))) ≡ true)
  unfolding open_held
  open-ready b z = go (is_some (row_at p b)) z
    where
      go : (t : Bool) → cond t (bank_held c p b) 0 ≡ 0
          → ((not t || leb c.ras (age_of p (row_active b))) ≡ true) × ((not t || leb c.wr (age_of p (write_recovery b))) ≡ true)
      go true y = bank-ready b y
      go false y = (refl, refl)

  R16-ready : row_cycle_held c p ≡ 0 → all_hold (R16 (by_ages c p)) ≡ true
  unfolding R16 row_cycle_held
  R16-ready e =
      short-kept c p (row_cycle 0) (omega arith)
      both short-kept c p (row_cycle 1) (omega arith)
      both short-kept c p (row_cycle 2) (omega arith)
      both short-kept c p (row_cycle 3) (omega arith)
      both refl

  -- each command, where it has its place and nothing is left of its distances
  module _ (ready : Ready c p) where
    pub act-ready : (b : Bank) (r : Row) → b.0 < 2 ^ c.geometry.banks → r.0 < 2 ^ c.geometry.rows → p.programmed ≡ true
        → is_some (row_at p b.0) ≡ false
        → short c p (row_precharge b.0) ≡ 0 → short c p (row_cycle b.0) ≡ 0 → others_held c p b.0 ≡ 0
        → legal_of c (by_ages c p) (Act b r) ≡ true
    unfolding legal_of requirements
    act-ready b r h i programmed closed x y z =
        lt-ltb _ _ h
        both lt-ltb _ _ i
        both le-leb _ _ ready.cycle
        both le-leb _ _ ready.mode
        both programmed
        both ap not closed
        both short-kept c p (row_precharge b.0) x
        both short-kept c p (row_cycle b.0) y
        both R7-ready b.0 z

    pub read-ready : (b : Bank) (k : Column) → b.0 < 2 ^ c.geometry.banks → k.0 < 2 ^ c.geometry.columns
        → is_some (row_at p b.0) ≡ true → short c p (row_to_column b.0) ≡ 0
        → legal_of c (by_ages c p) (Read b k) ≡ true
    unfolding legal_of requirements
    read-ready b k h i opened x =
        lt-ltb _ _ h
        both lt-ltb _ _ i
        both le-leb _ _ ready.cycle
        both le-leb _ _ ready.mode
        both opened
        both short-kept c p (row_to_column b.0) x
        both refl

    pub wrt-ready : (b : Bank) (k : Column) (w : ℕ) → b.0 < 2 ^ c.geometry.banks → k.0 < 2 ^ c.geometry.columns
        → is_some (row_at p b.0) ≡ true → short c p (row_to_column b.0) ≡ 0 → short c p read_to_write ≡ 0
        → legal_of c (by_ages c p) (Wrt b k w) ≡ true
    unfolding legal_of requirements
    wrt-ready b k w h i opened x y =
        lt-ltb _ _ h
        both lt-ltb _ _ i
        both le-leb _ _ ready.cycle
        both le-leb _ _ ready.mode
        both opened
        both short-kept c p (row_to_column b.0) x
        both short-kept c p read_to_write y
        both refl

    pub pre-ready : (b : Bank) → b.0 < 2 ^ c.geometry.banks → is_some (row_at p b.0) ≡ true → bank_held c p b.0 ≡ 0
        → legal_of c (by_ages c p) (Pre b) ≡ true
    unfolding legal_of requirements
    pre-ready b h opened x =
        let r = bank-ready b.0 x in
        lt-ltb _ _ h both le-leb _ _ ready.cycle both le-leb _ _ ready.mode both opened both r.0 both r.1 both refl

    pub deac-ready : all_held c p ≡ 0 → legal_of c (by_ages c p) Deac ≡ true
    unfolding legal_of requirements R12-open R13-open all_held
    deac-ready x =
        let z : (open_held c p 0 ≡ 0) × (open_held c p 1 ≡ 0) × (open_held c p 2 ≡ 0) × (open_held c p 3 ≡ 0) = omega arith in
        let r0 = open-ready 0 z.0 in
        let r1 = open-ready 1 z.1 in
        let r2 = open-ready 2 z.2 in
        let r3 = open-ready 3 z.3 in
        le-leb _ _ ready.cycle
        both le-leb _ _ ready.mode
        both r0.0
        both r1.0
        both r2.0
        both r3.0
        both r0.1
        both r1.1
        both r2.1
        both r3.1
        both refl

    -- REFR and MRS: R2, all banks closed, and tRP
    precharged-ready : all_closed (row_at p) ≡ true → short c p any_precharge ≡ 0 → precharged_of (by_ages c p) ≡ true
    unfolding precharged_of
    precharged-ready closed x = le-leb _ _ ready.cycle both le-leb _ _ ready.mode both closed both short-kept c p any_precharge x

    pub refr-ready : all_closed (row_at p) ≡ true → refr_held c p ≡ 0 → legal_of c (by_ages c p) Refr ≡ true
    unfolding refr_held
    refr-ready closed x = refr_parts c (by_ages c p) ∙ (precharged-ready closed (omega arith) both R16-ready (omega arith))

    pub mrs-ready : all_closed (row_at p) ≡ true → short c p any_precharge ≡ 0 → legal_of c (by_ages c p) (Mrs (mode_word c)) ≡ true
    mrs-ready closed x = mrs_parts c (by_ages c p) (mode_word c) ∙ (eq-eqb (mode_word c) (mode_word c) refl both precharged-ready closed x)
