-- What makes each command legal by the ages, as the code tests it: one after another.
use Prim.Native.Nat.{ℕ, ◌+◌, ◌^◌}
use mathlib.Core.Path.{◌≡◌, refl, sym, ◌∙◌}
use mathlib.Core.Bool.{Bool, true, false, not, ◌&&◌}
use mathlib.Core.List.{List, [], ◌∷◌}
use lib.Dec.{leb, ltb, lit<}
use lib.ListN.{get_or}
use Rattle.address.specs.declared.Bank.{Bank}
use Rattle.address.specs.declared.Row.{Row}
use Rattle.address.specs.declared.Column.{Column}
use Rattle.config.specs.declared.Config.{Config}
use Rattle.command.specs.declared.Command.{Command}
use Rattle.command.specs.declared.Command.TheVariants.{Nop, Act, Read, Wrt, Pre, Deac, Refr, Mrs}
use Rattle.device.specs.View.{is_some, all_closed}
use Rattle.device.specs.Rules.{R7, R10, R12-open, R13-open, R14, R16, all_hold, requirements, legal_of}
use Rattle.device.specs.Shared.{precharged_of}
use Rattle.device.proofs.Tests.{and_true}
use Rattle.device.proofs.Parts.{hold_append}
use Rattle.ages.specs.declared.Past.{Past}
use Rattle.ages.proofs.Record.{open_is, open_here}
use Rattle.ages.specs.Ages.{past_of, open_rows, row_at, by_ages}
use Rattle.legality.specs.Verdict.{Verdict, settled_of, free_of, all_free_of}

module _ (c : Config) (p : Past) where
  -- R2's two come first
  settled_first : (t : Bool) → (leb c.rfc (get_or p.ages 8 0) && (leb 2 (get_or p.ages 9 0) && t)) ≡ (settled_of c p.ages && t)
  unfolding settled_of
  settled_first t = go (leb c.rfc (get_or p.ages 8 0)) (leb 2 (get_or p.ages 9 0))
    where
      go : (x y : Bool) → (x && (y && t)) ≡ ((x && y) && t)
      go true true = refl
      go true false = refl
      go false y = refl

  -- R12 and R13 for a DEAC, bank by bank
  R12-is : all_hold (R12-open (by_ages c p)) ≡ all_free_of p.ages p.opened 0 c.ras
  unfolding R12-open free_of
  R12-is = rw (open_here p.opened p.rows 0 (lit< tt), open_here p.opened p.rows 1 (lit< tt), open_here p.opened p.rows 2 (lit< tt), open_here p.opened p.rows 3 (lit< tt))

  R13-is : all_hold (R13-open (by_ages c p)) ≡ all_free_of p.ages p.opened 12 c.wr
  unfolding R13-open free_of
  R13-is = rw (open_here p.opened p.rows 0 (lit< tt), open_here p.opened p.rows 1 (lit< tt), open_here p.opened p.rows 2 (lit< tt), open_here p.opened p.rows 3 (lit< tt))

  pub act_is : (b : Bank) (r : Row) → legal_of c (by_ages c p) (Act b r)
      ≡ (ltb b.0 (2 ^ c.geometry.banks) && (ltb r.0 (2 ^ c.geometry.rows) && (settled_of c p.ages && (p.programmed
      && (not (is_some (row_at p b.0)) && (leb c.rp (get_or p.ages (4 + b.0) 0) && (leb c.rc (get_or p.ages b.0 0)
      && all_hold (R7 (by_ages c p) b.0))))))))
  unfolding legal_of requirements
  act_is b r = rw settled_first

  pub read_is : (b : Bank) (k : Column) → legal_of c (by_ages c p) (Read b k)
      ≡ (ltb b.0 (2 ^ c.geometry.banks) && (ltb k.0 (2 ^ c.geometry.columns) && (settled_of c p.ages
      && (is_some (row_at p b.0) && leb c.rcd (get_or p.ages b.0 0)))))
  unfolding legal_of requirements
  read_is b k = rw (settled_first, and_true (leb c.rcd (get_or p.ages b.0 0)))

  -- a WRT's rules are a READ's and R10, whatever its halfword
  pub wrt_is : (b : Bank) (k : Column) (x : ℕ) → legal_of c (by_ages c p) (Wrt b k x)
      ≡ (legal_of c (by_ages c p) (Read b k) && leb (c.latency + 2) (get_or p.ages 11 0))
  unfolding legal_of requirements
  wrt_is b k x = rw (hold_append (requirements c (by_ages c p) (Read b k)) (R10 (by_ages c p) ∷ []), and_true (leb (c.latency + 2) (get_or p.ages 11 0)))

  pub pre_is : (b : Bank) → legal_of c (by_ages c p) (Pre b)
      ≡ (ltb b.0 (2 ^ c.geometry.banks) && (settled_of c p.ages && (is_some (row_at p b.0)
      && (leb c.ras (get_or p.ages b.0 0) && leb c.wr (get_or p.ages (12 + b.0) 0)))))
  unfolding legal_of requirements
  pre_is b = rw (settled_first, and_true (leb c.wr (get_or p.ages (12 + b.0) 0)))

  pub deac_is : legal_of c (by_ages c p) Deac ≡ (settled_of c p.ages && (all_free_of p.ages p.opened 0 c.ras && all_free_of p.ages p.opened 12 c.wr))
  unfolding legal_of requirements
  deac_is = rw (settled_first, hold_append (R12-open (by_ages c p)), R12-is, R13-is)

  pub precharged_is : precharged_of (by_ages c p) ≡ (settled_of c p.ages && (all_closed (row_at p) && leb c.rp (get_or p.ages 10 0)))
  unfolding precharged_of
  precharged_is = settled_first (all_closed (row_at p) && leb c.rp (get_or p.ages 10 0))

-- No rule asks which rows are open, and only ACT's ask whether the mode is set: so a verdict on a past is one on every past with its ages and open flags.
module _ (c : Config) (p : Past) (rows : List ℕ) where
  same_open : (b : ℕ) → is_some (row_at p b) ≡ is_some (open_rows p.opened rows b)
  same_open b = open_is p.opened p.rows b ∙ sym (open_is p.opened rows b)

  pub act_verdict : (b : Bank) (r : Row) → legal_of c (by_ages c p) (Act b r) ≡ legal_of c (by_ages c (past_of p.ages p.opened rows p.programmed)) (Act b r)
  unfolding legal_of requirements R7
  act_verdict b r = rw (same_open b.0)

  same_verdict : (m : Bool) (k : Command) → ((b : Bank) (r : Row) → k ≡ Act b r → ⊥)
      → legal_of c (by_ages c p) k ≡ legal_of c (by_ages c (past_of p.ages p.opened rows m)) k
  unfolding legal_of requirements R12-open R13-open R14 R16
  same_verdict m Nop n = refl
  same_verdict m (Act b r) n = absurd (n b r refl)
  same_verdict m (Read b k) n = rw (same_open b.0)
  same_verdict m (Wrt b k x) n = rw (same_open b.0)
  same_verdict m (Pre b) n = rw (same_open b.0)
  same_verdict m Deac n = rw (same_open 0, same_open 1, same_open 2, same_open 3)
  same_verdict m Refr n = rw (same_open 0, same_open 1, same_open 2, same_open 3)
  same_verdict m (Mrs w) n = rw (same_open 0, same_open 1, same_open 2, same_open 3)

pub verdict : (c : Config) (p : Past) (k : Command) → ((b : Bank) (r : Row) → k ≡ Act b r → ⊥)
    → {x : Bool} → x ≡ legal_of c (by_ages c p) k → Verdict c p.ages p.opened k x
verdict c p k n e rows m = e ∙ same_verdict c p rows m k n
