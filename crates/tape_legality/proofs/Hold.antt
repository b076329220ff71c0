-- What makes each command legal by the stamps, as the code tests it: one after another.
use Prim.Native.Nat.{ℕ, ◌+◌, ◌^◌, ◌≤◌}
use mathlib.Core.Path.{◌≡◌, refl, ◌∙◌}
use mathlib.Core.Bool.{Bool, true, false, not, ◌&&◌, ◌||◌}
use mathlib.Core.List.{List, [], ◌∷◌}
use native.Mathlib.Omega.{arith}
use lib.Dec.{leb, ltb, eqb}
use lib.ListN.{get_or}
use borrow.Author.Tests.{le-leb}
use Rattle.address.specs.declared.Bank.{Bank}
use Rattle.address.specs.declared.Row.{Row}
use Rattle.address.specs.declared.Column.{Column}
use Rattle.config.specs.declared.Config.{Config}
use Rattle.command.specs.declared.Command.TheVariants.{Act, Read, Wrt, Pre, Deac}
use Rattle.device.specs.View.{all_closed}
use Rattle.device.specs.Rules.{R7, R10, R12-open, R13-open, R16, all_hold, requirements, legal_of}
use Rattle.device.specs.Shared.{precharged_of}
use Rattle.device.proofs.Tests.{and_true}
use Rattle.device.proofs.Parts.{hold_append}
use Rattle.stamps.proofs.Agree.{open_is}
use Rattle.stamps.specs.Stamps.{open_at, by_stamps}
use Rattle.tape_legality.specs.Tests.{settled_of, latest_of, free_of, all_free_of, any_open_of}

pub latest_earlier : (l : List ℕ) (now : ℕ) → ((i : ℕ) → get_or l i 0 ≤ now) → latest_of l ≤ now
unfolding latest_of
latest_earlier l now h = omega (arith, h 0, h 1, h 2, h 3)

module _ (c : Config) (l : List ℕ) (now : ℕ) where
  -- R2's two come first
  settled_first : (t : Bool) → (leb (get_or l 8 0 + c.rfc) now && (leb (get_or l 9 0 + 2) now && t)) ≡ (settled_of c l now && t)
  unfolding settled_of
  settled_first t = go (leb (get_or l 8 0 + c.rfc) now) (leb (get_or l 9 0 + 2) now)
    where
      go : (x y : Bool) → (x && (y && t)) ≡ ((x && y) && t)
      go true true = refl
      go true false = refl
      go false y = refl

  closed_is : all_closed (by_stamps c l now).row ≡ not (any_open_of l)
  unfolding all_closed
  closed_is = rw (open_is l 0, open_is l 1, open_is l 2, open_is l 3) (go (open_at l 0) (open_at l 1) (open_at l 2) (open_at l 3))
    where
      go : (x y z t : Bool) → (not x && (not y && (not z && not t))) ≡ not (x || (y || (z || t)))
      go true y z t = refl
      go false true z t = refl
      go false false true t = refl
      go false false false t = refl

  -- R12 and R13 for a DEAC, bank by bank
  R12-is : all_hold (R12-open (by_stamps c l now)) ≡ all_free_of l 0 c.ras now
  unfolding R12-open free_of
  R12-is = rw (open_is l 0, open_is l 1, open_is l 2, open_is l 3, and_true (not (open_at l 3) || leb (get_or l 3 0 + c.ras) now))

  R13-is : all_hold (R13-open (by_stamps c l now)) ≡ all_free_of l 12 c.wr now
  unfolding R13-open free_of
  R13-is = rw (open_is l 0, open_is l 1, open_is l 2, open_is l 3, and_true (not (open_at l 3) || leb (get_or l 15 0 + c.wr) now))

  pub apart_is : (b : ℕ) → all_hold (R7 (by_stamps c l now) b)
      ≡ ((eqb 0 b || leb (get_or l 0 0 + c.rrd) now) && ((eqb 1 b || leb (get_or l 1 0 + c.rrd) now)
      && ((eqb 2 b || leb (get_or l 2 0 + c.rrd) now) && (eqb 3 b || leb (get_or l 3 0 + c.rrd) now))))
  unfolding R7
  apart_is b = rw (and_true (eqb 3 b || leb (get_or l 3 0 + c.rrd) now))

  pub row_cycled_is : all_hold (R16 (by_stamps c l now))
      ≡ (leb (get_or l 0 0 + c.rc) now && (leb (get_or l 1 0 + c.rc) now && (leb (get_or l 2 0 + c.rc) now && leb (get_or l 3 0 + c.rc) now)))
  unfolding R16
  row_cycled_is = rw (and_true (leb (get_or l 3 0 + c.rc) now))

  -- R7 holds where the latest ACT of all is far enough back
  pub R7-latest : (b : ℕ) → latest_of l + c.rrd ≤ now → true ≡ all_hold (R7 (by_stamps c l now) b)
  unfolding R7 latest_of
  R7-latest b h =
      rw (
        le-leb (get_or l 0 0 + c.rrd) now (omega arith),
        le-leb (get_or l 1 0 + c.rrd) now (omega arith),
        le-leb (get_or l 2 0 + c.rrd) now (omega arith),
        le-leb (get_or l 3 0 + c.rrd) now (omega arith),
        or_true (eqb 0 b),
        or_true (eqb 1 b),
        or_true (eqb 2 b),
        or_true (eqb 3 b),
      )
    where
      or_true : (t : Bool) → (t || true) ≡ true
      or_true true = refl
      or_true false = refl

  pub act_is : (b : Bank) (r : Row) → legal_of c (by_stamps c l now) (Act b r)
      ≡ (ltb b.0 (2 ^ c.geometry.banks) && (ltb r.0 (2 ^ c.geometry.rows) && (settled_of c l now && (ltb 0 (get_or l 9 0)
      && (not (open_at l b.0) && (leb (get_or l (4 + b.0) 0 + c.rp) now && (leb (get_or l b.0 0 + c.rc) now
      && all_hold (R7 (by_stamps c l now) b.0))))))))
  unfolding legal_of requirements
  act_is b r = rw (settled_first, open_is l b.0)

  pub read_is : (b : Bank) (k : Column) → legal_of c (by_stamps c l now) (Read b k)
      ≡ (ltb b.0 (2 ^ c.geometry.banks) && (ltb k.0 (2 ^ c.geometry.columns) && (settled_of c l now
      && (open_at l b.0 && leb (get_or l b.0 0 + c.rcd) now))))
  unfolding legal_of requirements
  read_is b k = rw (settled_first, open_is l b.0, and_true (leb (get_or l b.0 0 + c.rcd) now))

  -- a WRT's rules are a READ's and R10, whatever its halfword
  pub wrt_is : (b : Bank) (k : Column) (x : ℕ) → legal_of c (by_stamps c l now) (Wrt b k x)
      ≡ (legal_of c (by_stamps c l now) (Read b k) && leb (get_or l 11 0 + (c.latency + 2)) now)
  unfolding legal_of requirements
  wrt_is b k x = rw (hold_append (requirements c (by_stamps c l now) (Read b k)) (R10 (by_stamps c l now) ∷ []), and_true (leb (get_or l 11 0 + (c.latency + 2)) now))

  pub pre_is : (b : Bank) → legal_of c (by_stamps c l now) (Pre b)
      ≡ (ltb b.0 (2 ^ c.geometry.banks) && (settled_of c l now && (open_at l b.0
      && (leb (get_or l b.0 0 + c.ras) now && leb (get_or l (12 + b.0) 0 + c.wr) now))))
  unfolding legal_of requirements
  pre_is b = rw (settled_first, open_is l b.0, and_true (leb (get_or l (12 + b.0) 0 + c.wr) now))

  pub deac_is : legal_of c (by_stamps c l now) Deac
      ≡ (settled_of c l now
      && (all_free_of l 0 c.ras now
      && all_free_of l 12 c.wr now))
  unfolding legal_of requirements
  deac_is = rw (settled_first, hold_append (R12-open (by_stamps c l now)), R12-is, R13-is)

  pub precharged_is : precharged_of (by_stamps c l now) ≡ (settled_of c l now && (not (any_open_of l) && leb (get_or l 10 0 + c.rp) now))
  unfolding precharged_of
  precharged_is = settled_first (all_closed (by_stamps c l now).row && leb (get_or l 10 0 + c.rp) now) ∙ rw closed_is
