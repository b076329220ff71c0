-- What holds of every accepted configuration: the ranges that the fields leave, document 01's A and condition for number 3, and F as in document 02,
-- (iv). As facts, and as the test that a record is put to.
use Rattle.std.specs.Prelude.{ℕ, ◌+◌, ◌*◌, ◌≤◌, max, ◌≡◌, Bool, true, false, cond, ◌&&◌, ◌||◌, List, [], ◌∷◌, eqb, ltb}
use Rattle.config.specs.Setting.{access_span, refresh_span, too_short}
use Rattle.config.specs.declared.Geometry.{Geometry}
use Rattle.config.specs.declared.Config.{Config}

pub record Shaped (g : Geometry) : Type 0 where
  pub columns_least : 8 ≤ g.columns
  pub columns_most : g.columns ≤ 11
  pub banks_most : g.banks ≤ 2
  pub rows_least : 9 ≤ g.rows
  pub rows_most : g.rows ≤ 13

pub record Accepted (c : Config) : Type 0 where
  pub shaped : Shaped c.geometry
  pub latency_least : 2 ≤ c.latency
  pub latency_most : c.latency ≤ 3
  pub rfc_least : 1 ≤ c.rfc
  pub rfc_most : c.rfc ≤ 32
  pub rp_least : 1 ≤ c.rp
  pub rp_most : c.rp ≤ 8
  pub rcd_least : 1 ≤ c.rcd
  pub rcd_most : c.rcd ≤ 8
  pub wr_least : 1 ≤ c.wr
  pub wr_most : c.wr ≤ 8
  pub ras_least : 1 ≤ c.ras
  pub ras_most : c.ras ≤ 16
  pub rc_least : 1 ≤ c.rc
  pub rc_most : c.rc ≤ 16
  pub rrd_least : 1 ≤ c.rrd
  pub rrd_most : c.rrd ≤ 8
  pub rr_most : c.rr ≤ 8191
  pub access_span_lem : c.access ≡ access_span (max c.ras c.wr) c.rp c.rc c.rrd c.rcd c.latency
  pub refresh_span_lem : c.refresh ≡ refresh_span (max c.ras c.wr) c.rp c.rc c.rfc
  pub long_enough : c.access + 6 * c.refresh ≤ c.rr

-- The test.

-- a number below `low` or above `high`
abbrev pub outside_of : ℕ → ℕ → ℕ → Bool
outside_of low high n = ltb n low || ltb high n

abbrev pub none_of : List Bool → Bool
none_of [] = true
none_of (b ∷ bs) = cond b false (none_of bs)

unfoldable pub shaped_of : Geometry → Bool
shaped_of g = none_of (outside_of 8 11 g.columns ∷ outside_of 0 2 g.banks ∷ outside_of 9 13 g.rows ∷ [])

unfoldable pub distances_of : Config → Bool
distances_of c =
    none_of
    (outside_of 2 3 c.latency
    ∷ outside_of 1 32 c.rfc
    ∷ outside_of 1 8 c.rp
    ∷ outside_of 1 8 c.rcd
    ∷ outside_of 1 8 c.wr
    ∷ outside_of 1 16 c.ras
    ∷ outside_of 1 16 c.rc
    ∷ outside_of 1 8 c.rrd
    ∷ [])

-- the spans are those of the distances, and the interval is long enough
unfoldable pub spanned_of : Config → Bool
spanned_of c =
    eqb c.access (access_span (max c.ras c.wr) c.rp c.rc c.rrd c.rcd c.latency)
    && (eqb c.refresh (refresh_span (max c.ras c.wr) c.rp c.rc c.rfc)
    && none_of (too_short c.rr c.access c.refresh ∷ ltb 8191 c.rr ∷ []))

unfoldable pub accepted_of : Config → Bool
accepted_of c = shaped_of c.geometry && (distances_of c && spanned_of c)
