-- A setting with number 0 holds an accepted configuration, and the standalone map's number 0 a geometry that is offered.
use Prim.Native.Nat.{ℕ, ◌≤◌, ◌+◌, ◌*◌, max}
use native.Mathlib.Omega.{arith}
use mathlib.Core.Path.{◌≡◌, refl}
use mathlib.Core.Bool.{Bool, true, false, cond, ◌&&◌, ◌||◌, and-eq-true_iff, true≢false, false≢true}
use mathlib.Core.List.{List, [], ◌∷◌}
use lib.Dec.{eqb, leb, ltb}
use borrow.Author.Tests.{leb-true, ltb-false, eqb-true, eqb-false, eq-eqb, le-ltb}
use Rattle.words.specs.Words.{field_of, NM, CL, IBANK, PAGESIZE, ROWSIZE, reserved_map, reserved_all}
use Rattle.config.specs.Setting.{Setting, offered_of, geometry_of, config_of, checked_of, setting_of, map_number_of, refused_of, too_short, access_span, refresh_span}
use Rattle.config.specs.Accepted.{Shaped, Accepted, outside_of, none_of, shaped_of, distances_of, spanned_of, accepted_of}
use Rattle.config.specs.declared.Geometry.{Geometry}
use Rattle.config.specs.declared.Config.{Config}

-- the ranges of the fields of CFG and ROW that are offered
record Offered (cfg row : ℕ) : Type 0 where
  shaped : Shaped (geometry_of cfg row)
  latency_least : 2 ≤ field_of cfg CL
  latency_most : field_of cfg CL ≤ 3

-- the parts of a conjunction of six
six : (a b c d e f : Bool) → a && (b && (c && (d && (e && f)))) ≡ true → (b ≡ true) × (c ≡ true) × (d ≡ true) × (e ≡ true) × (f ≡ true)
six a b c d e f h =
    let h1 = ((and-eq-true_iff a (b && (c && (d && (e && f))))).0 h).1 in
    let h2 = (and-eq-true_iff b (c && (d && (e && f)))).0 h1 in
    let h3 = (and-eq-true_iff c (d && (e && f))).0 h2.1 in
    let h4 = (and-eq-true_iff d (e && f)).0 h3.1 in
    let h5 = (and-eq-true_iff e f).0 h4.1 in
    (h2.0, h3.0, h4.0, h5.0, h5.1)

offered : (cfg row : ℕ) → offered_of cfg row ≡ true → Offered cfg row
unfolding offered_of geometry_of
offered cfg row h =
    let p = six (eqb (field_of cfg NM) 1) (leb 2 (field_of cfg CL)) (leb (field_of cfg CL) 3) (leb (field_of cfg IBANK) 2) (leb (field_of cfg PAGESIZE) 3)
    (leb (field_of row ROWSIZE) 4) h in
    omega (
      arith,
      leb-true 2 (field_of cfg CL) p.0,
      leb-true (field_of cfg CL) 3 p.1,
      leb-true (field_of cfg IBANK) 2 p.2,
      leb-true (field_of cfg PAGESIZE) 3 p.3,
      leb-true (field_of row ROWSIZE) 4 p.4,
    )

pub shaped : (cfg row : ℕ) → map_number_of cfg row ≡ 0 → Shaped (geometry_of cfg row)
unfolding map_number_of
shaped cfg row h = by_reserved (reserved_map cfg row) (offered_of cfg row) refl h
  where
    by_reserved : (a b : Bool) → offered_of cfg row ≡ b → ◌≡◌ {A = ℕ} (cond a 1 (cond b 0 2)) 0 → Shaped (geometry_of cfg row)
    by_reserved true b e n = absurd (eqb-false 1 0 refl n)
    by_reserved false true e n = (offered cfg row e).shaped
    by_reserved false false e n = absurd (eqb-false 2 0 refl n)

accepted_config : (cfg row ref tim : ℕ) → offered_of cfg row ≡ true
    → too_short (config_of cfg row ref tim).rr (config_of cfg row ref tim).access (config_of cfg row ref tim).refresh ≡ false
    → Accepted (config_of cfg row ref tim)
unfolding config_of
accepted_config cfg row ref tim e short =
    let o = offered cfg row e in
    let c = config_of cfg row ref tim in
    omega (arith, ltb-false c.rr (c.access + 6 * c.refresh) short)

-- number 0: the setting is the words' configuration, and that is accepted
pub accepted : (cfg row ref tim : ℕ) → (setting_of cfg row ref tim).number ≡ 0
    → (setting_of cfg row ref tim ≡ record { number = 0; config = config_of cfg row ref tim }) × Accepted (config_of cfg row ref tim)
unfolding setting_of checked_of
accepted cfg row ref tim h =
    by_number (reserved_all cfg row ref tim) (offered_of cfg row)
    (too_short (config_of cfg row ref tim).rr (config_of cfg row ref tim).access (config_of cfg row ref tim).refresh) refl refl h
  where
    c : Config
    c = config_of cfg row ref tim

    answer : Bool → Bool → Bool → Setting
    answer r o s = cond r (refused_of 1) (cond o (cond s (refused_of 3) (record { number = 0; config = c })) (refused_of 2))

    by_number : (r o s : Bool) → offered_of cfg row ≡ o → too_short c.rr c.access c.refresh ≡ s → (answer r o s).number ≡ 0
        → (answer r o s ≡ record { number = 0; config = c }) × Accepted c
    by_number true o s e f n = absurd (eqb-false 1 0 refl n)
    by_number false false s e f n = absurd (eqb-false 2 0 refl n)
    by_number false true true e f n = absurd (eqb-false 3 0 refl n)
    by_number false true false e f n = (refl, accepted_config cfg row ref tim e f)

-- The test for an accepted configuration, and the facts.

none_first : (b : Bool) (bs : List Bool) → none_of (b ∷ bs) ≡ true → (b ≡ false) × (none_of bs ≡ true)
none_first true bs h = absurd (false≢true h)
none_first false bs h = (refl, h)

inside : (low high n : ℕ) → outside_of low high n ≡ false → (low ≤ n) × (n ≤ high)
inside low high n h = go (ltb n low) refl h
  where
    go : (b : Bool) → ltb n low ≡ b → b || ltb high n ≡ false → (low ≤ n) × (n ≤ high)
    go true e f = absurd (true≢false f)
    go false e f = (ltb-false n low e, ltb-false high n f)

outside : (low high n : ℕ) → low ≤ n → n ≤ high → outside_of low high n ≡ false
outside low high n a b = simp (le-ltb n low a, le-ltb high n b)

-- a list of ranges, each as low, high and number
record Range : Type 0 where
  low : ℕ
  high : ℕ
  at : ℕ

abbrev tests : List Range → List Bool
tests [] = []
tests (r ∷ rs) = outside_of r.low r.high r.at ∷ tests rs

abbrev Within : List Range → Type 0
Within [] = Unit {0}
Within (r ∷ rs) = ((r.low ≤ r.at) × (r.at ≤ r.high)) × Within rs

tests_within : (rs : List Range) → none_of (tests rs) ≡ true → Within rs
tests_within [] h = tt
tests_within (r ∷ rs) h =
    let x = none_first (outside_of r.low r.high r.at) (tests rs) h in
    (inside r.low r.high r.at x.0, tests_within rs x.1)

within_tests : (rs : List Range) → Within rs → none_of (tests rs) ≡ true
within_tests [] w = refl
within_tests (r ∷ rs) w = rw (outside r.low r.high r.at w.0.0 w.0.1) (within_tests rs w.1)

abbrev range : ℕ → ℕ → ℕ → Range
range l h n = record { low = l; high = h; at = n }

abbrev shape_ranges : Geometry → List Range
shape_ranges g = range 8 11 g.columns ∷ range 0 2 g.banks ∷ range 9 13 g.rows ∷ []

abbrev distance_ranges : Config → List Range
distance_ranges c =
    range 2 3 c.latency ∷ range 1 32 c.rfc ∷ range 1 8 c.rp ∷ range 1 8 c.rcd ∷ range 1 8 c.wr ∷ range 1 16 c.ras ∷ range 1 16 c.rc
    ∷ range 1 8 c.rrd ∷ []

pub shaped_true : (g : Geometry) → shaped_of g ≡ true → Shaped g
unfolding shaped_of
shaped_true g h = let w = tests_within (shape_ranges g) h in omega (arith, w.0, w.1.0, w.1.1.0)

pub true_shaped : (g : Geometry) → Shaped g → shaped_of g ≡ true
unfolding shaped_of
true_shaped g s = within_tests (shape_ranges g) (omega (arith, s.columns_least, s.columns_most, s.banks_most, s.rows_least, s.rows_most))

record Spanned (c : Config) : Type 0 where
  access : c.access ≡ access_span (max c.ras c.wr) c.rp c.rc c.rrd c.rcd c.latency
  refresh : c.refresh ≡ refresh_span (max c.ras c.wr) c.rp c.rc c.rfc
  enough : c.access + 6 * c.refresh ≤ c.rr
  most : c.rr ≤ 8191

spanned_true : (c : Config) → spanned_of c ≡ true → Spanned c
unfolding spanned_of
spanned_true c h =
    let a = eqb c.access (access_span (max c.ras c.wr) c.rp c.rc c.rrd c.rcd c.latency) in
    let f = eqb c.refresh (refresh_span (max c.ras c.wr) c.rp c.rc c.rfc) in
    let s = too_short c.rr c.access c.refresh in
    let r = ltb 8191 c.rr in
    let x = (and-eq-true_iff a (f && none_of (s ∷ r ∷ []))).0 h in
    let y = (and-eq-true_iff f (none_of (s ∷ r ∷ []))).0 x.1 in
    let z = none_first s (r ∷ []) y.1 in
    record {
      access = eqb-true _ _ x.0;
      refresh = eqb-true _ _ y.0;
      enough = ltb-false c.rr (c.access + 6 * c.refresh) z.0;
      most = ltb-false 8191 c.rr (none_first r [] z.1).0;
    }

true_spanned : (c : Config) → Spanned c → spanned_of c ≡ true
unfolding spanned_of
true_spanned c s =
    simp
    (eq-eqb _ _ s.access, eq-eqb _ _ s.refresh, le-ltb c.rr (c.access + 6 * c.refresh) s.enough, le-ltb 8191 c.rr s.most)

pub accepted_true : (c : Config) → accepted_of c ≡ true → Accepted c
unfolding accepted_of distances_of
accepted_true c h =
    let x = (and-eq-true_iff (shaped_of c.geometry) (distances_of c && spanned_of c)).0 h in
    let y = (and-eq-true_iff (distances_of c) (spanned_of c)).0 x.1 in
    let g = shaped_true c.geometry x.0 in
    let w = tests_within (distance_ranges c) y.0 in
    let s = spanned_true c y.1 in
    record {
      shaped = g;
      latency_least = w.0.0;
      latency_most = w.0.1;
      rfc_least = w.1.0.0;
      rfc_most = w.1.0.1;
      rp_least = w.1.1.0.0;
      rp_most = w.1.1.0.1;
      rcd_least = w.1.1.1.0.0;
      rcd_most = w.1.1.1.0.1;
      wr_least = w.1.1.1.1.0.0;
      wr_most = w.1.1.1.1.0.1;
      ras_least = w.1.1.1.1.1.0.0;
      ras_most = w.1.1.1.1.1.0.1;
      rc_least = w.1.1.1.1.1.1.0.0;
      rc_most = w.1.1.1.1.1.1.0.1;
      rrd_least = w.1.1.1.1.1.1.1.0.0;
      rrd_most = w.1.1.1.1.1.1.1.0.1;
      rr_most = s.most;
      access_span_lem = s.access;
      refresh_span_lem = s.refresh;
      long_enough = s.enough;
    }

pub true_accepted : (c : Config) → Accepted c → accepted_of c ≡ true
unfolding accepted_of distances_of
true_accepted c a =
    let ranges : Within (distance_ranges c) =
    omega (
      arith,
      a.latency_least,
      a.latency_most,
      a.rfc_least,
      a.rfc_most,
      a.rp_least,
      a.rp_most,
      a.rcd_least,
      a.rcd_most,
      a.wr_least,
      a.wr_most,
      a.ras_least,
      a.ras_most,
      a.rc_least,
      a.rc_most,
      a.rrd_least,
      a.rrd_most,
    ) in
    let spans : Spanned c = record { access = a.access_span_lem; refresh = a.refresh_span_lem; enough = a.long_enough; most = a.rr_most } in
    simp (true_shaped c.geometry a.shaped, within_tests (distance_ranges c) ranges, true_spanned c spans)
