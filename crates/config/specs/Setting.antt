-- From the four register words to a configuration, or to a number of document 01's table.
use Rattle.std.specs.Prelude.{ℕ, ◌+◌, ◌*◌, max, Bool, cond, ◌&&◌, eqb, leb, ltb}
use Rattle.words.specs.Words.{field_of, NM, CL, IBANK, PAGESIZE, ROWSIZE, RR, T_RFC, T_RP, T_RCD, T_WR, T_RAS, T_RC, T_RRD, reserved_map, reserved_all}
use Rattle.config.specs.declared.Geometry.{Geometry}
use Rattle.config.specs.declared.Config.{Config}

-- a number of document 01's table and, where it is 0, the configuration; all zeros where it is not
pub record Setting : Type 0 where
  pub number : ℕ
  pub config : Config

-- every field of CFG and ROW holds a value that is offered; the other words' fields offer all their values
unfoldable pub offered_of : ℕ → ℕ → Bool
offered_of cfg row =
    eqb (field_of cfg NM) 1 && (leb 2 (field_of cfg CL) && (leb (field_of cfg CL) 3 && (leb (field_of cfg IBANK) 2
    && (leb (field_of cfg PAGESIZE) 3 && leb (field_of row ROWSIZE) 4))))

-- the geometry as widths in bits
unfoldable pub geometry_of : ℕ → ℕ → Geometry
geometry_of cfg row = record { columns = 8 + field_of cfg PAGESIZE; banks = field_of cfg IBANK; rows = 9 + field_of row ROWSIZE }

-- a TIM field holds slots minus one
abbrev pub slots : ℕ → ℕ
slots f = f + 1

-- the access span, A
abbrev pub access_span : ℕ → ℕ → ℕ → ℕ → ℕ → ℕ → ℕ
access_span m rp rc rrd rcd latency = m + rp + rc + rrd + rcd + latency + 2

-- the refresh span, F: the larger of M + tRP and tRC, plus tRFC (document 02, (iv))
abbrev pub refresh_span : ℕ → ℕ → ℕ → ℕ → ℕ
refresh_span m rp rc rfc = max (m + rp) rc + rfc

-- the configuration that the words describe
unfoldable pub config_of : ℕ → ℕ → ℕ → ℕ → Config
config_of cfg row ref tim =
    let m : ℕ = max (slots (field_of tim T_RAS)) (slots (field_of tim T_WR)) in
    record {
      geometry = geometry_of cfg row;
      latency = field_of cfg CL;
      rfc = slots (field_of tim T_RFC);
      rp = slots (field_of tim T_RP);
      rcd = slots (field_of tim T_RCD);
      wr = slots (field_of tim T_WR);
      ras = slots (field_of tim T_RAS);
      rc = slots (field_of tim T_RC);
      rrd = slots (field_of tim T_RRD);
      rr = field_of ref RR;
      access = access_span m (slots (field_of tim T_RP)) (slots (field_of tim T_RC)) (slots (field_of tim T_RRD)) (slots (field_of tim T_RCD)) (field_of cfg CL);
      refresh = refresh_span m (slots (field_of tim T_RP)) (slots (field_of tim T_RC)) (slots (field_of tim T_RFC));
    }

-- no device
abbrev pub no_geometry : Geometry
no_geometry = record { columns = 0; banks = 0; rows = 0 }

abbrev pub no_config : Config
no_config =
    record {
      geometry = no_geometry;
      latency = 0;
      rfc = 0;
      rp = 0;
      rcd = 0;
      wr = 0;
      ras = 0;
      rc = 0;
      rrd = 0;
      rr = 0;
      access = 0;
      refresh = 0;
    }

-- the interval is too short for one access and six refreshes: number 3
abbrev pub too_short : ℕ → ℕ → ℕ → Bool
too_short rr access refresh = ltb rr (access + 6 * refresh)

abbrev pub refused_of : ℕ → Setting
refused_of n = record { number = n; config = no_config }

unfoldable pub checked_of : Config → Setting
checked_of c = cond (too_short c.rr c.access c.refresh) (refused_of 3) (record { number = 0; config = c })

-- what four words give: 1 over all words, then 2, then 3, then the configuration with 0
unfoldable pub setting_of : ℕ → ℕ → ℕ → ℕ → Setting
setting_of cfg row ref tim =
    cond (reserved_all cfg row ref tim) (refused_of 1)
    (cond (offered_of cfg row) (checked_of (config_of cfg row ref tim)) (refused_of 2))

-- the number that the standalone map gives for its two words: 1, then 2, then 0
unfoldable pub map_number_of : ℕ → ℕ → ℕ
map_number_of cfg row = cond (reserved_map cfg row) 1 (cond (offered_of cfg row) 0 2)
