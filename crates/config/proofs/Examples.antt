-- Register words and what they give, computed: document 01's E1 to E4; words whose fields all differ, so that no two can be exchanged; and the
-- order of the numbers.
use Prim.Native.Nat.{ℕ}
use mathlib.Core.Path.{◌≡◌, refl}
use mathlib.Core.List.{List, [], ◌∷◌, map}
use Rattle.words.specs.Words.{reserved_map, reserved_all}
use Rattle.config.specs.Setting.{Setting, offered_of, geometry_of, config_of, no_config, checked_of, setting_of, map_number_of}

-- four words, and the number, A and F that they give
record Row : Type 0 where
  setting : Setting
  number : ℕ
  access : ℕ
  refresh : ℕ

abbrev row : ℕ → ℕ → ℕ → ℕ → ℕ → ℕ → ℕ → Row
row cfg r ref tim number a f = record { setting = setting_of cfg r ref tim; number = number; access = a; refresh = f }

abbrev computed : Row → Row
computed x = record { setting = x.setting; number = x.setting.number; access = x.setting.config.access; refresh = x.setting.config.refresh }

abbrev rows : List Row
rows =
    row 0x4400 0 27 0 0 9 3  -- E1
    ∷ row 0x4400 0 26 0 3 0 0  -- E2
    ∷ row 0x4600 0 397 0xff77ff70 0 61 56  -- E3
    ∷ row 0x4600 0 396 0xff77ff70 3 0 0
    ∷ row 0x4620 4 136 0x42215810 0 28 18  -- E4
    ∷ row 0x4620 4 135 0x42215810 3 0 0
    ∷ row 0x4612 4 185 0x63175a40 0 35 25  -- no two fields alike, and tWR above tRAS
    ∷ row 0x4612 4 184 0x63175a40 3 0 0
    ∷ row 0x4420 4 147 0x31324b50 0 33 19  -- no two distances alike, and tRC decides F
    ∷ row 0x4420 4 146 0x31324b50 3 0 0
    -- 1 before 2 and 3, from each word
    ∷ row 0x0408 5 26 0 1 0 0
    ∷ row 0x0400 8 26 0 1 0 0
    ∷ row 0x0400 5 0x2000 0 1 0 0
    ∷ row 0x0400 5 26 1 1 0 0
    -- 2 before 3: NM, CL, IBANK, PAGESIZE, ROWSIZE
    ∷ row 0x0400 0 26 0 2 0 0
    ∷ row 0x4200 0 26 0 2 0 0
    ∷ row 0x4800 0 26 0 2 0 0
    ∷ row 0x4430 0 26 0 2 0 0
    ∷ row 0x4404 0 26 0 2 0 0
    ∷ row 0x4400 5 26 0 2 0 0
    ∷ []

-- `unlike`: the words whose fields all differ, in full; `refused`: a refusal holds no device; `mapped`: the standalone map asks CFG and ROW as
-- a configuration does, NM and CL included
record Examples : Type 0 where
  table : map computed rows ≡ rows
  unlike :
      setting_of 0x4612 4 185 0x63175a40
      ≡ record {
        number = 0;
        config = record {
          geometry = record { columns = 10; banks = 1; rows = 13 };
          latency = 3;
          rfc = 13;
          rp = 4;
          rcd = 2;
          wr = 8;
          ras = 6;
          rc = 11;
          rrd = 5;
          rr = 185;
          access = 35;
          refresh = 25;
        };
      }
  refused : (setting_of 0x4612 4 184 0x63175a40).config ≡ no_config
  mapped :
      map_number_of 0x4400 0 ∷ map_number_of 0x4623 4 ∷ map_number_of 0x0408 0 ∷ map_number_of 0x0400 8 ∷ map_number_of 0x0400 0 ∷ map_number_of 0x4200 0
      ∷ map_number_of 0x4430 0 ∷ map_number_of 0x4404 0 ∷ map_number_of 0x4400 5 ∷ []
      ≡ 0 ∷ 0 ∷ 1 ∷ 1 ∷ 2 ∷ 2 ∷ 2 ∷ 2 ∷ 2 ∷ []

examples : Examples
unfolding setting_of reserved_all reserved_map offered_of checked_of config_of geometry_of map_number_of
examples = record { table = refl; unlike = refl; refused = refl; mapped = refl }
