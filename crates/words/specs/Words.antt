-- The four register words as fields of bits (document 01, "Register words").
use Rattle.std.specs.Prelude.{ℕ, ◌/◌, ◌%◌, ◌^◌, Bool, true, false, cond, ◌||◌, List, [], ◌∷◌, eqb}

-- `width` bits from bit `low` on
pub record Bits : Type 0 where
  pub low : ℕ
  pub width : ℕ

abbrev pub bits : ℕ → ℕ → Bits
bits l w = record { low = l; width = w }

-- the number that a word holds in those bits
abbrev pub field_of : ℕ → Bits → ℕ
field_of w f = w / 2 ^ f.low % 2 ^ f.width

-- The named fields.

abbrev pub NM : Bits
NM = bits 14 1

abbrev pub CL : Bits
CL = bits 9 3

abbrev pub IBANK : Bits
IBANK = bits 4 3

abbrev pub PAGESIZE : Bits
PAGESIZE = bits 0 3

abbrev pub ROWSIZE : Bits
ROWSIZE = bits 0 3

abbrev pub RR : Bits
RR = bits 0 13

abbrev pub T_RFC : Bits
T_RFC = bits 27 5

abbrev pub T_RP : Bits
T_RP = bits 24 3

abbrev pub T_RCD : Bits
T_RCD = bits 20 3

abbrev pub T_WR : Bits
T_WR = bits 16 3

abbrev pub T_RAS : Bits
T_RAS = bits 12 4

abbrev pub T_RC : Bits
T_RC = bits 8 4

abbrev pub T_RRD : Bits
T_RRD = bits 4 3

-- The bits that no field names. `Examples.covered` shows that these and the named ones are all 32 of each word.

abbrev pub cfg_reserved : List Bits
cfg_reserved = bits 15 17 ∷ bits 12 2 ∷ bits 7 2 ∷ bits 3 1 ∷ []

abbrev pub row_reserved : List Bits
row_reserved = bits 3 29 ∷ []

abbrev pub ref_reserved : List Bits
ref_reserved = bits 13 19 ∷ []

abbrev pub tim_reserved : List Bits
tim_reserved = bits 23 1 ∷ bits 19 1 ∷ bits 7 1 ∷ bits 0 4 ∷ []

-- is a bit of these set?
abbrev pub any_set : List Bits → ℕ → Bool
any_set [] w = false
any_set (f ∷ fs) w = cond (eqb (field_of w f) 0) (any_set fs w) true

-- number 1 for the words of the standalone map, and for all four
unfoldable pub reserved_map : ℕ → ℕ → Bool
reserved_map cfg row = any_set cfg_reserved cfg || any_set row_reserved row

unfoldable pub reserved_all : ℕ → ℕ → ℕ → ℕ → Bool
reserved_all cfg row ref tim = reserved_map cfg row || (any_set ref_reserved ref || any_set tim_reserved tim)
