-- A number of a script, byte by byte (REPLAY.md, "Script"): decimal, or hexadecimal after 0x, of at most 32 bits.
use Rattle.std.specs.Prelude.{Option, None, Some, ℕ, ◌+◌, ◌-◌, ◌*◌, cond, ltb, leb, eqb}
use Rattle.number.specs.declared.Number.{Number}
use Rattle.number.specs.declared.Number.TheVariants.{Empty, Zero, Decimal, Prefix, Hex, Wrong}

-- stands for no number: more than 32 bits hold
abbrev pub none : ℕ
none = 4294967296

-- a number that may be missing, as the definitions below say it
abbrev pub value_in : Option ℕ → ℕ
value_in None = none
value_in (Some v) = v

-- and a digit that may be missing
abbrev pub digit_in : Option ℕ → ℕ
digit_in None = 16
digit_in (Some d) = d

-- the value of a digit, `0` to `9`, `A` to `F`, `a` to `f`, and 16 for a byte that is none
unfoldable pub digit_of : ℕ → ℕ
digit_of b =
    cond (ltb b 48) 16
    (cond (ltb b 58) (b - 48)
    (cond (ltb b 65) 16 (cond (ltb b 71) (b - 55) (cond (ltb b 97) 16 (cond (ltb b 103) (b - 87) 16)))))

-- `high` and a digit of the base; `none` where the byte is no such digit, or 32 bits do not hold the sum
unfoldable pub joined_of : ℕ → ℕ → ℕ → ℕ
joined_of high base b =
    cond (leb base (digit_of b)) none (cond (leb none (high + digit_of b)) none (high + digit_of b))

unfoldable pub more_decimal : ℕ → ℕ → Number
more_decimal v b = cond (leb none (joined_of (v * 10) 10 b)) Wrong (Decimal (joined_of (v * 10) 10 b))

unfoldable pub more_hex : ℕ → ℕ → Number
more_hex v b = cond (leb none (joined_of (v * 16) 16 b)) Wrong (Hex (joined_of (v * 16) 16 b))

unfoldable pub first_byte : ℕ → Number
first_byte b = cond (eqb b 48) Zero (more_decimal 0 b)

unfoldable pub after_zero : ℕ → Number
after_zero b = cond (eqb b 120) Prefix (more_decimal 0 b)

-- one byte more
unfoldable pub number_of : Number → ℕ → Number
number_of Empty b = first_byte b
number_of Zero b = after_zero b
number_of (Decimal v) b = more_decimal v b
number_of Prefix b = more_hex 0 b
number_of (Hex v) b = more_hex v b
number_of Wrong b = Wrong

-- the value of a number that ends here
unfoldable pub value_of : Number → ℕ
value_of Empty = none
value_of Zero = 0
value_of (Decimal v) = v
value_of Prefix = none
value_of (Hex v) = v
value_of Wrong = none
