-- A text that is put together from words and decimal numbers (REPLAY.md, "Output").
use Rattle.std.specs.Prelude.{ℕ, zero, suc, ◌+◌, ◌*◌, ◌/◌, ◌%◌, cond, List, [], ◌∷◌, ltb, leb, take, set, replicate}
use Prim.Native.Char.{code}
use Prim.Native.String.{String, [] as nothing, ◌∷◌ as ◌before◌}
use Rattle.text.specs.declared.Text.{Text}

-- the bytes of a text in ASCII
abbrev pub ascii : String → List ℕ
ascii nothing = []
ascii (c before s) = code c ∷ ascii s

-- the bytes of a list as the digits of one number in base 256, with those of n before them
abbrev pub packed : ℕ → List ℕ → ℕ
packed n [] = n
packed n (b ∷ bs) = packed (n * 256 + b) bs

-- a word as a number
abbrev pub letters : String → ℕ
letters s = packed 0 (ascii s)

-- what a text says
abbrev pub said_of : Text → List ℕ
said_of t = take t.count t.bytes

unfoldable pub empty_of : Text
empty_of = record { bytes = replicate 64 0; count = 0 }

unfoldable pub byte_of : Text → ℕ → Text
byte_of t b = cond (leb 64 t.count) t (record { bytes = set t.bytes t.count b; count = t.count + 1 })

-- the digits of n in a base, the last `most` at most, the highest first; the digit d is the byte z + d
unfoldable pub spelled_of : Text → ℕ → ℕ → ℕ → ℕ → Text
spelled_of t n base z zero = t
spelled_of t n base z (suc most) =
    cond (ltb n base) (byte_of t (z + n)) (byte_of (spelled_of t (n / base) base z most) (z + n % base))

unfoldable pub word_of : Text → ℕ → Text
word_of t n = spelled_of t n 256 0 8

unfoldable pub decimal_of : Text → ℕ → Text
decimal_of t n = spelled_of t n 10 48 20
