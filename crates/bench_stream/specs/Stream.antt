-- The stream of words that the benchmarks are run on: xorshift, of 32 bits.
use Rattle.std.specs.Prelude.{ℕ, ◌*◌, ◌/◌, ◌%◌, ◌^◌, bit_xor}

-- a word and itself shifted to the left
unfoldable pub left_of : ℕ → ℕ → ℕ
left_of x by = bit_xor x ((x * 2 ^ by) % 2 ^ 32)

-- and to the right
unfoldable pub right_of : ℕ → ℕ → ℕ
right_of x by = bit_xor x (x / 2 ^ by)

-- the word after x
unfoldable pub shuffled : ℕ → ℕ
shuffled x = left_of (right_of (left_of x 13) 17) 5
