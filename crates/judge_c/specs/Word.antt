-- The judge's answer to a program in C (document 02, (v)).
use Rattle.std.specs.Prelude.{ℕ, ◌+◌, ◌*◌, ◌^◌, ◌<◌}
use Rattle.judge.specs.Judge.{Verdict}

-- one 64-bit word: from the low end a byte each for number, rule and bank, then the slot
unfoldable pub word_of : Verdict → ℕ
word_of v = v.number + 2 ^ 8 * v.rule + 2 ^ 16 * v.bank + 2 ^ 24 * v.slot

-- numbers that have their places in the word
pub record Fits (v : Verdict) : Type 0 where
  pub number : v.number < 2 ^ 8
  pub rule : v.rule < 2 ^ 8
  pub bank : v.bank < 2 ^ 8
  pub slot : v.slot < 2 ^ 40
