-- What a program in C can read off the word.
use Rattle.std.specs.Prelude.{◌/◌, ◌%◌, ◌^◌, ◌<◌, ◌≡◌}
use Rattle.judge.specs.Judge.{Verdict}
use Rattle.judge_c.specs.Word.{word_of, Fits}

-- of every verdict whose parts have their places, as those of `girmutsab_judge` have by its contract
pub record Words : Type 0 where
  -- the word is one of 64 bits, and each part can be read off it
  pub fits : (v : Verdict) → Fits v → word_of v < 2 ^ 64
  pub number : (v : Verdict) → Fits v → word_of v % 2 ^ 8 ≡ v.number
  pub rule : (v : Verdict) → Fits v → word_of v / 2 ^ 8 % 2 ^ 8 ≡ v.rule
  pub bank : (v : Verdict) → Fits v → word_of v / 2 ^ 16 % 2 ^ 8 ≡ v.bank
  pub slot : (v : Verdict) → Fits v → word_of v / 2 ^ 24 ≡ v.slot
