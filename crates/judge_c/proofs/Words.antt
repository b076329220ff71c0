-- The parts of the word: each stands above what is smaller than its place.
use native.Mathlib.Omega.{arith}
use Rattle.judge_c.specs.Word.{word_of}
use Rattle.judge_c.specs.Laws.{Words}

pub words : Words
unfolding word_of
words = record {
  fits = λ v h. omega (arith, h.number, h.rule, h.bank, h.slot);
  number = λ v h. omega (arith, h.number);
  rule = λ v h. omega (arith, h.number, h.rule);
  bank = λ v h. omega (arith, h.number, h.rule, h.bank);
  slot = λ v h. omega (arith, h.number, h.rule, h.bank);
}
