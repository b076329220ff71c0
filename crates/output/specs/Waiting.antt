-- The bytes that wait in a buffer, as the contracts of the code say them.
use Rattle.std.specs.Prelude.{ℕ, ◌+◌, true, false, cond, ◌≡◌, ltb, length}
use Rattle.output.specs.declared.Output.{Output}

-- how many bytes go on waiting in a buffer of `room` places, if `needed` places are wanted behind them: all, or none
unfoldable pub kept_of : ℕ → ℕ → ℕ → ℕ
kept_of waiting needed room = cond (ltb room (waiting + needed)) 0 waiting

-- After a failure nothing is written; otherwise nothing waits any more.
pub record Emptied (before after : Output) : Type 0 where
  pub stays : before.failed ≡ true → after ≡ before
  pub empty : after.failed ≡ false → after.waiting ≡ 0

-- After a failure nothing is written; otherwise there is room.
pub record Roomy (before : Output) (needed : ℕ) (after : Output) : Type 0 where
  pub stays : before.failed ≡ true → after ≡ before
  pub kept : after.failed ≡ false → after.waiting ≡ kept_of before.waiting needed (length before.buffer.now)
