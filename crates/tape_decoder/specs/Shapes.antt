-- Shapes that the contracts of the decoder's own functions cite. Nothing here has to be believed: the contract of `read_at` cites none of it.
use Rattle.std.specs.Prelude.{ℕ, ◌+◌, ◌-◌, ◌<◌, ◌≤◌, ◌≡◌, List, cond, length, get_or}
use Rattle.tape.specs.Reading.{run, refusal, body_length, wrong_run, Step}

-- a run's record at a place
unfoldable pub run_step : ℕ → ℕ → ℕ → Step
run_step at before count =
    cond (wrong_run before count) (record { answer = refusal 13 at; at = at; before = before })
    (record { answer = run count; at = at + 3; before = count })

-- a record of a known kind, whole on the tape
pub record Whole (tape : List ℕ) (at kind : ℕ) : Type 0 where
  pub here : at < length tape
  pub is : kind ≡ get_or tape at 0
  pub known : kind ≤ 7
  pub whole : body_length kind ≤ length tape - at - 1
