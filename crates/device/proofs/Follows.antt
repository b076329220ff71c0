-- The history after a slot, by what the slot's command starts.
use Prim.Native.Nat.{ℕ, suc}
use mathlib.Core.Path.{◌≡◌, refl}
use mathlib.Core.Bool.{false, cond}
use mathlib.Core.List.{[], ◌∷◌}
use mathlib.Core.Option.{none, some}
use native.Mathlib.Omega.{arith}
use Rattle.config.specs.declared.Config.{Config}
use Rattle.command.specs.declared.Command.{Command}
use Rattle.command.specs.declared.Command.TheVariants.{Nop}
use Rattle.device.specs.View.{
  Distance,
  refresh_cycle,
  mode_register,
  read_to_write,
  any_precharge,
  row_precharge,
  row_cycle,
  row_to_row,
  row_to_column,
  row_active,
  write_recovery,
  marks_of,
  starts,
  row_of,
}
use Rattle.device.specs.History.{History, Log, last, open_row, fed}
use Rattle.device.proofs.Every.{Falling}

-- a NOP starts no distance
pub starts_nop : (d : Distance) → starts d Nop ≡ false
unfolding marks_of
starts_nop refresh_cycle = refl
starts_nop mode_register = refl
starts_nop read_to_write = refl
starts_nop any_precharge = refl
starts_nop (row_precharge b) = refl
starts_nop (row_cycle b) = refl
starts_nop (row_to_row b) = refl
starts_nop (row_to_column b) = refl
starts_nop (row_active b) = refl
starts_nop (write_recovery b) = refl

-- the SDRAM's next slot
pub fed_now : (c : Config) (g : Log) (k : Command) → (fed c g k).now ≡ suc g.now
unfolding fed
fed_now c g k = refl

-- the history after a slot in which k was sent
pub record Follows (k : Command) (now : ℕ) (h g : History) : Type 0 where
  pub lasts : (d : Distance) → last d g ≡ cond (starts d k) (some now) (last d h)
  pub rows : (b : ℕ) → open_row g b ≡ cond (starts (row_cycle b) k) (some (row_of k)) (cond (starts (row_precharge b) k) none (open_row h b))
  pub falling : Falling now h → Falling (suc now) g

pub sent_follows : (k : Command) (now : ℕ) (h : History) → Follows k now h (record { slot = now; command = k } ∷ h)
unfolding last open_row Falling
sent_follows k now h = record { lasts = λ d. refl; rows = λ b. refl; falling = λ f. (omega arith, f) }

falling_later : (now : ℕ) (h : History) → Falling now h → Falling (suc now) h
unfolding Falling
falling_later now [] f = tt
falling_later now (s ∷ h) f = (omega arith, f.1)

-- a slot that leaves the history as it was is a NOP's
pub idle_follows : (now : ℕ) (h : History) → Follows Nop now h h
idle_follows now h = record {
  lasts = λ d. rw (starts_nop d);
  rows = λ b. rw (starts_nop (row_cycle b), starts_nop (row_precharge b));
  falling = falling_later now h;
}
