-- What a slot's command leaves of the mode register and of the closed banks.
use Prim.Native.Nat.{ℕ, ◌<◌}
use mathlib.Core.Path.{◌≡◌, refl, ◌∙◌}
use mathlib.Core.Bool.{true, false}
use lib.Dec.{lit<}
use Rattle.command.specs.declared.Command.{Command}
use Rattle.command.specs.declared.Command.TheVariants.{Nop, Deac, Refr, Mrs}
use Rattle.device.specs.View.{mode_register, row_cycle, row_precharge, starts, marks_of, all_closed}
use Rattle.device.proofs.Tests.{cond_same}
use Rattle.ages.specs.declared.Past.{Past}
use Rattle.ages.specs.Ages.{row_at, sent_of}
use Rattle.ages.proofs.Slot.{sent_row}

-- an MRS stays sent
pub programmed_kept : (p : Past) (k : Command) → p.programmed ≡ true → (sent_of p k).programmed ≡ true
unfolding sent_of
programmed_kept p k h = rw h (cond_same (starts mode_register k) true)

pub mrs_programmed : (p : Past) (w : ℕ) → (sent_of p (Mrs w)).programmed ≡ true
unfolding sent_of marks_of
mrs_programmed p w = refl

-- a command that opens and closes no bank, as NOP and REFR
row_stays : (p : Past) (k : Command) (b : ℕ) → b < 4 → starts (row_cycle b) k ≡ false → starts (row_precharge b) k ≡ false → row_at (sent_of p k) b ≡ row_at p b
row_stays p k b h f g = sent_row p k b h ∙ rw (f, g)

pub closed_stays : (p : Past) (k : Command) → ((b : ℕ) → starts (row_cycle b) k ≡ false) → ((b : ℕ) → starts (row_precharge b) k ≡ false)
    → all_closed (row_at (sent_of p k)) ≡ all_closed (row_at p)
unfolding all_closed
closed_stays p k f g =
    rw (
      row_stays p k 0 (lit< tt) (f 0) (g 0),
      row_stays p k 1 (lit< tt) (f 1) (g 1),
      row_stays p k 2 (lit< tt) (f 2) (g 2),
      row_stays p k 3 (lit< tt) (f 3) (g 3),
    )

pub nop_closed : (p : Past) → all_closed (row_at (sent_of p Nop)) ≡ all_closed (row_at p)
unfolding marks_of
nop_closed p = closed_stays p Nop (λ b. refl) (λ b. refl)

pub refr_closed : (p : Past) → all_closed (row_at (sent_of p Refr)) ≡ all_closed (row_at p)
unfolding marks_of
refr_closed p = closed_stays p Refr (λ b. refl) (λ b. refl)

-- a DEAC closes all
pub deac_closed : (p : Past) → all_closed (row_at (sent_of p Deac)) ≡ true
unfolding all_closed marks_of
deac_closed p = rw (sent_row p Deac 0 (lit< tt), sent_row p Deac 1 (lit< tt), sent_row p Deac 2 (lit< tt), sent_row p Deac 3 (lit< tt))
