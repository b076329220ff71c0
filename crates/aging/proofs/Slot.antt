-- The past after a slot as the code makes it, what its command starts and then all ages a slot older, is that by the definition of ages.
use Prim.Native.Nat.{ℕ, ◌≤◌, ◌<◌}
use mathlib.Core.Path.{◌≡◌, refl}
use mathlib.Core.Bool.{Bool, true, false}
use mathlib.Core.List.{List}
use native.Mathlib.Omega.{arith}
use lib.Dec.{leb, eqb, lit<}
use lib.ListN.{length}
use borrow.Author.Tests.{leb-true, leb-false, le-ltb, ne_eqb}
use Rattle.command.specs.declared.Command.{Command}
use Rattle.command.specs.declared.Command.TheVariants.{Nop, Act, Read, Wrt, Pre, Deac, Refr, Mrs}
use Rattle.device.specs.View.{marks_of, row_of}
use Rattle.device.proofs.Tests.{four_banks}
use Rattle.ages.specs.declared.Past.{Past}
use Rattle.ages.specs.Ages.{past_of, aged_of, ages_after, sent_of}
use Rattle.ages.proofs.Record.{listed, elements}
use Rattle.aging.specs.Noted.{noted_ages, noted_open, noted_rows, noted_mode, noted_of, elapsed_of}

-- a bank that no device has is none of the four
far : (b n : ℕ) → n < 4 → 4 ≤ b → eqb b n ≡ false
far b n l h = ne_eqb b n (λ e. omega arith)

-- by the bank: one of the four, or another
each_bank : (P : ℕ → Type 0) → P 0 → P 1 → P 2 → P 3 → ((n : ℕ) → 4 ≤ n → P n) → (b : ℕ) → P b
each_bank P p q r s t b = by_test (leb 4 b) refl
  where
    by_test : (x : Bool) → leb 4 b ≡ x → P b
    by_test true e = t b (leb-true 4 b e)
    by_test false e = four_banks P p q r s b (leb-false 4 b e)

-- Of arrays that are written out, each command's past computes.
module _ (a : List ℕ) (o : List Bool) (r : List ℕ) (m : Bool) where
  abbrev written : Past
  written = past_of (listed 0 16 0 a) (listed false 4 0 o) (listed 0 4 0 r) m

  written_sent : (k : Command) → elapsed_of (noted_of written k) ≡ sent_of written k
  unfolding elapsed_of noted_of noted_ages noted_open noted_rows noted_mode sent_of ages_after aged_of marks_of row_of
  written_sent Nop = refl
  written_sent (Act b x) =
      each_bank (λ n. elapsed_of (noted_of written (Act (record { 0 = n }) x)) ≡ sent_of written (Act (record { 0 = n }) x)) refl refl refl refl
      (λ n h. rw (le-ltb n 4 h, far n 0 (lit< tt) h, far n 1 (lit< tt) h, far n 2 (lit< tt) h, far n 3 (lit< tt) h)) b.0
  written_sent (Read b k) = refl
  written_sent (Wrt b k x) =
      each_bank (λ n. elapsed_of (noted_of written (Wrt (record { 0 = n }) k x)) ≡ sent_of written (Wrt (record { 0 = n }) k x)) refl refl refl refl
      (λ n h. rw (le-ltb n 4 h, far n 0 (lit< tt) h, far n 1 (lit< tt) h, far n 2 (lit< tt) h, far n 3 (lit< tt) h)) b.0
  written_sent (Pre b) =
      each_bank (λ n. elapsed_of (noted_of written (Pre (record { 0 = n }))) ≡ sent_of written (Pre (record { 0 = n }))) refl refl refl refl
      (λ n h. rw (le-ltb n 4 h, far n 0 (lit< tt) h, far n 1 (lit< tt) h, far n 2 (lit< tt) h, far n 3 (lit< tt) h)) b.0
  written_sent Deac = refl
  written_sent Refr = refl
  written_sent (Mrs w) = refl

pub noted_sent : (p : Past) (k : Command) → length p.ages ≡ 16 → length p.opened ≡ 4 → length p.rows ≡ 4
    → elapsed_of (noted_of p k) ≡ sent_of p k
noted_sent p k ha ho hr =
    rw (elements 0 16 p.ages ha, elements false 4 p.opened ho, elements 0 4 p.rows hr)
    (written_sent p.ages p.opened p.rows p.programmed k)

-- a NOP starts nothing
pub noted_nop : (p : Past) → noted_of p Nop ≡ p
unfolding noted_of noted_ages noted_open noted_rows noted_mode
noted_nop p = refl
