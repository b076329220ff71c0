-- What the code stores for a command is what the definition says: of arrays that are written out, it computes.
use Prim.Native.Nat.{ℕ, zero, suc, ◌+◌, ◌<◌, ◌≤◌}
use mathlib.Core.Path.{◌≡◌, refl}
use mathlib.Core.Bool.{Bool, true, false, cond}
use mathlib.Core.List.{List, [], ◌∷◌}
use native.Mathlib.Omega.{arith}
use lib.ListN.{length, get_or, set}
use Rattle.address.specs.declared.Bank.{Bank}
use Rattle.address.specs.declared.Row.{Row}
use Rattle.address.specs.declared.Column.{Column}
use Rattle.command.specs.declared.Command.{Command}
use Rattle.command.specs.declared.Command.TheVariants.{Act, Read, Wrt, Pre, Deac, Refr, Mrs}
use Rattle.device.specs.View.{Distance, refresh_cycle, mode_register, read_to_write, any_precharge, row_cycle, row_precharge, write_recovery, marks_of, starts}
use Rattle.device.proofs.Tests.{four_banks}
use Rattle.ages.proofs.Record.{listed, elements}
use Rattle.stamps.specs.Stamps.{stamped_of}

module _ (l : List ℕ) (now : ℕ) where
  abbrev written : List ℕ
  written = listed 0 16 0 l

  act_written : (r : Row) (b : ℕ) → b < 4 → set written b now ≡ stamped_of now (Act (record { 0 = b }) r) written
  unfolding stamped_of marks_of
  act_written r b h = four_banks (λ n. set written n now ≡ stamped_of now (Act (record { 0 = n }) r) written) refl refl refl refl b h

  wrt_written : (k : Column) (x b : ℕ) → b < 4 → set written (12 + b) now ≡ stamped_of now (Wrt (record { 0 = b }) k x) written
  unfolding stamped_of marks_of
  wrt_written k x b h = four_banks (λ n. set written (12 + n) now ≡ stamped_of now (Wrt (record { 0 = n }) k x) written) refl refl refl refl b h

  pre_written : (b : ℕ) → b < 4 → set (set written (4 + b) now) 10 now ≡ stamped_of now (Pre (record { 0 = b })) written
  unfolding stamped_of marks_of
  pre_written b h = four_banks (λ n. set (set written (4 + n) now) 10 now ≡ stamped_of now (Pre (record { 0 = n })) written) refl refl refl refl b h

module _ (l : List ℕ) (now : ℕ) (sixteen : length l ≡ 16) where
  pub act_noted : (b : Bank) (r : Row) → b.0 < 4 → set l b.0 now ≡ stamped_of now (Act b r) l
  act_noted b r h = rw (elements 0 16 l sixteen) (act_written l now r b.0 h)

  pub read_noted : (b : Bank) (k : Column) → set l 11 now ≡ stamped_of now (Read b k) l
  unfolding stamped_of marks_of
  read_noted b k = rw (elements 0 16 l sixteen)

  pub wrt_noted : (b : Bank) (k : Column) (x : ℕ) → b.0 < 4 → set l (12 + b.0) now ≡ stamped_of now (Wrt b k x) l
  wrt_noted b k x h = rw (elements 0 16 l sixteen) (wrt_written l now k x b.0 h)

  pub pre_noted : (b : Bank) → b.0 < 4 → set (set l (4 + b.0) now) 10 now ≡ stamped_of now (Pre b) l
  pre_noted b h = rw (elements 0 16 l sixteen) (pre_written l now b.0 h)

  pub deac_noted : set (set (set (set (set l 4 now) 5 now) 6 now) 7 now) 10 now ≡ stamped_of now Deac l
  unfolding stamped_of marks_of
  deac_noted = rw (elements 0 16 l sixteen)

  pub refr_noted : set l 8 now ≡ stamped_of now Refr l
  unfolding stamped_of marks_of
  refr_noted = rw (elements 0 16 l sixteen)

  pub mrs_noted : (w : ℕ) → set l 9 now ≡ stamped_of now (Mrs w) l
  unfolding stamped_of marks_of
  mrs_noted w = rw (elements 0 16 l sixteen)

-- No stamp is later than now.

-- a list whose numbers are all at most another
abbrev Within : ℕ → List ℕ → Type 0
Within m [] = Unit {0}
Within m (x ∷ xs) = (x ≤ m) × Within m xs

within_at : (m : ℕ) (xs : List ℕ) → Within m xs → (i : ℕ) → get_or xs i 0 ≤ m
within_at m [] h i = omega arith
within_at m (x ∷ xs) h zero = h.0
within_at m (x ∷ xs) h (suc i) = within_at m xs h.1 i

cond_within : (f : Bool) (now x : ℕ) → x ≤ now → cond f now x ≤ now
cond_within true now x h = omega arith
cond_within false now x h = h

pub noted_earlier : (k : Command) (now : ℕ) (l m : List ℕ) → m ≡ stamped_of now k l → ((i : ℕ) → get_or l i 0 ≤ now) → (i : ℕ) → get_or m i 0 ≤ now
unfolding stamped_of
noted_earlier k now l m e h = rw e (within_at now (stamped_of now k l) (
  at 0 (row_cycle 0),
  (
    at 1 (row_cycle 1),
    (
      at 2 (row_cycle 2),
      (
        at 3 (row_cycle 3),
        (
          at 4 (row_precharge 0),
          (
            at 5 (row_precharge 1),
            (
              at 6 (row_precharge 2),
              (
                at 7 (row_precharge 3),
                (
                  at 8 refresh_cycle,
                  (
                    at 9 mode_register,
                    (
                      at 10 any_precharge,
                      (
                        at 11 read_to_write,
                        (at 12 (write_recovery 0), (at 13 (write_recovery 1), (at 14 (write_recovery 2), (at 15 (write_recovery 3), tt)))),
                      ),
                    ),
                  ),
                ),
              ),
            ),
          ),
        ),
      ),
    ),
  ),
))
  where
    at : (i : ℕ) (d : Distance) → cond (starts d k) now (get_or l i 0) ≤ now
    at i d = cond_within (starts d k) now (get_or l i 0) (h i)
