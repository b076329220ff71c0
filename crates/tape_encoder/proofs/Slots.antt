-- The records of a word's slot.
use Prim.Native.Nat.{ℕ, suc, ◌%◌, ◌≤◌, ◌<◌}
use mathlib.Core.Path.{◌≡◌, refl, sym}
use mathlib.Core.Bool.{true, false}
use mathlib.Core.List.{[], ◌∷◌, ◌++◌}
use native.Mathlib.Omega.{arith}
use lib.Dec.{eqb, ltb}
use lib.ListN.{length}
use borrow.Author.Tests.{eqb-true, ltb-true, ltb-false, ne_eqb, lt-ltb, le-ltb}
use Rattle.device.proofs.Tests.{by_test}
use Rattle.command.specs.declared.Command.{Command}
use Rattle.command.specs.declared.Command.TheVariants.{Nop, Act, Read, Wrt, Pre, Deac, Refr, Mrs}
use Rattle.packing.specs.Packing.{word_of, kind_of, bank_of, low_of, high_of, command_word, command_in, packs_command}
use Rattle.tape.specs.Writing.{pair_of, run_bytes, command_bytes, is_nop, slot_piece}

-- a word that packs a command is its word
spelled : (w : ℕ) → packs_command w ≡ true → command_word (command_in w) ≡ w
unfolding packs_command
spelled w p = eqb-true _ _ p

-- the word 0 is NOP, and no other word packs it
pub is_nop_lem : (w : ℕ) → w ≡ 0 → is_nop (command_in w) ≡ true
unfolding command_in
is_nop_lem w e = simp e

not_nop : (k : Command) (w : ℕ) → command_word k ≡ w → (w ≡ 0 → ⊥) → is_nop k ≡ false
unfolding command_word word_of
not_nop Nop w e n = absurd (n (sym e))
not_nop (Act b r) w e n = refl
not_nop (Read b k) w e n = refl
not_nop (Wrt b k h) w e n = refl
not_nop (Pre b) w e n = refl
not_nop Deac w e n = refl
not_nop Refr w e n = refl
not_nop (Mrs m) w e n = refl

pub no_nop : (w : ℕ) → packs_command w ≡ true → (w ≡ 0 → ⊥) → is_nop (command_in w) ≡ false
no_nop w p n = not_nop (command_in w) w (spelled w p) n

-- the slot of such a word
module _ (n : ℕ) (k : Command) where
  pub joins : is_nop k ≡ true → n < 65535 → slot_piece n k ≡ record { bytes = []; pending = suc n }
  unfolding slot_piece
  joins e l = simp (e, lt-ltb _ _ l)

  pub begins : is_nop k ≡ true → 65535 ≤ n → slot_piece n k ≡ record { bytes = run_bytes n; pending = 1 }
  unfolding slot_piece
  begins e l = simp (e, le-ltb _ _ l)

  pub ends : is_nop k ≡ false → slot_piece n k ≡ record { bytes = run_bytes n ++ command_bytes k; pending = 0 }
  unfolding slot_piece
  ends e = simp e

-- runs
pub no_run : (n : ℕ) → n ≡ 0 → run_bytes n ≡ []
unfolding run_bytes
no_run n e = simp e

pub some_run : (n : ℕ) → (n ≡ 0 → ⊥) → run_bytes n ≡ 0 ∷ pair_of n
unfolding run_bytes
some_run n e = simp (ne_eqb n 0 e)

pub short_run : (n : ℕ) → length (run_bytes n) ≤ 3
unfolding run_bytes
short_run n = by_test (eqb n 0) (λ t. simp t (omega arith)) (λ t. simp t (omega arith))

-- Commands that are not NOP, by the kind of their word.

-- a record has a kind
pub some_bytes : (k : Command) → 1 ≤ length (command_bytes k)
unfolding command_bytes run_bytes
some_bytes Nop = omega arith
some_bytes (Act b r) = omega arith
some_bytes (Read b k) = omega arith
some_bytes (Wrt b k h) = omega arith
some_bytes (Pre b) = omega arith
some_bytes Deac = omega arith
some_bytes Refr = omega arith
some_bytes (Mrs m) = omega arith

-- and six bytes at most
pub few_bytes : (k : Command) → length (command_bytes k) ≤ 6
unfolding command_bytes run_bytes
few_bytes Nop = omega arith
few_bytes (Act b r) = omega arith
few_bytes (Read b k) = omega arith
few_bytes (Wrt b k h) = omega arith
few_bytes (Pre b) = omega arith
few_bytes Deac = omega arith
few_bytes Refr = omega arith
few_bytes (Mrs m) = omega arith

kinds : (k : Command) → is_nop k ≡ false → (0 < kind_of (command_word k)) × (kind_of (command_word k) ≤ 7)
unfolding command_word word_of
kinds Nop n = let z : ◌≡◌ {A = ℕ} 0 1 = cc in absurd (omega arith)
kinds (Act b r) n = (omega arith, omega arith)
kinds (Read b k) n = (omega arith, omega arith)
kinds (Wrt b k h) n = (omega arith, omega arith)
kinds (Pre b) n = (omega arith, omega arith)
kinds Deac n = (omega arith, omega arith)
kinds Refr n = (omega arith, omega arith)
kinds (Mrs m) n = (omega arith, omega arith)

module _ (w : ℕ) (p : packs_command w ≡ true) (n : w ≡ 0 → ⊥) where
  pub kind_is : (0 < kind_of w) × (kind_of w ≤ 7)
  kind_is = rw (spelled w p) at (kinds (command_in w) (no_nop w p n))

  pub mode_bytes : 6 < kind_of w → command_bytes (command_in w) ≡ kind_of w ∷ pair_of (low_of w)
  unfolding command_in command_bytes
  mode_bytes l = let k = kind_is in let e : kind_of w ≡ 7 = omega arith in simp e

  pub bare_bytes : 4 < kind_of w → kind_of w ≤ 6 → command_bytes (command_in w) ≡ kind_of w ∷ []
  unfolding command_in command_bytes
  bare_bytes l m =
      by_test (ltb (kind_of w) 6) (λ t. let z = ltb-true (kind_of w) 6 t in let e : kind_of w ≡ 5 = omega arith in simp e)
      (λ t. let z = ltb-false (kind_of w) 6 t in let e : kind_of w ≡ 6 = omega arith in simp e)

  pub bank_bytes : 3 < kind_of w → kind_of w ≤ 4 → command_bytes (command_in w) ≡ kind_of w ∷ bank_of w ∷ []
  unfolding command_in command_bytes
  bank_bytes l m = let e : kind_of w ≡ 4 = omega arith in simp e

  pub place_bytes : kind_of w < 3 → command_bytes (command_in w) ≡ kind_of w ∷ bank_of w ∷ pair_of (low_of w)
  unfolding command_in command_bytes
  place_bytes l =
      let k = kind_is in
      by_test (ltb (kind_of w) 2) (λ t. let z = ltb-true (kind_of w) 2 t in let e : kind_of w ≡ 1 = omega arith in simp e)
      (λ t. let z = ltb-false (kind_of w) 2 t in let e : kind_of w ≡ 2 = omega arith in simp e)

  pub write_bytes : 3 ≤ kind_of w → kind_of w ≤ 3 → command_bytes (command_in w) ≡ kind_of w ∷ bank_of w ∷ (pair_of (low_of w) ++ pair_of (high_of w % 65536))
  unfolding command_in command_bytes
  write_bytes l m = let e : kind_of w ≡ 3 = omega arith in simp e

  pub four_bytes : kind_of w ≤ 3 → 4 ≤ length (command_bytes (command_in w))
  four_bytes l = by_test (ltb (kind_of w) 3) (λ t. rw (place_bytes (ltb-true _ _ t)) (omega arith)) (λ t. rw (write_bytes (ltb-false _ _ t) l) (omega arith))

  pub two_bytes : kind_of w ≤ 4 → 2 ≤ length (command_bytes (command_in w))
  two_bytes l =
      by_test (ltb (kind_of w) 4) (λ t. let z = ltb-true (kind_of w) 4 t in omega (arith, four_bytes (omega arith)))
      (λ t. let z = ltb-false (kind_of w) 4 t in rw (bank_bytes (omega arith) l) (omega arith))
