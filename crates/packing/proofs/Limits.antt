-- A word packs a command exactly if it lies below its kind's limit and, for MRS, has no bank.
use Prim.Native.Nat.{ℕ, zero, suc, ◌+◌, ◌*◌, ◌/◌, ◌%◌, ◌≤◌, ◌<◌}
use mathlib.Core.Path.{◌≡◌, refl}
use mathlib.Core.Bool.{cond, ◌&&◌}
use native.Mathlib.Omega.{arith}
use native.Mathlib.Nat.{div-div-eq-div-mul}
use lib.Dec.{eqb, ltb}
use borrow.Author.Tests.{ltb-true, ltb-false, eqb-true, eqb-false, eq-eqb, ne_eqb}
use Rattle.device.proofs.Tests.{by_test}
use Rattle.packing.specs.Packing.{word_of, kind_of, bank_of, low_of, high_of, command_word, command_in, packs_command}
use Rattle.packing.specs.Limits.{limit_of}

-- what holds of the kinds 0 to 7 and of every other
by_kind : (P : ℕ → Type 0) → P 0 → P 1 → P 2 → P 3 → P 4 → P 5 → P 6 → P 7 → ((k : ℕ) → 7 < k → P k) → (k : ℕ) → P k
by_kind P a b c d e f g h o zero = a
by_kind P a b c d e f g h o (suc zero) = b
by_kind P a b c d e f g h o (suc (suc zero)) = c
by_kind P a b c d e f g h o (suc (suc (suc zero))) = d
by_kind P a b c d e f g h o (suc (suc (suc (suc zero)))) = e
by_kind P a b c d e f g h o (suc (suc (suc (suc (suc zero))))) = f
by_kind P a b c d e f g h o (suc (suc (suc (suc (suc (suc zero)))))) = g
by_kind P a b c d e f g h o (suc (suc (suc (suc (suc (suc (suc zero))))))) = h
by_kind P a b c d e f g h o (suc (suc (suc (suc (suc (suc (suc (suc m)))))))) = o _ (omega arith)

-- a word that unpacks to the command of the word x, where x and the limit l agree on it
test : (w x l : ℕ) → command_word (command_in w) ≡ x → (w < l → x ≡ w) → (l ≤ w → x ≡ w → ⊥) → packs_command w ≡ ltb w l
unfolding packs_command
test w x l e below above =
    by_test (ltb w l) (λ t. rw (e, t) (eq-eqb x w (below (ltb-true w l t)))) (λ t. rw (e, t) (ne_eqb x w (above (ltb-false w l t))))

-- MRS has no bank
no_bank : (l w : ℕ) → 7 + 65536 * l ≡ w → bank_of w ≡ 0
no_bank l w e = rw (← e) (omega arith)

mode : (w : ℕ) → command_word (command_in w) ≡ word_of 7 0 (low_of w) 0 → kind_of w ≡ 7 → packs_command w ≡ ltb w 4294967296 && eqb (bank_of w) 0
unfolding packs_command word_of
mode w e k =
    by_test (ltb w 4294967296)
    (λ t. let l = ltb-true w 4294967296 t in
    by_test (eqb (bank_of w) 0) (λ b. let z = eqb-true (bank_of w) 0 b in rw (e, t, b) (eq-eqb (word_of 7 0 (low_of w) 0) w (omega arith)))
    (λ b. let z = eqb-false (bank_of w) 0 b in rw (e, t, b) (ne_eqb (word_of 7 0 (low_of w) 0) w (λ x. z (no_bank (low_of w) w (omega arith))))))
    (λ t. let l = ltb-false w 4294967296 t in rw (e, t) (ne_eqb (word_of 7 0 (low_of w) 0) w (λ x. omega arith)))

-- a word by its fields
parts : (w : ℕ) → (w ≡ kind_of w + 256 * bank_of w + 65536 * (w / 65536)) × (w / 65536 ≡ low_of w + 65536 * high_of w)
parts w =
    let a : w / 256 / 256 ≡ w / 65536 = div-div-eq-div-mul w 256 256 in
    let b : w / 65536 / 65536 ≡ w / 4294967296 = div-div-eq-div-mul w 65536 65536 in
    (omega arith, omega arith)

pub packs_is : (w : ℕ) → packs_command w ≡ cond (eqb (kind_of w) 7) (ltb w (limit_of (kind_of w)) && eqb (bank_of w) 0) (ltb w (limit_of (kind_of w)))
unfolding command_in command_word word_of limit_of
packs_is w =
    let p = parts w in
    by_kind (λ k. kind_of w ≡ k → packs_command w ≡ cond (eqb k 7) (ltb w (limit_of k) && eqb (bank_of w) 0) (ltb w (limit_of k)))
    (λ e. test w (word_of 0 0 0 0) 1 (simp e) (λ l. omega arith) (λ l x. omega arith))
    (λ e. test w (word_of 1 (bank_of w) (low_of w) 0) 4294967296 (simp e) (λ l. omega arith) (λ l x. omega arith))
    (λ e. test w (word_of 2 (bank_of w) (low_of w) 0) 4294967296 (simp e) (λ l. omega arith) (λ l x. omega arith))
    (λ e. test w (word_of 3 (bank_of w) (low_of w) (high_of w % 65536)) 281474976710656 (simp e) (λ l. omega arith) (λ l x. omega arith))
    (λ e. test w (word_of 4 (bank_of w) 0 0) 65536 (simp e) (λ l. omega arith) (λ l x. omega arith))
    (λ e. test w (word_of 5 0 0 0) 6 (simp e) (λ l. omega arith) (λ l x. omega arith))
    (λ e. test w (word_of 6 0 0 0) 7 (simp e) (λ l. omega arith) (λ l x. omega arith))
    (λ e. mode w (simp e) e)
    (λ k big e.
    let n0 = ne_eqb k 0 (λ x. omega arith) in
    let n1 = ne_eqb k 1 (λ x. omega arith) in
    let n2 = ne_eqb k 2 (λ x. omega arith) in
    let n3 = ne_eqb k 3 (λ x. omega arith) in
    let n4 = ne_eqb k 4 (λ x. omega arith) in
    let n5 = ne_eqb k 5 (λ x. omega arith) in
    let n6 = ne_eqb k 6 (λ x. omega arith) in
    let n7 = ne_eqb k 7 (λ x. omega arith) in
    simp (n0, n1, n2, n3, n4, n5, n6, n7) (test w (word_of 0 0 0 0) 0 (simp (e, n1, n2, n3, n4, n5, n6, n7)) (λ l. omega arith) (λ l x. omega arith)))
    (kind_of w)
    refl
