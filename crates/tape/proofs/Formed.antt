-- Well-formed tapes, which are exactly the written ones.
use Prim.Native.Nat.{ℕ, zero, suc, ◌≤◌, ◌<◌}
use mathlib.Core.Path.{◌≡◌, refl, sym, ap}
use mathlib.Core.Bool.{Bool, false, true≢false}
use mathlib.Core.List.{List, [], ◌∷◌, ◌++◌, append-nil}
use native.Mathlib.Omega.{arith}
use lib.Dec.{ltb}
use lib.ListN.{replicate}
use borrow.Author.Tests.{ltb-true, ltb-false, ne_eqb}
use Rattle.device.proofs.Tests.{by_test}
use Rattle.command.specs.declared.Command.{Command}
use Rattle.command.specs.declared.Command.TheVariants.{Nop, Act, Read, Wrt, Pre, Deac, Refr, Mrs}
use Rattle.packing.specs.Laws.{FitsCommand}
use Rattle.tape.specs.Writing.{pair_of, run_bytes, command_bytes, is_nop, piece_of, tape_after, tape_of}
use Rattle.tape.specs.Laws.{Bytes, Fit}
use Rattle.tape.proofs.Pieces.{tape_nop, tape_full, tape_command, tape_opened}
use Rattle.tape.proofs.Records.{Free}

-- The tapes of slots, after a run of so many NOPs (0: after no run): as few runs as 65,535 in a run allow.
pub data Formed : ℕ → List ℕ → List Command → Type 0 where
  none : {before : ℕ} → Formed before [] []
  one : {before : ℕ} (k : Command) {rest : List ℕ} {slots : List Command} → FitsCommand k → is_nop k ≡ false → Formed 0 rest slots
      → Formed before (command_bytes k ++ rest) (k ∷ slots)
  nops : {before : ℕ} (n : ℕ) {rest : List ℕ} {slots : List Command} → 0 < n → n ≤ 65535 → Free before → Formed n rest slots
      → Formed before (0 ∷ (pair_of n ++ rest)) (replicate n Nop ++ slots)

-- NOP and any other command
nop_or : (P : Command → Type 0) → P Nop → ((k : Command) → is_nop k ≡ false → P k) → (k : Command) → P k
nop_or P p q Nop = p
nop_or P p q (Act b r) = q (Act b r) refl
nop_or P p q (Read b k) = q (Read b k) refl
nop_or P p q (Wrt b k h) = q (Wrt b k h) refl
nop_or P p q (Pre b) = q (Pre b) refl
nop_or P p q Deac = q Deac refl
nop_or P p q Refr = q Refr refl
nop_or P p q (Mrs w) = q (Mrs w) refl

-- A written tape is well-formed.

run_bytes_lem : (n : ℕ) → 0 < n → run_bytes n ≡ 0 ∷ pair_of n
unfolding run_bytes
run_bytes_lem n h = rw (ne_eqb n 0 (λ z. omega arith))

-- a run of 0 is none, and then what follows it follows what is before
run_formed : (before n : ℕ) {rest : List ℕ} {slots : List Command} → n ≤ 65535 → Free before
    → ((b : ℕ) → (0 < n → b ≡ n) → Formed b rest slots)
    → Formed before (run_bytes n ++ rest) (replicate n Nop ++ slots)
unfolding run_bytes
run_formed before zero h f r = r before (λ p. absurd (omega arith))
run_formed before (suc n) h f r = rw (run_bytes_lem (suc n) (omega arith)) (nops (suc n) (omega arith) h f (r (suc n) (λ p. refl)))

replicate_next : (n : ℕ) (ks : List Command) → replicate n Nop ++ (Nop ∷ ks) ≡ replicate (suc n) Nop ++ ks
replicate_next zero ks = refl
replicate_next (suc n) ks = ap {B = List Command} (λ l. Nop ∷ l) (replicate_next n ks)

pub written : (before n : ℕ) (ks : List Command) → n ≤ 65535 → Free before → Fit ks → Formed before (tape_after n ks) (replicate n Nop ++ ks)
unfolding tape_after piece_of
written before n [] h f fit = rw (← append-nil (run_bytes n)) (run_formed before n h f (λ b e. none))
written before n (k ∷ ks) h f fit =
    nop_or (λ (k : Command). FitsCommand k → Formed before (tape_after n (k ∷ ks)) (replicate n Nop ++ (k ∷ ks)))
    (λ _. by_test (ltb n 65535)
    (λ t. let small = ltb-true n 65535 t in rw (tape_nop n ks small, replicate_next n ks) (written before (suc n) ks small f fit.1))
    (λ t. let large = ltb-false n 65535 t in
    rw (tape_full n ks large) (run_formed before n h f (λ b e. written b 1 ks (omega arith) (λ p. omega (arith, e (omega arith))) fit.1))))
    (λ k e fits. rw (tape_command n k ks e) (run_formed before n h f (λ b _. one k fits e (written 0 0 ks (omega arith) (λ p. absurd (omega arith)) fit.1))))
    k fit.0

-- A well-formed tape is a written one.

abbrev begun : List Command → Bool
begun [] = false
begun (k ∷ ks) = is_nop k

tape_run : (n : ℕ) (ks : List Command) → (n < 65535 → begun ks ≡ false) → tape_after n ks ≡ run_bytes n ++ tape_of ks
unfolding tape_after piece_of run_bytes
tape_run n [] h = sym (append-nil (run_bytes n))
tape_run n (k ∷ ks) h =
    nop_or (λ (k : Command). (n < 65535 → is_nop k ≡ false) → tape_after n (k ∷ ks) ≡ run_bytes n ++ tape_of (k ∷ ks))
    (λ h. by_test (ltb n 65535) (λ t. absurd (true≢false (h (ltb-true n 65535 t))))
    (λ t. rw (tape_full n ks (ltb-false n 65535 t), tape_nop 0 ks (omega arith))))
    (λ k e _. rw (tape_command n k ks e, tape_command 0 k ks e))
    k h

pub record Told (before : ℕ) (left : List ℕ) (slots : List Command) : Type 0 where
  pub same : tape_of slots ≡ left
  pub fit : Fit slots
  pub apart : 0 < before → before < 65535 → begun slots ≡ false

fit_nops : (n : ℕ) (ks : List Command) → Fit ks → Fit (replicate n Nop ++ ks)
fit_nops zero ks f = f
fit_nops (suc n) ks f = (tt, fit_nops n ks f)

pub told : {before : ℕ} {left : List ℕ} {slots : List Command} → Formed before left slots → Told before left slots
unfolding tape_after piece_of run_bytes
told none = record { same = refl; fit = tt; apart = λ p l. refl }
told (one k {slots} fits e later) =
    let t = told later in
    record {
      same = rw (tape_command 0 k slots e, t.same);
      fit = (fits, t.fit);
      apart = λ p l. e;
    }
told (nops n {slots} p h f later) =
    let t = told later in
    record {
      same = rw (← tape_opened n slots h, tape_run n slots (λ l. t.apart p l), t.same, run_bytes_lem n p);
      fit = fit_nops n slots t.fit;
      apart = λ b l. absurd (omega (arith, f b));
    }

-- A well-formed tape is of bytes.

abbrev pub Small : List ℕ → Type 0
Small [] = Unit {0}
Small (a ∷ l) = (a < 256) × Small l

pub bytes_small : (l : List ℕ) → Bytes l → Small l
bytes_small [] b = tt
bytes_small (a ∷ l) b = (b 0, bytes_small l (λ i. b (suc i)))

pub small_bytes : (l : List ℕ) → Small l → Bytes l
small_bytes [] s i = omega arith
small_bytes (a ∷ l) s zero = s.0
small_bytes (a ∷ l) s (suc i) = small_bytes l s.1 i

small_append : (l m : List ℕ) → Small l → Small m → Small (l ++ m)
small_append [] m s t = t
small_append (a ∷ l) m s t = (s.0, small_append l m s.1 t)

small_pair : (n : ℕ) → n < 65536 → Small (pair_of n)
small_pair n h = (omega arith, (omega arith, tt))

small_command : (k : Command) → FitsCommand k → Small (command_bytes k)
unfolding command_bytes run_bytes
small_command Nop f = (omega arith, small_pair 1 (omega arith))
small_command (Act b r) f = (omega arith, (f.0, small_pair r.0 f.1))
small_command (Read b k) f = (omega arith, (f.0, small_pair k.0 f.1))
small_command (Wrt b k h) f = (omega arith, (f.0, small_append (pair_of k.0) (pair_of h) (small_pair k.0 f.1) (small_pair h f.2)))
small_command (Pre b) f = (omega arith, (f, tt))
small_command Deac f = (omega arith, tt)
small_command Refr f = (omega arith, tt)
small_command (Mrs w) f = (omega arith, small_pair w f)

pub formed_small : {before : ℕ} {left : List ℕ} {slots : List Command} → Formed before left slots → Small left
formed_small none = tt
formed_small (one k fits e later) = small_append (command_bytes k) _ (small_command k fits) (formed_small later)
formed_small (nops n p h f later) = (omega arith, (omega arith, (omega arith, formed_small later)))
