-- What the reader finds, by cases: the end, a refusal, a run or a command.
use Prim.Native.Nat.{ℕ, zero, suc, ◌+◌, ◌*◌, ◌≤◌, ◌<◌}
use mathlib.Core.Path.{◌≡◌, refl, ◌∙◌}
use mathlib.Core.Bool.{false, ◌&&◌, true≢false}
use mathlib.Core.List.{List, [], ◌∷◌, ◌++◌}
use native.Mathlib.Omega.{arith}
use lib.Dec.{eqb, ltb}
use lib.ListN.{length}
use borrow.Author.Tests.{ltb-true, ltb-false, lt-ltb, le-ltb, ne_eqb}
use Rattle.device.proofs.Tests.{by_test}
use Rattle.address.specs.declared.Bank.{Bank}
use Rattle.address.specs.declared.Row.{Row}
use Rattle.address.specs.declared.Column.{Column}
use Rattle.command.specs.declared.Command.{Command}
use Rattle.command.specs.declared.Command.TheVariants.{Act, Read, Wrt, Pre, Deac, Refr, Mrs}
use Rattle.tape.specs.Writing.{is_nop}
use Rattle.tape.specs.Reading.{end, command, run, refusal, body_length, pair_at, command_of, wrong_run, record_number, Step, record_at, kind_at, rest_at}

-- for `cc`, which knows that two constructors are never equal
pub never : {A : Type 0} → ◌≡◌ {A = ℕ} 0 1 → A
never z = absurd (omega arith)

-- The bytes of a command's record; a pair of them is any two numbers here.
pub data Spelt : List ℕ → Command → Type 0 where
  act : {b : Bank} {r : Row} {low high : ℕ} → low + 256 * high ≡ r.0 → Spelt (1 ∷ b.0 ∷ low ∷ high ∷ []) (Act b r)
  read : {b : Bank} {k : Column} {low high : ℕ} → low + 256 * high ≡ k.0 → Spelt (2 ∷ b.0 ∷ low ∷ high ∷ []) (Read b k)
  wrt : {b : Bank} {k : Column} {h low high low' high' : ℕ} → low + 256 * high ≡ k.0 → low' + 256 * high' ≡ h
      → Spelt (3 ∷ b.0 ∷ low ∷ high ∷ low' ∷ high' ∷ []) (Wrt b k h)
  pre : {b : Bank} → Spelt (4 ∷ b.0 ∷ []) (Pre b)
  deac : Spelt (5 ∷ []) Deac
  refr : Spelt (6 ∷ []) Refr
  mrs : {w low high : ℕ} → low + 256 * high ≡ w → Spelt (7 ∷ low ∷ high ∷ []) (Mrs w)

pub spelt_some : {bytes : List ℕ} {k : Command} → Spelt bytes k → 0 < length bytes
spelt_some (act e) = omega arith
spelt_some (read e) = omega arith
spelt_some (wrt e f) = omega arith
spelt_some pre = omega arith
spelt_some deac = omega arith
spelt_some refr = omega arith
spelt_some (mrs e) = omega arith

-- a NOP has no record of its own
pub spelt_other : {bytes : List ℕ} {k : Command} → Spelt bytes k → is_nop k ≡ false
spelt_other (act e) = refl
spelt_other (read e) = refl
spelt_other (wrt e f) = refl
spelt_other pre = refl
spelt_other deac = refl
spelt_other refr = refl
spelt_other (mrs e) = refl

-- a record that gets no number is read, and one that gets a number is refused
record_read : (at before kind : ℕ) (rest : List ℕ) → kind ≤ 7 → body_length kind ≤ length rest
    → eqb kind 0 && wrong_run before (pair_at rest 0) ≡ false
    → kind_at at before kind rest ≡ record_at at kind rest
unfolding kind_at record_number
record_read at before kind rest k b w = simp (le-ltb 7 kind k, le-ltb (length rest) (body_length kind) b, w)

pub record_refused : (at before kind : ℕ) (rest : List ℕ) (number : ℕ) → 0 < number → record_number before kind rest ≡ number
    → kind_at at before kind rest ≡ record { answer = refusal number at; at = at; before = before }
unfolding kind_at
record_refused at before kind rest number h e = simp (e, ne_eqb number 0 (λ z. omega arith))

pub command_read : (at before : ℕ) {bytes : List ℕ} {k : Command} → Spelt bytes k → (rest : List ℕ)
    → rest_at at before (bytes ++ rest) ≡ record { answer = command k; at = at + length bytes; before = 0 }
unfolding rest_at body_length record_at command_of
command_read at before (act e) rest = record_read at before 1 _ (omega arith) (omega arith) refl ∙ rw e
command_read at before (read e) rest = record_read at before 2 _ (omega arith) (omega arith) refl ∙ rw e
command_read at before (wrt e f) rest = record_read at before 3 _ (omega arith) (omega arith) refl ∙ rw (e, f)
command_read at before pre rest = record_read at before 4 _ (omega arith) (omega arith) refl
command_read at before deac rest = record_read at before 5 _ (omega arith) (omega arith) refl
command_read at before refr rest = record_read at before 6 _ (omega arith) (omega arith) refl
command_read at before (mrs e) rest = record_read at before 7 _ (omega arith) (omega arith) refl ∙ rw e

-- where a run may stand: after no run, or after a full one
abbrev pub Free : ℕ → Type 0
Free before = 0 < before → 65535 ≤ before

run_right : (before n : ℕ) → 0 < n → Free before → wrong_run before n ≡ false
unfolding wrong_run
run_right before n h f =
    rw (ne_eqb n 0 (λ z. omega arith))
    (by_test (ltb 0 before) (λ t. simp (t, le-ltb before 65535 (f (ltb-true 0 before t)))) (λ t. simp t))

right_run : (before n : ℕ) → wrong_run before n ≡ false → (0 < n) × Free before
unfolding wrong_run
right_run before zero w = absurd (true≢false w)
right_run before (suc n) w = (
  omega arith,
  λ p. by_test (ltb before 65535)
      (λ t. absurd (true≢false (simp (ne_eqb (suc n) 0 (λ z. omega arith), lt-ltb 0 before p, t) at w))) (ltb-false before 65535),
)

pub run_read : (at before low high n : ℕ) (rest : List ℕ) → low + 256 * high ≡ n → 0 < n → Free before
    → rest_at at before (0 ∷ low ∷ high ∷ rest) ≡ record { answer = run n; at = at + 3; before = n }
unfolding rest_at body_length record_at
run_read at before low high n rest e h f =
    record_read at before 0 _ (omega arith) (omega arith) (run_right before _ (omega arith) f) ∙ rw e

-- What is found on the rest of a tape. Any refusal but that of a cut record is the same where the tape goes on.
pub data Found (at before : ℕ) : List ℕ → Step → Type 0 where
  ended : Found at before [] (record { answer = end; at = at; before = before })
  refused : {kind : ℕ} {rest : List ℕ} (number : ℕ) → 0 < number → record_number before kind rest ≡ number
      → ((more : List ℕ) → (number ≡ 12 → ⊥) → record_number before kind (rest ++ more) ≡ number)
      → Found at before (kind ∷ rest) (record { answer = refusal number at; at = at; before = before })
  ran : {low high n : ℕ} (rest : List ℕ) → low + 256 * high ≡ n → 0 < n → Free before
      → Found at before (0 ∷ low ∷ high ∷ rest) (record { answer = run n; at = at + 3; before = n })
  commanded : {bytes : List ℕ} {k : Command} (rest : List ℕ) → Spelt bytes k
      → Found at before (bytes ++ rest) (record { answer = command k; at = at + length bytes; before = 0 })

-- so many elements at least, as a type to match on
data Holds : ℕ → List ℕ → Type 0 where
  any : {l : List ℕ} → Holds zero l
  next : {n a : ℕ} {l : List ℕ} → Holds n l → Holds (suc n) (a ∷ l)

holds : (n : ℕ) (l : List ℕ) → n ≤ length l → Holds n l
holds zero l h = any
holds (suc n) [] h = absurd (omega arith)
holds (suc n) (a ∷ l) h = next (holds n l (omega arith))

module _ (at before : ℕ) where
  found_refused : (kind : ℕ) (rest : List ℕ) (number : ℕ) → 0 < number → record_number before kind rest ≡ number
      → ((more : List ℕ) → (number ≡ 12 → ⊥) → record_number before kind (rest ++ more) ≡ number)
      → Found at before (kind ∷ rest) (kind_at at before kind rest)
  found_refused kind rest number h e f = rw (record_refused at before kind rest number h e) (refused number h e f)

  found_command : {bytes : List ℕ} {k : Command} (rest : List ℕ) → Spelt bytes k → Found at before (bytes ++ rest) (rest_at at before (bytes ++ rest))
  found_command rest s = rw (command_read at before s rest) (commanded rest s)

  found_run : (low high : ℕ) (rest : List ℕ) → Found at before (0 ∷ low ∷ high ∷ rest) (rest_at at before (0 ∷ low ∷ high ∷ rest))
  unfolding rest_at record_number body_length
  found_run low high rest =
      by_test (wrong_run before (low + 256 * high))
      (λ t. found_refused 0 (low ∷ high ∷ rest) 13 (omega arith)
      (simp (le-ltb (length (low ∷ high ∷ rest)) 2 (omega arith), t)) (λ more c. simp (le-ltb (length (low ∷ high ∷ rest ++ more)) 2 (omega arith), t)))
      (λ t. let r = right_run before _ t in rw (run_read at before low high _ rest refl r.0 r.1) (ran rest refl r.0 r.1))

  found_whole : (kind : ℕ) {rest : List ℕ} → kind ≤ 7 → Holds (body_length kind) rest → Found at before (kind ∷ rest) (rest_at at before (kind ∷ rest))
  unfolding body_length
  found_whole zero k (next (next any)) = found_run _ _ _
  found_whole (suc zero) k (next (next (next any))) = found_command _ (act refl)
  found_whole (suc (suc zero)) k (next (next (next any))) = found_command _ (read refl)
  found_whole (suc (suc (suc zero))) k (next (next (next (next (next any))))) = found_command _ (wrt refl refl)
  found_whole (suc (suc (suc (suc zero)))) k (next any) = found_command _ pre
  found_whole (suc (suc (suc (suc (suc zero))))) k any = found_command _ deac
  found_whole (suc (suc (suc (suc (suc (suc zero)))))) k any = found_command _ refr
  found_whole (suc (suc (suc (suc (suc (suc (suc zero))))))) k (next (next any)) = found_command _ (mrs refl)
  found_whole (suc (suc (suc (suc (suc (suc (suc (suc kind)))))))) k h = absurd (omega arith)

  pub found : (left : List ℕ) → Found at before left (rest_at at before left)
  unfolding rest_at record_number
  found [] = ended
  found (kind ∷ rest) =
      by_test (ltb 7 kind) (λ t. found_refused kind rest 11 (omega arith) (simp t) (λ more c. simp t))
      (λ t. by_test (ltb (length rest) (body_length kind))
      (λ c. found_refused kind rest 12 (omega arith) (simp (t, c)) (λ more n. absurd (n refl)))
      (λ c. found_whole kind (ltb-false 7 kind t) (holds (body_length kind) rest (ltb-false _ _ c))))
