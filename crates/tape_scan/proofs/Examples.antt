-- Worked examples: tapes with what reading them gives.
use Rattle.std.proofs.Common.{◌≡◌, ℕ, List, [], ◌∷◌, map, refl}
use Rattle.tape.specs.Reading.{
  body_length,
  command_of,
  wrong_run,
  record_number,
  record_at,
  kind_at,
  rest_at,
  step_of,
  contents_from,
}
use Rattle.tape_scan.specs.Scan.{Scanned, stopped_of, scanned_of}

pub record Example : Type 0 where
  pub tape : List ℕ
  pub gives : Scanned

abbrev gives : List ℕ → ℕ → ℕ → ℕ → Example
gives t n p s = record { tape = t; gives = record { number = n; place = p; slots = s } }

abbrev examples : List Example
examples =
    gives [] 0 0 0
    -- 216 NOPs and DEAC
    ∷ gives (0 ∷ 216 ∷ 0 ∷ 5 ∷ []) 0 0 217
    -- ACT, WRT, READ, PRE, MRS and REFR
    ∷ gives (1 ∷ 0 ∷ 1 ∷ 0 ∷ 3 ∷ 0 ∷ 2 ∷ 0 ∷ 7 ∷ 0 ∷ 2 ∷ 0 ∷ 2 ∷ 0 ∷ 4 ∷ 0 ∷ 7 ∷ 48 ∷ 0 ∷ 6 ∷ []) 0 0 6
    -- 65,536 NOPs
    ∷ gives (0 ∷ 255 ∷ 255 ∷ 0 ∷ 1 ∷ 0 ∷ []) 0 0 65536
    -- an unknown kind, a record that is cut, no NOPs, and a run that belongs to the run before it
    ∷ gives (5 ∷ 6 ∷ 8 ∷ []) 11 2 2
    ∷ gives (0 ∷ 2 ∷ 0 ∷ 3 ∷ 0 ∷ 2 ∷ 0 ∷ 7 ∷ []) 12 3 2
    ∷ gives (0 ∷ 0 ∷ 0 ∷ []) 13 0 0
    ∷ gives (5 ∷ 0 ∷ 2 ∷ 0 ∷ 0 ∷ 3 ∷ 0 ∷ 5 ∷ []) 13 4 3
    ∷ []

scanned : map (λ (e : Example). scanned_of e.tape) examples ≡ map (λ (e : Example). e.gives) examples
unfolding body_length command_of wrong_run record_number record_at kind_at rest_at step_of contents_from stopped_of
scanned = refl
