-- Tapes with their slots, and tapes that are refused.
use Prim.Native.Nat.{ℕ}
use mathlib.Core.Path.{◌≡◌, refl}
use mathlib.Core.List.{List, [], ◌∷◌, map}
use Rattle.command.specs.declared.Command.{Command}
use Rattle.command.specs.declared.Command.TheVariants.{Nop, Act, Read, Wrt, Pre, Deac, Refr, Mrs}
use Rattle.tape.specs.Writing.{run_bytes, command_bytes, slot_piece, piece_of, tape_after, tape_of}
use Rattle.tape.specs.Reading.{
  Answer,
  end,
  command,
  run,
  refusal,
  body_length,
  command_of,
  wrong_run,
  record_number,
  record_at,
  kind_at,
  rest_at,
  step_of,
  contents_from,
  contents_of,
}

-- each kind
abbrev slots : List Command
slots =
    Nop
    ∷ Nop
    ∷ Act (record { 0 = 2 }) (record { 0 = 0x1234 })
    ∷ Read (record { 0 = 1 }) (record { 0 = 0x56 })
    ∷ Wrt (record { 0 = 3 }) (record { 0 = 0x178 }) 0xBEEF
    ∷ Pre (record { 0 = 255 })
    ∷ Nop
    ∷ Deac
    ∷ Refr
    ∷ Mrs 0x30
    ∷ Nop
    ∷ []

abbrev bytes : List ℕ
bytes =
    0 ∷ 2 ∷ 0
    ∷ 1 ∷ 2 ∷ 0x34 ∷ 0x12
    ∷ 2 ∷ 1 ∷ 0x56 ∷ 0
    ∷ 3 ∷ 3 ∷ 0x78 ∷ 1 ∷ 0xEF ∷ 0xBE
    ∷ 4 ∷ 255
    ∷ 0 ∷ 1 ∷ 0
    ∷ 5
    ∷ 6
    ∷ 7 ∷ 0x30 ∷ 0
    ∷ 0 ∷ 1 ∷ 0
    ∷ []

-- what is read of tapes from their first place on
abbrev answered : List ℕ → Answer
answered t = (contents_of t).last

pub record Exampled : Type 0 where
  pub written : tape_of slots ≡ bytes
  pub back : contents_of bytes ≡ record { slots = slots; last = end }
  pub no_slots : tape_of [] ≡ []
  -- 65,535 NOPs are a run, one more begins another
  pub full : tape_after 65534 (Nop ∷ []) ≡ 0 ∷ 255 ∷ 255 ∷ []
  pub more : tape_after 65534 (Nop ∷ Nop ∷ Deac ∷ []) ≡ 0 ∷ 255 ∷ 255 ∷ 0 ∷ 1 ∷ 0 ∷ 5 ∷ []
  -- 11 wins over 12, 12 over 13; a place is that of the record's kind; a run may follow a full one, but no run of no NOPs
  pub refused : map answered
      ((8 ∷ [])
      ∷ (5 ∷ 255 ∷ 0 ∷ [])
      ∷ (5 ∷ 3 ∷ 0 ∷ 0 ∷ 0 ∷ 0 ∷ [])
      ∷ (6 ∷ 5 ∷ 0 ∷ 0 ∷ [])
      ∷ (0 ∷ 0 ∷ 0 ∷ [])
      ∷ (0 ∷ 2 ∷ 0 ∷ 0 ∷ 1 ∷ 0 ∷ [])
      ∷ (0 ∷ 2 ∷ 0 ∷ 0 ∷ 1 ∷ [])
      ∷ (0 ∷ 2 ∷ 0 ∷ 5 ∷ 0 ∷ 1 ∷ 0 ∷ [])
      ∷ (0 ∷ 255 ∷ 255 ∷ 0 ∷ 0 ∷ 0 ∷ [])
      ∷ [])
      ≡ refusal 11 0
      ∷ refusal 11 1
      ∷ refusal 12 1
      ∷ refusal 12 2
      ∷ refusal 13 0
      ∷ refusal 13 3
      ∷ refusal 12 3
      ∷ end
      ∷ refusal 13 3
      ∷ []
  -- any place and any run may stand in a reader
  pub anywhere : map (λ (before : ℕ). (step_of (0 ∷ 1 ∷ 2 ∷ []) 0 before).answer) (0 ∷ 1 ∷ 65534 ∷ 65535 ∷ []) ≡ run 513 ∷ refusal 13 0 ∷ refusal 13 0 ∷ run 513 ∷ []
  pub within : map (λ (at : ℕ). step_of (0 ∷ 5 ∷ 4 ∷ []) at 7) (0 ∷ 1 ∷ 2 ∷ 3 ∷ 4 ∷ [])
      ≡ record { answer = refusal 13 0; at = 0; before = 7 }
      ∷ record { answer = command Deac; at = 2; before = 0 }
      ∷ record { answer = refusal 12 2; at = 2; before = 7 }
      ∷ record { answer = end; at = 3; before = 7 }
      ∷ record { answer = end; at = 4; before = 7 }
      ∷ []

pub tape_examples : Exampled
unfolding run_bytes command_bytes slot_piece piece_of tape_after body_length command_of wrong_run record_number record_at kind_at rest_at step_of contents_from
tape_examples =
    record {
      written = refl;
      back = refl;
      no_slots = refl;
      full = refl;
      more = refl;
      refused = refl;
      anywhere = refl;
      within = refl;
    }
