-- The bytes of a list of slots (document 02, (ii)). A tape is records: one byte of kind, and then a body.
use Rattle.std.specs.Prelude.{ℕ, suc, ◌/◌, ◌%◌, Bool, true, false, cond, List, [], ◌∷◌, ◌++◌, eqb, ltb}
use Rattle.command.specs.declared.Command.{Command}
use Rattle.command.specs.declared.Command.TheVariants.{Nop, Act, Read, Wrt, Pre, Deac, Refr, Mrs}

-- a number in two bytes, the low one first
abbrev pub pair_of : ℕ → List ℕ
pair_of n = n % 256 ∷ n / 256 ∷ []

-- a run of NOPs is kind 0 and its count; no NOPs are no record
unfoldable pub run_bytes : ℕ → List ℕ
run_bytes n = cond (eqb n 0) [] (0 ∷ pair_of n)

-- every other command is a record of its own (a NOP is not: `slot_piece` puts it into a run)
unfoldable pub command_bytes : Command → List ℕ
command_bytes Nop = run_bytes 1
command_bytes (Act b r) = 1 ∷ b.0 ∷ pair_of r.0
command_bytes (Read b k) = 2 ∷ b.0 ∷ pair_of k.0
command_bytes (Wrt b k h) = 3 ∷ b.0 ∷ (pair_of k.0 ++ pair_of h)
command_bytes (Pre b) = 4 ∷ b.0 ∷ []
command_bytes Deac = 5 ∷ []
command_bytes Refr = 6 ∷ []
command_bytes (Mrs w) = 7 ∷ pair_of w

abbrev pub is_nop : Command → Bool
is_nop Nop = true
is_nop (Act b r) = false
is_nop (Read b k) = false
is_nop (Wrt b k h) = false
is_nop (Pre b) = false
is_nop Deac = false
is_nop Refr = false
is_nop (Mrs w) = false

-- A piece of a tape: records, and how many NOPs after them still wait for theirs.
pub record Piece : Type 0 where
  pub bytes : List ℕ
  pub pending : ℕ

-- a slot after so many NOPs that wait: a NOP joins them, up to 65,535 in a run; any other command ends the run
unfoldable pub slot_piece : ℕ → Command → Piece
slot_piece n k =
    cond (is_nop k)
    (cond (ltb n 65535) (record { bytes = []; pending = suc n }) (record { bytes = run_bytes n; pending = 1 }))
    (record { bytes = run_bytes n ++ command_bytes k; pending = 0 })

-- slots, one after the other
unfoldable pub piece_of : ℕ → List Command → Piece
piece_of n [] = record { bytes = []; pending = n }
piece_of n (k ∷ later) =
    let s : Piece = slot_piece n k in
    let r : Piece = piece_of s.pending later in
    record { bytes = s.bytes ++ r.bytes; pending = r.pending }

-- the tape of so many NOPs that wait and the slots after them: its end ends the run
unfoldable pub tape_after : ℕ → List Command → List ℕ
tape_after n slots = let p : Piece = piece_of n slots in p.bytes ++ run_bytes p.pending

-- The tape of a list of slots.
abbrev pub tape_of : List Command → List ℕ
tape_of slots = tape_after 0 slots
