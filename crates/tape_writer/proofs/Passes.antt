-- The two passes over a row: the words from a place on give, of what is there, what all words give of what was there at first.
use Prim.Native.Nat.{ℕ, suc, ◌+◌, ◌*◌, ◌≤◌, ◌<◌}
use mathlib.Core.Path.{◌≡◌, refl, sym, subst, ◌∙◌}
use mathlib.Core.Bool.{true, false, cond}
use mathlib.Core.List.{List, [], ◌∷◌, ◌++◌}
use native.Mathlib.Omega.{arith}
use native.Mathlib.Nat.{add_assoc, add-zero, zero-add}
use lib.ListN.{length, get_or, drop, length-append, drop_of_length-le}
use lib.Dec.{ltb}
use lib.Seq.{drop-cons}
use borrow.Author.Tests.{ltb-true, ltb-false}
use Rattle.device.proofs.Tests.{by_test, if_both, both}
use Rattle.command.specs.declared.Command.{Command}
use Rattle.packing.specs.Packing.{command_in, packs_command}
use Rattle.tape.specs.Writing.{run_bytes, is_nop, Piece, slot_piece, piece_of}
use Rattle.std.specs.Prelude.{Result, Ok, Err}
use Rattle.tape_writer.specs.declared.Extended.{Extended}
use Rattle.tape_writer.specs.declared.WriteError.{WriteError}
use Rattle.tape_writer.specs.Writer.{slots_in, all_pack}
use Rattle.tape_writer.specs.Passes.{measured_of}
use Rattle.tape_encoder.proofs.Slots.{joins, begins, ends, short_run, no_run, few_bytes}

-- a slot adds six bytes at most to the records and the run that waits
pub slot_grows : (n : ℕ) (k : Command) → length (slot_piece n k).bytes + length (run_bytes (slot_piece n k).pending) ≤ length (run_bytes n) + 6
slot_grows n k =
    by_test (is_nop k)
    (λ t. by_test (ltb n 65535)
    (λ l. rw (joins n k t (ltb-true _ _ l)) (omega (arith, short_run (suc n))))
    (λ l. rw (begins n k t (ltb-false _ _ l)) (omega (arith, short_run 1))))
    (λ t. rw (ends n k t, length-append, no_run 0 refl) (omega (arith, few_bytes k)))

-- the first pass
pub onward : ℕ → ℕ → List ℕ → Result Extended WriteError
onward done n words =
    let p : Piece = piece_of n (slots_in words) in
    cond (all_pack words) (Ok (record { length = done + length p.bytes; pending = p.pending })) (Err WriteError.NotACommand)

pub onward_all : (n : ℕ) (words : List ℕ) → onward 0 n words ≡ measured_of n words
unfolding onward measured_of
onward_all n words = simp zero-add

module _ (words : List ℕ) (i done n : ℕ) where
  pub onward_next : i < length words → packs_command (get_or words i 0) ≡ true
      → onward (done + length (slot_piece n (command_in (get_or words i 0))).bytes) (slot_piece n (command_in (get_or words i 0))).pending (drop (suc i) words)
      ≡ onward done n (drop i words)
  unfolding onward all_pack piece_of
  onward_next h p = simp (drop-cons words i 0 h, p, length-append, add_assoc)

  pub onward_stop : i < length words → packs_command (get_or words i 0) ≡ false → onward done n (drop i words) ≡ Err WriteError.NotACommand
  unfolding onward all_pack
  onward_stop h p = simp (drop-cons words i 0 h, p)

  pub onward_end : length words ≤ i → onward done n (drop i words) ≡ Ok (record { length = done; pending = n })
  unfolding onward all_pack piece_of
  onward_end h = simp (drop_of_length-le words h, add-zero)

-- the second pass
module _ (words : List ℕ) (i n : ℕ) (h : i < length words) where
  abbrev pub now_slot : Piece
  now_slot = slot_piece n (command_in (get_or words i 0))

  abbrev pub later_bytes : List ℕ
  later_bytes = (piece_of now_slot.pending (slots_in (drop (suc i) words))).bytes

  -- the records from here on are this slot's and those after it
  pub bytes_next : (piece_of n (slots_in (drop i words))).bytes ≡ now_slot.bytes ++ later_bytes
  unfolding piece_of
  bytes_next = simp (drop-cons words i 0 h)

  pub packs_next : all_pack (drop i words) ≡ true → (packs_command (get_or words i 0) ≡ true) × (all_pack (drop (suc i) words) ≡ true)
  unfolding all_pack
  packs_next p = both _ _ (rw (drop-cons words i 0 h) at p)

-- at the end no record is left
pub bytes_end : (words : List ℕ) (i n : ℕ) → length words ≤ i → (piece_of n (slots_in (drop i words))).bytes ≡ []
unfolding piece_of
bytes_end words i n h = rw (drop_of_length-le words h)

-- what the first pass tells
module _ (n : ℕ) (words : List ℕ) where
  abbrev pub of_row : Piece
  of_row = piece_of n (slots_in words)

  abbrev Measures : Result Extended WriteError → Type 0
  Measures (Ok m) = (all_pack words ≡ true) × (m.length ≡ length of_row.bytes) × (m.pending ≡ of_row.pending)
  Measures (Err why) = (all_pack words ≡ false) × (why ≡ WriteError.NotACommand)

  measures : Measures (measured_of n words)
  unfolding measured_of
  measures = if_both Measures (all_pack words) (λ t. (t, refl, refl)) (λ t. (t, refl))

  pub measured_all : {r : Result Extended WriteError} {m : Extended} → r ≡ measured_of n words → r ≡ Ok m
      → (all_pack words ≡ true) × (m.length ≡ length of_row.bytes) × (m.pending ≡ of_row.pending)
  measured_all e o = subst Measures (sym e ∙ o) measures

  pub measured_not : {r : Result Extended WriteError} {why : WriteError} → r ≡ measured_of n words → r ≡ Err why
      → (all_pack words ≡ false) × (why ≡ WriteError.NotACommand)
  measured_not e o = subst Measures (sym e ∙ o) measures

-- no slot takes more than six bytes
pub piece_short : (n : ℕ) (slots : List Command)
    → length (piece_of n slots).bytes + length (run_bytes (piece_of n slots).pending) ≤ length (run_bytes n) + 6 * length slots
unfolding piece_of
piece_short n [] = omega arith
piece_short n (k ∷ later) = rw length-append (omega (arith, slot_grows n k, piece_short (slot_piece n k).pending later))
