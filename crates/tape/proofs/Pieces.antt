-- A tape in pieces: what each slot adds to it (`Pieces` of Laws.antt).
use Prim.Native.Nat.{ℕ, zero, suc, ◌+◌, ◌≤◌, ◌<◌}
use mathlib.Core.Path.{◌≡◌, refl, sym, ap, ◌∙◌}
use mathlib.Core.Bool.{false}
use mathlib.Core.List.{List, [], ◌∷◌, ◌++◌, append_assoc}
use native.Mathlib.Omega.{arith}
use lib.Dec.{ltb}
use lib.ListN.{replicate}
use borrow.Author.Tests.{ltb-true, lt-ltb, le-ltb}
use Rattle.device.proofs.Tests.{if_both}
use Rattle.command.specs.declared.Command.{Command}
use Rattle.command.specs.declared.Command.TheVariants.{Nop}
use Rattle.tape.specs.Writing.{run_bytes, command_bytes, is_nop, Piece, slot_piece, piece_of, tape_after, tape_of}
use Rattle.tape.specs.Laws.{Pieces}

-- What the first slot adds: its piece; and so a NOP in a run that is not full, a NOP after a full run, and any other command.

tape_slot : (n : ℕ) (k : Command) (ks : List Command) → tape_after n (k ∷ ks) ≡ (slot_piece n k).bytes ++ tape_after (slot_piece n k).pending ks
unfolding tape_after piece_of
tape_slot n k ks = rw append_assoc

pub tape_nop : (n : ℕ) (ks : List Command) → n < 65535 → tape_after n (Nop ∷ ks) ≡ tape_after (suc n) ks
unfolding slot_piece
tape_nop n ks h = tape_slot n Nop ks ∙ simp (lt-ltb n 65535 h)

pub tape_full : (n : ℕ) (ks : List Command) → 65535 ≤ n → tape_after n (Nop ∷ ks) ≡ run_bytes n ++ tape_after 1 ks
unfolding slot_piece
tape_full n ks h = tape_slot n Nop ks ∙ simp (le-ltb n 65535 h)

pub tape_command : (n : ℕ) (k : Command) (ks : List Command) → is_nop k ≡ false → tape_after n (k ∷ ks) ≡ run_bytes n ++ (command_bytes k ++ tape_of ks)
unfolding slot_piece
tape_command n k ks e = tape_slot n k ks ∙ simp (e, append_assoc)

-- so NOPs before the slots are counted, as long as they fit one run
tape_nops : (m n : ℕ) (ks : List Command) → m + n ≤ 65535 → tape_after m (replicate n Nop ++ ks) ≡ tape_after (m + n) ks
tape_nops m zero ks h = ap (λ (i : ℕ). tape_after i ks) (omega arith)
tape_nops m (suc n) ks h =
    tape_nop m _ (omega arith) ∙ tape_nops (suc m) n ks (omega arith) ∙ ap (λ (i : ℕ). tape_after i ks) (omega arith)

pub tape_opened : (n : ℕ) (ks : List Command) → n ≤ 65535 → tape_after n ks ≡ tape_of (replicate n Nop ++ ks)
tape_opened n ks h = sym (tape_nops 0 n ks (omega arith) ∙ ap (λ (i : ℕ). tape_after i ks) (omega arith))

continued : (n : ℕ) (first later : List Command) → (piece_of n first).bytes ++ tape_after (piece_of n first).pending later ≡ tape_after n (first ++ later)
unfolding piece_of
continued n [] later = refl
continued n (k ∷ first) later =
    rw (append_assoc, continued (slot_piece n k).pending first later) (sym (tape_slot n k (first ++ later)))

slot_limited : (n : ℕ) (k : Command) → n ≤ 65535 → (slot_piece n k).pending ≤ 65535
unfolding slot_piece
slot_limited n k h =
    if_both (λ (p : Piece). p.pending ≤ 65535) (is_nop k)
    (λ e. if_both (λ (p : Piece). p.pending ≤ 65535) (ltb n 65535) (λ t. omega (arith, ltb-true)) (λ t. omega arith))
    (λ e. omega arith)

limited : (n : ℕ) (ks : List Command) → n ≤ 65535 → (piece_of n ks).pending ≤ 65535
unfolding piece_of
limited n [] h = h
limited n (k ∷ ks) h = limited (slot_piece n k).pending ks (slot_limited n k h)

pub pieces : Pieces
pieces = record { opened = tape_opened; continued = continued; limited = limited }
