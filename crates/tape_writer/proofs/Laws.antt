-- The writer's laws (specs/Laws.antt).
use Prim.Native.Nat.{ℕ}
use mathlib.Core.Path.{◌≡◌, refl}
use mathlib.Core.Bool.{true, cond}
use mathlib.Core.List.{List, [], ◌∷◌, map}
use native.Mathlib.Omega.{arith}
use lib.Dec.{ltb}
use lib.ListN.{length}
use lib.Seq.{take-append_seam}
use borrow.Author.Tests.{eqb-true, ne_eqb}
use Rattle.device.proofs.Tests.{if_both, both}
use Rattle.command.specs.declared.Command.{Command}
use Rattle.packing.specs.Packing.{command_word, command_in, packs_command}
use Rattle.packing.proofs.Laws.{command_fits, packed_commands}
use Rattle.tape.specs.Reading.{contents_of}
use Rattle.tape.specs.Laws.{Fit}
use Rattle.tape.proofs.Pieces.{pieces}
use Rattle.tape.proofs.Tapes.{tapes}
use Rattle.tape_writer.specs.Writer.{slots_in, all_pack, Outcome, refused_of, front_of, written_of, extended_of}
use Rattle.tape_writer.specs.Laws.{tape_in, WriterLaws}

-- Rows and their slots.

words_fit : (words : List ℕ) → Fit (slots_in words)
words_fit [] = tt
words_fit (w ∷ words) = (command_fits w, words_fit words)

words_back : (words : List ℕ) → all_pack words ≡ true → map command_word (slots_in words) ≡ words
unfolding all_pack packs_command
words_back [] e = refl
words_back (w ∷ words) e =
    let p = both (packs_command w) (all_pack words) e in
    cc (eqb-true (command_word (command_in w)) w p.0, words_back words p.1)

slots_pack : (slots : List Command) → Fit slots → all_pack (map command_word slots) ≡ true
unfolding all_pack
slots_pack [] f = refl
slots_pack (k ∷ slots) f = rw ((packed_commands.packed k f.0).1, slots_pack slots f.1)

slots_back : (slots : List Command) → Fit slots → slots_in (map command_word slots) ≡ slots
slots_back [] f = refl
slots_back (k ∷ slots) f = rw ((packed_commands.packed k f.0).2, slots_back slots f.1)

-- A call that gives 0 has written its bytes, and every word packs a command.

abbrev Done : List ℕ → List ℕ → Outcome → Type 0
Done words bytes w = w.number ≡ 0 → (all_pack words ≡ true) × (tape_in w ≡ bytes)

done : (words bytes lent : List ℕ) → Done words bytes (cond (all_pack words) (front_of bytes lent) (refused_of 20 lent))
unfolding front_of
done words bytes lent =
    if_both (Done words bytes) (all_pack words)
    (λ t. if_both (Done words bytes) (ltb (length lent) (length bytes)) (λ _ z. absurd (omega arith)) (λ _ z. (t, take-append_seam bytes _)))
    (λ _ z. absurd (omega arith))

-- A call that gives another number has written nothing.

abbrev Kept : List ℕ → Outcome → Type 0
Kept lent w = (w.number ≡ 0 → ⊥) → (w.length ≡ 0) × (w.bytes ≡ lent)

kept : (words bytes lent : List ℕ) → Kept lent (cond (all_pack words) (front_of bytes lent) (refused_of 20 lent))
unfolding front_of
kept words bytes lent =
    if_both (Kept lent) (all_pack words) (λ _. if_both (Kept lent) (ltb (length lent) (length bytes)) (λ _ _. (refl, refl)) (λ _ n. absurd (n refl)))
    (λ _ _. (refl, refl))

pub writer_laws : WriterLaws
unfolding written_of extended_of
writer_laws =
    record {
      finished = λ n words lent z. (done words _ lent z).1;
      continued = λ n words lent later z. rw ((done words _ lent z).1, z, pieces.continued n (slots_in words) later);
      kept = λ n words lent z. kept words _ lent z;
      piece_kept = λ n words lent z. let k = kept words _ lent z in (k.0, k.1, rw (ne_eqb _ _ z));
      returned = λ words lent z.
          let d = done words _ lent z in
          (rw d.1 (tapes.returned (slots_in words) (words_fit words)).1, words_back words d.0);
      spelled = λ tape lent b a.
          let s = tapes.spelled tape b a in
          let slots = (contents_of tape).slots in
          rw (slots_pack slots s.0, slots_back slots s.0, s.1);
    }
