-- The writer's calls on a part of the buffer: what they write fits, and stands behind the bytes that wait there.
use Prim.Native.Nat.{ℕ, ◌+◌, ◌-◌, ◌≤◌}
use mathlib.Core.Path.{◌≡◌, refl, sym, ap, ◌∙◌}
use mathlib.Core.Bool.{true}
use mathlib.Core.List.{List, [], ◌++◌, append_assoc}
use native.Mathlib.Omega.{arith}
use borrow.Author.Tests.{ltb-false, le-ltb}
use lib.Dec.{ltb}
use lib.ListN.{length, take, drop, length-drop, length-map}
use lib.Seq.{length-take-le, take-append_seam, take-append-add}
use Rattle.std.specs.Prelude.{Result, Ok, Err}
use Rattle.std.proofs.Common.{take_all, append-nil}
use Rattle.std.specs.Result.{result_unwrap_or}
use Rattle.device.proofs.Tests.{if_both}
use Rattle.output.specs.Waiting.{kept_of}
use Rattle.output.proofs.Laws.{kept_room}
use Rattle.packing.specs.Packing.{command_in}
use Rattle.tape.specs.Writing.{run_bytes, Piece, piece_of, tape_after}
use Rattle.tape_writer.specs.declared.Extended.{Extended}
use Rattle.tape_writer.specs.declared.WriteError.{WriteError}
use Rattle.tape_writer.specs.Writer.{slots_in, all_pack, Outcome, front_of, written_of, Extending, extended_of, outcome_in, extending_in}
use Rattle.tape_encoder.proofs.Slots.{short_run}
use Rattle.tape_writer.proofs.Passes.{piece_short}
use Rattle.recording.specs.Recording.{kept_in, Lent}

-- the records of a row
pub piece_room : (n : ℕ) (words : List ℕ) → length words ≤ 4096 → length (piece_of n (slots_in words)).bytes ≤ 24579
piece_room n words h = omega (arith, piece_short n (slots_in words), short_run n, length-map words command_in)

-- what was written is at the front of what was lent
abbrev front_in : List ℕ → List ℕ → Outcome
front_in bytes lent = record { number = 0; length = length bytes; bytes = bytes ++ drop (length bytes) lent }

abbrev gone_on : ℕ → List ℕ → List ℕ → Extending
gone_on n words lent = let p : Piece = piece_of n (slots_in words) in record { outcome = front_in p.bytes lent; pending = p.pending }

extended : (n : ℕ) (words lent : List ℕ) → all_pack words ≡ true → length (piece_of n (slots_in words)).bytes ≤ length lent
    → extended_of n words lent ≡ gone_on n words lent
unfolding extended_of front_of
extended n words lent p h = simp (p, le-ltb _ _ h)

finished : (n : ℕ) (lent : List ℕ) → length (run_bytes n) ≤ length lent
    → written_of n [] lent ≡ front_in (run_bytes n) lent
unfolding written_of all_pack front_of tape_after piece_of
finished n lent h = simp (le-ltb _ _ h)

-- behind the bytes that wait
behind : (w : ℕ) (before piece later rest : List ℕ) → w ≤ length before
    → take (w + length piece) (take w before ++ ((piece ++ later) ++ rest)) ≡ take w before ++ piece
behind w before piece later rest h =
    ap (λ (m : ℕ). take (m + length piece) (take w before ++ ((piece ++ later) ++ rest))) (sym (length-take-le w before h))
    ∙ take-append-add (take w before) ((piece ++ later) ++ rest) (length piece)
    ∙ ap (λ (bytes : List ℕ). take w before ++ bytes) (rw append_assoc (take-append_seam piece (later ++ rest)))

-- the part of the buffer that is lent
module _ (held : ℕ) (w : ℕ) (before : List ℕ) (room : 24579 ≤ length before) (k : w ≡ kept_of held 24579 (length before)) where
  abbrev lent : List ℕ
  lent = take (length before - w) (drop w before)

  inside : w + 24579 ≤ length before
  inside = rw k (kept_room held 24579 (length before) room)

  lent_length : length lent ≡ length before - w
  lent_length = length-take-le (length before - w) (drop w before) (simp length-drop (omega arith))

  fits : (bytes : List ℕ) → length bytes ≤ 24579 → length bytes ≤ length lent
  fits bytes h = omega (arith, inside, lent_length)

  put : (bytes later rest : List ℕ) → take (w + length bytes) (take w before ++ ((bytes ++ later) ++ rest)) ≡ kept_in held before ++ bytes
  put bytes later rest = rw (← k) (behind w before bytes later rest (omega (arith, inside)))

-- What a call answers, or where it is refused no bytes and the NOPs that waited, is what it gives.

abbrev more_of : ℕ → Result Extended WriteError → Extended
more_of n r = result_unwrap_or r (record { length = 0; pending = n })

told : (n k : ℕ) (r : Result Extended WriteError) (bytes : List ℕ)
    → ((more_of k r).length ≡ (extending_in n r bytes).outcome.length) × (bytes ≡ (extending_in n r bytes).outcome.bytes)
told n k (Ok m) bytes = (refl, refl)
told n k (Err why) bytes = (refl, refl)

told_pending : (n : ℕ) (r : Result Extended WriteError) (bytes : List ℕ) → (more_of n r).pending ≡ (extending_in n r bytes).pending
told_pending n (Ok m) bytes = refl
told_pending n (Err why) bytes = refl

told_end : (r : Result ℕ WriteError) (bytes : List ℕ) → (result_unwrap_or r 0 ≡ (outcome_in r bytes).length) × (bytes ≡ (outcome_in r bytes).bytes)
told_end (Ok length) bytes = (refl, refl)
told_end (Err why) bytes = (refl, refl)

-- the records of a row
module _
    (held : ℕ) (n w : ℕ) (words before last rest : List ℕ) (l : Lent words before) (k : w ≡ kept_of held 24579 (length before))
    (r : Result Extended WriteError) {m : Extended} (u : m ≡ more_of n r)
    (e : extending_in n r last ≡ extended_of n words (lent held w before l.room k)) where
  gives : extending_in n r last ≡ gone_on n words (lent held w before l.room k)
  gives = e ∙ extended n words (lent held w before l.room k) l.pack (fits held w before l.room k (piece_of n (slots_in words)).bytes (piece_room n words l.few))

  pub added_bytes : take (w + m.length) (take w before ++ (last ++ rest)) ≡ kept_in held before ++ (piece_of n (slots_in words)).bytes
  added_bytes =
      let t = told n n r last in
      rw (u, t.0 ∙ ap (λ (x : Extending). x.outcome.length) gives, t.1 ∙ ap (λ (x : Extending). x.outcome.bytes) gives) (put held w before l.room k _ _ rest)

  pub added_pending : m.pending ≡ (piece_of n (slots_in words)).pending
  added_pending = ap (λ (x : Extended). x.pending) u ∙ told_pending n r last ∙ ap (λ (x : Extending). x.pending) gives

-- the record of the NOPs that wait at the end
module _
    (held : ℕ) (n w : ℕ) (before last rest : List ℕ) (room : 24579 ≤ length before) (k : w ≡ kept_of held 24579 (length before))
    (r : Result ℕ WriteError) {m : ℕ} (u : m ≡ result_unwrap_or r 0)
    (e : outcome_in r last ≡ written_of n [] (lent held w before room k)) where
  pub ended_bytes : take (w + m) (take w before ++ (last ++ rest)) ≡ kept_in held before ++ run_bytes n
  ended_bytes =
      let z = e ∙ finished n (lent held w before room k) (fits held w before room k (run_bytes n) (omega (arith, short_run n))) in
      let t = told_end r last in
      rw (u, t.0 ∙ ap (λ (x : Outcome). x.length) z, t.1 ∙ ap (λ (x : Outcome). x.bytes) z) (put held w before room k _ _ rest)

-- What was written is no longer than what was lent.
module _ (lent : List ℕ) where
  abbrev Fits : Outcome → Type 0
  Fits w = w.length ≤ length lent

  front_fits : (bytes : List ℕ) → Fits (front_of bytes lent)
  unfolding front_of
  front_fits bytes = if_both Fits (ltb (length lent) (length bytes)) (λ _. omega arith) (λ e. omega (arith, ltb-false))

  written_fits : (n : ℕ) (words : List ℕ) → Fits (written_of n words lent)
  unfolding written_of
  written_fits n words = if_both Fits (all_pack words) (λ _. front_fits (tape_after n (slots_in words))) (λ _. omega arith)

  extended_fits : (n : ℕ) (words : List ℕ) → Fits (extended_of n words lent).outcome
  unfolding extended_of
  extended_fits n words = if_both Fits (all_pack words) (λ _. front_fits (piece_of n (slots_in words)).bytes) (λ _. omega arith)

-- whatever the row: the whole rest of the buffer is lent
module _
    (n k w : ℕ) (words before last : List ℕ) (r : Result Extended WriteError) {m : Extended} (u : m ≡ more_of k r)
    (e : extending_in n r last ≡ extended_of n words (take (length before - w) (drop w before))) where
  given : extending_in n r last ≡ extended_of n words (drop w before)
  given = e ∙ ap (λ (rest : List ℕ). extended_of n words rest) (take_all (length before - w) (drop w before) (omega (arith, length-drop w before)))

  pub more_length : m.length ≡ (extended_of n words (drop w before)).outcome.length
  more_length = ap (λ (x : Extended). x.length) u ∙ (told n k r last).0 ∙ ap (λ (x : Extending). x.outcome.length) given

  pub more_bytes : (rest : List ℕ) → rest ≡ [] → take w before ++ (last ++ rest) ≡ take w before ++ (extended_of n words (drop w before)).outcome.bytes
  more_bytes rest none = ap (λ (bytes : List ℕ). take w before ++ bytes) (rw none (append-nil last) ∙ (told n k r last).1 ∙ ap (λ (x : Extending). x.outcome.bytes) given)

  pub more_pending : m ≡ more_of n r → m.pending ≡ (extended_of n words (drop w before)).pending
  more_pending v = ap (λ (x : Extended). x.pending) v ∙ told_pending n r last ∙ ap (λ (x : Extending). x.pending) given

-- what goes on waiting lies in the buffer
pub kept_within : (waiting : ℕ) (needed room : ℕ) → kept_of waiting needed room ≤ room
unfolding kept_of
kept_within waiting needed room = if_both (λ (kept : ℕ). kept ≤ room) (ltb room (waiting + needed)) (λ _. omega arith) (λ e. omega (arith, ltb-false))

pub no_longer : (r : Result Extended WriteError) (bytes : List ℕ) {m : Extended} (n k : ℕ) (words given : List ℕ)
    → m ≡ more_of k r
    → extending_in n r bytes ≡ extended_of n words given
    → m.length ≤ length given
no_longer r bytes n k words given u e = rw (u, (told n k r bytes).0 ∙ ap (λ (x : Extending). x.outcome.length) e) (extended_fits given n words)

pub no_longer_end : (r : Result ℕ WriteError) (bytes : List ℕ) {m : ℕ} (n : ℕ) (words given : List ℕ)
    → m ≡ result_unwrap_or r 0
    → outcome_in r bytes ≡ written_of n words given
    → m ≤ length given
no_longer_end r bytes n words given u e = rw (u, (told_end r bytes).0 ∙ ap (λ (x : Outcome). x.length) e) (written_fits given n words)
