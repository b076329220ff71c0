-- Bytes that are stored one after the other.
use Prim.Native.Nat.{ℕ, suc, ◌+◌, ◌≤◌}
use mathlib.Core.Path.{◌≡◌, refl, ◌∙◌}
use mathlib.Core.List.{List, [], ◌∷◌, ◌++◌}
use native.Mathlib.Omega.{arith}
use lib.ListN.{length, set, drop, length-append}
use lib.Seq.{sets, sets-eq, length-sets}
use Rattle.tape_encoder.specs.declared.Encoder.{Encoder}
use Rattle.tape_encoder.specs.Encoder.{Room, Puts}

-- two parts
pub sets_append : (l : List ℕ) (i : ℕ) (xs ys : List ℕ) → sets l i (xs ++ ys) ≡ sets (sets l i xs) (i + length xs) ys
sets_append l i [] ys = let e : i + 0 ≡ i = omega arith in rw e
sets_append l i (x ∷ xs) ys = let e : suc i + length xs ≡ i + suc (length xs) = omega arith in rw (sets_append (set l i x) (suc i) xs ys, e)

-- from the first place on
pub sets_front : (l xs : List ℕ) → length xs ≤ length l → sets l 0 xs ≡ xs ++ drop (length xs) l
sets_front l xs h = let e : 0 + length xs ≡ length xs = omega arith in rw e at (sets-eq xs l 0 (omega arith))

-- Bytes that an encoder puts in two parts.

pub puts_both : {before between after : Encoder} (xs ys : List ℕ) → Puts before between xs → Puts between after ys → Puts before after (xs ++ ys)
puts_both {before} {between} {after} xs ys p q =
    record { place = rw length-append (omega (arith, p.place, q.place)); tape = rw (sets_append before.tape.now before.at xs ys, q.tape, p.tape, p.place) refl; lent = q.lent ∙ p.lent }

-- the room for the first part, and what is left for the second
pub room_first : {before : Encoder} (xs ys : List ℕ) → Room before (xs ++ ys) → Room before xs
room_first xs ys r = record { fits = omega (arith, length-append xs ys, r.fits) }

pub room_left : {before between : Encoder} (xs ys : List ℕ) → Room before (xs ++ ys) → Puts before between xs → Room between ys
room_left {before} {between} xs ys r p = record { fits = rw (p.place, p.tape, length-sets) (omega (arith, length-append xs ys, r.fits)) }

-- where a part has been put, room for so many bytes
pub room_for : {before between : Encoder} (bytes xs ys : List ℕ) → Room before bytes → length xs + length ys ≤ length bytes → Puts before between xs → Room between ys
room_for {before} {between} bytes xs ys r h p = record { fits = rw (p.place, p.tape, length-sets) (omega (arith, h, r.fits)) }

pub puts_none : (e : Encoder) → Puts e e []
puts_none e = record { place = omega arith; tape = refl; lent = refl }
