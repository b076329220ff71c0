-- How the code makes the past after a command. Nothing here has to be believed: `noted_sent` of proofs/Slot.antt shows what it is by the definition of ages.
use Rattle.std.specs.Prelude.{ℕ, ◌+◌, Bool, true, false, cond, List, map, ltb, set, replicate}
use Rattle.command.specs.declared.Command.{Command}
use Rattle.command.specs.declared.Command.TheVariants.{Nop, Act, Read, Wrt, Pre, Deac, Refr, Mrs}
use Rattle.ages.specs.declared.Past.{Past}
use Rattle.ages.specs.Ages.{past_of, aged_of}

-- a list in which four elements from a place on are the four banks', with a value for bank b; as it was for a bank that no device has
abbrev pub at_bank : {A : Type 0} → List A → ℕ → ℕ → A → List A
at_bank l from b x = cond (ltb b 4) (set l (from + b) x) l

-- the ages that a DEAC starts
abbrev pub precharged : List ℕ → List ℕ
precharged a = set (set (set (set (set a 4 0) 5 0) 6 0) 7 0) 10 0

-- What a command starts, at age 0: the ages, the open flags, the rows, and whether the mode is set.
unfoldable pub noted_ages : Command → List ℕ → List ℕ
noted_ages Nop a = a
noted_ages (Act b r) a = at_bank a 0 b.0 0
noted_ages (Read b k) a = set a 11 0
noted_ages (Wrt b k x) a = at_bank a 12 b.0 0
noted_ages (Pre b) a = at_bank (set a 10 0) 4 b.0 0
noted_ages Deac a = precharged a
noted_ages Refr a = set a 8 0
noted_ages (Mrs w) a = set a 9 0

unfoldable pub noted_open : Command → List Bool → List Bool
noted_open Nop o = o
noted_open (Act b r) o = at_bank o 0 b.0 true
noted_open (Read b k) o = o
noted_open (Wrt b k x) o = o
noted_open (Pre b) o = at_bank o 0 b.0 false
noted_open Deac o = replicate 4 false
noted_open Refr o = o
noted_open (Mrs w) o = o

unfoldable pub noted_rows : Command → List ℕ → List ℕ
noted_rows Nop l = l
noted_rows (Act b r) l = at_bank l 0 b.0 r.0
noted_rows (Read b k) l = l
noted_rows (Wrt b k x) l = l
noted_rows (Pre b) l = l
noted_rows Deac l = l
noted_rows Refr l = l
noted_rows (Mrs w) l = l

unfoldable pub noted_mode : Command → Bool → Bool
noted_mode Nop m = m
noted_mode (Act b r) m = m
noted_mode (Read b k) m = m
noted_mode (Wrt b k x) m = m
noted_mode (Pre b) m = m
noted_mode Deac m = m
noted_mode Refr m = m
noted_mode (Mrs w) m = true

unfoldable pub noted_of : Past → Command → Past
noted_of p k = past_of (noted_ages k p.ages) (noted_open k p.opened) (noted_rows k p.rows) (noted_mode k p.programmed)

-- and then a slot passes
unfoldable pub elapsed_of : Past → Past
elapsed_of p = past_of (map (aged_of false) p.ages) p.opened p.rows p.programmed
