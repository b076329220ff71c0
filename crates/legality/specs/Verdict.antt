-- What the tests say, as their contracts put it. Nothing here has to be believed: proofs/Hold.antt shows what it is by the rules.
use Rattle.std.specs.Prelude.{ℕ, ◌≡◌, ◌+◌, Bool, true, false, ◌&&◌, ◌||◌, not, List, leb, get_or}
use Rattle.config.specs.declared.Config.{Config}
use Rattle.command.specs.declared.Command.{Command}
use Rattle.device.specs.Rules.{legal_of}
use Rattle.ages.specs.Ages.{past_of, by_ages}

-- The verdict on a command by the ages and the open flags: it is the rules', whatever rows are open, and whether or not the mode is set.
abbrev pub Verdict : Config → List ℕ → List Bool → Command → Bool → Type 0
Verdict c ages opened k verdict = (rows : List ℕ) (programmed : Bool) → verdict ≡ legal_of c (by_ages c (past_of ages opened rows programmed)) k

-- R2, as the code tests it: the last REFR and the last MRS are far enough back
unfoldable pub settled_of : Config → List ℕ → Bool
settled_of c ages = leb c.rfc (get_or ages 8 0) && leb 2 (get_or ages 9 0)

-- R12 or R13 for a DEAC, as one bank has it: its ACT or WRT, whose age stands at its number from a place on, is far enough back if the bank is open
unfoldable pub free_of : List ℕ → List Bool → ℕ → ℕ → ℕ → Bool
free_of ages opened from n b = not (get_or opened b false) || leb n (get_or ages (from + b) 0)

-- as all have it
abbrev pub all_free_of : List ℕ → List Bool → ℕ → ℕ → Bool
all_free_of ages opened from n =
    free_of ages opened from n 0 && (free_of ages opened from n 1 && (free_of ages opened from n 2 && (free_of ages opened from n 3 && true)))
