-- What the code tests, as its contracts put it. Nothing here has to be believed: proofs/Hold.antt shows what it is by the rules.
use Rattle.std.specs.Prelude.{ℕ, ◌+◌, max, Bool, ◌&&◌, ◌||◌, not, List, leb, get_or}
use Rattle.config.specs.declared.Config.{Config}
use Rattle.stamps.specs.Stamps.{open_at}

-- R2: the last REFR and the last MRS are far enough back
unfoldable pub settled_of : Config → List ℕ → ℕ → Bool
settled_of c l now = leb (get_or l 8 0 + c.rfc) now && leb (get_or l 9 0 + 2) now

-- the latest ACT of all banks
unfoldable pub latest_of : List ℕ → ℕ
latest_of l = max (max (get_or l 0 0) (get_or l 1 0)) (max (get_or l 2 0) (get_or l 3 0))

-- R12 or R13 for a DEAC, as one bank has it
unfoldable pub free_of : List ℕ → ℕ → ℕ → ℕ → ℕ → Bool
free_of l from n now b = not (open_at l b) || leb (get_or l (from + b) 0 + n) now

-- as all have it
abbrev pub all_free_of : List ℕ → ℕ → ℕ → ℕ → Bool
all_free_of l from n now = free_of l from n now 0 && (free_of l from n now 1 && (free_of l from n now 2 && free_of l from n now 3))

-- what R14 forbids
abbrev pub any_open_of : List ℕ → Bool
any_open_of l = open_at l 0 || (open_at l 1 || (open_at l 2 || open_at l 3))
