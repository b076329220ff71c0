-- The urgency levels and the Must run (document 01, "A service slot").
use Rattle.std.specs.Prelude.{ℕ, Bool, true, false, cond, leb, eqb}
use Rattle.refresh.specs.declared.Level.{Level}
use Rattle.refresh.specs.declared.Level.TheVariants.{Clear, May, Release, Need, Must}

-- the level of a backlog: 0; 1 to 3; 4 to 7; 8 to 11; 12 to 15, and what lies above
unfoldable pub level_of : ℕ → Level
level_of b =
    cond (eqb b 0) Clear
    (cond (leb b 3) May
    (cond (leb b 7) Release
    (cond (leb b 11) Need
    Must)))

-- is a Must run on after a choice: it starts at 12 or more (Must), ends at 7 or less, and is kept between (Need)
abbrev pub run_of : Bool → Level → Bool
run_of running Clear = false
run_of running May = false
run_of running Release = false
run_of running Need = running
run_of running Must = true
