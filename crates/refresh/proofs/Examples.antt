-- Worked examples of the definitions, as one table: each line is computed.
use mathlib.Core.Path.{◌≡◌, refl}
use mathlib.Core.Bool.{Bool, true, false}
use mathlib.Core.List.{List, [], ◌∷◌, map}
use Prim.Native.Nat.{ℕ, zero, suc}
use Rattle.refresh.specs.declared.Level.TheVariants.{Clear, May, Release, Need, Must}
use Rattle.refresh.specs.declared.Counters.{Counters}
use Rattle.refresh.specs.Urgency.{level_of, run_of}
use Rattle.refresh.specs.Counting.{start_of, tick_of, refreshed_of, expiries_of}

abbrev at : ℕ → ℕ → Counters
at i b = record { interval = i; backlog = b }

-- the run flag after each of a row of choices
abbrev runs : Bool → List ℕ → List Bool
runs running [] = []
runs running (b ∷ bs) = run_of running (level_of b) ∷ runs (run_of running (level_of b)) bs

-- the counters from the start on, after n service slots without a REFR
abbrev ticked : ℕ → ℕ → Counters
ticked rr zero = start_of rr
ticked rr (suc n) = tick_of (ticked rr n) rr

-- `run`: a Must run starts at 12, goes on at 11 and 8, and ends at 7; 11 alone starts none. `slots`: with RR 27 the
-- interval expires in slots 27 and 54, and the backlog stays at 15. `odd`: an interval of 0, a backlog above 15.
record Examples : Type 0 where
  levels :
      map level_of (0 ∷ 1 ∷ 2 ∷ 3 ∷ 4 ∷ 5 ∷ 6 ∷ 7 ∷ 8 ∷ 9 ∷ 10 ∷ 11 ∷ 12 ∷ 13 ∷ 14 ∷ 15 ∷ [])
      ≡ Clear ∷ May ∷ May ∷ May ∷ Release ∷ Release ∷ Release ∷ Release ∷
      Need ∷ Need ∷ Need ∷ Need ∷ Must ∷ Must ∷ Must ∷ Must ∷ []
  run :
      runs false (11 ∷ 12 ∷ 11 ∷ 8 ∷ 7 ∷ 11 ∷ 15 ∷ 4 ∷ 12 ∷ 3 ∷ 12 ∷ 0 ∷ [])
      ≡ false ∷ true ∷ true ∷ true ∷ false ∷ false ∷ true ∷ false ∷ true ∷ false ∷ true ∷ false ∷ []
  slots :
      map (ticked 27) (0 ∷ 1 ∷ 26 ∷ 27 ∷ 53 ∷ 54 ∷ 405 ∷ 432 ∷ [])
      ≡ at 27 0 ∷ at 26 0 ∷ at 1 0 ∷ at 27 1 ∷ at 1 1 ∷ at 27 2 ∷ at 27 15 ∷ at 27 15 ∷ []
  expiries : map (expiries_of 27) (0 ∷ 26 ∷ 27 ∷ 53 ∷ 54 ∷ 405 ∷ []) ≡ 0 ∷ 0 ∷ 1 ∷ 1 ∷ 2 ∷ 15 ∷ []
  sent : map refreshed_of (at 5 12 ∷ at 5 1 ∷ at 5 0 ∷ []) ≡ at 5 11 ∷ at 5 0 ∷ at 5 0 ∷ []
  odd : tick_of (at 0 16) 27 ∷ tick_of (at 1 14) 27 ∷ [] ≡ at 27 15 ∷ at 27 15 ∷ []

examples : Examples
unfolding level_of start_of tick_of refreshed_of expiries_of
examples = record { levels = refl; run = refl; slots = refl; expiries = refl; sent = refl; odd = refl }
