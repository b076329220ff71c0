-- What makes a call of many slots in the claim no less than its slots (proofs/Along.antt): every array that fits the SDRAM is among those that it is handed,
-- and the call stands for its slots, one call each.
use Rattle.std.specs.Prelude.{ℕ, ◌≡◌, List, [], ◌∷◌, map}
use Rattle.config.specs.declared.Config.{Config}
use Rattle.model.specs.World.{World, slot, slots, bus_of, slot_in, after_slot, used_of, handed_of, after, played}
use Rattle.model.specs.Condition.{EachCarried, Right, Promised}

-- each halfword of an array is what the bus carries in its slot: the SDRAM's where it has one
abbrev pub Fitting : Config → World → List ℕ → Type 0
Fitting c w [] = Unit {0}
Fitting c w (b ∷ later) = (bus_of w b ≡ b) × Fitting c (after_slot c w (slot_in w b)) later

pub record Along : Type 0 where
  -- an array that fits in the slots that are run is handed as it is
  pub own : (c : Config) (w : World) (bus commands reports : List ℕ) → Fitting c w (used_of bus commands reports) → handed_of c w bus commands reports ≡ bus
  -- the world after a right call is the world after a call for each of its slots
  pub same_world : (c : Config) (w : World) (bus commands reports : List ℕ) → Right c w (slots bus commands reports)
      → after c w (slots bus commands reports) ≡ played c w (map slot (used_of bus commands reports))
  -- and what is claimed of its slots is what is claimed of these calls
  pub promised : (c : Config) (l : List ℕ) (w : World) → EachCarried c w l → Promised c w (map slot l)
  pub each : (c : Config) (l : List ℕ) (w : World) → Promised c w (map slot l) → EachCarried c w l
