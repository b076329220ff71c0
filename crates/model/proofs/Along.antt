-- A call of many slots beside its slots (specs/Along.antt): by recursion over the slots.
use Prim.Native.Nat.{ℕ}
use mathlib.Core.Path.{◌≡◌, refl}
use mathlib.Core.List.{List, [], ◌∷◌, map}
use lib.ListN.{take-append-drop}
use Rattle.config.specs.declared.Config.{Config}
use Rattle.sequencer.specs.Batch.{count_of}
use Rattle.model.specs.World.{World, slot, slots, slot_in, after_slot, after_slots, bus_along, used_of, handed_of, after_batch, after, played}
use Rattle.model.specs.Condition.{EachCarried, Right, Promised}
use Rattle.model.specs.Along.{Fitting, Along}

same_bus : (c : Config) (l : List ℕ) (w : World) → Fitting c w l → bus_along c w l ≡ l
unfolding bus_along
same_bus c [] w h = refl
same_bus c (b ∷ later) w h = rw (h.0, same_bus c later (after_slot c w (slot_in w b)) h.1)

own : (c : Config) (w : World) (bus commands reports : List ℕ) → Fitting c w (used_of bus commands reports) → handed_of c w bus commands reports ≡ bus
unfolding handed_of
own c w bus commands reports h = rw (same_bus c (used_of bus commands reports) w h) (take-append-drop (count_of bus commands reports) bus)

one_by_one : (c : Config) (l : List ℕ) (w : World) → after_slots c w l ≡ played c w (map slot l)
unfolding after_slots played after
one_by_one c [] w = refl
one_by_one c (b ∷ later) w = one_by_one c later (after_slot c w (slot_in w b))

same_world : (c : Config) (w : World) (bus commands reports : List ℕ) → Right c w (slots bus commands reports)
    → after c w (slots bus commands reports) ≡ played c w (map slot (used_of bus commands reports))
unfolding after after_batch
same_world c w bus commands reports h = rw h.machine (one_by_one c (used_of bus commands reports) w)

promised : (c : Config) (l : List ℕ) (w : World) → EachCarried c w l → Promised c w (map slot l)
unfolding after
promised c [] w h = h
promised c (b ∷ later) w h = (h.0, h.1, promised c later (after_slot c w (slot_in w b)) h.2)

each : (c : Config) (l : List ℕ) (w : World) → Promised c w (map slot l) → EachCarried c w l
unfolding after
each c [] w h = h
each c (b ∷ later) w h = (h.0, h.1, each c later (after_slot c w (slot_in w b)) h.2)

pub along : Along
along = record { own = own; same_world = same_world; promised = promised; each = each }
