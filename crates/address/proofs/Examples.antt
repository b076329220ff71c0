-- An address beyond the device, and blocks, computed.
use mathlib.Core.Path.{◌≡◌, refl}
use mathlib.Core.List.{[], ◌∷◌, map}
use Rattle.config.specs.Setting.{geometry_of}
use Rattle.address.specs.Map.{cell_at, cell_of, block_of}

-- `beyond`: an address with higher bits has the cell of its low ones
record Examples : Type 0 where
  beyond : map (cell_of (geometry_of 0x4420 4)) (0x1000000 ∷ 0xffffffff ∷ []) ≡ cell_at 0 0 0 ∷ cell_at 3 8191 255 ∷ []
  blocks : map block_of (0 ∷ 0x7fe ∷ 0x800 ∷ 0xfffffe ∷ []) ≡ 0 ∷ 0 ∷ 1 ∷ 8191 ∷ []

examples : Examples
unfolding geometry_of cell_of
examples = record { beyond = refl; blocks = refl }
