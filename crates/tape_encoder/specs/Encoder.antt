-- What is put on a tape, as the contracts of the encoder say it. Nothing here has to be believed.
use Rattle.std.specs.Prelude.{◌+◌, ◌≤◌, ◌≡◌, ℕ, List, length}
use Rattle.std.proofs.lemmas.List.Edits.{sets}
use Rattle.tape_encoder.specs.declared.Encoder.{Encoder}

-- the lent bytes have room for these at the place
pub record Room (e : Encoder) (bytes : List ℕ) : Type 0 where
  pub fits : e.at + length bytes ≤ length e.tape.now

-- these bytes are put at the place, which goes past them; the bytes that are lent are the same
pub record Puts (before after : Encoder) (bytes : List ℕ) : Type 0 where
  pub place : after.at ≡ before.at + length bytes
  pub tape : after.tape.now ≡ sets before.tape.now before.at bytes
  pub lent : after.tape.ghost_name ≡ before.tape.ghost_name
