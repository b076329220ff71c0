-- Memories: a value for each place, an address or a cell (document 01, "The third condition in full").
use Rattle.std.specs.Prelude.{Bool, cond}

-- a value is put at a place; `same` says which place that is. The one definition of a write, for every memory
abbrev pub put : {A B : Type 0} → (A → A → Bool) → (A → B) → A → B → A → B
put same m at v = λ x. cond (same x at) v (m x)
