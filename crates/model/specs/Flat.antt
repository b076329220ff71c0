-- The flat memory (document 01, "The third condition in full"): it is fed the requests' arguments and answers, and nothing else.
use Rattle.std.specs.Prelude.{ℕ, ◌+◌, cond, eqb}
use Rattle.config.specs.declared.Geometry.{Geometry}
use Rattle.address.specs.Map.{cell_of}
use Rattle.address.specs.Memory.{put}
use Rattle.queue.specs.declared.Kind.{Kind}
use Rattle.queue.specs.declared.Kind.TheVariants.{Read}
use Rattle.queue.specs.Memory.{memory_after}
use Rattle.model.specs.Sdram.{Cells}

pub record Flat : Type 0 where
  -- the halfword at each address; even addresses below the capacity count
  pub contents : ℕ → ℕ
  -- how many requests were accepted
  pub count : ℕ
  -- of each accepted request by its number: its kind and, of a read, the halfword that it was given
  pub kinds : ℕ → Kind
  pub given : ℕ → ℕ

-- at first each address has what its cell holds
unfoldable pub start_flat : Geometry → Cells → Flat
start_flat g m = record { contents = λ a. m (cell_of g a); count = 0; kinds = λ n. Read; given = λ n. 0 }

-- an accepted request: the count rises by one and is its number; a write puts its halfword, a read is given one at once
unfoldable pub taken : Flat → Kind → ℕ → ℕ → Flat
taken f kind address halfword =
    record {
      contents = memory_after kind address halfword f.contents;
      count = f.count + 1;
      kinds = put eqb f.kinds (f.count + 1) kind;
      given = put eqb f.given (f.count + 1) (f.contents address);
    }

-- a request with its answer: one that is answered with 0 is accepted; a refused one changes nothing
unfoldable pub flat_after : Flat → Kind → ℕ → ℕ → ℕ → Flat
flat_after f kind address halfword answer = cond (eqb answer 0) (taken f kind address halfword) f
