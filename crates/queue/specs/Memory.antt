-- What a request does to a memory of byte addresses (document 01, "The third condition in full").
use Rattle.std.specs.Prelude.{ℕ, eqb}
use Rattle.address.specs.Memory.{put}
use Rattle.queue.specs.declared.Kind.{Kind}
use Rattle.queue.specs.declared.Kind.TheVariants.{Read, Write}

-- a write puts its halfword at its address, a read changes nothing
abbrev pub memory_after : Kind → ℕ → ℕ → (ℕ → ℕ) → ℕ → ℕ
memory_after Read address halfword m = m
memory_after Write address halfword m = put eqb m address halfword
