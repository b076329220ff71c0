-- What a report says (document 01, "A service slot"): nothing, or that a request is complete, by its number and kind and, for a read, the
-- halfword. The third condition, the examples and the program's lines all go by this.
use Rattle.std.specs.Prelude.{ℕ}
use Rattle.std.proofs.Math.Option.{Option, none, some}
use Rattle.queue.specs.declared.Kind.{Kind}
use Rattle.plan.specs.declared.Report.{Report}

pub record Completion : Type 0 where
  pub number : ℕ
  pub kind : Kind
  pub halfword : Option ℕ

abbrev pub read_done : ℕ → ℕ → Completion
read_done n h = record { number = n; kind = Kind.Read; halfword = some h }

abbrev pub write_done : ℕ → Completion
write_done n = record { number = n; kind = Kind.Write; halfword = none }

abbrev pub completion_of : Report → Option Completion
completion_of Report.Nothing = none
completion_of (Report.Read n h) = some (read_done n h)
completion_of (Report.Write n) = some (write_done n)
