-- The packing's laws (specs/Laws.antt).
use Prim.Native.Nat.{ℕ, ◌%◌, ◌<◌}
use mathlib.Core.Path.{◌≡◌, ap}
use native.Mathlib.Omega.{arith}
use lib.Dec.{eqb}
use borrow.Author.Tests.{eqb-true, eq-eqb}
use Rattle.device.proofs.Tests.{if_both}
use Rattle.command.specs.declared.Command.{Command}
use Rattle.command.specs.declared.Command.TheVariants.{Nop, Act, Read, Wrt, Pre, Deac, Refr, Mrs}
use Rattle.plan.specs.declared.Report.{Report}
use Rattle.packing.specs.Packing.{
  word_of,
  kind_of,
  bank_of,
  low_of,
  high_of,
  command_word,
  command_in,
  packs_command,
  report_word,
  report_in,
  packs_report,
}
use Rattle.packing.specs.Laws.{Word, FitsCommand, FitsReport, PackedCommands, PackedReports}

-- A word that was made of fields in their ranges has these fields, and 64 bits.
record Fields (kind bank low high : ℕ) : Type 0 where
  kind_is : kind_of (word_of kind bank low high) ≡ kind
  bank_is : bank_of (word_of kind bank low high) ≡ bank
  low_is : low_of (word_of kind bank low high) ≡ low
  high_is : high_of (word_of kind bank low high) ≡ high
  word : Word (word_of kind bank low high)

fields : (kind bank low high : ℕ) → kind < 256 → bank < 256 → low < 65536 → high < 4294967296 → Fields kind bank low high
unfolding word_of
fields kind bank low high k b l h =
    record {
      kind_is = omega arith;
      bank_is = omega arith;
      low_is = omega arith;
      high_is = omega arith;
      word = omega arith;
    }

-- a command that fits comes back, and its word has 64 bits
command_back : (k : Command) → FitsCommand k → Word (command_word k) × (command_in (command_word k) ≡ k)
unfolding command_word command_in
command_back Nop f = let x = fields 0 0 0 0 (omega arith) (omega arith) (omega arith) (omega arith) in (x.word, simp x.kind_is)
command_back (Act b r) f =
    let x = fields 1 b.0 r.0 0 (omega arith) f.0 f.1 (omega arith) in
    (x.word, simp (x.kind_is, x.bank_is, x.low_is))
command_back (Read b k) f =
    let x = fields 2 b.0 k.0 0 (omega arith) f.0 f.1 (omega arith) in
    (x.word, simp (x.kind_is, x.bank_is, x.low_is))
command_back (Wrt b k h) f =
    let x = fields 3 b.0 k.0 h (omega arith) f.0 f.1 (omega (arith, f.2)) in
    let y : high_of (word_of 3 b.0 k.0 h) % 65536 ≡ h = omega (arith, x.high_is, f.2) in
    (x.word, simp (x.kind_is, x.bank_is, x.low_is, y))
command_back (Pre b) f =
    let x = fields 4 b.0 0 0 (omega arith) f (omega arith) (omega arith) in
    (x.word, simp (x.kind_is, x.bank_is))
command_back Deac f = let x = fields 5 0 0 0 (omega arith) (omega arith) (omega arith) (omega arith) in (x.word, simp x.kind_is)
command_back Refr f = let x = fields 6 0 0 0 (omega arith) (omega arith) (omega arith) (omega arith) in (x.word, simp x.kind_is)
command_back (Mrs w) f =
    let x = fields 7 0 w 0 (omega arith) (omega arith) f (omega arith) in
    (x.word, simp (x.kind_is, x.low_is))

-- whatever a word unpacks to fits
pub command_fits : (w : ℕ) → FitsCommand (command_in w)
unfolding command_in
command_fits w =
    if_both FitsCommand (eqb (kind_of w) 1) (λ e. (omega arith, omega arith))
    (λ e. if_both FitsCommand (eqb (kind_of w) 2) (λ e. (omega arith, omega arith))
    (λ e. if_both FitsCommand (eqb (kind_of w) 3) (λ e. (omega arith, omega arith, omega arith))
    (λ e. if_both FitsCommand (eqb (kind_of w) 4) (λ e. omega arith)
    (λ e. if_both FitsCommand (eqb (kind_of w) 5) (λ e. tt)
    (λ e. if_both FitsCommand (eqb (kind_of w) 6) (λ e. tt)
    (λ e. if_both FitsCommand (eqb (kind_of w) 7) (λ e. omega arith) (λ e. tt)))))))

pub packed_commands : PackedCommands
unfolding packs_command
packed_commands =
    record {
      packed = λ k f. let x = command_back k f in (x.0, eq-eqb _ _ (ap command_word x.1), x.1);
      spelled = λ w small e. (command_fits w, eqb-true _ _ e);
    }

report_back : (r : Report) → FitsReport r → Word (report_word r) × (report_in (report_word r) ≡ r)
unfolding report_word report_in
report_back Report.Nothing f = let x = fields 0 0 0 0 (omega arith) (omega arith) (omega arith) (omega arith) in (x.word, simp x.kind_is)
report_back (Report.Read n h) f =
    let x = fields 1 0 h n (omega arith) (omega arith) f.1 f.0 in
    (x.word, simp (x.kind_is, x.low_is, x.high_is))
report_back (Report.Write n) f =
    let x = fields 2 0 0 n (omega arith) (omega arith) (omega arith) f in
    (x.word, simp (x.kind_is, x.high_is))

report_fits : (w : ℕ) → Word w → FitsReport (report_in w)
unfolding report_in
report_fits w small =
    if_both FitsReport (eqb (kind_of w) 1) (λ e. (omega arith, omega arith))
    (λ e. if_both FitsReport (eqb (kind_of w) 2) (λ e. omega arith) (λ e. tt))

pub packed_reports : PackedReports
unfolding packs_report
packed_reports =
    record {
      packed = λ r f. let x = report_back r f in (x.0, eq-eqb _ _ (ap report_word x.1), x.1);
      spelled = λ w small e. (report_fits w small, eqb-true _ _ e);
    }
