use native.Mathlib.Omega.{arith}
use native.Mathlib.Nat.{add_assoc}
use Rattle.tape.specs.Reading.{body_length, command_of}
use Rattle.tape_decoder.proofs.Steps.{rest_at_lem, command_here}
use Rattle.tape_decoder.proofs.record_at.Goals as goal

pub returns-then-kind-gt6 : goal.returns-then-kind-gt6
unfolding body_length command_of
returns-then-kind-gt6 c = simp (add_assoc, c.sent.ensures, c.pair_at-then-kind-gt6.ensures, command_here c.requires c.args.before 6 (omega arith), rest_at_lem)

pub returns-then-kind-gt5 : goal.returns-then-kind-gt5
unfolding body_length command_of
returns-then-kind-gt5 c = simp (c.sent-then-kind-gt5.ensures, command_here c.requires c.args.before 5 (omega arith))

pub returns-then-kind-gt4 : goal.returns-then-kind-gt4
unfolding body_length command_of
returns-then-kind-gt4 c = simp (c.sent-then-kind-gt4.ensures, command_here c.requires c.args.before 4 (omega arith))

pub returns-then-kind-gt3 : goal.returns-then-kind-gt3
unfolding body_length command_of
returns-then-kind-gt3 c = simp (c.sent-then-kind-gt3.ensures, command_here c.requires c.args.before 3 (omega arith), rest_at_lem)

pub returns-then-kind-lt2 : goal.returns-then-kind-lt2
unfolding body_length command_of
returns-then-kind-lt2 c = simp (add_assoc, c.sent-then-kind-lt2.ensures, c.pair_at-low.ensures, command_here c.requires c.args.before 0 (omega arith), rest_at_lem)

pub returns-then-kind-lt3 : goal.returns-then-kind-lt3
unfolding body_length command_of
returns-then-kind-lt3 c = simp (add_assoc, c.sent-then-kind-lt3.ensures, c.pair_at-low.ensures, command_here c.requires c.args.before 1 (omega arith), rest_at_lem)

pub returns : goal.returns
unfolding body_length command_of
returns c = simp (add_assoc, c.sent-2.ensures, c.pair_at-2.ensures, c.pair_at-low.ensures, command_here c.requires c.args.before 2 (omega arith), rest_at_lem)
