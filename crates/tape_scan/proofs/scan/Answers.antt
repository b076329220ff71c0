-- The invariant: the slots so far and the rest of the tape give what the whole tape gives. Every record that is read takes the reader on.
use Rattle.std.proofs.Common.{◌≡◌, ℕ, length, ◌+◌, ◌%◌, ◌^◌, refl, sym, ap, ◌∙◌, mod-lt, arith}
use Rattle.tape.specs.Reading.{refusal, number_of, answer_of, Step, slots_of}
use Rattle.tape_decoder.specs.Decoder.{step_in}
use Rattle.tape_scan.specs.Scan.{stopped_of}
use Rattle.tape_scan.proofs.Scans.{goes_within, onward, counted, over, whole}
use Rattle.tape_scan.proofs.scan.Goals as goal

pub loop-at-smaller : goal.loop-at-smaller
loop-at-smaller c =
    let a = c.args in
    let l = c.loop-at in
    let r = c.read_at-found in
    let g = goes_within a.tape.now l.at l.run r.result.item c.loop-at-test.true (ap (λ (s : Step). s.answer) r.ensures) c.in_default.not-Refused in
    onward a.tape.now l.at l.run (step_in r.result) r.ensures g

pub loop-at-preserved : goal.loop-at-preserved
loop-at-preserved c =
    let a = c.args in
    let l = c.loop-at in
    let r = c.read_at-found in
    let g = goes_within a.tape.now l.at l.run r.result.item c.loop-at-test.true (ap (λ (s : Step). s.answer) r.ensures) c.in_default.not-Refused in
    let k : c.wrapping_add_u64-count.result ≡ (l.count + length (slots_of (step_in r.result).answer)) % 2 ^ 64 =
    c.wrapping_add_u64-count.ensures.value ∙ ap (λ (n : ℕ). (l.count + n) % 2 ^ 64) c.slots.ensures in
    (rw k (mod-lt _ (omega arith)), counted a.tape.now l.at l.run l.count c.wrapping_add_u64-count.result (step_in r.result) r.ensures g k ∙ l.invariant.1)

pub returns-in-Refused : goal.returns-in-Refused
unfolding stopped_of
returns-in-Refused c =
    let l = c.loop-at in
    let r = c.read_at-found in
    let is : (step_in r.result).answer ≡ refusal (number_of c.in-Refused.why) c.in-Refused.place = ap answer_of c.in-Refused.is in
    ap (stopped_of l.count) (sym is) ∙ over c.args.tape.now l.at l.run l.count (step_in r.result) r.ensures (rw is refl) l.invariant.0 ∙ l.invariant.1

pub returns : goal.returns
unfolding stopped_of
returns c = let l = c.loop-at in whole c.args.tape.now l.at l.run l.count c.loop-at-test.false l.invariant.0 ∙ l.invariant.1
