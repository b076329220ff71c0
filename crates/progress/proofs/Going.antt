-- What keeps a terminal going, proved.
use Prim.Native.Nat.{ℕ}
use mathlib.Core.Path.{◌≡◌, refl, sym, ap, ◌∙◌}
use mathlib.Core.Bool.{true}
use mathlib.Core.List.{List, [], ◌∷◌}
use mathlib.Core.Logic.{dite}
use native.Mathlib.Omega.{arith}
use native.Mathlib.Decide.{ℕ_discrete}
use lib.Dec.{eqb}
use borrow.Author.Tests.{ne_eqb}
use Rattle.config.specs.declared.Config.{Config}
use Rattle.config.specs.Accepted.{Accepted}
use Rattle.config.specs.Setting.{setting_of}
use Rattle.device.proofs.Tests.{if_both}
use Rattle.queue.specs.declared.Kind.{Kind}
use Rattle.plan.specs.Actions.{in_service}
use Rattle.numbers.specs.Sound.{sound_by}
use Rattle.numbers.specs.Numbers.{record_number_by}
use Rattle.numbers.proofs.Laws.{facts_number, request_record}
use Rattle.sequencer.specs.declared.Machine.{Machine}
use Rattle.sequencer.specs.Answers.{Requested, Configured}
use Rattle.sequencer.specs.Machine.{blank_of, machine_of}
use Rattle.sequencer.specs.Calls.{configured_by, configure_of, record_number_of, request_of, refused_with, slot_of}
use Rattle.sequencer.specs.Batch.{Batch, series_of, batch_of, many_slots_of}
use Rattle.sequencer.proofs.Sound.{step_serves, start_facts}
use Rattle.model.specs.World.{used_of}
use Rattle.theorem.proofs.Calls.{request_cases}
use Rattle.theorem.proofs.Third.{configured_machine}
use Rattle.progress.specs.Progress.{Keeps, KeptSound, Progress}
use Rattle.progress.proofs.Action.{wait_most}
use Rattle.progress.proofs.Start.{start_most}
use Rattle.progress.proofs.Machine.{live, live_number, slot_is, step_live, step_config, going, asked}
use Rattle.progress.proofs.Calls.{choosing, started}
use Rattle.progress.proofs.Backlog.{works_off_lem}

-- Every call.

same : (m : Machine) → Keeps m m
same m = record { number = refl; config = refl; service = λ e. e }

slot_refused : (m : Machine) (bus : ℕ) → (record_number_of m ≡ 0 → ⊥) → (slot_of m bus).machine ≡ m
unfolding slot_of refused_with
slot_refused m bus z = rw (ne_eqb (record_number_of m) 0 z)

slot_keeps : (m : Machine) (bus : ℕ) → Keeps m (slot_of m bus).machine
slot_keeps m bus =
    dite (ℕ_discrete (record_number_of m) 0)
    (λ z.
    let l = live m z in
    rw (slot_is l bus) (record { number = live_number (step_live l bus) ∙ sym z; config = step_config m bus; service = step_serves m l.facts bus }))
    (λ z. rw (slot_refused m bus z) (same m))

series_keeps : (any : List ℕ) (m : Machine) → Keeps m (series_of m any).machine
unfolding series_of
series_keeps [] m = same m
series_keeps (bus ∷ later) m =
    let now = slot_keeps m bus in
    let then = series_keeps later (slot_of m bus).machine in
    record { number = then.number ∙ now.number; config = then.config ∙ now.config; service = λ e. then.service (now.service e) }

slots_keeps : (m : Machine) (bus commands reports : List ℕ) → Keeps m (many_slots_of m bus commands reports).machine
unfolding many_slots_of batch_of
slots_keeps m bus commands reports =
    if_both (λ (r : Batch). Keeps m r.machine) (eqb (record_number_of m) 0)
    (λ e. series_keeps (used_of bus commands reports) m)
    (λ e. same m)

request_keeps : (m : Machine) (kind : Kind) (address halfword : ℕ) → Keeps m (request_of m kind address halfword).machine
request_keeps m kind address halfword =
    dite (ℕ_discrete (record_number_of m) 0)
    (λ z.
    let r = asked (live m z) kind address halfword in
    record { number = live_number r.alive ∙ sym z; config = r.config; service = λ e. ap in_service r.action ∙ e })
    (λ z.
    request_cases m kind address halfword (λ (r : Requested). Keeps m r.machine)
    (λ e. absurd (z (request_record m.configured m.config m.past m.counters m.control m.queue.count m.accepted address e)))
    (λ e. same m))

start_number : (c : Config) → Accepted c → record_number_of (machine_of c) ≡ 0
unfolding machine_of
start_number c a = facts_number true c _ _ _ _ refl (start_facts c a)

configured_number : (cfg row ref tim : ℕ) → (configure_of cfg row ref tim).number ≡ 0 → record_number_of (configure_of cfg row ref tim).machine ≡ 0
configured_number cfg row ref tim e = let m = configured_machine cfg row ref tim e in rw m.0 (start_number _ m.1)

blank_number : (cfg row ref tim : ℕ) → ((configure_of cfg row ref tim).number ≡ 0 → ⊥) → record_number_of (configure_of cfg row ref tim).machine ≡ 8
unfolding configure_of configured_by record_number_by sound_by blank_of
blank_number cfg row ref tim =
    if_both (λ (x : Configured). (x.number ≡ 0 → ⊥) → record_number_of x.machine ≡ 8) (eqb (setting_of cfg row ref tim).number 0)
    (λ e h. absurd (h refl))
    (λ e h. refl)

pub kept_sound : KeptSound
kept_sound =
    record {
      configured = λ cfg row ref tim e. configured_number cfg row ref tim e;
      blank = λ cfg row ref tim e. blank_number cfg row ref tim e;
      request = request_keeps;
      slot = slot_keeps;
      slots = slots_keeps;
    }

pub progress : Progress
progress =
    record {
      started = λ m z calls h. (let l = live m z in
          started calls m l (omega (arith, h, start_most l.facts.accepted m.past m.control.action m.queue.count l.facts.action)));
      chosen = λ m z s calls h. (let l = live m z in
          choosing calls m l s (omega (arith, h, wait_most l.facts.accepted m.past m.queue m.control.action (going l s))));
      worked_off = works_off_lem;
    }
