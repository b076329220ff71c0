-- A sound action as facts, both ways.
use Prim.Native.Nat.{ℕ, ◌*◌, ◌≤◌, ◌<◌}
use mathlib.Core.Path.{◌≡◌, refl}
use mathlib.Core.Bool.{Bool, true, ◌&&◌}
use lib.Dec.{leb, ltb}
use borrow.Author.Tests.{lt-ltb, le-leb, leb-true, ltb-true}
use Rattle.config.specs.declared.Config.{Config}
use Rattle.device.proofs.Tests.{both}
use Rattle.plan.specs.declared.Action.{Action}
use Rattle.plan.specs.declared.Action.TheVariants.{
  PowerUp,
  InitPrecharge,
  InitRefresh,
  InitMode,
  InitSettle,
  Idle,
  Access,
  CasLatency,
  Turnaround,
  PrechargeAll,
  Refresh,
  RefreshCycle,
}
use Rattle.plan.specs.Actions.{counts, sound_action}

abbrev pub SoundAction : Config → Bool → Bool → ℕ → Action → Type 0
SoundAction c programmed closed count (PowerUp n) = (1 ≤ n) × (n ≤ 8 * c.rr)
SoundAction c programmed closed count InitPrecharge = Unit {0}
SoundAction c programmed closed count (InitRefresh n) = (closed ≡ true) × (1 ≤ n) × (n ≤ 8)
SoundAction c programmed closed count InitMode = closed ≡ true
SoundAction c programmed closed count InitSettle = programmed ≡ true
SoundAction c programmed closed count Idle = programmed ≡ true
SoundAction c programmed closed count (Access i) = (programmed ≡ true) × (i < count)
SoundAction c programmed closed count (CasLatency i left) = (programmed ≡ true) × (i < count) × (1 ≤ left) × (left ≤ c.latency)
SoundAction c programmed closed count Turnaround = programmed ≡ true
SoundAction c programmed closed count PrechargeAll = programmed ≡ true
SoundAction c programmed closed count Refresh = (programmed ≡ true) × (closed ≡ true)
SoundAction c programmed closed count (RefreshCycle left) = (programmed ≡ true) × (1 ≤ left) × (left < c.rfc)

counts_true : (n most : ℕ) → counts n most ≡ true → (1 ≤ n) × (n ≤ most)
counts_true n most h = let p = both (leb 1 n) (leb n most) h in (leb-true _ _ p.0, leb-true _ _ p.1)

true_counts : (n most : ℕ) → (1 ≤ n) × (n ≤ most) → counts n most ≡ true
true_counts n most f = simp (le-leb _ _ f.0, le-leb _ _ f.1)

pub sound_action_lem : (c : Config) (programmed closed : Bool) (count : ℕ) (a : Action)
    → sound_action c programmed closed count a ≡ true → SoundAction c programmed closed count a
unfolding sound_action
sound_action_lem c programmed closed count (PowerUp n) h = counts_true n (8 * c.rr) h
sound_action_lem c programmed closed count InitPrecharge h = tt
sound_action_lem c programmed closed count (InitRefresh n) h = let f = both closed (counts n 8) h in let g = counts_true n 8 f.1 in (f.0, g.0, g.1)
sound_action_lem c programmed closed count InitMode h = h
sound_action_lem c programmed closed count InitSettle h = h
sound_action_lem c programmed closed count Idle h = h
sound_action_lem c programmed closed count (Access i) h = let f = both programmed (ltb i count) h in (f.0, ltb-true i count f.1)
sound_action_lem c programmed closed count (CasLatency i left) h =
    let f = both programmed (ltb i count && counts left c.latency) h in
    let g = both (ltb i count) (counts left c.latency) f.1 in
    let k = counts_true left c.latency g.1 in
    (f.0, ltb-true i count g.0, k.0, k.1)
sound_action_lem c programmed closed count Turnaround h = h
sound_action_lem c programmed closed count PrechargeAll h = h
sound_action_lem c programmed closed count Refresh h = both programmed closed h
sound_action_lem c programmed closed count (RefreshCycle left) h =
    let f = both programmed (leb 1 left && ltb left c.rfc) h in
    let g = both (leb 1 left) (ltb left c.rfc) f.1 in
    (f.0, leb-true 1 left g.0, ltb-true left c.rfc g.1)

pub action_sound : (c : Config) (programmed closed : Bool) (count : ℕ) (a : Action)
    → SoundAction c programmed closed count a → sound_action c programmed closed count a ≡ true
unfolding sound_action
action_sound c programmed closed count (PowerUp n) f = true_counts n (8 * c.rr) f
action_sound c programmed closed count InitPrecharge f = refl
action_sound c programmed closed count (InitRefresh n) f = simp (f.0, true_counts n 8 (f.1, f.2))
action_sound c programmed closed count InitMode f = f
action_sound c programmed closed count InitSettle f = f
action_sound c programmed closed count Idle f = f
action_sound c programmed closed count (Access i) f = simp (f.0, lt-ltb i count f.1)
action_sound c programmed closed count (CasLatency i left) f = simp (f.0, lt-ltb i count f.1, true_counts left c.latency (f.2, f.3))
action_sound c programmed closed count Turnaround f = f
action_sound c programmed closed count PrechargeAll f = f
action_sound c programmed closed count Refresh f = simp (f.0, f.1)
action_sound c programmed closed count (RefreshCycle left) f = simp (f.0, le-leb 1 left f.1, lt-ltb left c.rfc f.2)
