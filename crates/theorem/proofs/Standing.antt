-- What the whole invariant says of a world between two calls: the record is sound, and the third condition's standing parts hold.
use Prim.Native.Nat.{ℕ, ◌+◌, ◌≤◌}
use native.Mathlib.Omega.{arith}
use mathlib.Core.Path.{◌≡◌, refl, sym, ap, ◌∙◌}
use mathlib.Core.Bool.{Bool, true, false, false≢true}
use lib.Dec.{leb}
use lib.ListN.{length}
use lib.Pow.{pow_mono}
use borrow.Author.Tests.{le-leb, lt-leb}
use Rattle.config.specs.declared.Config.{Config}
use Rattle.config.specs.Accepted.{Accepted}
use Rattle.device.specs.View.{all_closed}
use Rattle.device.proofs.Alike.{all_closed_same}
use Rattle.ages.specs.declared.Past.{Past}
use Rattle.ages.specs.Ages.{row_at}
use Rattle.ages.proofs.Agree.{alike, same_verdict}
use Rattle.queue.specs.declared.Queue.{Queue}
use Rattle.queue.proofs.Tidy.{Tidy, tidy_length}
use Rattle.refresh.specs.declared.Counters.{Counters}
use Rattle.refresh.specs.Counting.{start_of, expiries_of}
use Rattle.refresh.proofs.Counts as counts
use Rattle.plan.specs.declared.Action.{Action}
use Rattle.plan.specs.declared.Action.TheVariants.{
  PowerUp,
  InitPrecharge,
  InitRefresh,
  InitMode,
  InitSettle,
  Idle,
  Access,
  CasLatency,
  Turnaround,
  PrechargeAll,
  Refresh,
  RefreshCycle,
}
use Rattle.plan.specs.Actions.{in_service}
use Rattle.plan.proofs.Sound.{SoundAction}
use Rattle.numbers.specs.Numbers.{record_number_by}
use Rattle.sequencer.specs.Calls.{record_number_of, backlog_of}
use Rattle.sequencer.proofs.Laws.{SoundFacts, facts_sound}
use Rattle.model.specs.Sdram.{Sdram}
use Rattle.model.specs.Flat.{Flat}
use Rattle.model.specs.World.{World}
use Rattle.model.specs.Condition.{first_service, served_by, expiries, refreshes, Standing, Exact}
use Rattle.theorem.proofs.Invariant.{Kept, Doing, Ordered, Settled, Timely, Ranged}
use Rattle.theorem.proofs.Order.Queue.{ordered-agree}
use Rattle.theorem.proofs.Calls.{backlog_reads}
use Rattle.theorem.proofs.Start.{Starting, starting_below}

-- before the first service slot the counters stand still, and no service REFR is in the history
pub record Before (c : Config) (w : World) : Type 0 where
  pub starting : Starting c w.machine.past w.sdram.log.now w.machine.control.action
  pub counters : w.machine.counters ≡ start_of c.rr
  pub none : refreshes c w ≡ 0

-- from it on the backlog is what is owed, and in time
pub record During (c : Config) (w : World) : Type 0 where
  pub reached : first_service c ≤ w.sdram.log.now
  pub owed : counts.Owed c.rr (served_by c w.sdram.log.now) (refreshes c w) w.machine.counters
  pub timely : Timely c w.machine.past w.machine.queue w.machine.control.action w.machine.counters

-- by whether the next slot is a service slot
abbrev pub Phase : Config → World → Bool → Type 0
Phase c w false = Before c w
Phase c w true = During c w

-- The whole invariant.
pub record Whole (c : Config) (w : World) : Type 0 where
  pub kept : Kept c w
  pub ordered : Ordered c.geometry w.machine.queue w.machine.control.action w.machine.accepted w.sdram w.flat w.reported
  pub waiting : w.machine.queue.count + length w.reported ≡ w.machine.accepted
  pub timed : Phase c w (in_service w.machine.control.action)
  pub ranged : Ranged w.flat

-- of either time, what the standing parts need
pub record Tally (c : Config) (w : World) : Type 0 where
  pub bounded : counts.Bounded c.rr w.machine.counters
  pub total : w.machine.counters.backlog + refreshes c w ≡ expiries c w.sdram.log.now
  pub low : w.machine.counters.backlog ≤ 12
  pub service : in_service w.machine.control.action ≡ leb (first_service c) w.sdram.log.now

pub none_served : (c : Config) (now : ℕ) → now ≤ first_service c → expiries c now ≡ 0
unfolding expiries_of
none_served c now h = let e : served_by c now ≡ 0 = omega arith in rw e

before_tally : {c : Config} {w : World} → Accepted c → in_service w.machine.control.action ≡ false → Before c w → Tally c w
unfolding start_of
before_tally {c} {w} a e b =
    let below = starting_below c a w.machine.past w.sdram.log.now w.machine.control.action e b.starting in
    let empty : expiries c w.sdram.log.now ≡ 0 = none_served c w.sdram.log.now (omega arith) in
    let zero' : w.machine.counters.backlog ≡ 0 = ap (λ (n : Counters). n.backlog) b.counters in
    record {
      bounded = rw b.counters (counts.bounded_start (omega (arith, a.long_enough, a.access_span_lem)));
      total = omega (arith, empty, zero', b.none);
      low = omega (arith, zero');
      service = e ∙ sym (lt-leb (first_service c) w.sdram.log.now below);
    }

during_tally : {c : Config} {w : World} → in_service w.machine.control.action ≡ true → During c w → Tally c w
during_tally {c} {w} e d =
    let low = d.timely.low in
    let counted = d.owed.counted in
    record {
      bounded = record { low = counted.low; high = counted.high; top = omega arith };
      total = counts.owed_total d.owed;
      low = low;
      service = e ∙ sym (le-leb (first_service c) w.sdram.log.now d.reached);
    }

pub tally : {c : Config} {w : World} → Accepted c → Whole c w → Tally c w
tally {c} {w} a v = go (in_service w.machine.control.action) refl v.timed
  where
    go : (b : Bool) → in_service w.machine.control.action ≡ b → Phase c w b → Tally c w
    go false e t = before_tally a e t
    go true e t = during_tally e t

-- Soundness.

-- the action, by the initialisation's slots and in service
starting_sound : (c : Config) (p : Past) (now count : ℕ) (a : Action) → Starting c p now a
    → SoundAction c p.programmed (all_closed (row_at p)) count a
starting_sound c p now count (PowerUp k) s = (s.1, s.2)
starting_sound c p now count InitPrecharge s = tt
starting_sound c p now count (InitRefresh k) s = (s.closed.closed, s.least, s.most)
starting_sound c p now count InitMode s = s.closed.closed
starting_sound c p now count InitSettle s = s.programmed
starting_sound c p now count Idle s = s.programmed
starting_sound c p now count (Access i) s = absurd s
starting_sound c p now count (CasLatency i left) s = absurd s
starting_sound c p now count Turnaround s = absurd s
starting_sound c p now count PrechargeAll s = absurd s
starting_sound c p now count Refresh s = absurd s
starting_sound c p now count (RefreshCycle left) s = absurd s

serving_sound : (c : Config) (p : Past) (q : Queue) (d : Sdram) (f : Flat) (a : Action) → in_service a ≡ true → p.programmed ≡ true → Settled c p a → Tidy q
    → Doing q d f a → SoundAction c p.programmed (all_closed (row_at p)) q.count a
serving_sound c p q d f (PowerUp k) e m s t v = absurd (false≢true e)
serving_sound c p q d f InitPrecharge e m s t v = absurd (false≢true e)
serving_sound c p q d f (InitRefresh k) e m s t v = absurd (false≢true e)
serving_sound c p q d f InitMode e m s t v = absurd (false≢true e)
serving_sound c p q d f InitSettle e m s t v = absurd (false≢true e)
serving_sound c p q d f Idle e m s t v = m
serving_sound c p q d f (Access i) e m s t v = (m, omega (arith, v.within, tidy_length t))
serving_sound c p q d f (CasLatency i left) e m s t v = (m, omega (arith, v.servable.within, tidy_length t), s.1, s.2)
serving_sound c p q d f Turnaround e m s t v = m
serving_sound c p q d f PrechargeAll e m s t v = m
serving_sound c p q d f Refresh e m s t v = (m, s.1)
serving_sound c p q d f (RefreshCycle left) e m s t v = (m, s.1, s.2)

action_sound : {c : Config} {w : World} → Whole c w
    → SoundAction c w.machine.past.programmed (all_closed (row_at w.machine.past)) w.machine.queue.count w.machine.control.action
action_sound {c} {w} v = go (in_service w.machine.control.action) refl v.timed
  where
    go : (b : Bool) → in_service w.machine.control.action ≡ b → Phase c w b
        → SoundAction c w.machine.past.programmed (all_closed (row_at w.machine.past)) w.machine.queue.count w.machine.control.action
    go false e t = starting_sound c w.machine.past w.sdram.log.now w.machine.queue.count w.machine.control.action t.starting
    go true e t =
        serving_sound c w.machine.past w.machine.queue w.sdram w.flat w.machine.control.action e t.timely.programmed t.timely.settled
        v.ordered.tidy v.ordered.doing

module _ {c : Config} {w : World} (a : Accepted c) (v : Whole c w) where
  pub sound : record_number_of w.machine ≡ 0
  unfolding record_number_by
  sound =
      let n = tally a v in
      let k = v.kept in
      let o = v.ordered in
      let facts : SoundFacts w.machine =
      record {
        accepted = rw k.config a;
        counters = rw k.config n.bounded;
        action = rw k.config (action_sound v);
        few = o.tidy.within;
      } in
      rw (facts_sound w.machine facts, k.configured)

  pub standing : Standing c w
  standing =
      let n = tally a v in
      record {
        sound = sound;
        configured = v.kept.config;
        legal = λ x. same_verdict a v.kept.agrees x;
        rows = λ b h. v.kept.agrees.rows b (omega (arith, pow_mono {i = c.geometry.banks} {j = 2} a.shaped.banks_most, h));
        closed = all_closed_same (alike a v.kept.agrees);
        service = n.service;
        owed = omega (arith, n.total);
        backlog = omega (arith, n.total, n.low);
        waiting = v.waiting ∙ v.ordered.counted;
        agree = λ all x even below. ordered-agree v.ordered all x even below;
      }

  -- the reading call
  pub exact : Exact c w (backlog_of w.machine)
  exact = rw (backlog_reads w.machine sound) (record { answered = refl; exact = let n = tally a v in omega (arith, n.total) })
