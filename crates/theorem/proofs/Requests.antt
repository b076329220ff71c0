-- Requests: what is answered, seen from outside, and that an accepted one keeps the invariant.
use Prim.Native.Nat.{ℕ, ◌+◌, ◌-◌, ◌%◌, ◌<◌}
use native.Mathlib.Omega.{arith}
use mathlib.Core.Path.{◌≡◌, refl, sym, ap, subst, ◌∙◌}
use mathlib.Core.Bool.{Bool, true, false, cond}
use lib.Dec.{eqb, leb}
use lib.ListN.{length}
use borrow.Author.Tests.{eq-eqb, ne_eqb, lt-leb}
use Rattle.config.specs.declared.Config.{Config}
use Rattle.config.specs.declared.Geometry.{Geometry}
use Rattle.config.specs.Accepted.{Accepted}
use Rattle.address.specs.Map.{capacity_of, address_number_of}
use Rattle.queue.specs.declared.Kind.{Kind}
use Rattle.queue.specs.declared.Kind.TheVariants.{Read, Write}
use Rattle.queue.specs.declared.Queue.{Queue}
use Rattle.queue.specs.declared.Request.{Request}
use Rattle.queue.specs.Places.{accept_of}
use Rattle.plan.specs.Actions.{in_service}
use Rattle.numbers.specs.Numbers.{last_number, room_number_of, request_number_by}
use Rattle.sequencer.specs.Calls.{request_number_of, halfword_for, queued_request, enqueued_of, request_of}
use Rattle.sequencer.proofs.Laws.{RequestFacts, request_facts}
use Rattle.model.specs.Flat.{Flat, taken, flat_after}
use Rattle.model.specs.World.{World, after_request}
use Rattle.model.specs.Condition.{asked_number, Answered}
use Rattle.theorem.proofs.Calls.{request_cases}
use Rattle.theorem.proofs.Standing.{Phase, Whole, sound}
use Rattle.theorem.proofs.Invariant.{Ordered}
use Rattle.theorem.proofs.Order.Queue.{ordered-request}
use Rattle.theorem.proofs.Ranges.{ranged_taken}
use Rattle.theorem.proofs.Timing.Service.{timely-arrive, queued-doing}

-- the address's number and the room's, as one sees them from outside
outside : (g : Geometry) (a room : ℕ)
    → cond (eqb (address_number_of g a) 0) room (address_number_of g a) ≡ cond (eqb (a % 2) 1) 4 (cond (leb (capacity_of g) a) 5 room)
unfolding address_number_of
outside g a room = go (eqb (a % 2) 1) (leb (capacity_of g) a)
  where
    go : (odd beyond : Bool) → cond (eqb (cond odd 4 (cond beyond 5 0)) 0) room (cond odd 4 (cond beyond 5 0)) ≡ cond odd 4 (cond beyond 5 room)
    go true beyond = refl
    go false true = refl
    go false false = refl

module _ {c : Config} {w : World} (a : Accepted c) (v : Whole c w) where
  asked : (address : ℕ) → request_number_of w.machine address ≡ asked_number c w address
  unfolding request_number_by asked_number room_number_of
  asked address =
      let queued : w.machine.queue.count ≡ w.flat.count - length w.reported = omega (arith, v.waiting, v.ordered.counted) in
      rw (eq-eqb _ _ (sound a v), v.kept.config)
      (outside c.geometry address (cond (leb 8 w.machine.queue.count) 6 (cond (leb last_number w.machine.accepted) 7 0))
      ∙ rw (queued, v.ordered.counted))

  pub answered : (kind : Kind) (address halfword : ℕ) → Answered c w address (request_of w.machine kind address halfword)
  unfolding enqueued_of queued_request
  answered kind address halfword =
      request_cases w.machine kind address halfword (Answered c w address)
      (λ e. record { number = sym e ∙ asked address; accepted = λ z. ap (λ n. n + 1) v.ordered.counted; refused = λ no'. absurd (no' refl) })
      (λ no'. record { number = asked address; accepted = λ e. absurd (no' e); refused = λ z. (refl, refl) })

-- The halfword that a request keeps: the flat memory looks at no other, and it is below 65,536.
taken_kept : (f : Flat) (kind : Kind) (address halfword : ℕ) → taken f kind address (halfword_for kind halfword) ≡ taken f kind address halfword
unfolding taken
taken_kept f Read address halfword = refl
taken_kept f Write address halfword = refl

kept_fits : (kind : Kind) (halfword : ℕ) → halfword < 65536 → halfword_for kind halfword < 65536
kept_fits Read halfword fits = omega arith
kept_fits Write halfword fits = fits

-- An accepted request keeps the invariant, with the configuration that the machine holds.
accept_count : (q : Queue) (r : Request) → q.count < 8 → (accept_of q r).count ≡ q.count + 1
unfolding accept_of
accept_count q r h = rw (lt-leb 8 q.count h)

module _ (w : World) (v : Whole w.machine.config w) (kind : Kind) (address halfword : ℕ) (fits : halfword < 65536) (room : RequestFacts w.machine address) where
  abbrev c : Config
  c = w.machine.config

  abbrev r : Request
  r = queued_request w.machine kind address halfword

  abbrev next : World
  next = after_request w kind address halfword (enqueued_of w.machine r)

  request_ordered : Ordered c.geometry (accept_of w.machine.queue r) w.machine.control.action (w.machine.accepted + 1) w.sdram
      (taken w.flat kind address halfword) w.reported
  unfolding queued_request
  request_ordered =
      subst
      (λ (f : Flat). Ordered c.geometry (accept_of w.machine.queue r) w.machine.control.action (w.machine.accepted + 1) w.sdram f w.reported)
      (taken_kept w.flat kind address halfword)
      (ordered-request v.ordered kind address (halfword_for kind halfword) (kept_fits kind halfword fits) room.room room.place)

  request_timed : (b : Bool) → Phase c w b → Phase c next b
  unfolding after_request enqueued_of
  request_timed false t = record { starting = t.starting; counters = t.counters; none = t.none }
  request_timed true t =
      record {
        reached = t.reached;
        owed = t.owed;
        timely =
            timely-arrive r room.room
            (queued-doing v.ordered.tidy w.sdram w.flat w.machine.control.action v.ordered.doing) t.timely;
      }

  request_accepted : Whole c next
  unfolding after_request enqueued_of queued_request flat_after
  request_accepted =
      record {
        kept = record { configured = v.kept.configured; config = refl; agrees = v.kept.agrees };
        ordered = request_ordered;
        waiting = let e = accept_count w.machine.queue r room.room in omega (arith, e, v.waiting);
        timed = request_timed (in_service w.machine.control.action) v.timed;
        ranged = ranged_taken v.ranged kind address halfword fits (omega (arith, room.number, v.ordered.counted));
      }

-- a refused one changes nothing
refused : {c : Config} {w : World} → Whole c w → (kind : Kind) (address halfword n : ℕ) → (n ≡ 0 → ⊥)
    → Whole c (after_request w kind address halfword (record { number = n; request = 0; machine = w.machine }))
unfolding after_request flat_after
refused v kind address halfword n e = rw (ne_eqb n 0 e) v

request_own : (w : World) → Whole w.machine.config w → (kind : Kind) (address halfword : ℕ) → halfword < 65536
    → Whole w.machine.config (after_request w kind address halfword (request_of w.machine kind address halfword))
request_own w v kind address halfword fits =
    request_cases w.machine kind address halfword (λ x. Whole w.machine.config (after_request w kind address halfword x))
    (λ e. request_accepted w v kind address halfword fits (request_facts w.machine address e))
    (λ e. refused v kind address halfword (request_number_of w.machine address) e)

pub request_whole : {c : Config} (w : World) → Whole c w → (kind : Kind) (address halfword : ℕ) → halfword < 65536
    → Whole c (after_request w kind address halfword (request_of w.machine kind address halfword))
request_whole {c} w v =
    subst (λ (x : Config). Whole x w → (kind : Kind) (address halfword : ℕ) → halfword < 65536 → Whole x (after_request w kind address halfword (request_of w.machine kind address halfword)))
    v.kept.config (request_own w) v
