-- Document 02, (iii), in the third condition: its list had document 01's two calls in place of the request. That claim is kept here alone, as it stood before (iii)
-- landed, over the two calls' own definitions (sequencer's TwoCalls) and today's `Standing`, `Answered`, `Carried`, `CarriedAll` and `Exact`. It is the claim of today.
use Prim.Native.Nat.{ℕ}
use mathlib.Core.Path.{◌≡◌, refl, ap, ◌∙◌}
use mathlib.Core.List.{List, [], ◌∷◌, map}
use Rattle.config.specs.declared.Config.{Config}
use Rattle.config.specs.Setting.{config_of}
use Rattle.queue.specs.declared.Kind.TheVariants.{Read, Write}
use Rattle.sequencer.specs.Calls.{configure_of, queued_request, request_of, backlog_of}
use Rattle.sequencer.specs.Batch.{count_of}
use Rattle.sequencer.proofs.TwoCalls.{read_request_of, write_request_of}
use Rattle.model.specs.Sdram.{Cells}
use Rattle.model.specs.Flat.{taken, flat_after}
use Rattle.model.specs.World as world
use Rattle.model.specs.World.{World, Call, halfword_of, start_world, slot_in, after_slot, after_slots, used_of, batch_in, after_batch, after_request, after}
use Rattle.model.specs.Condition.{Standing, Answered, Carried, CarriedAll, Exact, Right, Promised, ThirdCondition}

pub data CallBefore : Type 0 where
  read : (address : ℕ) → CallBefore
  write : (address halfword : ℕ) → CallBefore
  slot : (bus : ℕ) → CallBefore
  slots : (bus commands reports : List ℕ) → CallBefore
  backlog : CallBefore

abbrev pub after_before : Config → World → CallBefore → World
after_before c w (read a) = after_request w Read a 0 (read_request_of w.machine a)
after_before c w (write a h) = after_request w Write a (halfword_of h) (write_request_of w.machine a (halfword_of h))
after_before c w (slot any) = after_slot c w (slot_in w any)
after_before c w (slots bus commands reports) = after_batch (after_slots c w (used_of bus commands reports)) (batch_in c w bus commands reports)
after_before c w backlog = w

abbrev pub RightBefore : Config → World → CallBefore → Type 0
RightBefore c w (read a) = Answered c w a (read_request_of w.machine a)
RightBefore c w (write a h) = Answered c w a (write_request_of w.machine a (halfword_of h))
RightBefore c w (slot any) = Carried c w (slot_in w any)
RightBefore c w (slots bus commands reports) =
    CarriedAll c w (count_of bus commands reports) (used_of bus commands reports) commands reports (batch_in c w bus commands reports)
RightBefore c w backlog = Exact c w (backlog_of w.machine)

abbrev pub PromisedBefore : Config → World → List CallBefore → Type 0
PromisedBefore c w [] = Standing c w
PromisedBefore c w (k ∷ ks) = Standing c w × RightBefore c w k × PromisedBefore c (after_before c w k) ks

abbrev pub ThirdConditionBefore : Type 0
ThirdConditionBefore =
    (cfg row ref tim : ℕ) → (configure_of cfg row ref tim).number ≡ 0
    → (first : Cells) (calls : List CallBefore)
    → let c = config_of cfg row ref tim in PromisedBefore c (start_world c (configure_of cfg row ref tim).machine first) calls

-- a call of today as one of the calls before, without the halfword given with a read; and the other way
abbrev pub as_two : Call → CallBefore
as_two (world.request Read a h) = read a
as_two (world.request Write a h) = write a h
as_two (world.slot any) = slot any
as_two (world.slots bus commands reports) = slots bus commands reports
as_two world.backlog = backlog

abbrev pub as_one : CallBefore → Call
as_one (read a) = world.request Read a 0
as_one (write a h) = world.request Write a h
as_one (slot any) = world.slot any
as_one (slots bus commands reports) = world.slots bus commands reports
as_one backlog = world.backlog

pub record SameClaim : Type 1 where
  -- the world after a call, what is claimed of it, and what is claimed of a list
  pub same_world : (c : Config) (w : World) (k : Call) → after c w k ≡ after_before c w (as_two k)
  pub right : (c : Config) (w : World) (k : Call) → Right c w k ≡ RightBefore c w (as_two k)
  pub promised : (c : Config) (w : World) (calls : List Call) → Promised c w calls ≡ PromisedBefore c w (map as_two calls)
  -- every list of the calls before is such a list, so the third condition says what it said
  pub every : (calls : List CallBefore) → map as_two (map as_one calls) ≡ calls
  pub then_now : ThirdConditionBefore → ThirdCondition
  pub now_then : ThirdCondition → ThirdConditionBefore

same_world : (c : Config) (w : World) (k : Call) → after c w k ≡ after_before c w (as_two k)
unfolding request_of queued_request taken flat_after after_request after
same_world c w (world.request Read a h) = refl
same_world c w (world.request Write a h) = refl
same_world c w (world.slot any) = refl
same_world c w (world.slots bus commands reports) = refl
same_world c w world.backlog = refl

right : (c : Config) (w : World) (k : Call) → Right c w k ≡ RightBefore c w (as_two k)
unfolding request_of queued_request
right c w (world.request Read a h) = refl
right c w (world.request Write a h) = refl
right c w (world.slot any) = refl
right c w (world.slots bus commands reports) = refl
right c w world.backlog = refl

promised : (c : Config) (w : World) (calls : List Call) → Promised c w calls ≡ PromisedBefore c w (map as_two calls)
promised c w [] = refl
promised c w (k ∷ ks) =
    ap (λ (R : Type 0). Standing c w × R × Promised c (after c w k) ks) (right c w k)
    ∙ ap (λ (P : Type 0). Standing c w × RightBefore c w (as_two k) × P)
    (promised c (after c w k) ks ∙ ap (λ (v : World). PromisedBefore c v (map as_two ks)) (same_world c w k))

back : (k : CallBefore) → as_two (as_one k) ≡ k
back (read a) = refl
back (write a h) = refl
back (slot any) = refl
back (slots bus commands reports) = refl
back backlog = refl

every : (calls : List CallBefore) → map as_two (map as_one calls) ≡ calls
every [] = refl
every (k ∷ ks) = rw (back k, every ks)

pub same_claim : SameClaim
same_claim =
    record {
      same_world = same_world;
      right = right;
      promised = promised;
      every = every;
      then_now = λ h cfg row ref tim e first calls. rw (promised _ _ calls) (h cfg row ref tim e first (map as_two calls));
      now_then = λ h cfg row ref tim e first calls. rw (← every calls, ← promised _ _ (map as_one calls)) (h cfg row ref tim e first (map as_one calls));
    }
