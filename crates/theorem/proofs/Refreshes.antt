-- The service REFRs in the SDRAM's history, after a command that is taken.
use Prim.Native.Nat.{◌+◌, ◌≤◌, ◌<◌}
use mathlib.Core.Path.{◌≡◌, refl}
use mathlib.Core.Bool.{Bool, true, false, cond, ◌&&◌}
use lib.Dec.{leb}
use borrow.Author.Tests.{le-leb, lt-leb}
use Rattle.config.specs.declared.Config.{Config}
use Rattle.command.specs.declared.Command.{Command}
use Rattle.device.specs.History.{Log, fed, allowed}
use Rattle.device.proofs.Tests.{if_both}
use Rattle.model.specs.Condition.{is_refr, first_service, service_refreshes}

pub refreshes_before : (c : Config) (l : Log) (k : Command) → l.now < first_service c → service_refreshes c (fed c l k).past ≡ service_refreshes c l.past
unfolding fed
refreshes_before c l k h =
    if_both (λ x. service_refreshes c x ≡ service_refreshes c l.past) (allowed c l k)
    (λ e. go (is_refr k))
    (λ e. refl)
  where
    go : (b : Bool) → cond (b && leb (first_service c) l.now) (service_refreshes c l.past + 1) (service_refreshes c l.past) ≡ service_refreshes c l.past
    go true = rw (lt-leb (first_service c) l.now h)
    go false = refl

pub refreshes_after : (c : Config) (l : Log) (k : Command) → first_service c ≤ l.now → allowed c l k ≡ true
    → service_refreshes c (fed c l k).past ≡ cond (is_refr k) (service_refreshes c l.past + 1) (service_refreshes c l.past)
unfolding fed
refreshes_after c l k h e = rw e (go (is_refr k))
  where
    go : (b : Bool)
        → cond (b && leb (first_service c) l.now) (service_refreshes c l.past + 1) (service_refreshes c l.past)
        ≡ cond b (service_refreshes c l.past + 1) (service_refreshes c l.past)
    go true = rw (le-leb (first_service c) l.now h)
    go false = refl
