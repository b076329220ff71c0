-- The action under way: is there one, do the refresh counters run, whose request is it, and is it sound
-- (document 01, "Start" and "A service slot").
use Rattle.std.specs.Prelude.{ℕ, ◌*◌, Bool, true, false, ◌&&◌, leb, ltb}
use Rattle.config.specs.declared.Config.{Config}
use Rattle.plan.specs.declared.Action.{Action}
use Rattle.plan.specs.declared.Control.{Control}
use Rattle.plan.specs.declared.Action.TheVariants.{
  PowerUp,
  InitPrecharge,
  InitRefresh,
  InitMode,
  InitSettle,
  Idle,
  Access,
  CasLatency,
  Turnaround,
  PrechargeAll,
  Refresh,
  RefreshCycle,
}

-- an action under way, and whether a Must run is on
abbrev pub control_of : Action → Bool → Control
control_of action must = record { action = action; must = must }

-- no action is under way: a choice is due
abbrev pub is_idle : Action → Bool
is_idle (PowerUp n) = false
is_idle InitPrecharge = false
is_idle (InitRefresh n) = false
is_idle InitMode = false
is_idle InitSettle = false
is_idle Idle = true
is_idle (Access i) = false
is_idle (CasLatency i left) = false
is_idle Turnaround = false
is_idle PrechargeAll = false
is_idle Refresh = false
is_idle (RefreshCycle left) = false

-- the next slot is a service slot; the refresh counters stand still before the first one
abbrev pub in_service : Action → Bool
in_service (PowerUp n) = false
in_service InitPrecharge = false
in_service (InitRefresh n) = false
in_service InitMode = false
in_service InitSettle = false
in_service Idle = true
in_service (Access i) = true
in_service (CasLatency i left) = true
in_service Turnaround = true
in_service PrechargeAll = true
in_service Refresh = true
in_service (RefreshCycle left) = true

-- the place of the request under way; any place where there is none, since no plan looks at it then
abbrev pub under_way : Action → ℕ
under_way (PowerUp n) = 0
under_way InitPrecharge = 0
under_way (InitRefresh n) = 0
under_way InitMode = 0
under_way InitSettle = 0
under_way Idle = 0
under_way (Access i) = i
under_way (CasLatency i left) = i
under_way Turnaround = 0
under_way PrechargeAll = 0
under_way Refresh = 0
under_way (RefreshCycle left) = 0

-- as a configuration leaves it: the first 8 x RR slots are NOP
abbrev pub first_action : Config → Action
first_action c = PowerUp (8 * c.rr)

-- Soundness of the action under way, its part of the test for number 9 (docs/SOUNDNESS.md).

-- a count from 1 to `most`
abbrev pub counts : ℕ → ℕ → Bool
counts n most = leb 1 n && leb n most

-- `programmed`: an MRS was sent; `closed`: all banks are closed; `count`: so many requests are queued. Counts are in their ranges; REFR and MRS come
-- only with all banks closed; from the initialisation's last NOP on an MRS was sent; the request under way is queued
unfoldable pub sound_action : Config → Bool → Bool → ℕ → Action → Bool
sound_action c programmed closed count (PowerUp n) = counts n (8 * c.rr)
sound_action c programmed closed count InitPrecharge = true
sound_action c programmed closed count (InitRefresh n) = closed && counts n 8
sound_action c programmed closed count InitMode = closed
sound_action c programmed closed count InitSettle = programmed
sound_action c programmed closed count Idle = programmed
sound_action c programmed closed count (Access i) = programmed && ltb i count
sound_action c programmed closed count (CasLatency i left) = programmed && (ltb i count && counts left c.latency)
sound_action c programmed closed count Turnaround = programmed
sound_action c programmed closed count PrechargeAll = programmed
sound_action c programmed closed count Refresh = programmed && closed
sound_action c programmed closed count (RefreshCycle left) = programmed && (leb 1 left && ltb left c.rfc)
