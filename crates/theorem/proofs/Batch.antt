-- Many slots in one call: it stands for its single slots, and these are right.
use Prim.Native.Nat.{ℕ, suc}
use native.Mathlib.Omega.{arith}
use mathlib.Core.Path.{◌≡◌, refl, ap, ◌∙◌}
use mathlib.Core.List.{List, [], ◌∷◌, ◌++◌, map}
use lib.ListN.{length, take, drop, length-map}
use lib.Seq.{length_front, take_at, length-take-le}
use borrow.Author.Tests.{eq-eqb}
use Rattle.config.specs.declared.Config.{Config}
use Rattle.config.specs.Accepted.{Accepted}
use Rattle.packing.specs.Packing.{command_word, command_in, report_word, report_in}
use Rattle.packing.proofs.Laws.{packed_commands, packed_reports}
use Rattle.sequencer.specs.Answers.{Slot}
use Rattle.sequencer.specs.Calls.{record_number_of}
use Rattle.sequencer.specs.Batch.{Series, before, series_of, Batch, count_of, batch_of, many_slots_of}
use Rattle.model.specs.World.{World, slot_in, after_slot, after_slots, bus_along, used_of, handed_of, batch_in, after_batch}
use Rattle.model.specs.Condition.{slots_along, Carried, EachCarried, CarriedAll}
use Rattle.theorem.proofs.Standing.{Whole, sound, standing}
use Rattle.theorem.proofs.Slot.{slot_right}

-- single slots, one after the other
slots_right : {c : Config} (any : List ℕ) (w : World) → Accepted c → Whole c w → Whole c (after_slots c w any) × EachCarried c w any
unfolding after_slots
slots_right [] w a v = (v, standing a v)
slots_right {c} (x ∷ later) w a v =
    let now = slot_right w a v x in
    let then = slots_right later (after_slot c w (slot_in w x)) a now.0 in
    (then.0, (standing a v, now.1, then.1))

-- the machine after them, and their words
abbrev each_series : Config → World → List ℕ → Series
each_series c w any =
    record {
      machine = (after_slots c w any).machine;
      commands = map (λ s. command_word s.command) (slots_along c w any);
      reports = map (λ s. report_word s.report) (slots_along c w any);
    }

series_each : (c : Config) (any : List ℕ) (w : World) → series_of w.machine (bus_along c w any) ≡ each_series c w any
unfolding series_of bus_along after_slots slot_in after_slot
series_each c [] w = refl
series_each c (x ∷ later) w = ap (before (slot_in w x)) (series_each c later (after_slot c w (slot_in w x)))

along_length : (c : Config) (any : List ℕ) (w : World) → length (bus_along c w any) ≡ length any
unfolding bus_along
along_length c [] w = refl
along_length c (x ∷ later) w = ap suc (along_length c later (after_slot c w (slot_in w x)))

slots_length : (c : Config) (any : List ℕ) (w : World) → length (slots_along c w any) ≡ length any
slots_length c [] w = refl
slots_length c (x ∷ later) w = ap suc (slots_length c later (after_slot c w (slot_in w x)))

-- the word of a right slot's command unpacks to that command, and its report's to that report
command_back : (c : Config) (w : World) (s : Slot) → Carried c w s → command_in (command_word s.command) ≡ s.command
command_back c w s h = (packed_commands.packed s.command h.fits_command).2

report_back : (c : Config) (w : World) (s : Slot) → Carried c w s → report_in (report_word s.report) ≡ s.report
report_back c w s h = (packed_reports.packed s.report h.fits_report).2

-- the words of such a part of each slot, one after the other, and with others behind them
module _ {A : Type 0} (c : Config) (pack : A → ℕ) (unpack : ℕ → A) (part : Slot → A)
    (back : (w : World) (s : Slot) → Carried c w s → unpack (pack (part s)) ≡ part s) where
  unpacked : (any : List ℕ) (w : World) → EachCarried c w any → map unpack (map (λ s. pack (part s)) (slots_along c w any)) ≡ map part (slots_along c w any)
  unpacked [] w each = refl
  unpacked (x ∷ later) w each = rw (back w (slot_in w x) each.1, unpacked later (after_slot c w (slot_in w x)) each.2)

  first_unpacked : (any : List ℕ) (w : World) → EachCarried c w any → (n : ℕ) → length any ≡ n → (behind : List ℕ)
      → map unpack (take n (map (λ s. pack (part s)) (slots_along c w any) ++ behind)) ≡ map part (slots_along c w any)
  first_unpacked any w each n long behind =
      rw (take_at (map (λ s. pack (part s)) (slots_along c w any)) behind n (length-map (slots_along c w any) (λ s. pack (part s)) ∙ slots_length c any w ∙ long))
      (unpacked any w each)

module _ (c : Config) (w : World) (bus commands reports : List ℕ) where
  abbrev n : ℕ
  n = count_of bus commands reports

  abbrev any : List ℕ
  any = used_of bus commands reports

  used_length : length any ≡ n
  used_length = length-take-le n bus (omega arith)

  -- the array that is handed in is as long as it was, and its first n halfwords are those that the bus carries
  same_length : length (handed_of c w bus commands reports) ≡ length bus
  unfolding handed_of
  same_length = length_front bus (bus_along c w any) n (along_length c any w)

  first_along : take n (handed_of c w bus commands reports) ≡ bus_along c w any
  unfolding handed_of
  first_along = take_at (bus_along c w any) (drop n bus) n (along_length c any w ∙ used_length)

  -- what the call gives
  abbrev batch : Batch
  batch =
      let s : Series = each_series c w any in
      record { number = 0; count = n; machine = s.machine; commands = s.commands ++ drop n commands; reports = s.reports ++ drop n reports }

  batch_is : record_number_of w.machine ≡ 0 → batch_in c w bus commands reports ≡ batch
  unfolding batch_in many_slots_of batch_of
  batch_is h = rw (eq-eqb _ _ h, same_length, first_along, series_each c any w)

  -- it is right, and keeps the invariant
  pub batch_right : Accepted c → Whole c w
      → Whole c (after_batch (after_slots c w any) (batch_in c w bus commands reports)) × CarriedAll c w n any commands reports (batch_in c w bus commands reports)
  unfolding after_batch
  batch_right a v =
      let all = slots_right any w a v in
      rw (batch_is (sound a v)) (
        all.0,
        record {
          answered = refl;
          count = refl;
          machine = refl;
          commands_sent = refl;
          reports_given = refl;
          commands_unpacked = first_unpacked c command_word command_in (λ s. s.command) (command_back c) any w all.1 n used_length (drop n commands);
          reports_unpacked = first_unpacked c report_word report_in (λ s. s.report) (report_back c) any w all.1 n used_length (drop n reports);
          each = all.1;
        },
      )
