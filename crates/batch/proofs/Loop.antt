-- The slots that are left, from place i on: they give of the parts and arrays as they are what all slots give of them as they were at first.
use Prim.Native.Nat.{ℕ, suc, ◌≤◌, ◌<◌}
use native.Mathlib.Omega.{arith}
use mathlib.Core.Path.{◌≡◌, refl}
use mathlib.Core.List.{List, ◌∷◌, ◌++◌}
use lib.ListN.{length, take, drop, set, get_or, take-append-drop}
use lib.Seq.{slice, slice_empty, slice-cons, take-suc-set, drop-set-lt, append_snoc}
use Rattle.config.specs.declared.Config.{Config}
use Rattle.ages.specs.declared.Past.{Past}
use Rattle.queue.specs.declared.Queue.{Queue}
use Rattle.refresh.specs.declared.Counters.{Counters}
use Rattle.plan.specs.declared.Control.{Control}
use Rattle.packing.specs.Packing.{command_word, report_word}
use Rattle.turn.specs.Parts.{Parts, stepped_of}
use Rattle.batch.specs.Run.{Ran, ran_of, filled_of}

abbrev pub onwards : ℕ → ℕ → Config → Past → Counters → Control → Queue → List ℕ → List ℕ → List ℕ → Ran
onwards i slots c p n x q bus commands reports =
    let r : Ran = ran_of c p n x q (slice i slots bus) in
    record {
      past = r.past;
      counters = r.counters;
      control = r.control;
      queue = r.queue;
      commands = take i commands ++ (r.commands ++ drop slots commands);
      reports = take i reports ++ (r.reports ++ drop slots reports);
    }

-- from the first place on they are all
pub onwards_all : (slots : ℕ) (c : Config) (p : Past) (n : Counters) (x : Control) (q : Queue) (bus commands reports : List ℕ)
    → onwards 0 slots c p n x q bus commands reports ≡ filled_of slots c p n x q bus commands reports
unfolding filled_of
onwards_all slots c p n x q bus commands reports = refl

-- a word is stored at place i
stored_row : (i slots : ℕ) (l : List ℕ) (v : ℕ) (later : List ℕ) → i < slots → slots ≤ length l
    → take (suc i) (set l i v) ++ (later ++ drop slots (set l i v)) ≡ take i l ++ (v ∷ later ++ drop slots l)
stored_row i slots l v later h k = rw (take-suc-set l i v (omega arith), drop-set-lt slots l i v h) (append_snoc (take i l) v (later ++ drop slots l))

-- one slot
pub onwards_next : (i slots : ℕ) (c : Config) (p : Past) (n : Counters) (x : Control) (q : Queue) (bus commands reports : List ℕ)
    → i < slots → slots ≤ length bus → slots ≤ length commands → slots ≤ length reports
    → {t : Parts} → t ≡ stepped_of c p n x q (get_or bus i 0)
    → onwards (suc i) slots c t.past t.counters t.control t.queue bus (set commands i (command_word t.command)) (set reports i (report_word t.report))
    ≡ onwards i slots c p n x q bus commands reports
unfolding ran_of
onwards_next i slots c p n x q bus commands reports h hb hk hr {t} e =
    rw (
      stored_row i slots commands (command_word t.command) (ran_of c t.past t.counters t.control t.queue (slice (suc i) slots bus)).commands h hk,
      stored_row i slots reports (report_word t.report) (ran_of c t.past t.counters t.control t.queue (slice (suc i) slots bus)).reports h hr,
      slice-cons i slots bus 0 h hb,
      e,
    )

-- none is left
pub onwards_end : (i slots : ℕ) (c : Config) (p : Past) (n : Counters) (x : Control) (q : Queue) (bus commands reports : List ℕ) → i ≡ slots
    → record { past = p; counters = n; control = x; queue = q; commands = commands; reports = reports } ≡ onwards i slots c p n x q bus commands reports
unfolding ran_of
onwards_end i slots c p n x q bus commands reports e =
    rw (e, slice_empty slots bus, take-append-drop slots commands, take-append-drop slots reports)
