-- Each kind of record, in the terms of places of the tape.
use Prim.Native.Nat.{ℕ, suc, ◌+◌, ◌*◌, ◌-◌, ◌≤◌, ◌<◌}
use mathlib.Core.Path.{◌≡◌, refl}
use mathlib.Core.Bool.{true, false}
use mathlib.Core.List.{List}
use native.Mathlib.Omega.{arith}
use native.Mathlib.Nat.{add_assoc}
use Rattle.std.specs.Prelude.{Option, Some, None}
use lib.Dec.{lit≤}
use lib.ListN.{length, get_or}
use Rattle.address.specs.declared.Bank.{Bank}
use Rattle.address.specs.declared.Row.{Row}
use Rattle.address.specs.declared.Column.{Column}
use Rattle.config.specs.declared.Config.{Config}
use Rattle.config.specs.Accepted.{Accepted}
use Rattle.command.specs.declared.Command.{Command}
use Rattle.command.specs.declared.Command.TheVariants.{Act, Read, Wrt, Pre, Deac, Refr, Mrs}
use Rattle.device.specs.View.{View}
use Rattle.device.specs.Rules.{requirements, legal_of}
use Rattle.device.proofs.Tests.{both}
use Rattle.device.proofs.Alike.{in_four}
use Rattle.tape.specs.Reading.{command, body_length, command_of, wrong_run, step_of}
use Rattle.tape_decoder.specs.Shapes.{run_step, Whole}
use Rattle.tape_decoder.proofs.Steps.{end_here, refused_kind, refused_cut, rest_at_lem, run_here, command_here}
use Rattle.stamps.specs.Stamps.{by_stamps, stamped_of}
use Rattle.tape_cursor.specs.declared.Cursor.{Cursor}
use Rattle.tape_cursor.specs.Taken.{taken_as, taken_by, taken_of, Here}

-- the number in two bytes at a place
abbrev pub pair : List ℕ → ℕ → ℕ
pair tape at = get_or tape at 0 + 256 * get_or tape (at + 1) 0

-- the bank of a legal command is one of the four
module _ (c : Config) (n : Accepted c) (v : View) where
  pub act_four : (b : Bank) (r : Row) → legal_of c v (Act b r) ≡ true → b.0 < 4
  unfolding legal_of requirements
  act_four b r e = in_four c n.shaped b.0 (both _ _ e).0

  pub wrt_four : (b : Bank) (k : Column) (x : ℕ) → legal_of c v (Wrt b k x) ≡ true → b.0 < 4
  unfolding legal_of requirements
  wrt_four b k x e = in_four c n.shaped b.0 (both _ _ e).0

  pub pre_four : (b : Bank) → legal_of c v (Pre b) ≡ true → b.0 < 4
  unfolding legal_of requirements
  pre_four b e = in_four c n.shaped b.0 (both _ _ e).0

-- what the reader finds: a command of so many bytes
abbrev Stepped : List ℕ → Cursor → Command → ℕ → Type 0
Stepped tape p k bytes = step_of tape p.at p.before ≡ record { answer = command k; at = p.at + bytes; before = 0 }

-- what is taken
abbrev Gives : Config → List ℕ → ℕ → List ℕ → Cursor → Option Cursor → List ℕ → ℕ → Type 0
Gives c l now tape p r m later = taken_as r m later ≡ taken_of c l now p (step_of tape p.at p.before)

module _ {tape : List ℕ} {p : Cursor} where
  whole_here : {kind : ℕ} → Here tape p kind → kind ≤ 7 → body_length kind < length tape - p.at → Whole tape p.at kind
  whole_here h k l = record { here = h.here; is = h.is; known = k; whole = omega arith }

  pub act_step : Here tape p 1 → 4 ≤ length tape - p.at
      → Stepped tape p (Act (record { 0 = get_or tape (p.at + 1) 0 }) (record { 0 = pair tape (p.at + 2) })) 4
  unfolding body_length command_of
  act_step h l = simp (command_here (whole_here h (lit≤ tt) l) p.before 0 refl, rest_at_lem, add_assoc)

  pub read_step : Here tape p 2 → 4 ≤ length tape - p.at
      → Stepped tape p (Read (record { 0 = get_or tape (p.at + 1) 0 }) (record { 0 = pair tape (p.at + 2) })) 4
  unfolding body_length command_of
  read_step h l = simp (command_here (whole_here h (lit≤ tt) l) p.before 1 refl, rest_at_lem, add_assoc)

  pub wrt_step : Here tape p 3 → 6 ≤ length tape - p.at
      → Stepped tape p (Wrt (record { 0 = get_or tape (p.at + 1) 0 }) (record { 0 = pair tape (p.at + 2) }) (pair tape (p.at + 4))) 6
  unfolding body_length command_of
  wrt_step h l = simp (command_here (whole_here h (lit≤ tt) l) p.before 2 refl, rest_at_lem, add_assoc)

  pub pre_step : Here tape p 4 → 2 ≤ length tape - p.at → Stepped tape p (Pre (record { 0 = get_or tape (p.at + 1) 0 })) 2
  unfolding body_length command_of
  pre_step h l = simp (command_here (whole_here h (lit≤ tt) l) p.before 3 refl, rest_at_lem)

  pub deac_step : Here tape p 5 → Stepped tape p Deac 1
  unfolding body_length command_of
  deac_step h = command_here (whole_here h (lit≤ tt) (let z = h.here in omega arith)) p.before 4 refl

  pub refr_step : Here tape p 6 → Stepped tape p Refr 1
  unfolding body_length command_of
  refr_step h = command_here (whole_here h (lit≤ tt) (let z = h.here in omega arith)) p.before 5 refl

  pub mrs_step : Here tape p 7 → 3 ≤ length tape - p.at → Stepped tape p (Mrs (pair tape (p.at + 1))) 3
  unfolding body_length command_of
  mrs_step h l = simp (command_here (whole_here h (lit≤ tt) l) p.before 6 refl, rest_at_lem, add_assoc)

  pub run_step_lem : Here tape p 0 → 3 ≤ length tape - p.at → step_of tape p.at p.before ≡ run_step p.at p.before (pair tape (p.at + 1))
  unfolding body_length
  run_step_lem h l = simp (run_here (whole_here h (lit≤ tt) l) p.before (lit≤ tt), add_assoc)

module _ (c : Config) (l : List ℕ) (now : ℕ) (tape : List ℕ) (p : Cursor) where
  pub cut_halts : {kind : ℕ} → Here tape p kind → kind ≤ 7 → length tape - p.at < suc (body_length kind) → Gives c l now tape p None l now
  unfolding taken_by
  cut_halts {kind} h k m =
      rw (refused_cut tape p.at p.before h.here (rw h.is at k) (let e : length tape - p.at - 1 < body_length kind = omega (arith, h.here) in rw h.is at e))

  pub end_halts : length tape ≤ p.at → Gives c l now tape p None l now
  unfolding taken_by
  end_halts h = rw (end_here tape p.at p.before h)

  pub kind_halts : p.at < length tape → 7 < get_or tape p.at 0 → Gives c l now tape p None l now
  unfolding taken_by
  kind_halts h k = rw (refused_kind tape p.at p.before h k)

  pub legal_sent : (k : Command) (bytes : ℕ) {m : List ℕ} {later : ℕ} → Stepped tape p k bytes → legal_of c (by_stamps c l now) k ≡ true → m ≡ stamped_of now k l → later ≡ now + 1
      → Gives c l now tape p (Some (record { at = p.at + bytes; before = 0 })) m later
  unfolding taken_by
  legal_sent k bytes s e n f = rw (s, e, n, f)

  pub illegal_halts : (k : Command) (bytes : ℕ) → Stepped tape p k bytes → legal_of c (by_stamps c l now) k ≡ false → Gives c l now tape p None l now
  unfolding taken_by
  illegal_halts k bytes s e = rw (s, e)

  -- a run
  pub wrong_halts : (count : ℕ) → step_of tape p.at p.before ≡ run_step p.at p.before count → wrong_run p.before count ≡ true → Gives c l now tape p None l now
  unfolding taken_by run_step
  wrong_halts count s e = rw (s, e)

  pub run_passes : (count : ℕ) {m : List ℕ} {later : ℕ} → step_of tape p.at p.before ≡ run_step p.at p.before count → wrong_run p.before count ≡ false → m ≡ l → later ≡ now + count
      → Gives c l now tape p (Some (record { at = p.at + 3; before = count })) m later
  unfolding taken_by run_step
  run_passes count s e n f = rw (s, e, n, f)
