-- What is left of the distances in any record: a NOP takes one from each, none is more than its whole length, and no command but NOP is legal before R2
-- is kept.
use Prim.Native.Nat.{ℕ, ◌+◌, ◌≤◌, ◌<◌, max}
use mathlib.Core.Path.{◌≡◌, refl}
use mathlib.Core.Bool.{Bool, true, false, cond, ◌&&◌}
use mathlib.Core.Option.{Option, none, some}
use native.Mathlib.Omega.{arith}
use lib.Dec.{leb, eqb, ltb}
use borrow.Author.Tests.{leb-true}
use Rattle.config.specs.declared.Config.{Config}
use Rattle.config.specs.Accepted.{Accepted}
use Rattle.address.specs.declared.Row.{Row}
use Rattle.address.specs.declared.Cell.{Cell}
use Rattle.command.specs.declared.Command.{Command}
use Rattle.command.specs.declared.Command.TheVariants.{Nop, Act, Read, Wrt, Pre, Deac, Refr, Mrs}
use Rattle.device.specs.View.{
  Distance,
  refresh_cycle,
  mode_register,
  read_to_write,
  any_precharge,
  row_precharge,
  row_cycle,
  row_to_row,
  row_to_column,
  row_active,
  write_recovery,
  slots_of,
  starts,
  marks_of,
  is_some,
}
use Rattle.device.specs.Rules.{requirements, legal_of}
use Rattle.device.proofs.Tests.{both, if_both}
use Rattle.ages.specs.declared.Past.{Past}
use Rattle.ages.specs.Ages.{age_of, row_at, by_ages, sent_of}
use Rattle.queue.specs.declared.Kind.{Kind}
use Rattle.theorem.proofs.Invariant.{
  short,
  bank_held,
  open_held,
  all_held,
  row_cycle_held,
  refr_held,
  refresh_held,
  other_held,
  others_held,
  transfer_left,
  activate_left,
  precharge_left,
  row_left,
  access_left,
}
use Rattle.theorem.proofs.Timing.Distances.{Falls, Ready, short-falls, nop-row, bank-falls, others-fall}

-- what R2 still asks
unfoldable pub gap : Config → Past → ℕ
gap c p = max (short c p refresh_cycle) (short c p mode_register)

pub gap_falls : {c : Config} → Accepted c → (p : Past) (k : Command) → starts refresh_cycle k ≡ false → starts mode_register k ≡ false
    → Falls (gap c (sent_of p k)) (gap c p)
unfolding gap
gap_falls ok p k f g =
    let x = short-falls ok p k refresh_cycle tt f in
    let y = short-falls ok p k mode_register tt g in
    omega arith

pub gap_ready : (c : Config) (p : Past) → gap c p ≡ 0 → Ready c p
unfolding gap short
gap_ready c p e = record { cycle = omega arith; mode = omega arith }

pub ready_gap : (c : Config) (p : Past) → c.rfc ≤ age_of p refresh_cycle → 2 ≤ age_of p mode_register → gap c p ≡ 0
unfolding gap short
ready_gap c p cycle mode = omega arith

-- No command but NOP is legal before.

abbrev pub R2Kept : Config → Past → Command → Type 0
R2Kept c p Nop = Unit {0}
R2Kept c p (Act b r) = gap c p ≡ 0
R2Kept c p (Read b k) = gap c p ≡ 0
R2Kept c p (Wrt b k h) = gap c p ≡ 0
R2Kept c p (Pre b) = gap c p ≡ 0
R2Kept c p Deac = gap c p ≡ 0
R2Kept c p Refr = gap c p ≡ 0
R2Kept c p (Mrs w) = gap c p ≡ 0

module _ (c : Config) (p : Past) where
  r2 : (others : Bool) → leb c.rfc (age_of p refresh_cycle) && (leb 2 (age_of p mode_register) && others) ≡ true → gap c p ≡ 0
  r2 others h =
      let x = both (leb c.rfc (age_of p refresh_cycle)) (leb 2 (age_of p mode_register) && others) h in
      let y = both (leb 2 (age_of p mode_register)) others x.1 in
      ready_gap c p (leb-true _ _ x.0) (leb-true _ _ y.0)

  pub legal_r2 : (k : Command) → legal_of c (by_ages c p) k ≡ true → R2Kept c p k
  unfolding legal_of requirements
  legal_r2 Nop h = tt
  legal_r2 (Act b r) h = r2 _ (both (ltb r.0 _) _ (both (ltb b.0 _) _ h).1).1
  legal_r2 (Read b k) h = r2 _ (both (ltb k.0 _) _ (both (ltb b.0 _) _ h).1).1
  legal_r2 (Wrt b k x) h = r2 _ (both (ltb k.0 _) _ (both (ltb b.0 _) _ h).1).1
  legal_r2 (Pre b) h = r2 _ (both (ltb b.0 _) _ h).1
  legal_r2 Deac h = r2 _ h
  legal_r2 Refr h = r2 _ h
  legal_r2 (Mrs w) h = r2 _ (both (eqb w _) _ h).1

-- Nothing is more than its whole length.

module _ {c : Config} (ok : Accepted c) (p : Past) where
  pub short_most : (d : Distance) → short c p d ≤ slots_of c d
  unfolding short
  short_most d = omega arith

  pub gap_most : gap c p < c.refresh
  unfolding gap
  gap_most = omega (arith, short_most refresh_cycle, short_most mode_register, ok.refresh_span_lem, ok.ras_least, ok.rp_least, ok.rfc_least)

  bank_most : (b : ℕ) → bank_held c p b ≤ max c.ras c.wr
  unfolding bank_held
  bank_most b = omega (arith, short_most (row_active b), short_most (write_recovery b))

  open_most : (b : ℕ) → open_held c p b ≤ max c.ras c.wr
  unfolding open_held
  open_most b = if_both (λ x. x ≤ max c.ras c.wr) (is_some (row_at p b)) (λ e. bank_most b) (λ e. omega arith)

  all_most : all_held c p ≤ max c.ras c.wr
  unfolding all_held
  all_most = omega (arith, open_most 0, open_most 1, open_most 2, open_most 3)

  row_cycle_most : row_cycle_held c p ≤ c.rc
  unfolding row_cycle_held
  row_cycle_most = omega (arith, short_most (row_cycle 0), short_most (row_cycle 1), short_most (row_cycle 2), short_most (row_cycle 3))

  pub refr_most : refr_held c p ≤ max c.rp c.rc
  unfolding refr_held
  refr_most = omega (arith, short_most any_precharge, row_cycle_most)

  pub refresh_most : refresh_held c p ≤ max (max c.ras c.wr + c.rp) c.rc
  unfolding refresh_held
  refresh_most = omega (arith, all_most, row_cycle_most)

  other_most : (b o : ℕ) → other_held c p b o ≤ c.rrd
  unfolding other_held
  other_most b o = if_both (λ x. x ≤ c.rrd) (eqb o b) (λ e. omega arith) (λ e. short_most (row_to_row o))

  others_most : (b : ℕ) → others_held c p b ≤ c.rrd
  unfolding others_held
  others_most b = omega (arith, other_most b 0, other_most b 1, other_most b 2, other_most b 3)

  transfer_most : (kind : Kind) (b : ℕ) → transfer_left c p kind b ≤ c.access
  unfolding transfer_left
  transfer_most Kind.Read b = omega (arith, short_most (row_to_column b), ok.access_span_lem)
  transfer_most Kind.Write b =
      omega (arith, short_most (row_to_column b), short_most read_to_write, ok.access_span_lem, ok.rp_least)

  activate_most : (b : ℕ) → activate_left c p b ≤ c.access
  unfolding activate_left
  activate_most b = omega (arith, short_most (row_precharge b), short_most (row_cycle b), others_most b, ok.access_span_lem)

  precharge_most : (b : ℕ) → precharge_left c p b ≤ c.access
  unfolding precharge_left
  precharge_most b = omega (arith, bank_most b, short_most (row_cycle b), others_most b, ok.access_span_lem)

  pub access_most : (kind : Kind) (x : Cell) → access_left c p kind x ≤ c.access
  unfolding access_left
  access_most kind x = go (row_at p x.bank.0)
    where
      go : (y : Option Row) → row_left c p y kind x ≤ c.access
      go none = activate_most x.bank.0
      go (some y) =
          if_both (λ n. n ≤ c.access) (eqb y.0 x.row.0) (λ e. transfer_most kind x.bank.0) (λ e. precharge_most x.bank.0)

  -- An access waits through a NOP.
  module _ (x : Cell) (four : x.bank.0 < 4) where
    abbrev b : ℕ
    b = x.bank.0

    abbrev p' : Past
    p' = sent_of p Nop

    transfer_waits : (kind : Kind) → transfer_left c p' kind b ≤ transfer_left c p kind b
    unfolding transfer_left marks_of
    transfer_waits Kind.Read = let x = short-falls ok p Nop (row_to_column b) four refl in omega arith
    transfer_waits Kind.Write =
        let x = short-falls ok p Nop (row_to_column b) four refl in
        let y = short-falls ok p Nop read_to_write tt refl in
        omega arith

    activate_waits : activate_left c p' b ≤ activate_left c p b
    unfolding activate_left marks_of
    activate_waits =
        let x = short-falls ok p Nop (row_precharge b) four refl in
        let y = short-falls ok p Nop (row_cycle b) four refl in
        let z = others-fall ok p Nop b (λ o. refl) in
        omega arith

    precharge_waits : precharge_left c p' b ≤ precharge_left c p b
    unfolding precharge_left marks_of
    precharge_waits =
        let x = bank-falls ok p Nop b four refl refl in
        let y = short-falls ok p Nop (row_cycle b) four refl in
        let z = others-fall ok p Nop b (λ o. refl) in
        omega arith

    pub access_waits : (kind : Kind) → access_left c p' kind x ≤ access_left c p kind x
    unfolding access_left
    access_waits kind = rw (nop-row p b four) (go (row_at p b))
      where
        go : (y : Option Row) → row_left c p' y kind x ≤ row_left c p y kind x
        go none = activate_waits
        go (some y) = both_fall (eqb y.0 x.row.0) (transfer_waits kind) precharge_waits
          where
            both_fall : (t : Bool) {u v y z : ℕ} → u ≤ v → y ≤ z → cond t u y ≤ cond t v z
            both_fall true h k = h
            both_fall false h k = k
