-- What one slot does to the ages and the open rows: one law for all distances, since all go through `starts`.
use Prim.Native.Nat.{ℕ, suc, ◌+◌, ◌≤◌, ◌<◌, min}
use mathlib.Core.Path.{◌≡◌, refl, ◌∙◌}
use mathlib.Core.Bool.{Bool, true, false, cond}
use mathlib.Core.Option.{none, some}
use native.Mathlib.Omega.{arith}
use lib.Dec.{leb}
use lib.ListN.{get_or}
use borrow.Author.Tests.{leb-true, leb-false}
use Rattle.config.specs.declared.Config.{Config}
use Rattle.config.specs.Accepted.{Accepted}
use Rattle.command.specs.declared.Command.{Command}
use Rattle.device.specs.View.{
  Distance,
  refresh_cycle,
  mode_register,
  read_to_write,
  any_precharge,
  row_precharge,
  row_cycle,
  row_to_row,
  row_to_column,
  row_active,
  write_recovery,
  slots_of,
  starts,
  marks_of,
  row_of,
}
use Rattle.device.specs.Rules.{carried_of}
use Rattle.device.proofs.Tests.{four_banks}
use Rattle.device.proofs.Alike.{Known}
use Rattle.ages.specs.declared.Past.{Past}
use Rattle.ages.specs.Ages.{cap, fresh_of, place_of, age_of, open_in, row_in, open_rows, row_at, by_ages, aged_of, each_place, ages_after, sent_of}

-- a number for each place, by the place and whether the slot's command starts its distances, read off at a distance's place
act_placed : (g : Bool → ℕ → ℕ) (k : Command) (b : ℕ) → b < 4 → get_or (each_place (λ i d. g (starts d k) i)) b 0 ≡ g (marks_of k b).act b
act_placed g k b h = four_banks (λ n. get_or (each_place (λ i d. g (starts d k) i)) n 0 ≡ g (marks_of k n).act n) refl refl refl refl b h

pub each_placed : (g : Bool → ℕ → ℕ) (k : Command) (d : Distance) → Known d → get_or (each_place (λ i e. g (starts e k) i)) (place_of d) 0 ≡ g (starts d k) (place_of d)
each_placed g k refresh_cycle h = refl
each_placed g k mode_register h = refl
each_placed g k read_to_write h = refl
each_placed g k any_precharge h = refl
each_placed g k (row_precharge b) h = four_banks (λ n. get_or (each_place (λ i e. g (starts e k) i)) (4 + n) 0 ≡ g (starts (row_precharge n) k) (4 + n)) refl refl refl refl b h
each_placed g k (row_cycle b) h = act_placed g k b h
each_placed g k (row_to_row b) h = act_placed g k b h
each_placed g k (row_to_column b) h = act_placed g k b h
each_placed g k (row_active b) h = act_placed g k b h
each_placed g k (write_recovery b) h = four_banks (λ n. get_or (each_place (λ i e. g (starts e k) i)) (12 + n) 0 ≡ g (starts (write_recovery n) k) (12 + n)) refl refl refl refl b h

pub sent_aged : (p : Past) (k : Command) (d : Distance) → Known d → age_of (sent_of p k) d ≡ aged_of (starts d k) (age_of p d)
unfolding sent_of ages_after
sent_aged p k d h = each_placed (λ f i. aged_of f (get_or p.ages i 0)) k d h

pub aged_min : (f : Bool) (a : ℕ) → aged_of f a ≡ cond f 1 (min cap (suc a))
unfolding aged_of
aged_min true a = refl
aged_min false a = go (leb cap a) refl
  where
    go : (t : Bool) → leb cap a ≡ t → cond t cap (a + 1) ≡ min cap (suc a)
    go true e = let h = leb-true cap a e in omega arith
    go false e = let h = leb-false cap a e in omega arith

-- an age after any slot: 1 where the slot's command starts the distance, otherwise one slot older, up to the cap
pub sent_age : (p : Past) (k : Command) (d : Distance) → Known d → age_of (sent_of p k) d ≡ cond (starts d k) 1 (min cap (suc (age_of p d)))
sent_age p k d h = sent_aged p k d h ∙ aged_min (starts d k) (age_of p d)

-- the open row of a bank after any slot
pub sent_row : (p : Past) (k : Command) (b : ℕ) → b < 4
    → row_at (sent_of p k) b ≡ cond (starts (row_cycle b) k) (some (row_of k)) (cond (starts (row_precharge b) k) none (row_at p b))
unfolding sent_of open_rows row_in open_in
sent_row p k b h =
    four_banks (λ n. row_at (sent_of p k) n ≡ cond (starts (row_cycle n) k) (some (row_of k)) (cond (starts (row_precharge n) k) none (row_at p n)))
    (go 0 (marks_of k 0).act (marks_of k 0).pre (get_or p.opened 0 false))
    (go 1 (marks_of k 1).act (marks_of k 1).pre (get_or p.opened 1 false))
    (go 2 (marks_of k 2).act (marks_of k 2).pre (get_or p.opened 2 false))
    (go 3 (marks_of k 3).act (marks_of k 3).pre (get_or p.opened 3 false))
    b h
  where
    go : (n : ℕ) (f g o : Bool)
        → cond (cond f true (cond g false o)) (some (record { 0 = cond f (row_of k).0 (get_or p.rows n 0) })) none
        ≡ cond f (some (row_of k)) (cond g none (cond o (some (record { 0 = get_or p.rows n 0 })) none))
    go n true g o = refl
    go n false true o = refl
    go n false false o = refl

-- The ages of a record that was made by slots, and the distances that a configuration can have.
pub record Aged (p : Past) : Type 0 where
  pub least : (d : Distance) → Known d → 1 ≤ age_of p d
  pub most : (d : Distance) → Known d → age_of p d ≤ cap

cond_range : (f : Bool) (a : ℕ) → (1 ≤ cond f 1 (min cap (suc a))) × (cond f 1 (min cap (suc a)) ≤ cap)
cond_range true a = omega arith
cond_range false a = omega arith

pub aged_sent : (p : Past) (k : Command) → Aged (sent_of p k)
aged_sent p k = record {
  least = λ d h. rw (sent_age p k d h) (cond_range (starts d k) (age_of p d)).0;
  most = λ d h. rw (sent_age p k d h) (cond_range (starts d k) (age_of p d)).1;
}

fresh_act : (b : ℕ) → b < 4 → get_or fresh_of.ages b 0 ≡ cap
unfolding fresh_of
fresh_act b h = four_banks (λ n. get_or fresh_of.ages n 0 ≡ cap) refl refl refl refl b h

pub fresh_age : (d : Distance) → Known d → age_of fresh_of d ≡ cap
unfolding fresh_of
fresh_age refresh_cycle h = refl
fresh_age mode_register h = refl
fresh_age read_to_write h = refl
fresh_age any_precharge h = refl
fresh_age (row_precharge b) h = four_banks (λ n. age_of fresh_of (row_precharge n) ≡ cap) refl refl refl refl b h
fresh_age (row_cycle b) h = fresh_act b h
fresh_age (row_to_row b) h = fresh_act b h
fresh_age (row_to_column b) h = fresh_act b h
fresh_age (row_active b) h = fresh_act b h
fresh_age (write_recovery b) h = four_banks (λ n. age_of fresh_of (write_recovery n) ≡ cap) refl refl refl refl b h

pub aged_fresh : Aged fresh_of
aged_fresh = record { least = λ d h. rw (fresh_age d h) (omega arith); most = λ d h. rw (fresh_age d h) (omega arith) }

-- no distance of an accepted configuration is longer than an age can tell, and none is shorter than a slot
pub reached : {c : Config} → Accepted c → (d : Distance) → slots_of c d ≤ cap
reached a refresh_cycle = omega (arith, a.rfc_most)
reached a mode_register = omega arith
reached a read_to_write = omega (arith, a.latency_most)
reached a any_precharge = omega (arith, a.rp_most)
reached a (row_precharge b) = omega (arith, a.rp_most)
reached a (row_cycle b) = omega (arith, a.rc_most)
reached a (row_to_row b) = omega (arith, a.rrd_most)
reached a (row_to_column b) = omega (arith, a.rcd_most)
reached a (row_active b) = omega (arith, a.ras_most)
reached a (write_recovery b) = omega (arith, a.wr_most)

pub some_slots : {c : Config} → Accepted c → (d : Distance) → 1 ≤ slots_of c d
some_slots a refresh_cycle = a.rfc_least
some_slots a mode_register = omega arith
some_slots a read_to_write = omega arith
some_slots a any_precharge = a.rp_least
some_slots a (row_precharge b) = a.rp_least
some_slots a (row_cycle b) = a.rc_least
some_slots a (row_to_row b) = a.rrd_least
some_slots a (row_to_column b) = a.rcd_least
some_slots a (row_active b) = a.ras_least
some_slots a (write_recovery b) = a.wr_least

-- the past after a slot in which k is tried: k is sent if it is legal, otherwise NOP
unfoldable pub tried_of : Config → Past → Command → Past
tried_of c p k = sent_of p (carried_of c (by_ages c p) k)
