-- The stamps agree with the plain SDRAM's history: each is what the clock showed in the slot of the last command that starts its distances.
use Prim.Native.Nat.{ℕ, zero, suc, ◌+◌, ◌≤◌, ◌<◌}
use mathlib.Core.Path.{◌≡◌, refl, ◌∙◌}
use mathlib.Core.Bool.{Bool, true, false, cond, false≢true}
use mathlib.Core.List.{List}
use mathlib.Core.Option.{Option, none, some}
use native.Mathlib.Omega.{arith}
use lib.Dec.{leb, ltb}
use lib.ListN.{get_or, replicate}
use borrow.Author.Tests.{le-leb, le-ltb, lt-ltb}
use Rattle.address.specs.declared.Row.{Row}
use Rattle.config.specs.declared.Config.{Config}
use Rattle.config.specs.Accepted.{Accepted}
use Rattle.command.specs.declared.Command.{Command}
use Rattle.command.specs.declared.Command.TheVariants.{Nop, Act, Read, Wrt, Pre, Deac, Refr, Mrs}
use Rattle.device.specs.View.{Distance, mode_register, row_cycle, row_precharge, slots_of, marks_of, starts, row_of, is_some}
use Rattle.device.specs.Rules.{requirements, legal_of}
use Rattle.device.specs.History.{History, Log, last, kept_since, open_row, by_history, start_log, allowed, fed}
use Rattle.device.proofs.Tests.{leb_both}
use Rattle.device.proofs.Alike.{Known, Alike, legal_same}
use Rattle.device.proofs.Follows.{Follows, sent_follows, starts_nop}
use Rattle.ages.specs.Ages.{place_of}
use Rattle.ages.proofs.Slot.{each_placed, reached}
use Rattle.stamps.specs.Stamps.{clock_of, no_stamps, open_at, any_row, by_stamps, stamped_of}
use Rattle.stamps.proofs.Noted.{noted_earlier}

-- the stamp of a last command
abbrev stamp_of : Option ℕ → ℕ
stamp_of none = 0
stamp_of (some s) = clock_of s

pub record Agrees (l : List ℕ) (g : Log) : Type 0 where
  pub stamps : (d : Distance) → Known d → get_or l (place_of d) 0 ≡ stamp_of (last d g.past)
  pub opens : (b : ℕ) → b < 4 → open_at l b ≡ is_some (open_row g.past b)
  pub earlier : (i : ℕ) → get_or l i 0 < clock_of g.now
  pub started : 1 ≤ g.now

-- So the two views are alike.

some_stamp : (o : Option ℕ) → ltb 0 (stamp_of o) ≡ is_some o
some_stamp none = refl
some_stamp (some s) = lt-ltb 0 (clock_of s) (omega arith)

-- is the bank open, as a rule asks it
pub open_is : (l : List ℕ) (b : ℕ) → is_some (cond (open_at l b) (some any_row) none) ≡ open_at l b
open_is l b = go (open_at l b)
  where
    go : (t : Bool) → is_some (cond t (some any_row) none) ≡ t
    go true = refl
    go false = refl

kept_stamp : (o : Option ℕ) (now n : ℕ) → 1 ≤ now → n ≤ 32 → leb (stamp_of o + n) (clock_of now) ≡ kept_since o now n
kept_stamp none now n h i = le-leb (0 + n) (clock_of now) (omega arith)
kept_stamp (some s) now n h i = leb_both (clock_of s + n) (clock_of now) (s + n) now (λ e. omega arith) (λ e. omega arith)

pub alike : {c : Config} {l : List ℕ} {g : Log} → Accepted c → Agrees l g → Alike (by_stamps c l (clock_of g.now)) (by_history c g)
alike {c} {l} {g} n a = record {
  programmed = rw (a.stamps mode_register tt) (some_stamp (last mode_register g.past));
  opened = λ b h. open_is l b ∙ a.opens b h;
  kept = λ d h. rw (a.stamps d h) (kept_stamp (last d g.past) g.now (slots_of c d) a.started (reached n d));
}

pub same_verdict : {c : Config} {l : List ℕ} {g : Log} → Accepted c → Agrees l g → (k : Command) → legal_of c (by_stamps c l (clock_of g.now)) k ≡ allowed c g k
same_verdict {c} n a k = legal_same (alike n a) c n.shaped k

-- At first.

zeros : (n i : ℕ) → ◌≡◌ {A = ℕ} (get_or (replicate n 0) i 0) 0
zeros zero i = refl
zeros (suc n) zero = refl
zeros (suc n) (suc i) = zeros n i

none_stamped : (i : ℕ) → ◌≡◌ {A = ℕ} (get_or no_stamps i 0) 0
none_stamped i = zeros 16 i

pub agrees_none : Agrees no_stamps start_log
unfolding start_log last open_row open_at
agrees_none = record {
  stamps = λ d h. none_stamped (place_of d);
  opens = λ b h. rw (none_stamped (4 + b), none_stamped b);
  earlier = λ i. rw (none_stamped i) (omega arith);
  started = omega arith;
}

-- A slot. No command both opens and closes a bank.

not_both : (k : Command) (b : ℕ) → (marks_of k b).act ≡ true → (marks_of k b).pre ≡ false
unfolding marks_of
not_both Nop b e = refl
not_both (Act n r) b e = refl
not_both (Read n k) b e = refl
not_both (Wrt n k h) b e = refl
not_both (Pre n) b e = absurd (false≢true e)
not_both Deac b e = absurd (false≢true e)
not_both Refr b e = refl
not_both (Mrs w) b e = refl

open_next : (act pre : Bool) (now x y : ℕ) → (act ≡ true → pre ≡ false) → x < now → y < now
    → ltb (cond pre now y) (cond act now x) ≡ cond act true (cond pre false (ltb y x))
open_next true pre now x y f i j = rw (f refl) (lt-ltb y now j)
open_next false true now x y f i j = le-ltb now x (omega arith)
open_next false false now x y f i j = refl

some_next : (act pre : Bool) (r : Row) (o : Option Row) → is_some (cond act (some r) (cond pre none o)) ≡ cond act true (cond pre false (is_some o))
some_next true pre r o = refl
some_next false true r o = refl
some_next false false r o = refl

stamp_next : (f : Bool) (now : ℕ) (o : Option ℕ) → stamp_of (cond f (some now) o) ≡ cond f (clock_of now) (stamp_of o)
stamp_next true now o = refl
stamp_next false now o = refl

-- the stamps after a slot in which k was sent
record Stamped (k : Command) (now : ℕ) (l m : List ℕ) : Type 0 where
  placed : (d : Distance) → Known d → get_or m (place_of d) 0 ≡ cond (starts d k) now (get_or l (place_of d) 0)
  within : (i : ℕ) → get_or m i 0 < suc now

agrees_slot : {l m : List ℕ} {g : Log} {h : History} → Agrees l g → (k : Command) → Stamped k (clock_of g.now) l m → Follows k g.now g.past h
    → Agrees m (record { now = suc g.now; past = h })
unfolding open_at
agrees_slot {l} {m} {g} {h} a k s w = record {
  stamps = λ d i. s.placed d i ∙ rw (a.stamps d i, w.lasts d, stamp_next (starts d k) g.now (last d g.past));
  opens = λ b i. rw (
    s.placed (row_precharge b) i,
    s.placed (row_cycle b) i,
    w.rows b,
    some_next (starts (row_cycle b) k) (starts (row_precharge b) k) (row_of k) (open_row g.past b),
    open_next (starts (row_cycle b) k) (starts (row_precharge b) k) (clock_of g.now) (get_or l b 0) (get_or l (4 + b) 0) (not_both k b) (a.earlier b) (a.earlier (4 + b)),
    a.opens b i,
  );
  earlier = λ i. let z = s.within i in omega arith;
  started = omega arith;
}

-- a NOP leaves them
nop_stamped : (now : ℕ) (l : List ℕ) → ((i : ℕ) → get_or l i 0 < now) → Stamped Nop now l l
nop_stamped now l h = record { placed = λ d i. rw (starts_nop d); within = λ i. let z = h i in omega arith }

command_stamped : (k : Command) (now : ℕ) (l : List ℕ) → ((i : ℕ) → get_or l i 0 < now) → Stamped k now l (stamped_of now k l)
unfolding stamped_of
command_stamped k now l h = record {
  placed = each_placed (λ f i. cond f now (get_or l i 0)) k;
  within = λ i. let z = noted_earlier k now l (stamped_of now k l) refl (λ n. let y = h n in omega arith) i in omega arith;
}

-- a legal command is sent on both sides
pub agrees_sent : (c : Config) {l : List ℕ} {g : Log} → Agrees l g → (k : Command) → allowed c g k ≡ true → Agrees (stamped_of (clock_of g.now) k l) (fed c g k)
unfolding fed
agrees_sent c {l} {g} a k e = rw e (agrees_slot a k (command_stamped k (clock_of g.now) l a.earlier) (sent_follows k g.now g.past))

pub agrees_nop : (c : Config) {l : List ℕ} {g : Log} → Agrees l g → Agrees l (fed c g Nop)
unfolding fed legal_of requirements
agrees_nop c {l} {g} a = agrees_slot a Nop (nop_stamped (clock_of g.now) l a.earlier) (sent_follows Nop g.now g.past)
