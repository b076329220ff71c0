-- The sequencer's reading of the past agrees with the plain SDRAM's: an age stands for the slot of the last command that starts its
-- distances, up to the cap.
use Prim.Native.Nat.{ℕ, zero, suc, ◌+◌, ◌≤◌, ◌<◌, min}
use mathlib.Core.Path.{◌≡◌, refl, sym, ap, ◌∙◌}
use mathlib.Core.Bool.{Bool, true, false, cond}
use mathlib.Core.List.{◌∷◌}
use mathlib.Core.Option.{Option, none, some}
use native.Mathlib.Omega.{arith}
use lib.Dec.{leb}
use borrow.Author.Tests.{leb-true, le-leb}
use Rattle.config.specs.declared.Config.{Config}
use Rattle.config.specs.Accepted.{Accepted}
use Rattle.command.specs.declared.Command.{Command}
use Rattle.command.specs.declared.Command.TheVariants.{Nop}
use Rattle.device.specs.View.{Distance, mode_register, slots_of, starts, is_some}
use Rattle.device.specs.Rules.{legal_of, carried_of}
use Rattle.device.specs.History.{History, Log, last, kept_since, open_row, by_history, start_log, allowed, fed}
use Rattle.device.proofs.Tests.{leb_both, four_banks}
use Rattle.device.proofs.Alike.{Known, Alike, legal_same}
use Rattle.device.proofs.Every.{Falling}
use Rattle.device.proofs.Follows.{Follows, sent_follows, idle_follows}
use Rattle.ages.specs.declared.Past.{Past}
use Rattle.ages.specs.Ages.{cap, fresh_of, age_of, open_in, row_in, open_rows, row_at, by_ages, sent_of}
use Rattle.ages.proofs.Slot.{Aged, sent_age, sent_row, aged_sent, aged_fresh, fresh_age, reached, tried_of}

-- an age beside the slot of the last command that started it
abbrev Stands : ℕ → Option ℕ → ℕ → Type 0
Stands now o a = (n : ℕ) → n ≤ cap → leb n a ≡ kept_since o now n

leb_to : (m n i j : ℕ) → leb m n ≡ leb i j → m ≤ n → i ≤ j
leb_to m n i j e h = leb-true i j (sym e ∙ le-leb m n h)

stands_older : (now : ℕ) (o : Option ℕ) (a : ℕ) → Stands now o a → Stands (suc now) o (min cap (suc a))
stands_older now none a h n i = le-leb n (min cap (suc a)) (let z = leb-true cap a (h cap (omega arith)) in omega arith)
stands_older now (some s) a h zero i =
    leb_both 0 (min cap (suc a)) (s + 0) (suc now)
    (λ f. let y = leb_to 0 a (s + 0) now (h 0 i) (omega arith) in omega arith)
    (λ g. omega arith)
stands_older now (some s) a h (suc n) i =
    leb_both (suc n) (min cap (suc a)) (s + suc n) (suc now)
    (λ f. let y = leb_to n a (s + n) now (h n (omega arith)) (omega arith) in omega arith)
    (λ g. let y = leb_to (s + n) now n a (sym (h n (omega arith))) (omega arith) in omega arith)

stands_next : (f : Bool) (now : ℕ) (o : Option ℕ) (a : ℕ) → Stands now o a → Stands (suc now) (cond f (some now) o) (cond f 1 (min cap (suc a)))
stands_next true now o a h n i = leb_both n 1 (now + n) (suc now) (λ f. omega arith) (λ g. omega arith)
stands_next false now o a h n i = stands_older now o a h n i

-- what the sequencer keeps, beside the device's log
pub record Agrees (p : Past) (l : Log) : Type 0 where
  pub aged : Aged p
  pub programmed : p.programmed ≡ is_some (last mode_register l.past)
  pub ages : (d : Distance) → Known d → (n : ℕ) → n ≤ cap → leb n (age_of p d) ≡ kept_since (last d l.past) l.now n
  pub rows : (b : ℕ) → b < 4 → row_at p b ≡ open_row l.past b
  pub falling : Falling l.now l.past

-- so the two views are alike, whatever the distances of the configuration
pub alike : {c : Config} {p : Past} {l : Log} → Accepted c → Agrees p l → Alike (by_ages c p) (by_history c l)
alike {c} n a = record { programmed = a.programmed; opened = λ b h. ap is_some (a.rows b h); kept = λ d h. a.ages d h (slots_of c d) (reached n d) }

-- and a command is legal by the one exactly where it is by the other
pub same_verdict : {c : Config} {p : Past} {l : Log} → Accepted c → Agrees p l → (k : Command) → legal_of c (by_ages c p) k ≡ allowed c l k
same_verdict {c} n a k = legal_same (alike n a) c n.shaped k

fresh_row : (b : ℕ) → b < 4 → row_at fresh_of b ≡ none
unfolding fresh_of open_rows row_in open_in
fresh_row b h = four_banks (λ n. row_at fresh_of n ≡ none) refl refl refl refl b h

pub agrees_fresh : Agrees fresh_of start_log
unfolding fresh_of start_log last open_row Falling
agrees_fresh = record {
  aged = aged_fresh;
  programmed = refl;
  ages = λ d h n i. rw (fresh_age d h) (le-leb n cap i);
  rows = fresh_row;
  falling = tt;
}

some_programmed : (f : Bool) (now : ℕ) (o : Option ℕ) (t : Bool) → t ≡ is_some o → cond f true t ≡ is_some (cond f (some now) o)
some_programmed true now o t e = refl
some_programmed false now o t e = e

agrees_slot : {p : Past} {l : Log} → Agrees p l → (k : Command) (g : History) → Follows k l.now l.past g
    → Agrees (sent_of p k) (record { now = suc l.now; past = g })
unfolding sent_of
agrees_slot {p} {l} a k g w = record {
  aged = aged_sent p k;
  programmed = rw (w.lasts mode_register) (some_programmed (starts mode_register k) l.now (last mode_register l.past) p.programmed a.programmed);
  ages = λ d h n i. rw (sent_age p k d h, w.lasts d) (stands_next (starts d k) l.now (last d l.past) (age_of p d) (a.ages d h) n i);
  rows = λ b h. rw (sent_row p k b h, w.rows b, a.rows b h);
  falling = w.falling a.falling;
}

-- a legal command is sent, and any other counts as not sent, on both sides
pub agrees_step : {c : Config} {p : Past} {l : Log} → Accepted c → Agrees p l → (k : Command) → Agrees (tried_of c p k) (fed c l k)
unfolding tried_of carried_of fed
agrees_step {c} {p} {l} n a k = rw (same_verdict n a k) (go (allowed c l k))
  where
    go : (t : Bool) → Agrees (sent_of p (cond t k Nop)) (record { now = suc l.now; past = cond t (record { slot = l.now; command = k } ∷ l.past) l.past })
    go true = agrees_slot a k _ (sent_follows k l.now l.past)
    go false = agrees_slot a Nop _ (idle_follows l.now l.past)

-- the slot after a legal command
pub agrees_sent : {c : Config} {p : Past} {l : Log} → Accepted c → Agrees p l → (k : Command) → legal_of c (by_ages c p) k ≡ true → Agrees (sent_of p k) (fed c l k)
unfolding tried_of carried_of
agrees_sent {c} {p} {l} n a k e = rw e at (agrees_step n a k)
