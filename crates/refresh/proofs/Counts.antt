-- The counters slot by slot, and their expiries (document 01, "A service slot", "The third condition in full").
-- Slots and interval together are one interval more than have expired, and every law on expiries is read off that.
use mathlib.Core.Path.{◌≡◌, sym, ◌∙◌}
use mathlib.Core.Logic.{dite}
use mathlib.Core.Bool.{true, cond, ◌&&◌, and-eq-true_iff}
use Prim.Native.Nat.{ℕ, zero, suc, ◌+◌, ◌-◌, ◌*◌, ◌/◌, ◌%◌, ◌≤◌, ◌<◌}
use native.Mathlib.Nat.{add-mul, one-mul, add_right_comm, lt_of_not-le, mul-mod_left, mul-add-mod_self_right, mod-eq_of_lt, div-eq_of_lt-le}
use native.Mathlib.Numerals.{add-one}
use native.Mathlib.Decide.{dec_le}
use native.Mathlib.Omega.{arith}
use lib.Dec.{leb}
use borrow.Author.Tests.{eq-eqb, ne_eqb, le-leb, lt-leb, lt-ltb, le-ltb, leb-true}
use Rattle.refresh.specs.declared.Counters.{Counters}
use Rattle.refresh.specs.Counting.{start_of, tick_of, refreshed_of, expiries_of, sound_counters}

-- What a tick and a refresh do.

pub tick_stays :
    (c : Counters) (rr : ℕ) → 2 ≤ c.interval → tick_of c rr ≡ record { interval = c.interval - 1; backlog = c.backlog }
unfolding tick_of
tick_stays c rr h = simp (lt-leb c.interval 1 h)

pub tick_expires :
    (c : Counters) (rr : ℕ) → c.interval ≤ 1 → c.backlog < 15 →
    tick_of c rr ≡ record { interval = rr; backlog = c.backlog + 1 }
unfolding tick_of
tick_expires c rr h l = simp (le-leb c.interval 1 h, lt-ltb c.backlog 15 l)

pub tick_full :
    (c : Counters) (rr : ℕ) → c.interval ≤ 1 → 15 ≤ c.backlog →
    tick_of c rr ≡ record { interval = rr; backlog = 15 }
unfolding tick_of
tick_full c rr h l = simp (le-leb c.interval 1 h, le-ltb c.backlog 15 l)

pub refreshed_falls :
    (c : Counters) → 1 ≤ c.backlog → refreshed_of c ≡ record { interval = c.interval; backlog = c.backlog - 1 }
unfolding refreshed_of
refreshed_falls c h = simp (ne_eqb c.backlog 0 (λ e. omega arith))

pub refreshed_none : (c : Counters) → c.backlog ≡ 0 → refreshed_of c ≡ c
unfolding refreshed_of
refreshed_none c h = simp (eq-eqb c.backlog 0 h)

-- a tick either takes one from the interval or ends it
by_interval : {P : Type 0} (i : ℕ) → (i ≤ 1 → P) → (2 ≤ i → P) → P
by_interval i f g = dite (dec_le i 1) f (λ n. g (lt_of_not-le n))

-- The counters' bounds: the interval is 1 to RR, the backlog 15 at most.

pub record Bounded (rr : ℕ) (c : Counters) : Type 0 where
  pub low : 1 ≤ c.interval
  pub high : c.interval ≤ rr
  pub top : c.backlog ≤ 15

-- which is what the test says
pub sound_bounded : (rr : ℕ) (c : Counters) → sound_counters rr c ≡ true → Bounded rr c
unfolding sound_counters
sound_bounded rr c h =
    let p = (and-eq-true_iff (leb 1 c.interval) (leb c.interval rr && leb c.backlog 15)).0 h in
    let q = (and-eq-true_iff (leb c.interval rr) (leb c.backlog 15)).0 p.1 in
    record { low = leb-true _ _ p.0; high = leb-true _ _ q.0; top = leb-true _ _ q.1 }

pub bounded_sound : (rr : ℕ) (c : Counters) → Bounded rr c → sound_counters rr c ≡ true
unfolding sound_counters
bounded_sound rr c b = simp (le-leb _ _ b.low, le-leb _ _ b.high, le-leb _ _ b.top)

pub bounded_start : {rr : ℕ} → 1 ≤ rr → Bounded rr (start_of rr)
unfolding start_of
bounded_start h = record { low = h; high = omega arith; top = omega arith }

pub bounded_tick : {rr : ℕ} {c : Counters} → Bounded rr c → Bounded rr (tick_of c rr)
bounded_tick {rr} {c} b =
    by_interval c.interval
    (λ h. let r : 1 ≤ rr = omega arith in
    dite (dec_le 15 c.backlog)
    (λ l. rw (tick_full c rr h l) (record { low = r; high = omega arith; top = omega arith }))
    (λ l. let m = lt_of_not-le l in
    rw (tick_expires c rr h m) (record { low = r; high = omega arith; top = omega arith })))
    (λ h. rw (tick_stays c rr h) (record { low = omega arith; high = omega arith; top = b.top }))

pub bounded_refreshed : {rr : ℕ} {c : Counters} → Bounded rr c → Bounded rr (refreshed_of c)
unfolding refreshed_of
bounded_refreshed {rr} {c} b =
    dite (dec_le 1 c.backlog)
    (λ h. rw (refreshed_falls c h) (record { low = b.low; high = b.high; top = omega arith }))
    (λ h. rw (refreshed_none c (omega (arith, lt_of_not-le h))) b)

-- After n slots with e expiries the interval counter stands at i: the slots and what is left are e + 1 whole intervals.

pub record Counted (rr n e i : ℕ) : Type 0 where
  pub total : n + i ≡ (e + 1) * rr
  pub low : 1 ≤ i
  pub high : i ≤ rr

pub counted_start : {rr : ℕ} → 1 ≤ rr → Counted rr 0 0 rr
counted_start {rr} h = record { total = omega (arith, one-mul rr); low = h; high = omega arith }

pub counted_stays : {rr n e i : ℕ} → Counted rr n e i → 2 ≤ i → Counted rr (n + 1) e (i - 1)
counted_stays k h = record { total = omega (arith, k.total); low = omega arith; high = omega (arith, k.high) }

pub counted_expires : {rr n e i : ℕ} → Counted rr n e i → i ≤ 1 → Counted rr (n + 1) (e + 1) rr
counted_expires {rr} {n} {e} {i} k h =
    record {
      total = omega (arith, k.total, add-mul (e + 1) 1 rr, one-mul rr);
      low = omega (arith, k.low, k.high);
      high = omega arith;
    }

-- The bare interval counter: it expires in every rr-th slot.

unfoldable pub barely : ℕ → ℕ → ℕ
barely rr zero = rr
barely rr (suc n) = cond (leb (barely rr n) 1) rr (barely rr n - 1)

pub expiries_rises : {rr n e i : ℕ} → Counted rr n e i → i ≤ 1 → expiries_of rr (n + 1) ≡ expiries_of rr n + 1
unfolding expiries_of
expiries_rises {rr} {n} {e} {i} k h =
    let s : suc n ≡ (e + 1) * rr = omega (arith, k.total, k.low) in
    rw (add-one n, eq-eqb (suc n % rr) 0 (rw s (mul-mod_left (e + 1) rr)))

pub expiries_stays : {rr n e i : ℕ} → Counted rr n e i → 2 ≤ i → expiries_of rr (n + 1) ≡ expiries_of rr n
unfolding expiries_of
expiries_stays {rr} {n} {e} {i} k h =
    let s : suc n ≡ e * rr + (rr + 1 - i) = omega (arith, k.total, k.high, add-mul e 1 rr, one-mul rr) in
    let m : suc n % rr ≡ rr + 1 - i =
    rw s (mul-add-mod_self_right e rr (rr + 1 - i) ∙ mod-eq_of_lt (omega (arith, k.high))) in
    rw (add-one n, ne_eqb (suc n % rr) 0 (λ z. omega (arith, m, z, k.high)))

barely_next :
    {rr n : ℕ} → Counted rr n (expiries_of rr n) (barely rr n) →
    Counted rr (suc n) (expiries_of rr (suc n)) (barely rr (suc n))
unfolding barely
barely_next {rr} {n} k =
    rw (← add-one n)
    (by_interval (barely rr n)
    (λ h. rw (le-leb (barely rr n) 1 h, expiries_rises k h) (counted_expires k h))
    (λ h. rw (lt-leb (barely rr n) 1 h, expiries_stays k h) (counted_stays k h)))

pub counted_barely : {rr : ℕ} → 1 ≤ rr → (n : ℕ) → Counted rr n (expiries_of rr n) (barely rr n)
unfolding barely expiries_of
counted_barely h zero = counted_start h
counted_barely h (suc n) = barely_next (counted_barely h n)

counted_div : {rr n e i : ℕ} → Counted rr n e i → e ≡ n / rr
counted_div {rr} {n} {e} {i} k =
    sym
    (div-eq_of_lt-le rr
    (omega (arith, k.total, k.high, add-mul e 1 rr, one-mul rr))
    (omega (arith, k.total, k.low)))

pub expiries_div : {rr : ℕ} → 1 ≤ rr → (n : ℕ) → expiries_of rr n ≡ n / rr
expiries_div h n = counted_div (counted_barely h n)

pub counted_expiries : {rr n e i : ℕ} → Counted rr n e i → expiries_of rr n ≡ e
counted_expiries {rr} {n} k = expiries_div (omega (arith, k.low, k.high)) n ∙ sym (counted_div k)

-- Expiries less refreshes: after n slots and `sent` service REFRs the backlog is what is owed.

pub record Owed (rr n sent : ℕ) (c : Counters) : Type 0 where
  pub counted : Counted rr n (c.backlog + sent) c.interval

pub owed_start : {rr : ℕ} → 1 ≤ rr → Owed rr 0 0 (start_of rr)
unfolding start_of
owed_start h = record { counted = counted_start h }

pub owed_tick :
    {rr n sent : ℕ} {c : Counters} → Owed rr n sent c → c.backlog < 15 → Owed rr (n + 1) sent (tick_of c rr)
owed_tick {rr} {n} {sent} {c} o l =
    by_interval c.interval
    (λ h. rw (tick_expires c rr h l)
    (record { counted = rw (add_right_comm c.backlog 1 sent) (counted_expires o.counted h) }))
    (λ h. rw (tick_stays c rr h) (record { counted = counted_stays o.counted h }))

pub owed_refreshed :
    {rr n sent : ℕ} {c : Counters} → Owed rr n sent c → 1 ≤ c.backlog → Owed rr n (sent + 1) (refreshed_of c)
owed_refreshed {rr} {n} {sent} {c} o h =
    let s : c.backlog - 1 + (sent + 1) ≡ c.backlog + sent = omega arith in
    rw (refreshed_falls c h) (record { counted = rw s o.counted })

pub owed_total : {rr n sent : ℕ} {c : Counters} → Owed rr n sent c → c.backlog + sent ≡ expiries_of rr n
owed_total o = sym (counted_expiries o.counted)
