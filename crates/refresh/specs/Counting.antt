-- The interval counter and the backlog (document 01, "Start", "A service slot"), and the expiries that the third condition
-- counts ("The third condition in full").
use Rattle.std.specs.Prelude.{ℕ, zero, suc, ◌+◌, ◌-◌, ◌%◌, Bool, cond, ◌&&◌, leb, ltb, eqb}
use Rattle.refresh.specs.declared.Counters.{Counters}

-- the counters as the first service slot finds them
unfoldable pub start_of : ℕ → Counters
start_of rr = record { interval = rr; backlog = 0 }

-- falling by one, the interval counter comes to zero; a sound record never has 0 before, which is taken for 1
abbrev pub expires_of : Counters → Bool
expires_of c = leb c.interval 1

-- one refresh more is owed, 15 at most
abbrev pub raised_of : ℕ → ℕ
raised_of b = cond (ltb b 15) (b + 1) 15

-- the first step of a service slot: the interval falls by one, or is reloaded and the backlog rises
unfoldable pub tick_of : Counters → ℕ → Counters
tick_of c rr =
    cond (expires_of c)
    (record { interval = rr; backlog = raised_of c.backlog })
    (record { interval = c.interval - 1; backlog = c.backlog })

-- a service REFR is sent: the backlog falls by one; a backlog of 0, which a record made by calls never has there, stays
unfoldable pub refreshed_of : Counters → Counters
refreshed_of c =
    cond (eqb c.backlog 0)
    c
    (record { interval = c.interval; backlog = c.backlog - 1 })

-- in how many of the first n service slots an interval expires: in every rr-th
unfoldable pub expiries_of : ℕ → ℕ → ℕ
expiries_of rr zero = 0
expiries_of rr (suc n) = cond (eqb (suc n % rr) 0) (expiries_of rr n + 1) (expiries_of rr n)

-- soundness of the counters, their part of the test for number 9: the interval is 1 to RR, the backlog 15 at most
unfoldable pub sound_counters : ℕ → Counters → Bool
sound_counters rr c = leb 1 c.interval && (leb c.interval rr && leb c.backlog 15)
