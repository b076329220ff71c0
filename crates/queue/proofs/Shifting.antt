-- The loop of `shift`, said of the definition that it computes.
use Prim.Native.Nat.{ℕ, suc, ◌+◌, ◌-◌, ◌≤◌, ◌<◌}
use mathlib.Core.Path.{◌≡◌}
use mathlib.Core.List.{List}
use native.Mathlib.Omega.{arith}
use lib.ListN.{get_or, set}
use lib.Seq.{get_or-set_other}
use Rattle.queue.specs.Places.{shifting}

-- one turn of the loop: what it writes are none of the numbers that it reads later
abbrev pub moved : List ℕ → ℕ → List ℕ
moved l i =
    let a = set l i (get_or l (i + 1) 0) in
    let b = set a (8 + i) (get_or a (9 + i) 0) in
    set b (16 + i) (get_or b (17 + i) 0)

pub shifting_turn : (l : List ℕ) (i : ℕ) → i < 7 → shifting (7 - (i + 1)) (i + 1) (moved l i) ≡ shifting (7 - i) i l
shifting_turn l i h =
    let e : 7 - i ≡ suc (7 - (i + 1)) = omega arith in
    let a = set l i (get_or l (i + 1) 0) in
    simp (
      e,
      get_or-set_other l i (9 + i) (get_or l (i + 1) 0) 0 (λ e. omega arith),
      get_or-set_other a (8 + i) (17 + i) (get_or l (9 + i) 0) 0 (λ e. omega arith),
      get_or-set_other l i (17 + i) (get_or l (i + 1) 0) 0 (λ e. omega arith),
    )

-- and its end
pub shifting_end : (l : List ℕ) (i : ℕ) → 7 ≤ i → shifting 0 i l ≡ shifting (7 - i) i l
shifting_end l i h =
    let e : 7 - i ≡ 0 = omega arith in
    rw e
