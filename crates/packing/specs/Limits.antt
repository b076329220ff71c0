-- The test of the code of `packs_command`. Nothing here has to be believed: `packs_is` of proofs/Limits.antt shows that it is `packs_command`.
use Rattle.std.specs.Prelude.{ℕ, cond, eqb}

-- the words of each kind's commands lie below this
unfoldable pub limit_of : ℕ → ℕ
limit_of kind =
    cond (eqb kind 0) 1
    (cond (eqb kind 1) 4294967296
    (cond (eqb kind 2) 4294967296
    (cond (eqb kind 3) 281474976710656
    (cond (eqb kind 4) 65536
    (cond (eqb kind 5) 6
    (cond (eqb kind 6) 7
    (cond (eqb kind 7) 4294967296 0)))))))
