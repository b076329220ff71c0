-- The rules as the walk asks for them: one of the rules 1 to 16 and one of the banks 0 to 3 at a time. Nothing here has to be believed: proofs/Grid.antt shows that it is
-- the table of crate `device`.
use Rattle.std.specs.Prelude.{ℕ, ◌+◌, ◌*◌, ◌^◌, Bool, true, cond, not, ◌&&◌, ◌||◌, List, eqb, ltb, leb, get_or}
use Rattle.address.specs.declared.Bank.{Bank}
use Rattle.address.specs.declared.Row.{Row}
use Rattle.address.specs.declared.Column.{Column}
use Rattle.config.specs.declared.Config.{Config}
use Rattle.command.specs.declared.Command.{Command}
use Rattle.command.specs.declared.Command.TheVariants.{Nop, Act, Read, Wrt, Pre, Deac, Refr, Mrs}
use Rattle.device.specs.Rules.{all_hold, R7}
use Rattle.stamps.specs.Stamps.{open_at, by_stamps}
use Rattle.tape_legality.specs.Tests.{settled_of, free_of}

-- R1 for a bank and a row or column
abbrev pub inside_of : ℕ → ℕ → ℕ → ℕ → Bool
inside_of own banks n width = ltb own (2 ^ banks) && ltb n (2 ^ width)

-- each command's rules
unfoldable pub act_holds : Config → List ℕ → ℕ → Bank → Row → ℕ → ℕ → Bool
act_holds c l now own row rule bank =
    cond (eqb rule 1) (inside_of own.0 c.geometry.banks row.0 c.geometry.rows)
    (cond (eqb rule 2) (settled_of c l now)
    (cond (eqb rule 3) (ltb 0 (get_or l 9 0))
    (cond (eqb rule 4) (not (eqb bank own.0) || not (open_at l bank))
    (cond (eqb rule 5) (not (eqb bank own.0) || leb (get_or l (4 + bank) 0 + c.rp) now)
    (cond (eqb rule 6) (not (eqb bank own.0) || leb (get_or l (0 + bank) 0 + c.rc) now)
    (cond (eqb rule 7) (not (eqb bank own.0) || all_hold (R7 (by_stamps c l now) own.0)) true))))))

unfoldable pub access_holds : Config → List ℕ → ℕ → Bank → Column → ℕ → ℕ → Bool
access_holds c l now own column rule bank =
    cond (eqb rule 1) (inside_of own.0 c.geometry.banks column.0 c.geometry.columns)
    (cond (eqb rule 2) (settled_of c l now)
    (cond (eqb rule 8) (not (eqb bank own.0) || open_at l bank)
    (cond (eqb rule 9) (not (eqb bank own.0) || leb (get_or l (0 + bank) 0 + c.rcd) now) true)))

unfoldable pub wrt_holds : Config → List ℕ → ℕ → Bank → Column → ℕ → ℕ → Bool
wrt_holds c l now own column rule bank = cond (eqb rule 10) (leb (get_or l 11 0 + (c.latency + 2)) now) (access_holds c l now own column rule bank)

unfoldable pub pre_holds : Config → List ℕ → ℕ → Bank → ℕ → ℕ → Bool
pre_holds c l now own rule bank =
    cond (eqb rule 1) (ltb own.0 (2 ^ c.geometry.banks))
    (cond (eqb rule 2) (settled_of c l now)
    (cond (eqb rule 11) (not (eqb bank own.0) || open_at l bank)
    (cond (eqb rule 12) (not (eqb bank own.0) || leb (get_or l (0 + bank) 0 + c.ras) now)
    (cond (eqb rule 13) (not (eqb bank own.0) || leb (get_or l (12 + bank) 0 + c.wr) now) true))))

unfoldable pub deac_holds : Config → List ℕ → ℕ → ℕ → ℕ → Bool
deac_holds c l now rule bank =
    cond (eqb rule 2) (settled_of c l now)
    (cond (eqb rule 12) (free_of l 0 c.ras now bank)
    (cond (eqb rule 13) (free_of l 12 c.wr now bank) true))

unfoldable pub rest_holds : Config → List ℕ → ℕ → ℕ → ℕ → Bool
rest_holds c l now rule bank =
    cond (eqb rule 2) (settled_of c l now)
    (cond (eqb rule 14) (not (open_at l bank))
    (cond (eqb rule 15) (leb (get_or l 10 0 + c.rp) now) true))

unfoldable pub refr_holds : Config → List ℕ → ℕ → ℕ → ℕ → Bool
refr_holds c l now rule bank = cond (eqb rule 16) (leb (get_or l bank 0 + c.rc) now) (rest_holds c l now rule bank)

unfoldable pub mrs_holds : Config → List ℕ → ℕ → ℕ → ℕ → ℕ → Bool
mrs_holds c l now word rule bank = cond (eqb rule 1) (eqb word (16 * c.latency)) (rest_holds c l now rule bank)

unfoldable pub holds_of : Config → List ℕ → ℕ → Command → ℕ → ℕ → Bool
holds_of c l now Nop rule bank = true
holds_of c l now (Act b r) rule bank = act_holds c l now b r rule bank
holds_of c l now (Read b k) rule bank = access_holds c l now b k rule bank
holds_of c l now (Wrt b k x) rule bank = wrt_holds c l now b k rule bank
holds_of c l now (Pre b) rule bank = pre_holds c l now b rule bank
holds_of c l now Deac rule bank = deac_holds c l now rule bank
holds_of c l now Refr rule bank = refr_holds c l now rule bank
holds_of c l now (Mrs w) rule bank = mrs_holds c l now w rule bank

-- the bank that is named
unfoldable pub named_of : ℕ → ℕ → ℕ
named_of rule bank =
    cond (eqb rule 1) 0
    (cond (eqb rule 2) 0
    (cond (eqb rule 3) 0
    (cond (eqb rule 10) 0
    (cond (eqb rule 15) 0 bank))))
