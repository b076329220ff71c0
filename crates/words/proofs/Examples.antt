-- Document 01's figures about the register words, computed.
use Prim.Native.Nat.{ℕ, zero, suc, ◌+◌}
use mathlib.Core.Path.{◌≡◌, refl}
use mathlib.Core.List.{List, [], ◌∷◌, ◌++◌, map}
use lib.ListN.{replicate}
use lib.Dec.{leb, ltb}
use mathlib.Core.Bool.{cond}
use Rattle.words.specs.Words.{Bits, field_of, NM, CL, IBANK, PAGESIZE, ROWSIZE, RR, T_RFC, T_RP, T_RCD, T_WR, T_RAS, T_RC, T_RRD, cfg_reserved, row_reserved, ref_reserved, tim_reserved}

-- how many of these fields hold bit i
abbrev pub holders : ℕ → List Bits → ℕ
holders i [] = 0
holders i (f ∷ fs) = cond (leb f.low i) (cond (ltb i (f.low + f.width)) 1 0) 0 + holders i fs

abbrev pub up_to : ℕ → List ℕ
up_to zero = []
up_to (suc n) = up_to n ++ (n ∷ [])

-- each of a word's 32 bits stands in one field, named or not
pub covered : map (λ w. map (λ i. holders i w) (up_to 32))
    ((NM ∷ CL ∷ IBANK ∷ PAGESIZE ∷ cfg_reserved)
    ∷ (ROWSIZE ∷ row_reserved)
    ∷ (RR ∷ ref_reserved)
    ∷ (T_RFC ∷ T_RP ∷ T_RCD ∷ T_WR ∷ T_RAS ∷ T_RC ∷ T_RRD ∷ tim_reserved)
    ∷ [])
    ≡ replicate 4 (replicate 32 1)
covered = refl

-- the numbers in the named fields: of words whose fields all differ, so that no two can be exchanged, and of E4's TIM
pub named : map (field_of 0x4612) (NM ∷ CL ∷ IBANK ∷ PAGESIZE ∷ []) ++ field_of 4 ROWSIZE ∷ field_of 185 RR ∷ []
    ++ map (field_of 0x63175a40) (T_RFC ∷ T_RP ∷ T_RCD ∷ T_WR ∷ T_RAS ∷ T_RC ∷ T_RRD ∷ [])
    ++ map (field_of 0x42215810) (T_RFC ∷ T_RP ∷ T_RCD ∷ T_WR ∷ T_RAS ∷ T_RC ∷ T_RRD ∷ [])
    ≡ 1 ∷ 3 ∷ 1 ∷ 2 ∷ 4 ∷ 185 ∷ 12 ∷ 3 ∷ 1 ∷ 7 ∷ 5 ∷ 10 ∷ 4 ∷ 8 ∷ 2 ∷ 2 ∷ 1 ∷ 5 ∷ 8 ∷ 1 ∷ []
named = refl
