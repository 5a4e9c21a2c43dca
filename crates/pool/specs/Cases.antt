-- Request A1, "P, and worked cases": P and the messages beside it, in one table.
use Rattle.std.specs.Prelude.{ℕ, ◌≡◌, List, [], ◌∷◌, map, length, replicate}
use Prim.Native.String.{String}
use Rattle.lines.specs.Verdicts.{refused}
use Rattle.format.specs.Changes.{ended, without, with, behind, exchanged}
use Rattle.format.specs.Reading.{verdict_of, read_of}
use Rattle.format.specs.Plain.{plain_of}
use Rattle.pool_values.specs.Pool.{pool}
use Rattle.pool_values.specs.Cases.{p as trade_of_p}

unfoldable pub p : List String
p =
    "" ∷ "0017" ∷ "515/000/DTCY" ∷ "MBSCPNET"
    ∷ ":16R:GENL"
    ∷ ":20C::SEME//0008"
    ∷ ":23G:NEWM"
    ∷ ":22F::TRTR/DTCY/CASH"
    ∷ ":16R:LINK"
    ∷ ":20C::MAST//0017"
    ∷ ":16S:LINK"
    ∷ ":16S:GENL"
    ∷ ":16R:CONFDET"
    ∷ ":98C::TRAD//20240229000000"
    ∷ ":98A::SETT//20240313"
    ∷ ":90A::DEAL//PRCT/99,50"
    ∷ ":19A::SETT//USD0,00"
    ∷ ":22H::BUSE//BUYI"
    ∷ ":22F::PROC/DTCY/INST"
    ∷ ":22H::PAYM//APMT"
    ∷ ":16R:CONFPRTY"
    ∷ ":95R::SELL/DTCY/PART0015"
    ∷ ":16S:CONFPRTY"
    ∷ ":16R:CONFPRTY"
    ∷ ":95R::BUYR/DTCY/PART0017"
    ∷ ":16S:CONFPRTY"
    ∷ ":36B::CONF//FAMT/0001000000,"
    ∷ ":35B:/US/01F070633"
    ∷ ":16R:FIA"
    ∷ ":13B::POOL/DTCY/123456"
    ∷ ":16S:FIA"
    ∷ ":70E::TPRO//DTCY/TDSVPOOL/CDRY/DDTE20240313"
    ∷ ":16S:CONFDET"
    ∷ "-"
    ∷ []

-- P with the header of our own profile
unfoldable pub ours : List String
ours = with 3 "515/000/GSCC" (with 4 "MBSCTRRS" p)

-- P with another 19A, another narrative, another kind
abbrev money : String → List String → List String
money usd m = with 17 usd m

abbrev narrative : String → List String → List String
narrative told m = with 32 told m

abbrev kind : String → List String → List String
kind word m = with 19 word m

-- the bare narrative, which every kind but TDDK may have
abbrev bare : List String
bare = narrative ":70E::TPRO//DTCY/TDSVPOOL" p

abbrev link : String → List String
link reference = ":16R:LINK" ∷ reference ∷ ":16S:LINK" ∷ []

-- P as a TDDK, behind its lines 9 to 11, which a LINK stands in
abbrev refusing : String → List String
refusing told =
    behind 22 (":20C::PROC//1" ∷ []) (narrative told (kind ":22F::PROC/DTCY/TDDK" p))

abbrev unlinked : List String → List String
unlinked m = without 9 (without 10 (without 11 m))

-- a message, and the number and line that it gets
unfoldable pub cases : List (List String × ℕ × ℕ)
cases =
    (p, 0, 0)
    -- the header
    ∷ (ours, 4, 3)
    ∷ (with 3 "515/000/GSCC" p, 4, 3)
    ∷ (with 4 "MBSCTRRS" p, 4, 4)
    -- lines that fit no slot here, and a fixed text of our own
    ∷ (behind 7 (":98C::PREP//20240229093000" ∷ []) p, 8, 8)
    ∷ (behind 22 (":70C::PACO//DTCY/TDIDA" ∷ []) p, 8, 23)
    ∷ (with 8 ":22F::TRTR/GSCC/CASH" p, 10, 8)
    -- 19A
    ∷ (without 17 p, 0, 0)
    ∷ (money ":19A::SETT//USD0," p, 0, 0)
    ∷ (money ":19A::SETT//USD0012,500" p, 0, 0)
    ∷ (money ":19A::SETT//USD" p, 11, 17)
    ∷ (money ":19A::SETT//USD1" p, 11, 17)
    ∷ (money ":19A::SETT//USDN1," p, 11, 17)
    ∷ (money ":19A::SETT//NUSD1," p, 10, 17)
    ∷ (money ":19A::SETT//EUR1," p, 10, 17)
    ∷ (behind 17 (":19A::SETT//USD0,00" ∷ []) p, 8, 18)
    ∷ (exchanged 16 p, 9, 16)
    ∷ (without 17 (behind 18 (":19A::SETT//USD0,00" ∷ []) p), 8, 18)
    ∷ (money ":19A::LOCO//USD1," p, 8, 17)
    -- FIA, and 70E left out
    ∷ (without 29 (without 30 (without 31 p)), 0, 0)
    ∷ (without 30 p, 9, 30)
    ∷ (without 32 p, 9, 32)
    -- the narrative
    ∷ (bare, 0, 0)
    ∷ (narrative ":70E::TPRO//DTCY/TDSVSBOD" p, 10, 32)
    ∷ (narrative ":70E::TPRO//DTCY/TDSVPOOL/GUPP0" p, 10, 32)
    ∷ (narrative ":70E::TPRO//DTCY/TDSVPOOL/DDTE20240313/CDRY" p, 10, 32)
    ∷ (narrative ":70E::TPRO//DTCY/TDSVPOOL/CDRYY" p, 10, 32)
    ∷ (narrative ":70E::TPRO//DTCY/TDSVPOOL/DDTE20230229" p, 12, 32)
    ∷ (narrative ":70E::TPRO//DTCY/TDSVPOOL/DDTE" p, 12, 32)
    ∷ (narrative ":70E::TPRO//DTCY/TDSVPOOL/DDTE202403131" p, 12, 32)
    ∷ (narrative ":70E::TPRO//DTCY/TDSVPOOL/DDTE2024031" p, 12, 32)
    ∷ (narrative ":70E::TPRO//DTCY/TDSVPOOL/DDTE20230229/DKRSE00" p, 10, 32)
    ∷ (narrative ":70E::TPRO//DTCY/TDSVPOOL/DDTE/20240313" p, 10, 32)
    ∷ (narrative ":70E::TPRO//DTCY/TDSVPOOL/DDTE20230229" (with 27 ":36B::CONF//FAMT/0," p), 12, 32)
    ∷ (narrative ":70E::TPRO//DTCY/TDSVPOOL/DDTE00010101" p, 0, 0)
    ∷ (narrative ":70E::TPRO//DTCY/TDSVPOOL/DKRSE004" p, 15, 0)
    -- the kinds
    ∷ (kind ":22F::PROC/DTCY/CASE" p, 10, 19)
    ∷ (kind ":22F::PROC/GSCC/INST" p, 10, 19)
    ∷ (kind ":22F::PROC/DTCY/CDRQ" bare, 0, 0)
    ∷ (kind ":22F::PROC/DTCY/CDRL" bare, 0, 0)
    ∷ (kind ":22F::PROC/DTCY/CDRQ" p, 0, 0)
    ∷ (behind 11 (link ":20C::LIST//1") (kind ":22F::PROC/DTCY/CDRQ" bare), 0, 0)
    ∷ (behind 11 (link ":20C::PREV//1") (kind ":22F::PROC/DTCY/CDRQ" bare), 15, 0)
    ∷ (unlinked (kind ":22F::PROC/DTCY/CDRQ" bare), 14, 0)
    ∷ (with 7 ":23G:CANC" (kind ":22F::PROC/DTCY/CDRQ" bare), 13, 0)
    ∷ (kind ":22F::PROC/DTCY/MDFC" p, 0, 0)
    ∷ (behind 11 (link ":20C::LIST//1") p, 15, 0)
    ∷ (unlinked (refusing ":70E::TPRO//DTCY/TDSVPOOL/DDTE20240313/DKRSE004"), 0, 0)
    ∷ (with 10 ":20C::MAST//NONREF" (refusing ":70E::TPRO//DTCY/TDSVPOOL/DDTE20240313/DKRSE004"), 0, 0)
    ∷ (behind 11 (link ":20C::PREV//1") (refusing ":70E::TPRO//DTCY/TDSVPOOL/DDTE20240313/DKRSE004"), 15, 0)
    ∷ (unlinked (refusing ":70E::TPRO//DTCY/TDSVPOOL/DDTE20240313"), 14, 0)
    ∷ (unlinked (refusing ":70E::TPRO//DTCY/TDSVPOOL/CDRY/DDTE20240313/DKRSE004"), 15, 0)
    ∷ (with 7 ":23G:CANC" (behind 11 (link ":20C::PREV//NONREF") (kind ":22F::PROC/DTCY/CANC" bare)), 0, 0)
    -- par and settlement
    ∷ (with 27 ":36B::CONF//FAMT/0," p, 16, 0)
    ∷ (with 15 ":98A::SETT//20240228" p, 17, 0)
    ∷ []

-- the money as zero, as it stands in P and as it is tidied
abbrev zeros : List (List String)
zeros = p ∷ money ":19A::SETT//USD0," p ∷ []

-- each message gets the number and line beside it; P's record, with LF and with CR LF and with the money tidied, is that of pool_values'
-- table; P has 580 bytes, and its plain form 574
pub record Answered : Type 0 where
  pub verdicts : map (λ row. verdict_of pool (ended "\n" row.0)) cases ≡ map (λ row. refused row.1 row.2) cases
  pub endings : map (λ ending. read_of pool (ended ending p)) ("\n" ∷ "\r\n" ∷ []) ≡ replicate 2 (record { number = 0; line = 0; held = trade_of_p })
  pub tidied : map (λ m. read_of pool (ended "\r\n" m)) zeros ≡ replicate 2 (record { number = 0; line = 0; held = trade_of_p })
  pub lengths : (length (ended "\r\n" p) ≡ 580) × (length (plain_of pool (ended "\r\n" p)) ≡ 574)
