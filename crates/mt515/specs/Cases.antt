-- Document 01, "B and its neighbours": B, the neighbours that are marked to be proved, and those beside them, in one table.
use Rattle.std.specs.Prelude.{ℕ, ◌≡◌, List, [], ◌∷◌, map, take, drop, replicate}
use Prim.Native.String.{String}
use Rattle.text.specs.Bytes.{bytes}
use Rattle.text.specs.Texts.{text_of}
use Rattle.lines.specs.Verdicts.{refused}
use Rattle.format.specs.Changes.{ended, without, with, behind, exchanged}
use Rattle.format.specs.Reading.{verdict_of, read_of}
use Rattle.trade.specs.declared.Trade.{Trade}
use Rattle.values.specs.Mt515.{mt515}
use Rattle.values.specs.Cases.{b as trade_of_b}

unfoldable pub b : List String
b =
    "" ∷ "0017" ∷ "515/000/GSCC" ∷ "MBSCTRRS"
    ∷ ":16R:GENL"
    ∷ ":20C::SEME//0008"
    ∷ ":23G:NEWM"
    ∷ ":22F::TRTR/GSCC/CASH"
    ∷ ":16R:LINK"
    ∷ ":20C::MAST//0017"
    ∷ ":16S:LINK"
    ∷ ":16S:GENL"
    ∷ ":16R:CONFDET"
    ∷ ":98C::TRAD//20240229093000"
    ∷ ":98A::SETT//20240313"
    ∷ ":90A::DEAL//PRCT/99,50"
    ∷ ":22H::BUSE//BUYI"
    ∷ ":22F::PROC/GSCC/INST"
    ∷ ":22H::PAYM//APMT"
    ∷ ":16R:CONFPRTY"
    ∷ ":95R::SELL/GSCC/PART0015"
    ∷ ":16S:CONFPRTY"
    ∷ ":16R:CONFPRTY"
    ∷ ":95R::BUYR/GSCC/PART0017"
    ∷ ":16S:CONFPRTY"
    ∷ ":36B::CONF//FAMT/0001000000,"
    ∷ ":35B:/US/01F070633"
    ∷ ":70E::TPRO//GSCC/TDSVSTIP"
    ∷ ":16S:CONFDET"
    ∷ "-"
    ∷ []

-- a message, and the number and line that it gets
unfoldable pub cases : List (List String × ℕ × ℕ)
cases =
    (b, 0, 0)
    ∷ (with 10 ":20C::MAST//17" b, 0, 0)
    ∷ (with 10 ":20C::MAST//15" b, 0, 0)
    ∷ (with 26 ":36B::CONF//FAMT/0017," b, 0, 0)
    ∷ (with 26 ":36B::CONF//FAMT/," b, 11, 26)
    ∷ (with 26 ":36B::CONF//FAMT/17" b, 11, 26)
    ∷ (with 26 ":36B::CONF//FAMT/1,2," b, 11, 26)
    ∷ (with 26 ":36B::CONF//FAMT/12345678901234," b, 0, 0)
    ∷ (with 26 ":36B::CONF//FAMT/123456789012345," b, 11, 26)
    ∷ (with 16 ":90A::DEAL//PRCT/0," b, 0, 0)
    ∷ (with 26 ":36B::CONF//FAMT/0,000" b, 16, 0)
    ∷ (with 14 ":98C::TRAD//20000229093000" b, 0, 0)
    ∷ (with 14 ":98C::TRAD//20230229093000" b, 12, 14)
    ∷ (with 14 ":98C::TRAD//19000229093000" b, 12, 14)
    ∷ (without 11 b, 6, 11)
    ∷ (without 27 b, 9, 27)
    ∷ (exchanged 14 b, 9, 14)
    ∷ (behind 11 (":16R:LINK" ∷ ":20C::MAST//0017" ∷ ":16S:LINK" ∷ []) b, 8, 13)
    ∷ (with 15 ":98A::SETT//20240229" b, 0, 0)
    ∷ (with 15 ":98A::SETT//20240228" b, 17, 0)
    ∷ (with 6 ":20C::SEME//ABCDEFGHIJKLMNOP" b, 0, 0)
    ∷ (with 6 ":20C::SEME//ABCDEFGHIJKLMNOPQ" b, 10, 6)
    ∷ ("X" ∷ "-" ∷ [], 4, 2)
    ∷ []

-- no two records are the same
unfoldable pub Unlike : Trade → List Trade → Type 0
Unlike t [] = Unit
Unlike t (u ∷ us) = (t ≡ u → ⊥) × Unlike t us

unfoldable pub AllUnlike : List Trade → Type 0
AllUnlike [] = Unit
AllUnlike (t ∷ ts) = Unlike t ts × AllUnlike ts

-- the records of some rows
abbrev trades : List (List String × ℕ × ℕ) → List Trade
trades rows = map (λ row. (read_of mt515 (ended "\n" row.0)).held) rows

-- each message gets the number and line beside it; B's record, with LF and with CR LF, is that of values' table; MAST 0017, 17 and
-- 15 stay as they are written, and the three records are different; a par of `0017,` is 17
abbrev pub Answered : Type 0
Answered =
    (map (λ row. verdict_of mt515 (ended "\n" row.0)) cases ≡ map (λ row. refused row.1 row.2) cases)
    × (map (λ ending. read_of mt515 (ended ending b)) ("\n" ∷ "\r\n" ∷ []) ≡ replicate 2 (record { number = 0; line = 0; held = trade_of_b }))
    × (map (λ t. t.mast) (trades (take 3 cases)) ≡ map (λ s. text_of (bytes s)) ("0017" ∷ "17" ∷ "15" ∷ []))
    × AllUnlike (trades (take 3 cases))
    × (map (λ t. t.par) (trades (take 1 (drop 3 cases))) ≡ record { 0 = record { number = 17; decimals = 0 } } ∷ [])
