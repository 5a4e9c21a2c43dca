-- The specimen at its edges: records with the lines that they are written as, which are read back as the same records; records that are
-- not in form; and messages that are refused.
use Rattle.std.specs.Prelude.{ℕ, ◌≡◌, List, [], ◌∷◌, ◌++◌, map}
use Prim.Native.String.{String}
use Rattle.text.specs.Bytes.{bytes}
use Rattle.lines.specs.Verdicts.{refused}
use Rattle.lines.specs.Lines.{joined}
use Rattle.format.specs.Reading.{verdict_of, read_of}
use Rattle.format.specs.Writing.{lines_for, message_of, judge_of}
use Rattle.format.specs.Demands.{accepts}
use Rattle.format.specs.Specimen.{specimen}

-- a record by its values for SEME, CATB, SETT, MAST, PREV, SETR, LOCO, MTCH and REAS, behind those of the header
abbrev record_with : List String → List (List ℕ)
record_with vs = map bytes ("SECRET" ∷ "0017" ∷ "" ∷ "" ∷ vs)

-- the lines of a message by those behind the header
abbrev lines : List String → List (List ℕ)
lines ls = map bytes ("SECRET" ∷ "0017" ∷ "599/000/GSCC" ∷ "MBSCTRRS" ∷ ls)

-- ---- records, and their lines

unfoldable pub records : List (List String × List String)
records =
    -- all that there is
    (
      "0008" ∷ "PERU" ∷ "1000000," ∷ "17" ∷ "0017" ∷ "RPTO" ∷ "292,97" ∷ "RECOMPARED" ∷ "E004" ∷ [],
      ":16R:GENL" ∷ ":20C::SEME//0008" ∷ ":22F::CATB//PERU" ∷ ":19A::SETT//USD1000000,"
          ∷ ":16R:LINK" ∷ ":20C::MAST//17" ∷ ":16S:LINK" ∷ ":16R:LINK" ∷ ":20C::PREV//0017" ∷ ":16S:LINK" ∷ ":16S:GENL"
          ∷ ":16R:SETDET" ∷ ":22F::SETR//RPTO" ∷ ":16R:AMT" ∷ ":19A::LOCO//USD292,97" ∷ ":16S:AMT" ∷ ":16S:SETDET"
          ∷ ":16R:STAT" ∷ ":25D::MTCH//RECOMPARED" ∷ ":70D::REAS//E004" ∷ ":16S:STAT" ∷ "-" ∷ [],
    )
    -- nothing that need not stand
    ∷ ("0008" ∷ "" ∷ "" ∷ "" ∷ "" ∷ "" ∷ "" ∷ "" ∷ "" ∷ [], ":16R:GENL" ∷ ":20C::SEME//0008" ∷ ":16S:GENL" ∷ "-" ∷ [])
    -- CATB alone
    ∷ (
      "0008" ∷ "PERU" ∷ "" ∷ "" ∷ "" ∷ "" ∷ "" ∷ "" ∷ "" ∷ [],
      ":16R:GENL" ∷ ":20C::SEME//0008" ∷ ":22F::CATB//PERU" ∷ ":16S:GENL" ∷ "-" ∷ [],
    )
    -- SETT alone, and zero
    ∷ (
      "0008" ∷ "" ∷ "0," ∷ "" ∷ "" ∷ "" ∷ "" ∷ "" ∷ "" ∷ [],
      ":16R:GENL" ∷ ":20C::SEME//0008" ∷ ":19A::SETT//USD0," ∷ ":16S:GENL" ∷ "-" ∷ [],
    )
    -- one of the LINK blocks
    ∷ (
      "0008" ∷ "" ∷ "" ∷ "" ∷ "0017" ∷ "" ∷ "" ∷ "" ∷ "" ∷ [],
      ":16R:GENL" ∷ ":20C::SEME//0008" ∷ ":16R:LINK" ∷ ":20C::PREV//0017" ∷ ":16S:LINK" ∷ ":16S:GENL" ∷ "-" ∷ [],
    )
    -- the commission alone, with its fixed line and its block
    ∷ (
      "0008" ∷ "" ∷ "" ∷ "" ∷ "" ∷ "RPTO" ∷ "0,5" ∷ "" ∷ "" ∷ [],
      ":16R:GENL" ∷ ":20C::SEME//0008" ∷ ":16S:GENL"
          ∷ ":16R:SETDET" ∷ ":22F::SETR//RPTO" ∷ ":16R:AMT" ∷ ":19A::LOCO//USD0,5" ∷ ":16S:AMT" ∷ ":16S:SETDET" ∷ "-" ∷ [],
    )
    -- both amounts zero
    ∷ (
      "0008" ∷ "" ∷ "0," ∷ "" ∷ "" ∷ "RPTO" ∷ "0," ∷ "" ∷ "" ∷ [],
      ":16R:GENL" ∷ ":20C::SEME//0008" ∷ ":19A::SETT//USD0," ∷ ":16S:GENL"
          ∷ ":16R:SETDET" ∷ ":22F::SETR//RPTO" ∷ ":16R:AMT" ∷ ":19A::LOCO//USD0," ∷ ":16S:AMT" ∷ ":16S:SETDET" ∷ "-" ∷ [],
    )
    -- the status alone, with a word that another begins with, with that one, and with the longest
    ∷ (
      "0008" ∷ "" ∷ "" ∷ "" ∷ "" ∷ "" ∷ "" ∷ "NO" ∷ "E004" ∷ [],
      ":16R:GENL" ∷ ":20C::SEME//0008" ∷ ":16S:GENL" ∷ ":16R:STAT" ∷ ":25D::MTCH//NO" ∷ ":70D::REAS//E004" ∷ ":16S:STAT" ∷ "-" ∷ [],
    )
    ∷ (
      "0008" ∷ "" ∷ "" ∷ "" ∷ "" ∷ "" ∷ "" ∷ "NONE" ∷ "E004" ∷ [],
      ":16R:GENL" ∷ ":20C::SEME//0008" ∷ ":16S:GENL" ∷ ":16R:STAT" ∷ ":25D::MTCH//NONE" ∷ ":70D::REAS//E004" ∷ ":16S:STAT" ∷ "-" ∷ [],
    )
    ∷ (
      "0008" ∷ "" ∷ "" ∷ "" ∷ "" ∷ "" ∷ "" ∷ "UNCOMPARED TRADE" ∷ "E004" ∷ [],
      ":16R:GENL" ∷ ":20C::SEME//0008" ∷ ":16S:GENL" ∷ ":16R:STAT" ∷ ":25D::MTCH//UNCOMPARED TRADE" ∷ ":70D::REAS//E004" ∷ ":16S:STAT"
          ∷ "-" ∷ [],
    )
    ∷ []

-- ---- records that are not in form

unfoldable pub outside : List (List String)
outside =
    -- SEME absent
    ("" ∷ "" ∷ "" ∷ "" ∷ "" ∷ "" ∷ "" ∷ "" ∷ "" ∷ [])
    -- another word for CATB
    ∷ ("0008" ∷ "PERX" ∷ "" ∷ "" ∷ "" ∷ "" ∷ "" ∷ "" ∷ "" ∷ [])
    -- an amount with needless noughts
    ∷ ("0008" ∷ "" ∷ "0,0" ∷ "" ∷ "" ∷ "" ∷ "" ∷ "" ∷ "" ∷ [])
    -- SETR without LOCO, LOCO without SETR
    ∷ ("0008" ∷ "" ∷ "" ∷ "" ∷ "" ∷ "RPTO" ∷ "" ∷ "" ∷ "" ∷ [])
    ∷ ("0008" ∷ "" ∷ "" ∷ "" ∷ "" ∷ "" ∷ "0," ∷ "" ∷ "" ∷ [])
    -- MTCH without REAS, REAS without MTCH
    ∷ ("0008" ∷ "" ∷ "" ∷ "" ∷ "" ∷ "" ∷ "" ∷ "NO" ∷ "" ∷ [])
    ∷ ("0008" ∷ "" ∷ "" ∷ "" ∷ "" ∷ "" ∷ "" ∷ "" ∷ "E004" ∷ [])
    -- a value too few, a value too many
    ∷ ("0008" ∷ "" ∷ "" ∷ "" ∷ "" ∷ "" ∷ "" ∷ "" ∷ [])
    ∷ ("0008" ∷ "" ∷ "" ∷ "" ∷ "" ∷ "" ∷ "" ∷ "" ∷ "" ∷ "" ∷ [])
    ∷ []

-- ---- messages that are refused, by their lines from the fifth on, with the number and the line

abbrev seme : List String
seme = ":16R:GENL" ∷ ":20C::SEME//0008" ∷ []

abbrev setdet : List String
setdet = ":16R:SETDET" ∷ ":22F::SETR//RPTO" ∷ ":16R:AMT" ∷ ":19A::LOCO//USD0," ∷ ":16S:AMT" ∷ ":16S:SETDET" ∷ []

unfoldable pub refusals : List (List String × ℕ × ℕ)
refusals =
    -- CATB with another word, with none, and behind SETT; SETT with no amount, and with another currency
    (seme ++ ":22F::CATB//PERX" ∷ ":16S:GENL" ∷ "-" ∷ [], 10, 7)
    ∷ (seme ++ ":22F::CATB//" ∷ ":16S:GENL" ∷ "-" ∷ [], 10, 7)
    ∷ (seme ++ ":19A::SETT//USD0," ∷ ":22F::CATB//PERU" ∷ ":16S:GENL" ∷ "-" ∷ [], 8, 8)
    ∷ (seme ++ ":19A::SETT//USD" ∷ ":16S:GENL" ∷ "-" ∷ [], 11, 7)
    ∷ (seme ++ ":19A::SETT//EUR0," ∷ ":16S:GENL" ∷ "-" ∷ [], 10, 7)
    -- SETDET without SETR, without AMT, without both, with another word, and twice
    ∷ (seme ++ ":16S:GENL" ∷ ":16R:SETDET" ∷ ":16R:AMT" ∷ ":19A::LOCO//USD0," ∷ ":16S:AMT" ∷ ":16S:SETDET" ∷ "-" ∷ [], 9, 9)
    ∷ (seme ++ ":16S:GENL" ∷ ":16R:SETDET" ∷ ":22F::SETR//RPTO" ∷ ":16S:SETDET" ∷ "-" ∷ [], 9, 10)
    ∷ (seme ++ ":16S:GENL" ∷ ":16R:SETDET" ∷ ":16S:SETDET" ∷ "-" ∷ [], 9, 9)
    ∷ (
      seme ++ ":16S:GENL" ∷ ":16R:SETDET" ∷ ":22F::SETR//RPTX" ∷ ":16R:AMT" ∷ ":19A::LOCO//USD0," ∷ ":16S:AMT" ∷ ":16S:SETDET" ∷ "-" ∷ [],
      10,
      9,
    )
    ∷ (seme ++ ":16S:GENL" ∷ (setdet ++ (setdet ++ "-" ∷ [])), 8, 14)
    -- AMT without LOCO, and LOCO with no amount
    ∷ (seme ++ ":16S:GENL" ∷ ":16R:SETDET" ∷ ":22F::SETR//RPTO" ∷ ":16R:AMT" ∷ ":16S:AMT" ∷ ":16S:SETDET" ∷ "-" ∷ [], 9, 11)
    ∷ (
      seme ++ ":16S:GENL" ∷ ":16R:SETDET" ∷ ":22F::SETR//RPTO" ∷ ":16R:AMT" ∷ ":19A::LOCO//USD" ∷ ":16S:AMT" ∷ ":16S:SETDET" ∷ "-" ∷ [],
      11,
      11,
    )
    -- STAT without MTCH, without REAS, with the beginning of a word, with more than a word, and before SETDET
    ∷ (seme ++ ":16S:GENL" ∷ ":16R:STAT" ∷ ":70D::REAS//E004" ∷ ":16S:STAT" ∷ "-" ∷ [], 9, 9)
    ∷ (seme ++ ":16S:GENL" ∷ ":16R:STAT" ∷ ":25D::MTCH//NO" ∷ ":16S:STAT" ∷ "-" ∷ [], 9, 10)
    ∷ (seme ++ ":16S:GENL" ∷ ":16R:STAT" ∷ ":25D::MTCH//PART" ∷ ":70D::REAS//E004" ∷ ":16S:STAT" ∷ "-" ∷ [], 10, 9)
    ∷ (seme ++ ":16S:GENL" ∷ ":16R:STAT" ∷ ":25D::MTCH//NON" ∷ ":70D::REAS//E004" ∷ ":16S:STAT" ∷ "-" ∷ [], 10, 9)
    ∷ (seme ++ ":16S:GENL" ∷ ":16R:STAT" ∷ ":25D::MTCH//NOY" ∷ ":70D::REAS//E004" ∷ ":16S:STAT" ∷ "-" ∷ [], 10, 9)
    ∷ (seme ++ ":16S:GENL" ∷ ":16R:STAT" ∷ ":25D::MTCH//NO" ∷ ":70D::REAS//E004" ∷ ":16S:STAT" ∷ (setdet ++ "-" ∷ []), 8, 12)
    ∷ []

pub record Answered : Type 0 where
  -- each record is in form and has the lines beside it, and its message is read as that record
  pub in-form : map (λ row. judge_of specimen (record_with row.0)) records ≡ map (λ row. 0) records
  pub lines_are : map (λ row. lines_for specimen (record_with row.0)) records ≡ map (λ row. lines row.1) records
  pub read_back : map (λ row. read_of specimen (message_of specimen (record_with row.0))) records ≡ map (λ row. accepts specimen (record_with row.0)) records
  -- each of the others gets 18
  pub out-of-form : map (λ row. judge_of specimen (record_with row)) outside ≡ map (λ row. 18) outside
  -- each message gets the number and line beside it
  pub refused-are : map (λ row. verdict_of specimen (joined (lines row.0))) refusals ≡ map (λ row. refused row.1 row.2) refusals
