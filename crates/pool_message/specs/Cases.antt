-- Request A1, "P, and worked cases" and "Longest message": the lines of P's record, which are P's with the buyer's block first and tidied
-- amounts; for each kind a record with every field at its widest, and how long its message is; and what is answered at the edges of the
-- room.
use Rattle.std.specs.Prelude.{ℕ, ◌≡◌, Bool, true, false, List, [], ◌∷◌, map, length, Some}
use Prim.Native.String.{String}
use Rattle.text.specs.Bytes.{bytes}
use Rattle.text.specs.Texts.{text_of}
use Rattle.text.specs.Texts.{Text}
use Rattle.typed.specs.declared.Side.{Side}
use Rattle.format.specs.Writing.{lines_for, message_of, judge_of, write_number, write_length}
use Rattle.pool_trade.specs.Records.{blank_trade}
use Rattle.pool_trade.specs.declared.Kind.{Kind}
use Rattle.pool_trade.specs.declared.Party.{Party}
use Rattle.pool_trade.specs.declared.PoolTrade.{PoolTrade}
use Rattle.pool_values.specs.Pool.{pool}
use Rattle.pool_values.specs.Cases.{p}

abbrev text : String → Text
text s = text_of (bytes s)

abbrev party : String → String → Party
party code reference = record { code = text code; reference = text reference }

-- a record with every field at its widest, by what the kinds ask of: MAST, PREV, LIST, the seller's contra reference, CDRY and DKRS
unfoldable pub broad : Kind → String → String → String → String → Bool → String → PoolTrade
broad kind mast prev list contra cdr reason =
    record {
      kind = kind;
      password = text "PASSWORD0012";
      sender = text "SENDER08";
      seme = text "SEME000000000016";
      mast = text mast;
      prev = text prev;
      list = text list;
      trad = record { date = record { 0 = 20240229 }; time = record { 0 = 93000 } };
      sett = record { 0 = 20240313 };
      price = record { 0 = record { number = 99999999999999; decimals = 13 } };
      money = Some (record { 0 = record { number = 99999999999999; decimals = 13 } });
      side = Side.Buyi;
      buyer = party "0017" "";
      seller = party "0015" contra;
      par = record { 0 = record { number = 99999999999999; decimals = 0 } };
      cusip = text "01F070633";
      pool = text "POOL00009";
      cdr = cdr;
      delivery = Some (record { 0 = 20240313 });
      reason = text reason;
    }

unfoldable pub broadest : PoolTrade
broadest = broad Kind.Mdfc "MAST000000000016" "PREV000000000016" "LIST000000000016" "" true ""

-- a record, and how long its message is
unfoldable pub widest : List (PoolTrade × ℕ)
widest =
    (broad Kind.Inst "MAST000000000016" "" "" "" true "", 648)
    ∷ (broad Kind.Canc "MAST000000000016" "PREV000000000016" "LIST000000000016" "" true "", 752)
    ∷ (broadest, 752)
    ∷ (broad Kind.Tddk "MAST000000000016" "" "" "CONTRA0000000016" false "E004", 682)
    ∷ (broad Kind.Cdrq "MAST000000000016" "" "LIST000000000016" "" true "", 700)
    ∷ (broad Kind.Cdrl "MAST000000000016" "" "LIST000000000016" "" true "", 700)
    ∷ []

-- the lines of P's message
unfoldable pub lines_of_p : List String
lines_of_p =
    "" ∷ "0017" ∷ "515/000/DTCY" ∷ "MBSCPNET"
    ∷ ":16R:GENL" ∷ ":20C::SEME//0008" ∷ ":23G:NEWM" ∷ ":22F::TRTR/DTCY/CASH"
    ∷ ":16R:LINK" ∷ ":20C::MAST//0017" ∷ ":16S:LINK" ∷ ":16S:GENL"
    ∷ ":16R:CONFDET" ∷ ":98C::TRAD//20240229000000" ∷ ":98A::SETT//20240313" ∷ ":90A::DEAL//PRCT/99,5" ∷ ":19A::SETT//USD0," ∷ ":22H::BUSE//BUYI"
    ∷ ":22F::PROC/DTCY/INST" ∷ ":22H::PAYM//APMT"
    ∷ ":16R:CONFPRTY" ∷ ":95R::BUYR/DTCY/PART0017" ∷ ":16S:CONFPRTY"
    ∷ ":16R:CONFPRTY" ∷ ":95R::SELL/DTCY/PART0015" ∷ ":16S:CONFPRTY"
    ∷ ":36B::CONF//FAMT/1000000," ∷ ":35B:/US/01F070633"
    ∷ ":16R:FIA" ∷ ":13B::POOL/DTCY/123456" ∷ ":16S:FIA"
    ∷ ":70E::TPRO//DTCY/TDSVPOOL/CDRY/DDTE20240313" ∷ ":16S:CONFDET" ∷ "-" ∷ []

-- a record and the bytes of a buffer, with the number and the length of writing it there
unfoldable pub writes : List (PoolTrade × ℕ × ℕ × ℕ)
writes =
    (p, 752, 0, 574)
    ∷ (p, 574, 0, 574)
    ∷ (p, 573, 19, 0)
    ∷ (broadest, 752, 0, 752)
    ∷ (broadest, 751, 19, 0)
    ∷ (blank_trade, 752, 18, 0)
    ∷ []

pub record Answered : Type 0 where
  pub lines : lines_for pool p ≡ map bytes lines_of_p
  -- each of the widest may be written, and its message has as many bytes as stands beside it
  pub judged : map (λ row. judge_of pool row.0) widest ≡ map (λ row. 0) widest
  pub lengths : map (λ row. length (message_of pool row.0)) widest ≡ map (λ row. row.1) widest
  -- each write gets what stands beside it
  pub numbers : map (λ row. write_number pool row.0 row.1) writes ≡ map (λ row. row.2) writes
  pub written : map (λ row. write_length pool row.0 row.1) writes ≡ map (λ row. row.3) writes
