-- Document 01, "Plain form, and the record" and "Order in writing": the lines of B's record, which are B's with the buyer's
-- block first and tidied amounts; the lines of an MDFC that has every field at its widest, whose message has 822 bytes, the
-- longest there is; and what is answered at the edges of the room and for a record that may not be written.
use Rattle.std.specs.Prelude.{ℕ, ◌≡◌, List, [], ◌∷◌, map, Some}
use Prim.Native.String.{String}
use Rattle.text.specs.Bytes.{bytes}
use Rattle.text.specs.Texts.{text_of}
use Rattle.text.specs.Texts.{Text}
use Rattle.trade.specs.Records.{blank_trade}
use Rattle.trade.specs.declared.Kind.{Kind}
use Rattle.typed.specs.declared.Side.{Side}
use Rattle.trade.specs.declared.Service.{Service}
use Rattle.trade.specs.declared.Party.{Party}
use Rattle.trade.specs.declared.Trade.{Trade}
use Rattle.values.specs.Cases.{b}
use Rattle.message.specs.Messages.{lines_for}
use Rattle.message.specs.Writing.{write_number, write_length}

abbrev text : String → Text
text s = text_of (bytes s)

abbrev party : String → String → Party
party code trader = record { code = text code; reference = text ""; trader = text trader }

unfoldable pub broadest : Trade
broadest =
    record {
      password = text "PASSWORD0012";
      sender = text "SENDER08";
      seme = text "SEME000000000016";
      prep = record { date = record { 0 = 20240229 }; time = record { 0 = 93000 } };
      mast = text "MAST000000000016";
      prev = text "PREV000000000016";
      list = text "LIST000000000016";
      trad = record { date = record { 0 = 20240229 }; time = record { 0 = 93000 } };
      sett = record { 0 = 20240313 };
      price = record { 0 = record { number = 99999999999999; decimals = 13 } };
      side = Side.Buyi;
      kind = Kind.Mdfc;
      buyer = party "0017" "TRADER00000000000020";
      seller = party "0015" "TRADER00000000000020";
      par = record { 0 = record { number = 99999999999999; decimals = 0 } };
      cusip = text "01F070633";
      pool = text "POOL00009";
      service = Service.Stip;
      period = Some 0;
      reason = text "";
    }

-- a record, and the lines of its message
unfoldable pub messages : List (Trade × List String)
messages = (
  b,
  "" ∷ "0017" ∷ "515/000/GSCC" ∷ "MBSCTRRS"
      ∷ ":16R:GENL" ∷ ":20C::SEME//0008" ∷ ":23G:NEWM" ∷ ":22F::TRTR/GSCC/CASH"
      ∷ ":16R:LINK" ∷ ":20C::MAST//0017" ∷ ":16S:LINK" ∷ ":16S:GENL"
      ∷ ":16R:CONFDET" ∷ ":98C::TRAD//20240229093000" ∷ ":98A::SETT//20240313" ∷ ":90A::DEAL//PRCT/99,5" ∷ ":22H::BUSE//BUYI"
      ∷ ":22F::PROC/GSCC/INST" ∷ ":22H::PAYM//APMT"
      ∷ ":16R:CONFPRTY" ∷ ":95R::BUYR/GSCC/PART0017" ∷ ":16S:CONFPRTY"
      ∷ ":16R:CONFPRTY" ∷ ":95R::SELL/GSCC/PART0015" ∷ ":16S:CONFPRTY"
      ∷ ":36B::CONF//FAMT/1000000," ∷ ":35B:/US/01F070633" ∷ ":70E::TPRO//GSCC/TDSVSTIP" ∷ ":16S:CONFDET" ∷ "-" ∷ [],
)
    ∷ (
      broadest,
      "PASSWORD0012" ∷ "SENDER08" ∷ "515/000/GSCC" ∷ "MBSCTRRS"
          ∷ ":16R:GENL" ∷ ":20C::SEME//SEME000000000016" ∷ ":23G:NEWM" ∷ ":98C::PREP//20240229093000" ∷ ":22F::TRTR/GSCC/CASH"
          ∷ ":16R:LINK" ∷ ":20C::MAST//MAST000000000016" ∷ ":16S:LINK" ∷ ":16R:LINK" ∷ ":20C::PREV//PREV000000000016" ∷ ":16S:LINK"
          ∷ ":16R:LINK" ∷ ":20C::LIST//LIST000000000016" ∷ ":16S:LINK" ∷ ":16S:GENL"
          ∷ ":16R:CONFDET" ∷ ":98C::TRAD//20240229093000" ∷ ":98A::SETT//20240313" ∷ ":90A::DEAL//PRCT/9,9999999999999" ∷ ":22H::BUSE//BUYI"
          ∷ ":22F::PROC/GSCC/MDFC" ∷ ":22H::PAYM//APMT"
          ∷ ":16R:CONFPRTY" ∷ ":95R::BUYR/GSCC/PART0017" ∷ ":70C::PACO//GSCC/TDIDTRADER00000000000020" ∷ ":16S:CONFPRTY"
          ∷ ":16R:CONFPRTY" ∷ ":95R::SELL/GSCC/PART0015" ∷ ":70C::PACO//GSCC/TDIDTRADER00000000000020" ∷ ":16S:CONFPRTY"
          ∷ ":36B::CONF//FAMT/99999999999999," ∷ ":35B:/US/01F070633" ∷ ":16R:FIA" ∷ ":13B::POOL/GSCC/POOL00009" ∷ ":16S:FIA"
          ∷ ":70E::TPRO//GSCC/TDSVSTIP/GUPP0" ∷ ":16S:CONFDET" ∷ "-" ∷ [],
    )
    ∷ []

-- a record, the room for it, and the number and the length that are answered
unfoldable pub writes : List (Trade × ℕ × ℕ × ℕ)
writes =
    (broadest, 822, 0, 822)
    ∷ (broadest, 4096, 0, 822)
    ∷ (broadest, 821, 19, 0)
    ∷ (blank_trade, 822, 18, 0)
    ∷ (blank_trade, 0, 18, 0)
    ∷ []

-- each record has the lines beside it, and each write the answer
abbrev pub Answered : Type 0
Answered =
    (map (λ row. lines_for row.0) messages ≡ map (λ row. map bytes row.1) messages)
    × (map (λ row. write_number row.0 row.1) writes ≡ map (λ row. row.2) writes)
    × (map (λ row. write_length row.0 row.1) writes ≡ map (λ row. row.3) writes)
