-- Document 01, "What the desk program prints" and "Plain form, and the record": B's record and an MDFC that has every field, with
-- what each has for every slot.
use Prim.Native.String.{String}
use Rattle.std.specs.Prelude.{◌≡◌, List, [], ◌∷◌, map, Some, None}
use Rattle.text.specs.Bytes.{bytes}
use Rattle.text.specs.Texts.{text_of}
use Rattle.text.specs.Texts.{Text}
use Rattle.trade.specs.declared.Kind.{Kind}
use Rattle.typed.specs.declared.Side.{Side}
use Rattle.trade.specs.declared.Service.{Service}
use Rattle.trade.specs.declared.Trade.{Trade}
use Rattle.values.specs.Values.{values}

abbrev text : String → Text
text s = text_of (bytes s)

unfoldable pub b : Trade
b =
    record {
      password = text "";
      sender = text "0017";
      seme = text "0008";
      prep = record { date = record { 0 = 0 }; time = record { 0 = 0 } };
      mast = text "0017";
      prev = text "";
      list = text "";
      trad = record { date = record { 0 = 20240229 }; time = record { 0 = 93000 } };
      sett = record { 0 = 20240313 };
      price = record { 0 = record { number = 995; decimals = 1 } };
      side = Side.Buyi;
      kind = Kind.Inst;
      buyer = record { code = text "0017"; reference = text ""; trader = text "" };
      seller = record { code = text "0015"; reference = text ""; trader = text "" };
      par = record { 0 = record { number = 1000000; decimals = 0 } };
      cusip = text "01F070633";
      pool = text "";
      service = Service.Stip;
      period = None;
      reason = text "";
    }

unfoldable pub full : Trade
full =
    record {
      password = text "PASSWORD0001";
      sender = text "GSCC0017";
      seme = text "0000000000000008";
      prep = record { date = record { 0 = 10101 }; time = record { 0 = 0 } };
      mast = text "0017";
      prev = text "17";
      list = text "000";
      trad = record { date = record { 0 = 20240229 }; time = record { 0 = 235959 } };
      sett = record { 0 = 99991231 };
      price = record { 0 = record { number = 1; decimals = 13 } };
      side = Side.Sell;
      kind = Kind.Mdfc;
      buyer = record { code = text "0015"; reference = text "R1"; trader = text "TRADER00000000000001" };
      seller = record { code = text "0017"; reference = text "0"; trader = text "T" };
      par = record { 0 = record { number = 99999999999999; decimals = 0 } };
      cusip = text "000000000";
      pool = text "POOL00001";
      service = Service.Tftd;
      period = Some 0;
      reason = text "E004";
    }

-- a record, and its values from slot 0 on
unfoldable pub cases : List (Trade × List String)
cases = (
  b,
  "" ∷ "0008" ∷ "NEWM" ∷ "" ∷ "0017" ∷ "" ∷ "" ∷ "20240229093000" ∷ "20240313" ∷ "99,5" ∷ "BUYI" ∷ "INST" ∷ "0017" ∷ "" ∷ ""
      ∷ "0015" ∷ "" ∷ "" ∷ "1000000," ∷ "01F070633" ∷ "" ∷ "/TDSVSTIP" ∷ "" ∷ "" ∷ "" ∷ "" ∷ "" ∷ "" ∷ "" ∷ "0017" ∷ [],
)
    ∷ (
      full,
      "" ∷ "0000000000000008" ∷ "NEWM" ∷ "00010101000000" ∷ "0017" ∷ "17" ∷ "000" ∷ "20240229235959" ∷ "99991231" ∷ "0,0000000000001"
          ∷ "SELL" ∷ "MDFC" ∷ "0015" ∷ "R1" ∷ "TRADER00000000000001" ∷ "0017" ∷ "0" ∷ "T" ∷ "99999999999999," ∷ "000000000" ∷ "POOL00001"
          ∷ "/TDSVTFTD/GUPP0/DKRSE004" ∷ "" ∷ "" ∷ "" ∷ "" ∷ "" ∷ "" ∷ "PASSWORD0001" ∷ "GSCC0017" ∷ [],
    )
    ∷ []

-- each record has the values beside it
abbrev pub Answered : Type 0
Answered = map (λ row. values row.0) cases ≡ map (λ row. map bytes row.1) cases
