-- Request A1, "P, and worked cases": P's record and an MDFC that has every field that it may, with what each has for every slot.
use Prim.Native.String.{String}
use Rattle.std.specs.Prelude.{◌≡◌, true, List, [], ◌∷◌, map, Some}
use Rattle.text.specs.Bytes.{bytes}
use Rattle.text.specs.Texts.{text_of}
use Rattle.text.specs.Texts.{Text}
use Rattle.typed.specs.declared.Side.{Side}
use Rattle.pool_trade.specs.declared.Kind.{Kind}
use Rattle.pool_trade.specs.declared.PoolTrade.{PoolTrade}
use Rattle.pool_values.specs.Values.{values}

abbrev text : String → Text
text s = text_of (bytes s)

unfoldable pub p : PoolTrade
p =
    record {
      kind = Kind.Inst;
      password = text "";
      sender = text "0017";
      seme = text "0008";
      mast = text "0017";
      prev = text "";
      list = text "";
      trad = record { date = record { 0 = 20240229 }; time = record { 0 = 0 } };
      sett = record { 0 = 20240313 };
      price = record { 0 = record { number = 995; decimals = 1 } };
      money = Some (record { 0 = record { number = 0; decimals = 0 } });
      side = Side.Buyi;
      buyer = record { code = text "0017"; reference = text "" };
      seller = record { code = text "0015"; reference = text "" };
      par = record { 0 = record { number = 1000000; decimals = 0 } };
      cusip = text "01F070633";
      pool = text "123456";
      cdr = true;
      delivery = Some (record { 0 = 20240313 });
      reason = text "";
    }

unfoldable pub full : PoolTrade
full =
    record {
      kind = Kind.Mdfc;
      password = text "PASSWORD0012";
      sender = text "SENDER08";
      seme = text "SEME000000000016";
      mast = text "MAST000000000016";
      prev = text "PREV000000000016";
      list = text "LIST000000000016";
      trad = record { date = record { 0 = 20240229 }; time = record { 0 = 235959 } };
      sett = record { 0 = 99991231 };
      price = record { 0 = record { number = 1; decimals = 13 } };
      money = Some (record { 0 = record { number = 99999999999999; decimals = 13 } });
      side = Side.Sell;
      buyer = record { code = text "0015"; reference = text "" };
      seller = record { code = text "0017"; reference = text "" };
      par = record { 0 = record { number = 99999999999999; decimals = 0 } };
      cusip = text "01F070633";
      pool = text "POOL00009";
      cdr = true;
      delivery = Some (record { 0 = 10101 });
      reason = text "";
    }

-- a record, and its values from slot 0 on
unfoldable pub cases : List (PoolTrade × List String)
cases = (
  p,
  "" ∷ "0008" ∷ "NEWM" ∷ "0017" ∷ "" ∷ "" ∷ "20240229000000" ∷ "20240313" ∷ "99,5" ∷ "0," ∷ "BUYI" ∷ "INST" ∷ "0017" ∷ "" ∷ "0015" ∷ ""
      ∷ "1000000," ∷ "01F070633" ∷ "123456" ∷ "/TDSVPOOL/CDRY/DDTE20240313" ∷ "" ∷ "0017" ∷ [],
)
    ∷ (
      full,
      "" ∷ "SEME000000000016" ∷ "NEWM" ∷ "MAST000000000016" ∷ "PREV000000000016" ∷ "LIST000000000016" ∷ "20240229235959" ∷ "99991231"
          ∷ "0,0000000000001" ∷ "9,9999999999999" ∷ "SELL" ∷ "MDFC" ∷ "0015" ∷ "" ∷ "0017" ∷ "" ∷ "99999999999999," ∷ "01F070633" ∷ "POOL00009"
          ∷ "/TDSVPOOL/CDRY/DDTE00010101" ∷ "PASSWORD0012" ∷ "SENDER08" ∷ [],
    )
    ∷ []

-- each record has the values beside it
abbrev pub Answered : Type 0
Answered = map (λ row. values row.0) cases ≡ map (λ row. map bytes row.1) cases
