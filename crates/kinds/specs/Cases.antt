-- Document 01, "Kinds" and "B and its neighbours": what each kind must and may not have, par and settlement at their edges, and
-- which number comes first, in one table.
use Rattle.std.specs.Prelude.{ℕ, ◌≡◌, List, [], ◌∷◌, map, Option, Some, None}
use Prim.Native.String.{String}
use Rattle.text.specs.Bytes.{bytes}
use Rattle.text.specs.Texts.{text_of}
use Rattle.lines.specs.Verdicts.{refused}
use Rattle.trade.specs.Records.{blank_trade}
use Rattle.trade.specs.declared.Kind.{Kind}
use Rattle.typed.specs.declared.Side.{Side}
use Rattle.trade.specs.declared.Trade.{Trade}
use Rattle.kinds.specs.Kinds.{kinds_pass}

-- a trade of 20240229 by what the rules look at: kind, side, MAST, PREV, LIST, the buyer's and the seller's contra reference,
-- DKRS, GUPP, par and settlement
unfoldable pub trade : Kind → Side → String → String → String → String → String → String → Option ℕ → ℕ → ℕ → Trade
trade kind side mast prev list buyer seller reason period par sett =
    record {
      password = blank_trade.password;
      sender = blank_trade.sender;
      seme = blank_trade.seme;
      prep = blank_trade.prep;
      mast = text_of (bytes mast);
      prev = text_of (bytes prev);
      list = text_of (bytes list);
      trad = record { date = record { 0 = 20240229 }; time = record { 0 = 93000 } };
      sett = record { 0 = sett };
      price = blank_trade.price;
      side = side;
      kind = kind;
      buyer = record { code = blank_trade.buyer.code; reference = text_of (bytes buyer); trader = blank_trade.buyer.trader };
      seller = record { code = blank_trade.seller.code; reference = text_of (bytes seller); trader = blank_trade.seller.trader };
      par = record { 0 = record { number = par; decimals = 0 } };
      cusip = blank_trade.cusip;
      pool = blank_trade.pool;
      service = blank_trade.service;
      period = period;
      reason = text_of (bytes reason);
    }

-- 23G, a trade, and its number
unfoldable pub cases : List (String × Trade × ℕ)
cases =
    -- INST: MAST and GUPP alone
    ("NEWM", trade Kind.Inst Side.Buyi "0017" "" "" "" "" "" None 1000000 20240313, 0)
    ∷ ("NEWM", trade Kind.Inst Side.Sell "0017" "" "" "" "" "" (Some 0) 1000000 20240313, 0)
    ∷ ("NEWM", trade Kind.Inst Side.Buyi "" "" "" "" "" "" None 1000000 20240313, 14)
    ∷ ("NEWM", trade Kind.Inst Side.Buyi "0017" "R" "" "" "" "" None 1000000 20240313, 15)
    ∷ ("NEWM", trade Kind.Inst Side.Buyi "0017" "" "R" "" "" "" None 1000000 20240313, 15)
    ∷ ("NEWM", trade Kind.Inst Side.Buyi "0017" "" "" "R" "" "" None 1000000 20240313, 15)
    ∷ ("NEWM", trade Kind.Inst Side.Buyi "0017" "" "" "" "R" "" None 1000000 20240313, 15)
    ∷ ("NEWM", trade Kind.Inst Side.Buyi "0017" "" "" "" "" "E004" None 1000000 20240313, 15)
    -- CANC: LIST besides, and 23G CANC; 13 comes before 14
    ∷ ("CANC", trade Kind.Canc Side.Buyi "0017" "" "R" "" "" "" (Some 9) 1000000 20240313, 0)
    ∷ ("NEWM", trade Kind.Canc Side.Buyi "0017" "" "" "" "" "" None 1000000 20240313, 13)
    ∷ ("NEWM", trade Kind.Canc Side.Buyi "" "" "" "" "" "" None 1000000 20240313, 13)
    ∷ ("CANC", trade Kind.Canc Side.Buyi "" "" "" "" "" "" None 1000000 20240313, 14)
    ∷ ("CANC", trade Kind.Canc Side.Buyi "0017" "R" "" "" "" "" None 1000000 20240313, 15)
    ∷ ("CANC", trade Kind.Canc Side.Buyi "0017" "" "" "" "" "E004" None 1000000 20240313, 15)
    -- MDFC: PREV and LIST besides
    ∷ ("NEWM", trade Kind.Mdfc Side.Buyi "0017" "R" "R" "" "" "" (Some 9) 1000000 20240313, 0)
    ∷ ("CANC", trade Kind.Mdfc Side.Buyi "0017" "" "" "" "" "" None 1000000 20240313, 13)
    ∷ ("NEWM", trade Kind.Mdfc Side.Buyi "" "R" "R" "" "" "" None 1000000 20240313, 14)
    ∷ ("NEWM", trade Kind.Mdfc Side.Buyi "0017" "" "" "" "R" "" None 1000000 20240313, 15)
    -- TDDK: DKRS and the contra reference of the other side alone; 14 comes before 15
    ∷ ("NEWM", trade Kind.Tddk Side.Buyi "" "" "" "" "R" "E004" None 1000000 20240313, 0)
    ∷ ("NEWM", trade Kind.Tddk Side.Sell "" "" "" "R" "" "E004" None 1000000 20240313, 0)
    ∷ ("NEWM", trade Kind.Tddk Side.Buyi "" "" "" "R" "" "E004" None 1000000 20240313, 14)
    ∷ ("NEWM", trade Kind.Tddk Side.Sell "" "" "" "" "R" "E004" None 1000000 20240313, 14)
    ∷ ("NEWM", trade Kind.Tddk Side.Buyi "" "" "" "R" "R" "E004" None 1000000 20240313, 15)
    ∷ ("NEWM", trade Kind.Tddk Side.Buyi "" "" "" "" "R" "" None 1000000 20240313, 14)
    ∷ ("NEWM", trade Kind.Tddk Side.Buyi "0017" "" "" "" "R" "E004" None 1000000 20240313, 15)
    ∷ ("NEWM", trade Kind.Tddk Side.Buyi "" "R" "" "" "R" "E004" None 1000000 20240313, 15)
    ∷ ("NEWM", trade Kind.Tddk Side.Buyi "" "" "R" "" "R" "E004" None 1000000 20240313, 15)
    ∷ ("NEWM", trade Kind.Tddk Side.Buyi "" "" "" "" "R" "E004" (Some 0) 1000000 20240313, 15)
    -- par and settlement
    ∷ ("NEWM", trade Kind.Inst Side.Buyi "0017" "" "" "" "" "" None 0 20240313, 16)
    ∷ ("NEWM", trade Kind.Inst Side.Buyi "0017" "" "" "" "" "" None 1 20240229, 0)
    ∷ ("NEWM", trade Kind.Inst Side.Buyi "0017" "" "" "" "" "" None 1 20240228, 17)
    ∷ ("NEWM", trade Kind.Inst Side.Buyi "0017" "" "" "" "" "" None 0 20240228, 16)
    ∷ ("NEWM", trade Kind.Inst Side.Buyi "" "" "" "" "" "" None 0 20240228, 14)
    ∷ []

-- each trade gets the number beside it, and line 0
abbrev pub Answered : Type 0
Answered = map (λ row. kinds_pass (bytes row.0) row.1) cases ≡ map (λ row. refused row.2 0) cases
