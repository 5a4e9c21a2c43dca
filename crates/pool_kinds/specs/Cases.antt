-- Request A1, "Kinds": what each kind must and may not have, par and settlement at their edges, and which number comes first, in one
-- table.
use Rattle.std.specs.Prelude.{ℕ, ◌≡◌, Bool, true, false, List, [], ◌∷◌, map}
use Prim.Native.String.{String}
use Rattle.text.specs.Bytes.{bytes}
use Rattle.text.specs.Texts.{text_of}
use Rattle.lines.specs.Verdicts.{refused}
use Rattle.typed.specs.declared.Side.{Side}
use Rattle.pool_trade.specs.Records.{blank_trade}
use Rattle.pool_trade.specs.declared.Kind.{Kind}
use Rattle.pool_trade.specs.declared.PoolTrade.{PoolTrade}
use Rattle.pool_kinds.specs.Kinds.{kinds_pass}

-- a trade of 20240229 by what the rules look at: kind, side, MAST, PREV, LIST, the buyer's and the seller's contra reference, CDRY, DKRS,
-- par and settlement
unfoldable pub trade : Kind → Side → String → String → String → String → String → Bool → String → ℕ → ℕ → PoolTrade
trade kind side mast prev list buyer seller cdr reason par sett =
    record {
      kind = kind;
      password = blank_trade.password;
      sender = blank_trade.sender;
      seme = blank_trade.seme;
      mast = text_of (bytes mast);
      prev = text_of (bytes prev);
      list = text_of (bytes list);
      trad = record { date = record { 0 = 20240229 }; time = record { 0 = 93000 } };
      sett = record { 0 = sett };
      price = blank_trade.price;
      money = blank_trade.money;
      side = side;
      buyer = record { code = blank_trade.buyer.code; reference = text_of (bytes buyer) };
      seller = record { code = blank_trade.seller.code; reference = text_of (bytes seller) };
      par = record { 0 = record { number = par; decimals = 0 } };
      cusip = blank_trade.cusip;
      pool = blank_trade.pool;
      cdr = cdr;
      delivery = blank_trade.delivery;
      reason = text_of (bytes reason);
    }

-- 23G, a trade, and its number
unfoldable pub cases : List (String × PoolTrade × ℕ)
cases =
    -- INST: MAST, and CDRY may be
    ("NEWM", trade Kind.Inst Side.Buyi "0017" "" "" "" "" false "" 1000000 20240313, 0)
    ∷ ("NEWM", trade Kind.Inst Side.Sell "0017" "" "" "" "" true "" 1000000 20240313, 0)
    ∷ ("NEWM", trade Kind.Inst Side.Buyi "" "" "" "" "" false "" 1000000 20240313, 14)
    ∷ ("NEWM", trade Kind.Inst Side.Buyi "0017" "R" "" "" "" false "" 1000000 20240313, 15)
    ∷ ("NEWM", trade Kind.Inst Side.Buyi "0017" "" "R" "" "" false "" 1000000 20240313, 15)
    ∷ ("NEWM", trade Kind.Inst Side.Buyi "0017" "" "" "R" "" false "" 1000000 20240313, 15)
    ∷ ("NEWM", trade Kind.Inst Side.Buyi "0017" "" "" "" "R" false "" 1000000 20240313, 15)
    ∷ ("NEWM", trade Kind.Inst Side.Buyi "0017" "" "" "" "" false "E004" 1000000 20240313, 15)
    -- CANC: PREV, LIST and CDRY may be, and 23G CANC; 13 comes before 14
    ∷ ("CANC", trade Kind.Canc Side.Buyi "0017" "R" "R" "" "" true "" 1000000 20240313, 0)
    ∷ ("NEWM", trade Kind.Canc Side.Buyi "" "" "" "" "" false "" 1000000 20240313, 13)
    ∷ ("CANC", trade Kind.Canc Side.Buyi "" "" "" "" "" false "" 1000000 20240313, 14)
    ∷ ("CANC", trade Kind.Canc Side.Buyi "0017" "" "" "" "R" false "" 1000000 20240313, 15)
    -- MDFC: the same
    ∷ ("NEWM", trade Kind.Mdfc Side.Buyi "0017" "R" "R" "" "" true "" 1000000 20240313, 0)
    ∷ ("CANC", trade Kind.Mdfc Side.Buyi "0017" "" "" "" "" false "" 1000000 20240313, 13)
    ∷ ("NEWM", trade Kind.Mdfc Side.Buyi "" "R" "R" "" "" false "" 1000000 20240313, 14)
    ∷ ("NEWM", trade Kind.Mdfc Side.Buyi "0017" "" "" "" "" false "E004" 1000000 20240313, 15)
    -- TDDK: DKRS and the contra reference of the other side, and MAST may be; 14 comes before 15
    ∷ ("NEWM", trade Kind.Tddk Side.Buyi "" "" "" "" "R" false "E004" 1000000 20240313, 0)
    ∷ ("NEWM", trade Kind.Tddk Side.Sell "NONREF" "" "" "R" "" false "E004" 1000000 20240313, 0)
    ∷ ("NEWM", trade Kind.Tddk Side.Buyi "" "" "" "R" "" false "E004" 1000000 20240313, 14)
    ∷ ("NEWM", trade Kind.Tddk Side.Buyi "" "" "" "" "R" false "" 1000000 20240313, 14)
    ∷ ("NEWM", trade Kind.Tddk Side.Buyi "" "" "" "R" "R" false "E004" 1000000 20240313, 15)
    ∷ ("NEWM", trade Kind.Tddk Side.Buyi "" "R" "" "" "R" false "E004" 1000000 20240313, 15)
    ∷ ("NEWM", trade Kind.Tddk Side.Buyi "" "" "R" "" "R" false "E004" 1000000 20240313, 15)
    ∷ ("NEWM", trade Kind.Tddk Side.Buyi "" "" "" "" "R" true "E004" 1000000 20240313, 15)
    -- CDRQ and CDRL: MAST, and LIST and CDRY may be
    ∷ ("NEWM", trade Kind.Cdrq Side.Buyi "0017" "" "R" "" "" true "" 1000000 20240313, 0)
    ∷ ("CANC", trade Kind.Cdrq Side.Buyi "0017" "" "" "" "" false "" 1000000 20240313, 13)
    ∷ ("NEWM", trade Kind.Cdrq Side.Buyi "" "" "" "" "" false "" 1000000 20240313, 14)
    ∷ ("NEWM", trade Kind.Cdrq Side.Buyi "0017" "R" "" "" "" false "" 1000000 20240313, 15)
    ∷ ("NEWM", trade Kind.Cdrl Side.Buyi "0017" "" "R" "" "" false "" 1000000 20240313, 0)
    ∷ ("NEWM", trade Kind.Cdrl Side.Buyi "0017" "R" "" "" "" false "" 1000000 20240313, 15)
    ∷ ("NEWM", trade Kind.Cdrl Side.Buyi "0017" "" "" "" "" false "E004" 1000000 20240313, 15)
    -- par and settlement
    ∷ ("NEWM", trade Kind.Inst Side.Buyi "0017" "" "" "" "" false "" 0 20240313, 16)
    ∷ ("NEWM", trade Kind.Inst Side.Buyi "0017" "" "" "" "" false "" 1 20240229, 0)
    ∷ ("NEWM", trade Kind.Inst Side.Buyi "0017" "" "" "" "" false "" 1 20240228, 17)
    ∷ ("NEWM", trade Kind.Inst Side.Buyi "0017" "" "" "" "" false "" 0 20240228, 16)
    ∷ ("NEWM", trade Kind.Inst Side.Buyi "" "" "" "" "" false "" 0 20240228, 14)
    ∷ []

-- each trade gets the number beside it, and line 0
abbrev pub Answered : Type 0
Answered = map (λ row. kinds_pass (bytes row.0) row.1) cases ≡ map (λ row. refused row.2 0) cases
