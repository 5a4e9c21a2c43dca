-- Document 01, the numbers of a write that a record shows by itself: B's record and records that differ from it in one or two
-- fields, with the number that each gets.
use Rattle.std.specs.Prelude.{ℕ, ◌≡◌, List, [], ◌∷◌, ◌++◌, map, replicate, Option, Some, None}
use Prim.Native.String.{String}
use Rattle.text.specs.Bytes.{bytes}
use Rattle.text.specs.Texts.{text_of}
use Rattle.text.specs.Texts.{Text}
use Rattle.trade.specs.Records.{blank_trade}
use Rattle.trade.specs.declared.Trade.{Trade}
use Rattle.values.specs.Cases.{b}
use Rattle.judge.specs.Judging.{judge_of}

-- B's record with another SEME, PREP, price (its digits and decimals), par, GUPP and DKRS
unfoldable pub trade : Text → ℕ → ℕ → ℕ → ℕ → ℕ → Option ℕ → String → Trade
trade seme date time price decimals par period reason =
    record {
      password = b.password;
      sender = b.sender;
      seme = seme;
      prep = record { date = record { 0 = date }; time = record { 0 = time } };
      mast = b.mast;
      prev = b.prev;
      list = b.list;
      trad = b.trad;
      sett = b.sett;
      price = record { 0 = record { number = price; decimals = decimals } };
      side = b.side;
      kind = b.kind;
      buyer = b.buyer;
      seller = b.seller;
      par = record { 0 = record { number = par; decimals = 0 } };
      cusip = b.cusip;
      pool = b.pool;
      service = b.service;
      period = period;
      reason = text_of (bytes reason);
    }

abbrev text : String → Text
text s = text_of (bytes s)

-- a text that has something else than zero bytes behind its length
abbrev untidy : Text
untidy = record { bytes = bytes "0008" ++ replicate {A = ℕ} 16 0; len = 3 }

unfoldable pub cases : List (Trade × ℕ)
cases =
    (b, 0)
    ∷ (blank_trade, 18)
    -- SEME
    ∷ (trade (text "0000000000000008") 0 0 995 1 1 None "", 0)
    ∷ (trade (text "00000000000000008") 0 0 995 1 1 None "", 18)
    ∷ (trade (text "") 0 0 995 1 1 None "", 18)
    ∷ (trade (text "a") 0 0 995 1 1 None "", 18)
    ∷ (trade untidy 0 0 995 1 1 None "", 18)
    -- PREP: absent is date 0 and time 0
    ∷ (trade (text "0008") 20240229 0 995 1 1 None "", 0)
    ∷ (trade (text "0008") 20230229 0 995 1 1 None "", 18)
    ∷ (trade (text "0008") 20240229 240000 995 1 1 None "", 18)
    ∷ (trade (text "0008") 0 1 995 1 1 None "", 18)
    -- the price is in its shortest form and may be zero
    ∷ (trade (text "0008") 0 0 0 0 1 None "", 0)
    ∷ (trade (text "0008") 0 0 0 1 1 None "", 18)
    ∷ (trade (text "0008") 0 0 990 1 1 None "", 18)
    ∷ (trade (text "0008") 0 0 99999999999999 13 1 None "", 0)
    ∷ (trade (text "0008") 0 0 99999999999999 14 1 None "", 18)
    ∷ (trade (text "0008") 0 0 100000000000000 0 1 None "", 18)
    -- GUPP and DKRS
    ∷ (trade (text "0008") 0 0 995 1 1 (Some 0) "", 0)
    ∷ (trade (text "0008") 0 0 995 1 1 (Some 9) "", 0)
    ∷ (trade (text "0008") 0 0 995 1 1 (Some 10) "", 18)
    ∷ (trade (text "0008") 0 0 995 1 1 None "E004", 15)
    ∷ (trade (text "0008") 0 0 995 1 1 None "E04", 18)
    ∷ (trade (text "0008") 0 0 995 1 1 None "E0041", 18)
    -- the order: 18 comes first
    ∷ (trade (text "0008") 0 0 995 1 0 None "", 16)
    ∷ (trade (text "0008") 0 0 995 1 0 None "E004", 15)
    ∷ (trade (text "") 0 0 995 1 0 None "E004", 18)
    ∷ []

-- each record gets the number beside it
abbrev pub Answered : Type 0
Answered = map (λ row. judge_of row.0) cases ≡ map (λ row. row.1) cases
