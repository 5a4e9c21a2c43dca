-- Request A1, "P, and worked cases": P's record and records that differ from it in a field or two, with the number that each gets.
use Rattle.std.specs.Prelude.{ℕ, ◌≡◌, Bool, true, false, List, [], ◌∷◌, map, Option, Some, None}
use Prim.Native.String.{String}
use Rattle.text.specs.Bytes.{bytes}
use Rattle.text.specs.Texts.{text_of}
use Rattle.amount.specs.declared.Money.{Money}
use Rattle.pool_trade.specs.Records.{blank_trade}
use Rattle.pool_trade.specs.declared.Kind.{Kind}
use Rattle.calendar.specs.declared.Date.{Date}
use Rattle.pool_trade.specs.declared.PoolTrade.{PoolTrade}
use Rattle.pool_values.specs.Cases.{p}
use Rattle.pool_judge.specs.Judging.{judge_of}

abbrev usd : ℕ → ℕ → Option Money
usd number decimals = Some (record { 0 = record { number = number; decimals = decimals } })

abbrev on : ℕ → Option Date
on date = Some (record { 0 = date })

-- P's record with another kind, MAST, PREV, money, par, CDRY, DDTE and DKRS
unfoldable pub trade : Kind → String → String → Option Money → ℕ → Bool → Option Date → String → PoolTrade
trade kind mast prev money par cdr delivery reason =
    record {
      kind = kind;
      password = p.password;
      sender = p.sender;
      seme = p.seme;
      mast = text_of (bytes mast);
      prev = text_of (bytes prev);
      list = p.list;
      trad = p.trad;
      sett = p.sett;
      price = p.price;
      money = money;
      side = p.side;
      buyer = p.buyer;
      seller = p.seller;
      par = record { 0 = record { number = par; decimals = 0 } };
      cusip = p.cusip;
      pool = p.pool;
      cdr = cdr;
      delivery = delivery;
      reason = text_of (bytes reason);
    }

unfoldable pub cases : List (PoolTrade × ℕ)
cases =
    (p, 0)
    ∷ (blank_trade, 18)
    -- the money is absent or in its shortest form, and may be zero
    ∷ (trade Kind.Inst "0017" "" None 1 true (on 20240313) "", 0)
    ∷ (trade Kind.Inst "0017" "" (usd 0 0) 1 true (on 20240313) "", 0)
    ∷ (trade Kind.Inst "0017" "" (usd 10 1) 1 true (on 20240313) "", 18)
    ∷ (trade Kind.Inst "0017" "" (usd 99999999999999 13) 1 true (on 20240313) "", 0)
    ∷ (trade Kind.Inst "0017" "" (usd 100000000000000 0) 1 true (on 20240313) "", 18)
    -- DDTE is absent or a date
    ∷ (trade Kind.Inst "0017" "" (usd 0 0) 1 true None "", 0)
    ∷ (trade Kind.Inst "0017" "" (usd 0 0) 1 true (on 20230229) "", 18)
    ∷ (trade Kind.Inst "0017" "" (usd 0 0) 1 true (on 0) "", 18)
    ∷ (trade Kind.Inst "0017" "" (usd 0 0) 1 true (on 10101) "", 0)
    -- the kinds
    ∷ (trade Kind.Cdrq "0017" "" (usd 0 0) 1 true (on 20240313) "", 0)
    ∷ (trade Kind.Cdrq "0017" "R" (usd 0 0) 1 true (on 20240313) "", 15)
    ∷ (trade Kind.Inst "" "" (usd 0 0) 1 true (on 20240313) "", 14)
    -- a narrative of all four parts has 40 characters, and gets 15 or 14 and not 20; of DKRS, 4 c or nothing is in form
    ∷ (trade Kind.Inst "0017" "" (usd 0 0) 1 true (on 20240313) "E004", 15)
    ∷ (trade Kind.Tddk "" "" (usd 0 0) 1 true (on 20240313) "E004", 14)
    ∷ (trade Kind.Inst "0017" "" (usd 0 0) 1 true (on 20240313) "E04", 18)
    -- the order: 18 comes first
    ∷ (trade Kind.Inst "0017" "" (usd 0 0) 0 true (on 20240313) "", 16)
    ∷ (trade Kind.Inst "0017" "" (usd 0 0) 0 true (on 20240313) "E004", 15)
    ∷ (trade Kind.Inst "" "" (usd 0 1) 0 true (on 20240313) "E004", 18)
    ∷ []

-- each record gets the number beside it
abbrev pub Answered : Type 0
Answered = map (λ row. judge_of row.0) cases ≡ map (λ row. row.1) cases
