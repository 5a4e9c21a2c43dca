-- The record of 375 bytes, by the places of packed's specs/Packed; none where a code byte names no word.
use Rattle.std.specs.Prelude.{ℕ, ◌+◌, ◌*◌, Bool, ◌&&◌, cond, List, [], ◌∷◌, map, leb, eqb, drop, get_or, Option, Some, None, unwrap_or}
use Rattle.text.specs.Bytes.{parts}
use Rattle.text.specs.Texts.{Text}
use Rattle.calendar.specs.Dates.{moment_of}
use Rattle.trade.specs.Records.{blank_trade}
use Rattle.trade.specs.declared.Kind.{Kind}
use Rattle.typed.specs.declared.Side.{Side}
use Rattle.trade.specs.declared.Service.{Service}
use Rattle.trade.specs.declared.Trade.{Trade}

-- ---- the code bytes

-- each of the first three names a word of its list
unfoldable pub named : List ℕ → Bool
named s = leb (get_or s 0 0) 3 && (leb (get_or s 1 0) 1 && leb (get_or s 2 0) 2)

unfoldable pub kind_from : ℕ → Kind
kind_from b = get_or (Kind.Inst ∷ Kind.Canc ∷ Kind.Mdfc ∷ Kind.Tddk ∷ []) b Kind.Inst

unfoldable pub side_from : ℕ → Side
side_from b = get_or (Side.Buyi ∷ Side.Sell ∷ []) b Side.Buyi

unfoldable pub service_from : ℕ → Service
service_from b = get_or (Service.Sbod ∷ Service.Tftd ∷ Service.Stip ∷ []) b Service.Sbod

unfoldable pub period_from : ℕ → Option ℕ
period_from b = cond (eqb b 255) None (Some b)

-- ---- a text and a number from their bytes

unfoldable pub text_from : List ℕ → Text
text_from s = record { bytes = drop 1 s; len = get_or s 0 0 }

unfoldable pub number_from : List ℕ → ℕ
number_from [] = 0
number_from (b ∷ s) = b + 256 * number_from s

unfoldable pub texts_in : List ℕ → List Text
texts_in s = map text_from (parts 21 15 (drop 4 s))

unfoldable pub numbers_in : List ℕ → List ℕ
numbers_in s = map number_from (parts 8 7 (drop 319 s))

-- ---- the record

-- what stands at a place that a list does not have
abbrev none : Text
none = record { bytes = []; len = 0 }

unfoldable pub trade_from : Kind → Side → Service → Option ℕ → List Text → List ℕ → Trade
trade_from kind side service period texts numbers =
    record {
      password = get_or texts 0 none;
      sender = get_or texts 1 none;
      seme = get_or texts 2 none;
      prep = moment_of (get_or numbers 0 0);
      mast = get_or texts 3 none;
      prev = get_or texts 4 none;
      list = get_or texts 5 none;
      trad = moment_of (get_or numbers 1 0);
      sett = record { 0 = get_or numbers 2 0 };
      price = record { 0 = record { number = get_or numbers 3 0; decimals = get_or numbers 4 0 } };
      side = side;
      kind = kind;
      buyer = record { code = get_or texts 6 none; reference = get_or texts 7 none; trader = get_or texts 8 none };
      seller = record { code = get_or texts 9 none; reference = get_or texts 10 none; trader = get_or texts 11 none };
      par = record { 0 = record { number = get_or numbers 5 0; decimals = get_or numbers 6 0 } };
      cusip = get_or texts 12 none;
      pool = get_or texts 13 none;
      service = service;
      period = period;
      reason = get_or texts 14 none;
    }

unfoldable pub trade_in : List ℕ → Trade
trade_in s = trade_from (kind_from (get_or s 0 0)) (side_from (get_or s 1 0)) (service_from (get_or s 2 0)) (period_from (get_or s 3 0)) (texts_in s) (numbers_in s)

unfoldable pub unpacked_of : List ℕ → Option Trade
unpacked_of s = cond (named s) (Some (trade_in s)) None

-- the record whose message is written: of bytes that are none, the blank one
unfoldable pub record_in : List ℕ → Trade
record_in s = unwrap_or (unpacked_of s) blank_trade
