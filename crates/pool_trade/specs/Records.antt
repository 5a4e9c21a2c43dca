-- Request A1, "Record": a pool trade as it is held, from the values of its slots; and the blank record.
use Rattle.std.specs.Prelude.{ℕ, false, List, [], ◌∷◌, get_or, None}
use Rattle.text.specs.Bytes.{bytes}
use Rattle.text.specs.Texts.{text_of, blank}
use Rattle.amount.specs.Amounts.{amount_read, nought}
use Rattle.calendar.specs.Dates.{date_read, moment_read}
use Rattle.forms.specs.Forms.{word_at}
use Rattle.forms.specs.Pool.{has_cdr}
use Rattle.typed.specs.Typed.{amount_or0, date_or0, moment_or0}
use Rattle.typed.specs.Payments.{payment_in}
use Rattle.typed.specs.Sides.{side_in}
use Rattle.typed.specs.declared.Side.{Side}
use Rattle.pool_trade.specs.Narrative.{delivery_of, reason_of}
use Rattle.pool_trade.specs.declared.Kind.{Kind}
use Rattle.pool_trade.specs.declared.Party.{Party}
use Rattle.pool_trade.specs.declared.PoolTrade.{PoolTrade}

-- ---- what a kind's word means; the first of the list, where it is none

abbrev pub kinds : List (List ℕ)
kinds = bytes "INST" ∷ bytes "CANC" ∷ bytes "MDFC" ∷ bytes "TDDK" ∷ bytes "CDRQ" ∷ bytes "CDRL" ∷ []

unfoldable pub kind_in : List ℕ → Kind
kind_in v = get_or (Kind.Inst ∷ Kind.Canc ∷ Kind.Mdfc ∷ Kind.Tddk ∷ Kind.Cdrq ∷ Kind.Cdrl ∷ []) (word_at kinds v) Kind.Inst

-- ---- the record of a message, from the values of its slots. Slots are numbered as the table numbers its fields, from 1 to the narrative's,
-- and then come the password and the sender

abbrev pub narrative_slot : ℕ
narrative_slot = 19

abbrev pub password_slot : ℕ
password_slot = 20

abbrev pub sender_slot : ℕ
sender_slot = 21

unfoldable pub party_of : List ℕ → List ℕ → Party
party_of code ref = record { code = text_of code; reference = text_of ref }

unfoldable pub trade_of : (ℕ → List ℕ) → PoolTrade
trade_of value =
    record {
      kind = kind_in (value 11);
      password = text_of (value password_slot);
      sender = text_of (value sender_slot);
      seme = text_of (value 1);
      mast = text_of (value 3);
      prev = text_of (value 4);
      list = text_of (value 5);
      trad = moment_or0 (moment_read (value 6));
      sett = date_or0 (date_read (value 7));
      price = record { 0 = amount_or0 (amount_read (value 8)) };
      money = payment_in (value 9);
      side = side_in (value 10);
      buyer = party_of (value 12) (value 13);
      seller = party_of (value 14) (value 15);
      par = record { 0 = amount_or0 (amount_read (value 16)) };
      cusip = text_of (value 17);
      pool = text_of (value 18);
      cdr = has_cdr (value narrative_slot);
      delivery = delivery_of (value narrative_slot);
      reason = reason_of (value narrative_slot);
    }

-- ---- the blank record: INST, BUYI, no money, no CDRY, no DDTE, every text of length 0, every number zero

unfoldable pub nobody : Party
nobody = record { code = blank; reference = blank }

unfoldable pub blank_trade : PoolTrade
blank_trade =
    record {
      kind = Kind.Inst;
      password = blank;
      sender = blank;
      seme = blank;
      mast = blank;
      prev = blank;
      list = blank;
      trad = record { date = record { 0 = 0 }; time = record { 0 = 0 } };
      sett = record { 0 = 0 };
      price = record { 0 = nought };
      money = None;
      side = Side.Buyi;
      buyer = nobody;
      seller = nobody;
      par = record { 0 = nought };
      cusip = blank;
      pool = blank;
      cdr = false;
      delivery = None;
      reason = blank;
    }
