-- Document 01, "Plain form, and the record": a trade as it is held, from the values of its slots; and the blank record.
use Rattle.std.specs.Prelude.{ℕ, List, [], ◌∷◌, get_or, None}
use Rattle.text.specs.Bytes.{bytes}
use Rattle.text.specs.Texts.{text_of, blank}
use Rattle.amount.specs.Amounts.{amount_read, nought}
use Rattle.calendar.specs.Dates.{date_read, moment_read}
use Rattle.calendar.specs.declared.Moment.{Moment}
use Rattle.forms.specs.Forms.{word_at}
use Rattle.typed.specs.Typed.{amount_or0, date_or0, moment_or0}
use Rattle.typed.specs.Sides.{side_in}
use Rattle.typed.specs.declared.Side.{Side}
use Rattle.forms.specs.Narrative.{behind_period}
use Rattle.reason.specs.Reason.{reason_in}
use Rattle.trade.specs.Narrative.{service_of, period_of}
use Rattle.trade.specs.declared.Kind.{Kind}
use Rattle.trade.specs.declared.Service.{Service}
use Rattle.trade.specs.declared.Party.{Party}
use Rattle.trade.specs.declared.Trade.{Trade}

-- ---- what a word means; the first of its list, where it is none

abbrev pub kinds : List (List ℕ)
kinds = bytes "INST" ∷ bytes "CANC" ∷ bytes "MDFC" ∷ bytes "TDDK" ∷ []

unfoldable pub kind_in : List ℕ → Kind
kind_in v = get_or (Kind.Inst ∷ Kind.Canc ∷ Kind.Mdfc ∷ Kind.Tddk ∷ []) (word_at kinds v) Kind.Inst

-- ---- the record of a message, from the values of its slots. Slots are numbered as document 01 numbers its fields, from 1 to the
-- narrative's; it does not number the password and the sender

abbrev pub narrative_slot : ℕ
narrative_slot = 21

abbrev pub password_slot : ℕ
password_slot = 28

abbrev pub sender_slot : ℕ
sender_slot = 29

unfoldable pub party_of : List ℕ → List ℕ → List ℕ → Party
party_of code ref trader = record { code = text_of code; reference = text_of ref; trader = text_of trader }

unfoldable pub trade_of : (ℕ → List ℕ) → Trade
trade_of value =
    record {
      password = text_of (value password_slot);
      sender = text_of (value sender_slot);
      seme = text_of (value 1);
      prep = moment_or0 (moment_read (value 3));
      mast = text_of (value 4);
      prev = text_of (value 5);
      list = text_of (value 6);
      trad = moment_or0 (moment_read (value 7));
      sett = date_or0 (date_read (value 8));
      price = record { 0 = amount_or0 (amount_read (value 9)) };
      side = side_in (value 10);
      kind = kind_in (value 11);
      buyer = party_of (value 12) (value 13) (value 14);
      seller = party_of (value 15) (value 16) (value 17);
      par = record { 0 = amount_or0 (amount_read (value 18)) };
      cusip = text_of (value 19);
      pool = text_of (value 20);
      service = service_of (value narrative_slot);
      period = period_of (value narrative_slot);
      reason = text_of (reason_in (behind_period (value narrative_slot)));
    }

-- ---- the blank record: every text of length 0, every number zero, every optional field absent, every code word the first
-- of its list

unfoldable pub nobody : Party
nobody = record { code = blank; reference = blank; trader = blank }

unfoldable pub never : Moment
never = record { date = record { 0 = 0 }; time = record { 0 = 0 } }

unfoldable pub blank_trade : Trade
blank_trade =
    record {
      password = blank;
      sender = blank;
      seme = blank;
      prep = never;
      mast = blank;
      prev = blank;
      list = blank;
      trad = never;
      sett = record { 0 = 0 };
      price = record { 0 = nought };
      side = Side.Buyi;
      kind = Kind.Inst;
      buyer = nobody;
      seller = nobody;
      par = record { 0 = nought };
      cusip = blank;
      pool = blank;
      service = Service.Sbod;
      period = None;
      reason = blank;
    }
