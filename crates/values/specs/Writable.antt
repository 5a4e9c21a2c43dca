-- Document 01, number 18: a record field is outside its slot's values or the forms of the record.
use Rattle.std.specs.Prelude.{ℕ, Bool, true, ◌&&◌, List, [], ◌∷◌, leb, Option, Some, None}
use Rattle.text.specs.Texts.{Text}
use Rattle.amount.specs.Amounts.{in_form as amount_form}
use Rattle.calendar.specs.Dates.{is_date, is_moment}
use Rattle.reason.specs.Reason.{reason_form}
use Rattle.typed.specs.Prep.{prep_form}
use Rattle.format.specs.Writable as AnyType
use Rattle.format.specs.Writable.{hold}
use Rattle.trade.specs.Records.{password_slot, sender_slot}
use Rattle.trade.specs.declared.Trade.{Trade}
use Rattle.table.specs.Table.{slot_of}
use Rattle.table.specs.Tree.{tree}

-- GUPP is absent or one digit
unfoldable pub period_form : Option ℕ → Bool
period_form None = true
period_form (Some n) = leb n 9

-- ---- one test for each slot, in their order. What the layout makes mandatory must be there; what is optional may be of length
-- 0. Code words are always words of their lists, and 23G is not held

-- a text of the record is in form, and is a value of its slot, or absent
abbrev pub fitted : ℕ → Text → Bool
fitted slot x = AnyType.fitted tree slot_of slot x

unfoldable pub tests : Trade → List Bool
tests t =
    true
    -- 1 to 6: SEME, 23G, PREP, MAST, PREV, LIST
    ∷ fitted 1 t.seme
    ∷ true
    ∷ prep_form t.prep
    ∷ fitted 4 t.mast
    ∷ fitted 5 t.prev
    ∷ fitted 6 t.list
    -- 7 to 11: TRAD, SETT, DEAL, BUSE, PROC
    ∷ is_moment t.trad
    ∷ is_date t.sett.0
    ∷ amount_form t.price.0
    ∷ true
    ∷ true
    -- 12 to 17: the code, the contra reference and the trader of the buyer, and of the seller
    ∷ fitted 12 t.buyer.code
    ∷ fitted 13 t.buyer.reference
    ∷ fitted 14 t.buyer.trader
    ∷ fitted 15 t.seller.code
    ∷ fitted 16 t.seller.reference
    ∷ fitted 17 t.seller.trader
    -- 18 to 21: par, CUSIP, POOL, the narrative
    ∷ amount_form t.par.0
    ∷ fitted 19 t.cusip
    ∷ fitted 20 t.pool
    ∷ (period_form t.period && reason_form t.reason)
    -- 22 to 29: no slots, and then password_slot and sender_slot
    ∷ true ∷ true ∷ true ∷ true ∷ true ∷ true
    ∷ fitted password_slot t.password
    ∷ fitted sender_slot t.sender
    ∷ []

unfoldable pub in_form : Trade → Bool
in_form t = hold (tests t)
