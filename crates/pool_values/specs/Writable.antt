-- Request A1, "Record", number 18: a record field is outside its slot's values or the forms of the record.
use Rattle.std.specs.Prelude.{ℕ, Bool, true, ◌&&◌, List, [], ◌∷◌, Option, Some, None}
use Rattle.text.specs.Texts.{Text}
use Rattle.amount.specs.Amounts.{in_form as amount_form}
use Rattle.calendar.specs.Dates.{is_date, is_moment}
use Rattle.reason.specs.Reason.{reason_form}
use Rattle.typed.specs.Payments.{payment_form}
use Rattle.format.specs.Writable as AnyType
use Rattle.format.specs.Writable.{hold}
use Rattle.pool_trade.specs.Records.{password_slot, sender_slot}
use Rattle.calendar.specs.declared.Date.{Date}
use Rattle.pool_trade.specs.declared.PoolTrade.{PoolTrade}
use Rattle.pool_table.specs.Table.{slot_of}
use Rattle.pool_table.specs.Tree.{tree}

-- DDTE is absent or a date
unfoldable pub delivery_form : Option Date → Bool
delivery_form None = true
delivery_form (Some date) = is_date date.0

-- ---- one test for each slot, in their order. What the layout makes mandatory must be there; what is optional may be of length
-- 0. Code words are always words of their lists, and 23G is not held

-- a text of the record is in form, and is a value of its slot, or absent
abbrev pub fitted : ℕ → Text → Bool
fitted slot x = AnyType.fitted tree slot_of slot x

unfoldable pub tests : PoolTrade → List Bool
tests t =
    true
    -- 1 to 5: SEME, 23G, MAST, PREV, LIST
    ∷ fitted 1 t.seme
    ∷ true
    ∷ fitted 3 t.mast
    ∷ fitted 4 t.prev
    ∷ fitted 5 t.list
    -- 6 to 11: TRAD, SETT, DEAL, the money, BUSE, PROC
    ∷ is_moment t.trad
    ∷ is_date t.sett.0
    ∷ amount_form t.price.0
    ∷ payment_form t.money
    ∷ true
    ∷ true
    -- 12 to 15: the code and the contra reference of the buyer, and of the seller
    ∷ fitted 12 t.buyer.code
    ∷ fitted 13 t.buyer.reference
    ∷ fitted 14 t.seller.code
    ∷ fitted 15 t.seller.reference
    -- 16 to 19: par, CUSIP, POOL, the narrative
    ∷ amount_form t.par.0
    ∷ fitted 17 t.cusip
    ∷ fitted 18 t.pool
    ∷ (delivery_form t.delivery && reason_form t.reason)
    -- 20 and 21: password_slot and sender_slot
    ∷ fitted password_slot t.password
    ∷ fitted sender_slot t.sender
    ∷ []

unfoldable pub in_form : PoolTrade → Bool
in_form t = hold (tests t)
