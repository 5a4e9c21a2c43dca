-- Request A1, "Slots, in order" and "Record": the value that a record has for each slot, as it stands behind the slot's fixed text; nothing
-- where the record has none.
use Rattle.std.specs.Prelude.{ℕ, Bool, cond, List, [], ◌∷◌, ◌++◌, get_or, Option, Some, None}
use Rattle.text.specs.Bytes.{bytes}
use Rattle.text.specs.Texts.{contents}
use Rattle.text.specs.Texts.{Text}
use Rattle.amount.specs.Amounts.{amount_text}
use Rattle.calendar.specs.Dates.{date_text, moment_text}
use Rattle.reason.specs.Reason.{reason_text}
use Rattle.forms.specs.Words.{word}
use Rattle.typed.specs.Payments.{payment_text}
use Rattle.typed.specs.Sides.{side_word}
use Rattle.pool_trade.specs.Records.{kinds}
use Rattle.pool_trade.specs.declared.Kind.{Kind}
use Rattle.calendar.specs.declared.Date.{Date}
use Rattle.pool_trade.specs.declared.PoolTrade.{PoolTrade}
use Rattle.pool_kinds.specs.Kinds.{function_of}

-- ---- a kind's code word, from the list that it is read by

unfoldable pub kind_word : Kind → List ℕ
kind_word Kind.Inst = word kinds 0
kind_word Kind.Canc = word kinds 1
kind_word Kind.Mdfc = word kinds 2
kind_word Kind.Tddk = word kinds 3
kind_word Kind.Cdrq = word kinds 4
kind_word Kind.Cdrl = word kinds 5

-- ---- the narrative behind `//DTCY`

unfoldable pub cdr_text : Bool → List ℕ
cdr_text cdr = cond cdr (bytes "/CDRY") []

unfoldable pub delivery_text : Option Date → List ℕ
delivery_text None = []
delivery_text (Some date) = bytes "/DDTE" ++ date_text date

unfoldable pub narrative : Bool → Option Date → Text → List ℕ
narrative cdr delivery reason = bytes "/TDSVPOOL" ++ (cdr_text cdr ++ (delivery_text delivery ++ reason_text reason))

-- ---- the value of each slot, numbered as the table numbers its fields. What is absent has no bytes

unfoldable pub values : PoolTrade → List (List ℕ)
values t =
    []
    -- 1 to 5: SEME, 23G, MAST, PREV, LIST
    ∷ contents t.seme
    ∷ function_of t.kind
    ∷ contents t.mast
    ∷ contents t.prev
    ∷ contents t.list
    -- 6 to 11: TRAD, SETT, DEAL, the money, BUSE, PROC
    ∷ moment_text t.trad
    ∷ date_text t.sett
    ∷ amount_text t.price.0
    ∷ payment_text t.money
    ∷ side_word t.side
    ∷ kind_word t.kind
    -- 12 to 15: the code and the contra reference of the buyer, and of the seller
    ∷ contents t.buyer.code
    ∷ contents t.buyer.reference
    ∷ contents t.seller.code
    ∷ contents t.seller.reference
    -- 16 to 19: par, CUSIP, POOL, the narrative
    ∷ amount_text t.par.0
    ∷ contents t.cusip
    ∷ contents t.pool
    ∷ narrative t.cdr t.delivery t.reason
    -- 20 and 21: password_slot and sender_slot
    ∷ contents t.password
    ∷ contents t.sender
    ∷ []

unfoldable pub value_of : PoolTrade → ℕ → List ℕ
value_of t slot = get_or (values t) slot []
