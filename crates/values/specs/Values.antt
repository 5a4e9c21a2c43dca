-- Document 01, "The slots, in order", and "Plain form, and the record": the value that a record has for each slot, as it stands
-- behind the slot's fixed text; nothing where the record has none.
use Rattle.std.specs.Prelude.{ℕ, List, [], ◌∷◌, ◌++◌, get_or, Option, Some, None}
use Rattle.text.specs.Bytes.{bytes}
use Rattle.text.specs.Texts.{contents}
use Rattle.text.specs.Texts.{Text}
use Rattle.digits.specs.Numerals.{digits}
use Rattle.amount.specs.Amounts.{amount_text}
use Rattle.calendar.specs.Dates.{date_text, moment_text}
use Rattle.reason.specs.Reason.{reason_text}
use Rattle.forms.specs.Words.{word}
use Rattle.forms.specs.Narrative.{services}
use Rattle.typed.specs.Sides.{side_word}
use Rattle.trade.specs.Records.{kinds}
use Rattle.trade.specs.declared.Kind.{Kind}
use Rattle.trade.specs.declared.Service.{Service}
use Rattle.trade.specs.declared.Trade.{Trade}
use Rattle.kinds.specs.Kinds.{function_of}

-- ---- code words, from the lists that they are read by

unfoldable pub kind_word : Kind → List ℕ
kind_word Kind.Inst = word kinds 0
kind_word Kind.Canc = word kinds 1
kind_word Kind.Mdfc = word kinds 2
kind_word Kind.Tddk = word kinds 3

unfoldable pub service_word : Service → List ℕ
service_word Service.Sbod = word services 0
service_word Service.Tftd = word services 1
service_word Service.Stip = word services 2

-- ---- the narrative behind `//GSCC`

-- GUPP 0 is present
unfoldable pub period_text : Option ℕ → List ℕ
period_text None = []
period_text (Some n) = bytes "/GUPP" ++ digits 1 n

unfoldable pub narrative : Service → Option ℕ → Text → List ℕ
narrative service period reason = bytes "/TDSV" ++ (service_word service ++ (period_text period ++ reason_text reason))

-- ---- the value of each slot, numbered as document 01 numbers its fields. What is absent has no bytes, nor has a number that names
-- no slot

unfoldable pub values : Trade → List (List ℕ)
values t =
    []
    -- 1 to 6: SEME, 23G, PREP, MAST, PREV, LIST
    ∷ contents t.seme
    ∷ function_of t.kind
    ∷ moment_text t.prep
    ∷ contents t.mast
    ∷ contents t.prev
    ∷ contents t.list
    -- 7 to 11: TRAD, SETT, DEAL, BUSE, PROC
    ∷ moment_text t.trad
    ∷ date_text t.sett
    ∷ amount_text t.price.0
    ∷ side_word t.side
    ∷ kind_word t.kind
    -- 12 to 17: the code, the contra reference and the trader of the buyer, and of the seller
    ∷ contents t.buyer.code
    ∷ contents t.buyer.reference
    ∷ contents t.buyer.trader
    ∷ contents t.seller.code
    ∷ contents t.seller.reference
    ∷ contents t.seller.trader
    -- 18 to 21: par, CUSIP, POOL, the narrative
    ∷ amount_text t.par.0
    ∷ contents t.cusip
    ∷ contents t.pool
    ∷ narrative t.service t.period t.reason
    -- 22 to 29: no slots, and then password_slot and sender_slot
    ∷ [] ∷ [] ∷ [] ∷ [] ∷ [] ∷ []
    ∷ contents t.password
    ∷ contents t.sender
    ∷ []

unfoldable pub value_of : Trade → ℕ → List ℕ
value_of t slot = get_or (values t) slot []
