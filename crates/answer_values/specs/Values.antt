-- Request A3, "Slots, in order" and "The record": the value that a record has for each slot, as it stands behind the slot's fixed text; nothing
-- where the record has none.
use Rattle.std.specs.Prelude.{ℕ, zero, suc, List, [], ◌∷◌, ◌++◌, get_or}
use Rattle.text.specs.Texts.{contents}
use Rattle.calendar.specs.Dates.{moment_text}
use Rattle.remark.specs.Remarks.{contents as remark_text}
use Rattle.status.specs.Statuses.{status_text}
use Rattle.answer.specs.Records.{reason_at}
use Rattle.answer.specs.declared.Answer.{Answer}
use Rattle.answer_rules.specs.Rules.{function_of}

-- the code and the text of so many reasons, from one on
unfoldable pub reason_values : Answer → ℕ → ℕ → List (List ℕ)
reason_values a number zero = []
reason_values a number (suc n) = contents (reason_at a number).code ∷ remark_text (reason_at a number).text ∷ reason_values a (suc number) n

-- ---- the value of each slot, numbered as the fields are. What is absent has no bytes

unfoldable pub values : Answer → List (List ℕ)
values a =
    []
    -- 1 to 3: SEME, 23G, PREP
    ∷ contents a.seme
    ∷ function_of a
    ∷ moment_text a.prep
    -- 4 to 10: MAST, PREV, RELA, LIST, BASK, PROG, COMM
    ∷ contents a.mast
    ∷ contents a.prev
    ∷ contents a.rela
    ∷ contents a.list
    ∷ contents a.bask
    ∷ contents a.prog
    ∷ contents a.comm
    -- 11: 25D
    ∷ status_text a.status
    -- 12 to 31: the reasons
    ∷ (reason_values a 0 10
    -- 32 and 33: password_slot and receiver_slot
    ++ (contents a.password ∷ contents a.receiver ∷ []))

unfoldable pub value_of : Answer → ℕ → List ℕ
value_of a slot = get_or (values a) slot []
