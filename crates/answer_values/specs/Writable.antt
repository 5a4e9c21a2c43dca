-- Request A3, "The record" and "Writing", number 18: a record field is outside its slot's values or the forms of the record.
use Rattle.std.specs.Prelude.{ℕ, zero, suc, Bool, true, ◌&&◌, ◌||◌, not, List, [], ◌∷◌, ◌++◌, ltb, eqb, length}
use Rattle.text.specs.Texts.{contents, in_form_of}
use Rattle.text.specs.Texts.{Text}
use Rattle.text.specs.declared.Class.TheVariants.{Hyphened}
use Rattle.typed.specs.Prep.{prep_form}
use Rattle.remark.specs.Remarks.{contents as remark_text, in_form as remark_form}
use Rattle.remark.specs.Remarks.{Remark}
use Rattle.format.specs.Writable as AnyType
use Rattle.format.specs.Writable.{hold}
use Rattle.status.specs.Statuses.{status_form}
use Rattle.answer.specs.Records.{password_slot, receiver_slot, reason_at}
use Rattle.answer.specs.declared.Reason.{Reason}
use Rattle.answer.specs.declared.Answer.{Answer}
use Rattle.answer_table.specs.Table.{slot_of}
use Rattle.answer_table.specs.Tree.{tree}

-- ---- one test for each slot, in their order. What the layout makes mandatory must be there; what is optional may be of length
-- 0. 23G is not held, and is always one of its texts

-- a text of the record is in form, and is a value of its slot, or absent: of c, of c and `-`, and the text of a reason
abbrev pub fitted : ℕ → Text → Bool
fitted slot x = AnyType.fitted tree slot_of slot x

abbrev pub assigned : ℕ → Text → Bool
assigned slot x = AnyType.fitted_in tree slot_of slot (in_form_of Hyphened 0 20 x) (contents x)

abbrev pub remarked : ℕ → Remark → Bool
remarked slot r = AnyType.fitted_in tree slot_of slot (remark_form 0 35 r) (remark_text r)

-- a reason stands where it has a code
unfoldable pub stands : Reason → Bool
stands r = ltb 0 r.code.len

-- of so many reasons, from one on, whose slots begin at one: each stands only where the one before it does, and has a text only where it
-- stands itself
unfoldable pub reason_tests : Answer → Bool → ℕ → ℕ → ℕ → List Bool
reason_tests a before slot number zero = []
reason_tests a before slot number (suc n) =
    let r = reason_at a number in
    (fitted slot r.code && (not (stands r) || before))
    ∷ (remarked (suc slot) r.text && (eqb r.text.len 0 || stands r))
    ∷ reason_tests a (stands r) (suc (suc slot)) (suc number) n

unfoldable pub tests : Answer → List Bool
tests a =
    -- that there are ten reasons is their type's, and is said here so that a record of which this holds tells all of itself
    eqb (length a.reasons) 10
    -- 1 to 3: SEME, 23G, PREP
    ∷ fitted 1 a.seme
    ∷ true
    ∷ prep_form a.prep
    -- 4 to 10: MAST, PREV, RELA, LIST, BASK, PROG, COMM
    ∷ fitted 4 a.mast
    ∷ assigned 5 a.prev
    ∷ fitted 6 a.rela
    ∷ assigned 7 a.list
    ∷ assigned 8 a.bask
    ∷ assigned 9 a.prog
    ∷ assigned 10 a.comm
    -- 11: 25D
    ∷ status_form a.status
    -- 12 to 31: the reasons
    ∷ (reason_tests a true 12 0 10
    -- 32 and 33: password_slot and receiver_slot
    ++ (fitted password_slot a.password ∷ fitted receiver_slot a.receiver ∷ []))

unfoldable pub in_form : Answer → Bool
in_form a = hold (tests a)
