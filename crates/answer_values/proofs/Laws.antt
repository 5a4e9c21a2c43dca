-- What callers cite: a record in form and the values of its slots tell each other. A record in form is the record of its values
-- (`record-back`), and these are a message's (`values-held`); and the record of a message's values is in form, and its values are those
-- (`values-back`). Each is a list, slot by slot, of what format's proofs/Values says of one, and of what proofs/OfReasons says of ten.
-- Assumes nothing.
use Prim.Native.Nat.{ℕ, suc}
use mathlib.Core.Path.{◌≡◌, refl, sym, ap, ◌∙◌}
use mathlib.Core.Bool.{Bool, true, false, ◌&&◌, ◌||◌, not, cond, or-true, and-true}
use mathlib.Core.List.{List, [], ◌∷◌, ◌++◌}
use lib.Dec.{eqb}
use lib.ListN.{length, drop, get_or}
use Rattle.text.specs.Bytes.{bytes, begins, same}
use Rattle.text.specs.Texts.{contents, text_of, in_form_of}
use Rattle.text.specs.Texts.{Text}
use Rattle.text.specs.declared.Class.TheVariants.{Hyphened}
use Rattle.text.proofs.Laws.{and_left, and_right, and_both, form-back}
use Rattle.calendar.specs.Dates.{moment_text}
use Rattle.forms.specs.Forms.{word_at, is_word, form_number}
use Rattle.forms.proofs.Laws.{unless-good}
use Rattle.sheets.specs.Trees.{last, chain}
use Rattle.sheets.specs.Notation.{repeated}
use Rattle.sheets.specs.Slots.{field_slots, own_slots, member_slots, slots_of, first_slots, must_slots}
use Rattle.sheets.specs.Sheets.{has}
use Rattle.sheets.specs.Filled.{some, any_field, any_in, filled}
use Rattle.sheets.proofs.Checks.{clash, avoids, begun, all_members, whole_members, complete, solid_fields, solid_members, solid}
use Rattle.sheets.proofs.Loose.{none-begun}
use Rattle.sheets.proofs.Repeats.{gapless, firm, complete-is, solid-is}
use Rattle.typed.specs.Prep.{prep_form}
use Rattle.typed.proofs.Preps.{prep-back, prep-number, prep-held}
use Rattle.format.specs.Format.{optional}
use Rattle.format.specs.Reading.{rules_of}
use Rattle.format.specs.Writing.{behind_in}
use Rattle.format.specs.Writable.{fitted_in, hold}
use Rattle.format.proofs.BySlot.{Each, ◌⨾◌, hold_at, hold-split}
use Rattle.format.proofs.Tests.{every, tidied}
use Rattle.format.proofs.Laws.{every_slot, Filled, Held, Rests}
use Rattle.format.proofs.Values.{good-unless, fixed-line, filled as fills, may-filled, text-filled, held-filled, text-back, Named, none, each-slot, behind-must, may-form, must-form, text-kept, class-kept, at_slots, rests-of}
use Rattle.status.specs.Statuses.{statuses, status_text, status_form}
use Rattle.status.proofs.Laws.{status-word, status-back, status-held}
use Rattle.answer.specs.Records.{reason_at, reasons_of, answer_of}
use Rattle.answer.specs.declared.Answer.{Answer}
use Rattle.answer_rules.specs.Rules.{of_cancel, function_of}
use Rattle.answer_rules.proofs.Laws.{copy-back, answer-passes, function-back}
use Rattle.answer_table.specs.Table.{functions, slots, header, slot_of}
use Rattle.answer_table.specs.Tree.{reasons, status, general, tree}
use Rattle.answer_values.specs.Values.{reason_values, values, value_of}
use Rattle.answer_values.specs.Writable.{fitted, assigned, reason_tests, tests, in_form}
use Rattle.answer_values.specs.Mt509.{mt509}
use Rattle.answer_values.proofs.Laid.{layout}
use Rattle.answer_values.proofs.Blocks.{blocks, Tied, tied-gapless, tied-firm, tied_back}
use Rattle.answer_values.proofs.OfReasons.{hold-left, hold-both, past, twice, codes, Right, right_of, reread, reasons-back, Aligned, each-reason, all_may, reasons-tied, Formed, Reads, reasons-hold, reasons-kept}

-- ---- what a record rests on: the values of the slots

pub rests : Rests mt509
unfolding at_slots answer_of reasons_of every_slot slots_of member_slots own_slots field_slots header tree general status reasons repeated chain has
rests = rests-of mt509 (λ value. refl) (λ value t. refl)

-- ---- what must stand together: of the whole layout the reasons alone have something to say

reasons-are : reasons ≡ blocks (codes 12 10)
unfolding reasons blocks codes
reasons-are = refl

module _ (v : ℕ → List ℕ) where
  complete-tree : complete v tree ≡ gapless v reasons
  unfolding complete all_members whole_members any_field tree general status bytes same avoids clash
  complete-tree = rw (complete-is v 22 (bytes ":16R:REAS") (bytes ":16S:REAS") (last (bytes ":16S:STAT")) reasons (none-begun v (bytes ":16R:REAS") (last (bytes ":16S:STAT")) refl)) (simp (or-true, and-true))

  solid-tree : solid v tree ≡ (some (v 1) && (some (v 2) && (some (v 11) && firm v reasons)))
  unfolding solid solid_members solid_fields tree general status
  solid-tree = rw (solid-is v 22 (bytes ":16R:REAS") (bytes ":16S:REAS") (last (bytes ":16S:STAT")) reasons) (simp (or-true, and-true))

-- ---- 23G

function-word : (a : Answer) → is_word functions (function_of a) ≡ true
unfolding function_of bytes is_word word_at same
function-word a = go a.copy (of_cancel a.status)
  where
    go : (copy cancel : Bool) → is_word functions (cond copy (bytes "CAST/COPY") (cond cancel (bytes "CAST") (bytes "INST"))) ≡ true
    go true cancel = refl
    go false true = refl
    go false false = refl

-- where the reasons stand among the values of any record
pub aligned-in : (a : Answer) → Aligned a 12 0 10
unfolding Aligned value_of values reason_values
aligned-in a =
    refl ⨾ refl ⨾ refl ⨾ refl ⨾ refl ⨾ refl ⨾ refl ⨾ refl ⨾ refl ⨾ refl ⨾ refl ⨾ refl ⨾ refl ⨾ refl ⨾ refl ⨾ refl ⨾ refl ⨾ refl ⨾ refl ⨾ refl ⨾ tt

-- ---- a record in form

module _ (a : Answer) (form : in_form a ≡ true) where
  -- the test of each slot holds
  pub test : (slot : ℕ) → get_or (tests a) slot true ≡ true
  unfolding in_form
  test = hold_at (tests a) form

  pub right : Right a true 12 0 10
  unfolding in_form tests
  right =
      right_of a true 12 0 10
      (hold-left (reason_tests a true 12 0 10) _ (and_right (hold _) _ (sym (hold-split 12 (tests a)) ∙ form)))

  -- a reference that may have hyphens
  assigned-back : (slot : ℕ) (x : Text) → assigned slot x ≡ true → text_of (contents x) ≡ x
  unfolding fitted_in
  assigned-back slot x e = form-back Hyphened 0 20 x (and_left (in_form_of Hyphened 0 20 x) _ e)

  reasons-read : reasons_of (value_of a) ≡ a.reasons
  unfolding reasons_of value_of values reason_values reread tests
  reasons-read = reasons-back a true 12 right (test 0)

  pub record-back : answer_of (value_of a) ≡ a
  unfolding answer_of value_of values reason_values tests reason_tests
  record-back =
      let text = text-back mt509 in
      rw (
        copy-back a,
        status-back a.status (test 11),
        text 32 a.password (test 32),
        text 33 a.receiver (test 33),
        text 1 a.seme (test 1),
        text 4 a.mast (test 4),
        assigned-back 5 a.prev (test 5),
        text 6 a.rela (test 6),
        assigned-back 7 a.list (test 7),
        assigned-back 8 a.bask (test 8),
        assigned-back 9 a.prog (test 9),
        assigned-back 10 a.comm (test 10),
        prep-back a.prep (test 3),
        reasons-read,
      )

  -- ---- its values, slot by slot

  abbrev Fills : ℕ → Type 0
  Fills slot = Filled mt509 slot (value_of a slot)

  -- those of the header, behind the reasons
  heads-filled : Each (Named mt509 Fills) 32 4
  unfolding value_of values reason_values slot_of slots statuses form_number tests reason_tests
  heads-filled =
      (λ i. text-filled mt509 32 a.password (test 32))
      ⨾ (λ i. text-filled mt509 33 a.receiver (test 33))
      ⨾ (λ i. fills mt509 34 [] (good-unless true refl))
      ⨾ (λ i. fills mt509 35 [] (good-unless true refl))
      ⨾ tt

  each-filled : Each (Named mt509 Fills) 0 36
  unfolding every_slot optional slots_of member_slots own_slots field_slots must_slots first_slots header tree general status reasons repeated chain has value_of values slot_of slots statuses form_number tests past twice
  each-filled =
      let text = text-filled mt509 in
      let held : (slot : ℕ) (x : Text) → assigned slot x ≡ true → Filled mt509 slot (contents x) = λ slot x. held-filled mt509 slot (in_form_of Hyphened 0 20 x) (contents x) in
      none mt509 0 refl
      ⨾ (λ i. text 1 a.seme (test 1))
      ⨾ (λ i. fills mt509 2 (function_of a) (good-unless _ (function-word a)))
      ⨾ (λ i. may-filled mt509 3 (moment_text a.prep) refl (prep-number a.prep (test 3)))
      ⨾ (λ i. text 4 a.mast (test 4))
      ⨾ (λ i. held 5 a.prev (test 5))
      ⨾ (λ i. text 6 a.rela (test 6))
      ⨾ (λ i. held 7 a.list (test 7))
      ⨾ (λ i. held 8 a.bask (test 8))
      ⨾ (λ i. held 9 a.prog (test 9))
      ⨾ (λ i. held 10 a.comm (test 10))
      ⨾ (λ i. fills mt509 11 (status_text a.status) (good-unless _ (status-word a.status (test 11))))
      ⨾ each-reason a true 12 0 10 4 (aligned-in a) right heads-filled

  each : (slot : ℕ) → has (every_slot mt509) slot ≡ true → Fills slot
  unfolding every_slot slots_of member_slots own_slots field_slots header tree general status reasons repeated chain every
  each = each-slot mt509 36 refl Fills each-filled

  -- ---- what must stand together does

  tied : Tied (behind_in mt509 (value_of a)) true (codes 12 10)
  unfolding all_may optional slots_of member_slots own_slots field_slots must_slots first_slots tree general status reasons repeated chain has
  tied = reasons-tied a true 12 0 10 refl (aligned-in a) right

  must : (s : ℕ) → has (must_slots tree) s ≡ true → some (behind_in mt509 (value_of a) s) ≡ true
  must = behind-must mt509 layout (value_of a) each

  -- the values of a record in form are those of a message
  pub values-held : Held mt509 (value_of a)
  unfolding must_slots first_slots tree general status reasons repeated chain has
  values-held =
      let v = behind_in mt509 (value_of a) in
      record {
        each = each;
        whole = complete-tree v ∙ ap (gapless v) reasons-are ∙ tied-gapless v true (codes 12 10) tied;
        firm = solid-tree v ∙ rw (must 1 refl, must 2 refl, must 11 refl) (ap (firm v) reasons-are ∙ tied-firm v true (codes 12 10) tied);
      }

-- ---- the record of a message's values

module _ (value : ℕ → List ℕ) (h : Held mt509 value) (rules : (rules_of mt509 value).number ≡ 0) where
  abbrev r : Answer
  r = answer_of value

  -- what is known of the blocks
  value-tied : Tied (behind_in mt509 value) true (codes 12 10)
  value-tied =
      let v = behind_in mt509 value in
      let f : (some (v 1) && (some (v 2) && (some (v 11) && firm v reasons))) ≡ true = sym (solid-tree v) ∙ h.firm in
      tied_back v true (codes 12 10)
      (sym (ap (gapless v) reasons-are) ∙ sym (complete-tree v) ∙ h.whole)
      (sym (ap (firm v) reasons-are) ∙ and_right (some (v 11)) _ (and_right (some (v 2)) _ (and_right (some (v 1)) _ f)))
      (λ e. refl)

  reasons-may : all_may r 12 10 ≡ true
  unfolding all_may optional slots_of member_slots own_slots field_slots must_slots first_slots tree general status reasons repeated chain has
  reasons-may = refl

  formed : Formed value h 12 10
  unfolding Formed slot_of slots statuses
  formed =
      refl ⨾ refl ⨾ refl ⨾ refl ⨾ refl ⨾ refl ⨾ refl ⨾ refl ⨾ refl ⨾ refl ⨾ refl ⨾ refl ⨾ refl ⨾ refl ⨾ refl ⨾ refl ⨾ refl ⨾ refl ⨾ refl ⨾ refl ⨾ tt

  read-so : Reads value h r 12 0 10
  unfolding Reads reason_at answer_of reasons_of
  read-so = refl ⨾ refl ⨾ refl ⨾ refl ⨾ refl ⨾ refl ⨾ refl ⨾ refl ⨾ refl ⨾ refl ⨾ tt

  -- 23G goes with the status
  function-kept : function_of r ≡ value 2
  unfolding rules_of answer_of
  function-kept = function-back (value 2) r refl (answer-passes (value 2) r rules).0

  abbrev BackAt : ℕ → Type 0
  BackAt slot = value_of r slot ≡ tidied (slot_of slot).form (value slot)

  -- the test of each slot, and that its value is written as it was
  pub record Parts : Type 0 where
    pub seme : (fitted 1 r.seme ≡ true) × (contents r.seme ≡ value 1)
    pub prep : (prep_form r.prep ≡ true) × (moment_text r.prep ≡ value 3)
    pub mast : (fitted 4 r.mast ≡ true) × (contents r.mast ≡ value 4)
    pub prev : (assigned 5 r.prev ≡ true) × (contents r.prev ≡ value 5)
    pub rela : (fitted 6 r.rela ≡ true) × (contents r.rela ≡ value 6)
    pub list : (assigned 7 r.list ≡ true) × (contents r.list ≡ value 7)
    pub bask : (assigned 8 r.bask ≡ true) × (contents r.bask ≡ value 8)
    pub prog : (assigned 9 r.prog ≡ true) × (contents r.prog ≡ value 9)
    pub comm : (assigned 10 r.comm ≡ true) × (contents r.comm ≡ value 10)
    pub state : (status_form r.status ≡ true) × (status_text r.status ≡ value 11)
    pub password : (fitted 32 r.password ≡ true) × (contents r.password ≡ value 32)
    pub receiver : (fitted 33 r.receiver ≡ true) × (contents r.receiver ≡ value 33)
    pub sender : [] ≡ value 34
    pub type : [] ≡ value 35

  parts : Parts
  unfolding every_slot optional slots_of member_slots own_slots field_slots must_slots first_slots header tree general status reasons repeated chain has answer_of slot_of slots statuses form_number
  parts =
      let must = must-form mt509 value h in
      let text = text-kept mt509 value h in
      let held = class-kept mt509 value h in
      record {
        seme = text 1 1 16 refl refl refl;
        prep = prep-held (value 3) (may-form mt509 value h 3 refl);
        mast = text 4 1 16 refl refl refl;
        prev = held 5 Hyphened 1 16 refl refl refl;
        rela = text 6 1 16 refl refl refl;
        list = held 7 Hyphened 1 16 refl refl refl;
        bask = held 8 Hyphened 1 16 refl refl refl;
        prog = held 9 Hyphened 1 16 refl refl refl;
        comm = held 10 Hyphened 1 16 refl refl refl;
        state = status-held (value 11) (unless-good _ (must 11 refl refl));
        password = text 32 0 12 refl refl refl;
        receiver = text 33 1 8 refl refl refl;
        sender = fixed-line (value 34) (must 34 refl refl);
        type = fixed-line (value 35) (must 35 refl refl);
      }

  each_back : Each (Named mt509 BackAt) 0 36
  unfolding every_slot slots_of member_slots own_slots field_slots header tree general status reasons repeated chain has value_of values reason_values tidied slot_of slots statuses past twice
  each_back =
      let p = parts in
      none mt509 0 refl
      ⨾ (λ i. p.seme.1)
      ⨾ (λ i. function-kept)
      ⨾ (λ i. p.prep.1)
      ⨾ (λ i. p.mast.1)
      ⨾ (λ i. p.prev.1)
      ⨾ (λ i. p.rela.1)
      ⨾ (λ i. p.list.1)
      ⨾ (λ i. p.bask.1)
      ⨾ (λ i. p.prog.1)
      ⨾ (λ i. p.comm.1)
      ⨾ (λ i. p.state.1)
      ⨾ reasons-kept value h r 12 0 10 4 reasons-may formed read-so (aligned-in r)
      ((λ i. p.password.1) ⨾ (λ i. p.receiver.1) ⨾ (λ i. p.sender) ⨾ (λ i. p.type) ⨾ tt)

  tests-hold : hold (tests r) ≡ true
  unfolding hold tests reasons_of answer_of
  tests-hold =
      let p = parts in
      let all = hold-both (reason_tests r true 12 0 10) _ (reasons-hold value h r true 12 0 10 reasons-may formed read-so value-tied) (and_both p.password.0 (and_both p.receiver.0 refl)) in
      and_both ten (and_both p.seme.0 (and_both p.prep.0 (and_both p.mast.0 (and_both p.prev.0 (and_both p.rela.0
      (and_both p.list.0 (and_both p.bask.0 (and_both p.prog.0 (and_both p.comm.0 (and_both p.state.0 all))))))))))
    where
      ten : eqb (length (reasons_of value)) 10 ≡ true
      ten = refl

  pub values-back : (in_form r ≡ true) × ((slot : ℕ) → has (every_slot mt509) slot ≡ true → value_of r slot ≡ tidied (slot_of slot).form (value slot))
  unfolding in_form every_slot slots_of member_slots own_slots field_slots header tree general status reasons repeated chain every
  values-back = (tests-hold, each-slot mt509 36 refl BackAt each_back)
