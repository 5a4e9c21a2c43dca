-- The mathematics of the crate's functions: the widths of the code's texts are those of their slots, tests by stretches of their list, the
-- reasons one after the other, and the number of a record in form.
-- Assumes nothing.
use Prim.Native.Nat.{ℕ, suc, ◌+◌, ◌-◌, ◌*◌, ◌<◌}
use mathlib.Core.Path.{◌≡◌, refl, sym, ap, ◌∙◌}
use mathlib.Core.Bool.{Bool, true, false, ◌&&◌, ◌||◌, not, and_assoc}
use mathlib.Core.List.{List, [], ◌∷◌, ◌++◌}
use native.Mathlib.Omega.{arith}
use lib.Dec.{eqb}
use lib.ListN.{take, drop}
use borrow.Author.Tests.{not-true, not-false}
use Rattle.text.specs.Texts.{in_form_of, in_form as text_form}
use Rattle.text.specs.declared.Class.TheVariants.{Hyphened, Printed}
use Rattle.text.specs.Texts.{Text}
use Rattle.remark.specs.Remarks.{in_form as remark_form}
use Rattle.lines.specs.declared.Verdict.{Verdict}
use Rattle.lines.proofs.Rules.{goes_on}
use Rattle.forms.specs.Forms.{codes, characters}
use Rattle.sheets.specs.Trees.{chain}
use Rattle.sheets.specs.Notation.{repeated}
use Rattle.sheets.specs.Slots.{field_slots, own_slots, member_slots, slots_of, first_slots, must_slots}
use Rattle.sheets.specs.Sheets.{has}
use Rattle.status.specs.Statuses.{status_form}
use Rattle.answer.specs.Records.{password_slot, receiver_slot, reason_at}
use Rattle.answer.specs.declared.Reason.{Reason}
use Rattle.answer.specs.declared.Answer.{Answer}
use Rattle.answer_rules.specs.Rules.{record_pass}
use Rattle.answer_table.specs.Table.{slots, slot_of}
use Rattle.answer_table.specs.Tree.{reasons, status, general, tree}
use Rattle.format.specs.Format.{may_lack}
use Rattle.format.specs.Writable.{hold}
use Rattle.format.specs.Writing.{judge_of as number_of}
use Rattle.format.proofs.BySlot.{Each, ◌⨾◌, each_at, fitted-must, fitted-may, hold-split, hold-from}
use Rattle.answer_values.specs.Writable.{fitted, assigned, stands, reason_tests, tests, in_form}
use Rattle.answer_judge.specs.Judging.{judge_of}
use Rattle.answer_judge.specs.Parts.{reason_form}
use Rattle.answer_judge.proofs.Widths.{fitted-or, fitted-class, fitted-remark}

-- ---- the widths of the code's texts are those of their slots

pub record Widths : Type 0 where
  pub seme : (x : Text) → fitted 1 x ≡ text_form 1 16 x
  pub mast : (x : Text) → fitted 4 x ≡ text_form 0 16 x
  pub prev : (x : Text) → assigned 5 x ≡ in_form_of Hyphened 0 16 x
  pub rela : (x : Text) → fitted 6 x ≡ text_form 0 16 x
  pub list : (x : Text) → assigned 7 x ≡ in_form_of Hyphened 0 16 x
  pub bask : (x : Text) → assigned 8 x ≡ in_form_of Hyphened 0 16 x
  pub prog : (x : Text) → assigned 9 x ≡ in_form_of Hyphened 0 16 x
  pub comm : (x : Text) → assigned 10 x ≡ in_form_of Hyphened 0 16 x
  pub password : (x : Text) → fitted password_slot x ≡ text_form 0 12 x
  pub receiver : (x : Text) → fitted receiver_slot x ≡ text_form 1 8 x

pub widths : Widths
unfolding slot_of slots slots_of member_slots own_slots field_slots must_slots first_slots tree general status reasons repeated chain has
widths =
    record {
      seme = λ x. fitted-must tree slot_of 1 1 16 x refl refl;
      mast = λ x. fitted-may tree slot_of 4 16 x refl refl;
      prev = λ x. fitted-class tree slot_of 5 refl Hyphened 16 x refl;
      rela = λ x. fitted-may tree slot_of 6 16 x refl refl;
      list = λ x. fitted-class tree slot_of 7 refl Hyphened 16 x refl;
      bask = λ x. fitted-class tree slot_of 8 refl Hyphened 16 x refl;
      prog = λ x. fitted-class tree slot_of 9 refl Hyphened 16 x refl;
      comm = λ x. fitted-class tree slot_of 10 refl Hyphened 16 x refl;
      password = λ x. fitted-must tree slot_of password_slot 0 12 x refl refl;
      receiver = λ x. fitted-must tree slot_of receiver_slot 1 8 x refl refl;
    }

-- the two slots of the reason with a number
abbrev Reasons : ℕ → Type 0
Reasons number =
    ((slot_of (12 + 2 * number)).form ≡ codes 4 4)
    × (may_lack tree (12 + 2 * number) ≡ true)
    × ((slot_of (suc (12 + 2 * number))).form ≡ characters Printed 1 35)
    × (may_lack tree (suc (12 + 2 * number)) ≡ true)

ten : Each Reasons 0 10
unfolding slot_of slots slots_of member_slots own_slots field_slots must_slots first_slots tree general status reasons repeated chain has
ten =
    (refl, refl, refl, refl)
    ⨾ (refl, refl, refl, refl)
    ⨾ (refl, refl, refl, refl)
    ⨾ (refl, refl, refl, refl)
    ⨾ (refl, refl, refl, refl)
    ⨾ (refl, refl, refl, refl)
    ⨾ (refl, refl, refl, refl)
    ⨾ (refl, refl, refl, refl)
    ⨾ (refl, refl, refl, refl)
    ⨾ (refl, refl, refl, refl)
    ⨾ tt

-- ---- the reasons, one after the other

-- the tests from a number on, behind a reason that stands or not
abbrev pub from : Answer → Bool → ℕ → Bool
from a before number = hold (reason_tests a before (12 + 2 * number) number (10 - number))

module _ (a : Answer) (before : Bool) (number : ℕ) (h : number < 10) where
  -- that of the next, and those behind it
  one : from a before number ≡ (reason_form before (reason_at a number) && from a (stands (reason_at a number)) (number + 1))
  unfolding reason_tests hold reason_form
  one =
      let r : Reason = reason_at a number in
      let code : Bool = (text_form 0 0 r.code || text_form 4 4 r.code) && (not (stands r) || before) in
      let said : Bool = remark_form 0 35 r.text && (eqb r.text.len 0 || stands r) in
      let slots-are = each_at Reasons 10 ten number h in
      let left : 10 - number ≡ suc (10 - (number + 1)) = omega arith in
      let slot : suc (suc (12 + 2 * number)) ≡ 12 + 2 * (number + 1) = omega arith in
      let next : suc number ≡ number + 1 = omega arith in
      rw (
        left,
        slot,
        next,
        fitted-or tree slot_of (12 + 2 * number) slots-are.1 4 4 r.code slots-are.0,
        fitted-remark tree slot_of (suc (12 + 2 * number)) slots-are.3 35 r.text slots-are.2,
      )
      (sym (and_assoc code said (from a (stands r) (number + 1))))

  module _ (r : Reason) (is : r ≡ reason_at a number) (good : Bool) (judged : good ≡ reason_form before r) where
    pub fails : not good ≡ true → false ≡ from a before number
    fails e = sym (one ∙ rw (← is, ← judged, not-true good e))

    pub passes : not good ≡ false → from a before number ≡ from a (stands r) (number + 1)
    passes e = one ∙ rw (← is, ← judged, not-false good e)

-- ---- the tests of a record, a stretch of their list at a time

hold-append : (xs ys : List Bool) → hold (xs ++ ys) ≡ (hold xs && hold ys)
unfolding hold
hold-append [] ys = refl
hold-append (x ∷ xs) ys = rw (hold-append xs ys) (sym (and_assoc x (hold xs) (hold ys)))

abbrev header : Answer → List Bool
header a = fitted password_slot a.password ∷ fitted receiver_slot a.receiver ∷ []

behind : (a : Answer) → hold (drop 11 (tests a)) ≡ (status_form a.status && (hold (reason_tests a true 12 0 10) && hold (header a)))
unfolding tests hold
behind a = ap (λ b. status_form a.status && b) (hold-append (reason_tests a true 12 0 10) (header a))

pub formed : (a : Answer) {g l s r h : Bool} → g ≡ hold (take 4 (tests a)) → l ≡ hold (take 7 (drop 4 (tests a))) → s ≡ status_form a.status
    → r ≡ hold (reason_tests a true 12 0 10) → h ≡ hold (header a) → (g && (l && (s && (r && h)))) ≡ in_form a
unfolding in_form
formed a p q u v w = let l : List Bool = tests a in rw (p, q, u, v, w) (sym (hold-split 4 l ∙ rw (hold-from 7 4 l, behind a)))

-- ---- a record in form has the number of its rules

pub by-rules : (a : Answer) → in_form a ≡ true → (v : Verdict) → v ≡ record_pass a → v.number ≡ judge_of a
unfolding number_of
by-rules a form v is = ap (λ (w : Verdict). w.number) (is ∙ goes_on (not (in_form a)) 18 (record_pass a) (ap not form))
