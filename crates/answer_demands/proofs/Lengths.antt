-- No message of a record that may be written is longer than 1,476 bytes. A reject is no copy, and its 25D has ten bytes; any other status
-- has no reasons.
-- Assumes nothing.
use Prim.Native.Nat.{ℕ, zero, suc, ◌≤◌}
use mathlib.Core.Path.{◌≡◌, refl, sym, ◌∙◌}
use mathlib.Core.Bool.{Bool, true, false, ◌&&◌, ◌||◌, not, cond, true≢false}
use mathlib.Core.List.{List, [], ◌∷◌}
use native.Mathlib.Omega.{arith}
use lib.Dec.{ltb, eqb}
use lib.ListN.{length}
use borrow.Author.Tests.{eqb-true}
use Rattle.text.specs.Bytes.{bytes, begins, same}
use Rattle.text.proofs.Bools.{is_false, or_case, or_left, or_right}
use Rattle.text.proofs.Laws.{same-eq}
use Rattle.remark.specs.Remarks.{contents as remark_text}
use Rattle.remark.specs.Remarks.{Remark}
use Rattle.lines.specs.Lines.{joined}
use Rattle.forms.proofs.Widths as Widths
use Rattle.forms.proofs.Widths.{form_width, bounded}
use Rattle.sheets.specs.Trees.{chain}
use Rattle.sheets.specs.Notation.{repeated}
use Rattle.sheets.specs.Slots.{field_slots, own_slots, member_slots, slots_of, first_slots, must_slots}
use Rattle.sheets.specs.Sheets.{line_of, lines_in, has}
use Rattle.sheets.specs.Filled.{some, any_field, any_member, any_in, filled_fields, filled_members, filled}
use Rattle.format.specs.Format.{optional}
use Rattle.format.specs.Writing.{behind_in, head_line, message_of, judge_of}
use Rattle.format.proofs.BySlot.{◌⨾◌}
use Rattle.format.proofs.Tests.{every}
use Rattle.format.proofs.Laws.{every_slot}
use Rattle.format.proofs.Round.{judge-zero}
use Rattle.format.proofs.Lengths.{wide, bytes_of, within, capped, Capped, capped-most, no_text}
use Rattle.status.specs.Statuses.{statuses, status_text}
use Rattle.answer.specs.Records.{reason_at}
use Rattle.answer.specs.declared.Answer.{Answer}
use Rattle.answer_rules.specs.Rules.{of_cancel, is_reject, has_reason, has_forbidden, record_pass, function_of}
use Rattle.answer_rules.proofs.Laws.{passes}
use Rattle.answer_table.specs.Table.{slots, header, slot_of}
use Rattle.answer_table.specs.Tree.{reasons, status, general, tree}
use Rattle.answer_values.specs.Values.{reason_values, values, value_of}
use Rattle.answer_values.specs.Writable.{stands, in_form}
use Rattle.answer_values.specs.Mt509.{mt509}
use Rattle.answer_values.proofs.OfReasons.{Right, Aligned}
use Rattle.answer_values.proofs.Laws.{right, aligned-in, values-held}

-- ---- widths of slots: of a reject 23G and 25D have fewer bytes than their forms take, and any other has no reasons

abbrev rejected : List (ℕ × ℕ)
rejected = (2, 4) ∷ (11, 10) ∷ []

unfoldable none_from : ℕ → ℕ → List (ℕ × ℕ)
none_from slot zero = []
none_from slot (suc n) = (slot, 0) ∷ (suc slot, 0) ∷ none_from (suc (suc slot)) n

-- the bytes of a message whose values are so wide
reject-is : (a : Answer) → bytes_of mt509 (within mt509 a (capped mt509 rejected)) ≡ 1476
unfolding capped form_width Widths.longest within wide every_slot optional slots_of member_slots own_slots field_slots must_slots first_slots has header tree general status reasons repeated chain filled filled_members filled_fields any_in any_member any_field some lines_in line_of joined head_line behind_in slot_of slots statuses bytes
reject-is a = refl

other-is : (a : Answer) → bytes_of mt509 (within mt509 a (capped mt509 (none_from 12 10))) ≡ 555
unfolding none_from capped form_width Widths.longest within wide every_slot optional slots_of member_slots own_slots field_slots must_slots first_slots has header tree general status reasons repeated chain filled filled_members filled_fields any_in any_member any_field some lines_in line_of joined head_line behind_in slot_of slots statuses bytes
other-is a = refl

are-bounded : every (λ s. bounded (slot_of s).form) (every_slot mt509) ≡ true
unfolding every bounded every_slot slots_of member_slots own_slots field_slots header tree general status reasons repeated chain slot_of slots statuses
are-bounded = refl

-- ---- a reject

short-function : (a : Answer) → a.copy ≡ false → length (function_of a) ≤ 4
unfolding function_of bytes
short-function a c = rw c (go (of_cancel a.status))
  where
    go : (b : Bool) → length (cond b (bytes "CAST") (bytes "INST")) ≤ 4
    go true = omega arith
    go false = omega arith

-- its 25D, and that it is no copy
reject-text : (a : Answer) → is_reject a.status ≡ true → (length (status_text a.status) ≤ 10) × (same (bytes "CPRC//CAND") (status_text a.status) ≡ false)
unfolding is_reject bytes same
reject-text a e =
    or_case (same (bytes "IPRC//REJT") (status_text a.status)) _ e
    (λ s. rw (← same-eq (bytes "IPRC//REJT") (status_text a.status) s) (omega arith, refl))
    (λ s. rw (← same-eq (bytes "CPRC//REJT") (status_text a.status) s) (omega arith, refl))

-- ---- no reasons

is_true : (b : Bool) → (b ≡ false → ⊥) → b ≡ true
is_true true f = refl
is_true false f = absurd (f refl)

-- where the first does not stand nothing is asked of one before it
unstood : (a : Answer) (slot number n : ℕ) → stands (reason_at a number) ≡ false → Right a true slot number (suc n) → Right a false slot number (suc n)
unfolding Right
unstood a slot number n e h = (h.0, λ s. absurd (true≢false (sym s ∙ e)), h.2, h.3, h.4)

no-remark : (r : Remark) → r.len ≡ 0 → length (remark_text r) ≤ 0
unfolding remark_text
no-remark r e = rw e (omega arith)

none-there : (a : Answer) (slot number n : ℕ) → Aligned a slot number n → Right a false slot number n → Capped mt509 a (none_from slot n)
unfolding Aligned Right none_from stands
none-there a slot number zero e h = tt
none-there a slot number (suc n) e h =
    let r = reason_at a number in
    let absent : ltb 0 r.code.len ≡ false = is_false _ (λ s. true≢false (sym (h.1 s))) in
    let empty : r.text.len ≡ 0 = eqb-true _ _ (is_true (eqb r.text.len 0) (λ s. true≢false (sym (h.3 s) ∙ absent))) in
    rw e.0 (no_text r.code absent)
    ⨾ rw e.1.0 (no-remark r.text empty)
    ⨾ none-there a (suc (suc slot)) (suc number) n e.1.1 (rw absent at h.4)

-- ---- all of them

module _ (a : Answer) (good : judge_of mt509 a ≡ 0) where
  judged : (in_form a ≡ true) × ((record_pass a).number ≡ 0)
  judged = judge-zero mt509 a good

  rules : has_forbidden a ≡ false
  rules = (passes a judged.1).1

  -- with caps that it keeps it has at most so many bytes
  most-of : (caps : List (ℕ × ℕ)) → Capped mt509 a caps → length (message_of mt509 a) ≤ bytes_of mt509 (within mt509 a (capped mt509 caps))
  most-of = capped-most mt509 a (values-held a judged.0) are-bounded

  reject-most : is_reject a.status ≡ true → length (message_of mt509 a) ≤ 1476
  unfolding has_forbidden value_of values
  reject-most e =
      let t = reject-text a e in
      let plain : (a.copy && not (same (bytes "CPRC//CAND") (status_text a.status))) ≡ false = or_right (not (is_reject a.status) && has_reason a) _ rules in
      let copy : a.copy ≡ false = is_false a.copy (λ c. true≢false (sym (rw (c, t.1)) ∙ plain)) in
      let m = most-of rejected (short-function a copy ⨾ t.0 ⨾ tt) in
      omega (arith, reject-is a)

  other-most : is_reject a.status ≡ false → length (message_of mt509 a) ≤ 1476
  unfolding has_forbidden has_reason stands
  other-most e =
      let none : ltb 0 (reason_at a 0).code.len ≡ false = rw e at (or_left (not (is_reject a.status) && has_reason a) _ rules) in
      let m = most-of (none_from 12 10) (none-there a 12 0 10 (aligned-in a) (right-none none)) in
      omega (arith, other-is a)
    where
      right-none : ltb 0 (reason_at a 0).code.len ≡ false → Right a false 12 0 10
      right-none n = unstood a 12 0 9 n (right a judged.0)

  pub message-most : length (message_of mt509 a) ≤ 1476
  message-most = go (is_reject a.status) refl
    where
      go : (b : Bool) → is_reject a.status ≡ b → length (message_of mt509 a) ≤ 1476
      go true e = reject-most e
      go false e = other-most e
