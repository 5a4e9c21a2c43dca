-- Request A1, "Longest message": the longest written message has 752 bytes. What a kind may not have has no bytes; a table filled in with
-- values as wide as that lets them be is computed for each kind, and no record of the kind has more.
-- Assumes nothing.
use Prim.Native.Nat.{ℕ, ◌+◌, ◌≤◌}
use mathlib.Core.Path.{◌≡◌, refl}
use mathlib.Core.Bool.{Bool, true, false, cond}
use mathlib.Core.List.{List, [], ◌∷◌}
use native.Mathlib.Omega.{arith}
use lib.Dec.{eqb}
use lib.ListN.{length, get_or}
use borrow.Author.Tests.{eqb-true}
use Rattle.text.specs.Bytes.{bytes}
use Rattle.text.proofs.Laws.{and_right}
use Rattle.lines.specs.Lines.{joined}
use Rattle.reason.specs.Reason.{reason_text}
use Rattle.reason.proofs.Laws.{reason-short, no-reason}
use Rattle.forms.proofs.Widths as Widths
use Rattle.forms.proofs.Widths.{form_width, bounded}
use Rattle.sheets.specs.Slots.{field_slots, own_slots, member_slots, slots_of, first_slots, must_slots}
use Rattle.sheets.specs.Sheets.{line_of, lines_in, has}
use Rattle.sheets.specs.Filled.{some, any_field, any_member, any_in, filled_fields, filled_members, filled}
use Rattle.format.specs.Format.{optional}
use Rattle.format.specs.Writing.{head_line, behind_in, judge_of, message_of}
use Rattle.format.proofs.Laws.{every_slot}
use Rattle.format.proofs.Tests.{every}
use Rattle.format.proofs.BySlot.{◌⨾◌}
use Rattle.format.proofs.Lengths.{value-width, wide, bytes_of, within, capped, Capped, capped-most, no_text}
use Rattle.typed.specs.declared.Side.{Side}
use Rattle.pool_trade.specs.declared.Kind.{Kind}
use Rattle.pool_trade.specs.declared.PoolTrade.{PoolTrade}
use Rattle.pool_kinds.specs.Kinds.{needs, other, own, contra, stray, there, has_forbidden}
use Rattle.pool_kinds.proofs.Laws.{passes, absent}
use Rattle.pool_table.specs.Table.{slots, header, slot_of}
use Rattle.pool_table.specs.Tree.{general, security, details, tree}
use Rattle.pool_values.specs.Pool.{pool}
use Rattle.pool_values.specs.Values.{cdr_text, values, value_of}
use Rattle.pool_values.specs.Writable.{delivery_form, tests, in_form}
use Rattle.pool_values.proofs.Narratives.{cdr-short, delivery-short, narrative-length}
use Rattle.pool_values.proofs.Laws.{test, values-held}
use Rattle.pool_judge.proofs.Laws.{judge-zero}

-- ---- how wide the values of a record may be

-- a field by its place in `needs`: so many bytes, and none where the kind may not have it
unfoldable pub allowed : Kind → ℕ → ℕ → ℕ
allowed kind field n = cond (eqb (get_or (needs kind) field 0) 45) 0 n

-- the slots of the contra references in the other side's block and in the sender's own
unfoldable pub other_slot : Side → ℕ
other_slot Side.Buyi = 15
other_slot Side.Sell = 13

unfoldable pub own_slot : Side → ℕ
own_slot Side.Buyi = 13
own_slot Side.Sell = 15

-- less than their forms take: PREV, LIST, the contra references and the narrative, whose 22 bytes are `/TDSVPOOL` and a date with `/DDTE`
unfoldable pub caps : Kind → Side → List (ℕ × ℕ)
caps kind side =
    (4, allowed kind 1 16)
    ∷ (5, allowed kind 2 16)
    ∷ (other_slot side, allowed kind 3 16)
    ∷ (own_slot side, allowed kind 4 16)
    ∷ (19, 22 + (allowed kind 5 5 + allowed kind 6 9))
    ∷ []

unfoldable pub longest : Kind → ℕ
longest Kind.Inst = 648
longest Kind.Canc = 752
longest Kind.Mdfc = 752
longest Kind.Tddk = 682
longest Kind.Cdrq = 700
longest Kind.Cdrl = 700

-- the bytes of a message whose values are so wide
pub widest-is : (t : PoolTrade) (kind : Kind) (side : Side) → bytes_of pool (within pool t (capped pool (caps kind side))) ≡ longest kind
unfolding longest caps allowed other_slot own_slot needs capped form_width Widths.longest within wide every_slot optional slots_of member_slots own_slots field_slots must_slots first_slots has header tree general security details filled filled_members filled_fields any_in any_member any_field some lines_in line_of joined head_line behind_in slot_of slots bytes
widest-is t Kind.Inst Side.Buyi = refl
widest-is t Kind.Inst Side.Sell = refl
widest-is t Kind.Canc Side.Buyi = refl
widest-is t Kind.Canc Side.Sell = refl
widest-is t Kind.Mdfc Side.Buyi = refl
widest-is t Kind.Mdfc Side.Sell = refl
widest-is t Kind.Tddk Side.Buyi = refl
widest-is t Kind.Tddk Side.Sell = refl
widest-is t Kind.Cdrq Side.Buyi = refl
widest-is t Kind.Cdrq Side.Sell = refl
widest-is t Kind.Cdrl Side.Buyi = refl
widest-is t Kind.Cdrl Side.Sell = refl

-- ---- so no record has more

are-bounded : every (λ s. bounded (slot_of s).form) (every_slot pool) ≡ true
unfolding every bounded every_slot slots_of member_slots own_slots field_slots header tree general security details slot_of slots
are-bounded = refl

no-cdr : (cdr : Bool) → cdr ≡ false → length (cdr_text cdr) ≤ 0
unfolding cdr_text
no-cdr cdr e = rw e (omega arith)

module _ (t : PoolTrade) (good : judge_of pool t ≡ 0) where
  form : in_form t ≡ true
  form = (judge-zero t good).0

  -- what has at most so many bytes, and none where the record does not have the field
  at_most : (field n : ℕ) (v : List ℕ) → (get_or (there t) field false ≡ false → length v ≤ 0) → length v ≤ n → length v ≤ allowed t.kind field n
  unfolding allowed
  at_most field n v none h = go (eqb (get_or (needs t.kind) field 0) 45) refl
    where
      go : (b : Bool) → eqb (get_or (needs t.kind) field 0) 45 ≡ b → length v ≤ cond b 0 n
      go true e = none (absent t t.kind refl (passes t (judge-zero t good).1).1 field (eqb-true (get_or (needs t.kind) field 0) 45 e))
      go false e = h

  -- a reference has at most the bytes that its slot takes
  text : (field slot : ℕ) → has (every_slot pool) slot ≡ true → form_width (slot_of slot).form ≡ 16
      → (get_or (there t) field false ≡ false → length (value_of t slot) ≤ 0) → length (value_of t slot) ≤ allowed t.kind field 16
  text field slot i w none =
      let h = value-width pool (value_of t) (values-held t form) are-bounded slot i in
      at_most field 16 (value_of t slot) none (omega arith)

  told : length (value_of t 19) ≤ 22 + (allowed t.kind 5 5 + allowed t.kind 6 9)
  unfolding value_of values there tests
  told =
      let n = narrative-length t.cdr t.delivery t.reason in
      let c = at_most 5 5 (cdr_text t.cdr) (no-cdr t.cdr) (cdr-short t.cdr) in
      let d = delivery-short t.delivery in
      let f = reason-short t.reason (and_right (delivery_form t.delivery) _ (test t form 19)) in
      let r = at_most 6 9 (reason_text t.reason) (λ e. rw (no-reason t.reason e) (omega arith)) f in
      omega arith

  caps-kept : (side : Side) → t.side ≡ side → Capped pool t (caps t.kind side)
  unfolding caps other_slot own_slot there contra stray other own value_of values every_slot slots_of member_slots own_slots field_slots header tree general security details has form_width slot_of slots
  caps-kept Side.Buyi s =
      text 1 4 refl refl (no_text t.prev)
      ⨾ text 2 5 refl refl (no_text t.list)
      ⨾ text 3 15 refl refl (λ e. no_text t.seller.reference (rw s at e))
      ⨾ text 4 13 refl refl (λ e. no_text t.buyer.reference (rw s at e))
      ⨾ told
      ⨾ tt
  caps-kept Side.Sell s =
      text 1 4 refl refl (no_text t.prev)
      ⨾ text 2 5 refl refl (no_text t.list)
      ⨾ text 3 13 refl refl (λ e. no_text t.buyer.reference (rw s at e))
      ⨾ text 4 15 refl refl (λ e. no_text t.seller.reference (rw s at e))
      ⨾ told
      ⨾ tt

  pub most-of-kind : length (message_of pool t) ≤ longest t.kind
  most-of-kind =
      let h = capped-most pool t (values-held t form) are-bounded (caps t.kind t.side) (caps-kept t.side refl) in
      let e = widest-is t t.kind t.side in
      omega arith

  -- the longest of all are a CANC and an MDFC
  pub message-most : length (message_of pool t) ≤ 752
  unfolding longest
  message-most = let m = most-of-kind in go t.kind m
    where
      go : (k : Kind) → length (message_of pool t) ≤ longest k → length (message_of pool t) ≤ 752
      go Kind.Inst m = omega arith
      go Kind.Canc m = m
      go Kind.Mdfc m = m
      go Kind.Tddk m = omega arith
      go Kind.Cdrq m = omega arith
      go Kind.Cdrl m = omega arith
