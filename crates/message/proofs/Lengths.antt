-- Document 01, "Plain form, and the record": the longest written message has 822 bytes. For each kind a table filled in with
-- values as wide as the kind lets them be is computed; no record of the kind has more.
-- Assumes nothing.
use Prim.Native.Nat.{ℕ, ◌+◌, ◌≤◌}
use mathlib.Core.Path.{◌≡◌, refl, ap}
use mathlib.Core.Bool.{true, false, true≢false}
use mathlib.Core.List.{List, [], ◌∷◌, ◌++◌}
use native.Mathlib.Omega.{arith}
use lib.ListN.{length, length-append}
use Rattle.std.proofs.Common.{Option, Some, None}
use Rattle.text.specs.Bytes.{bytes}
use Rattle.text.specs.Texts.{Text}
use Rattle.text.proofs.Bools.{or_left, or_right}
use Rattle.text.proofs.Laws.{and_right}
use Rattle.lines.specs.Lines.{joined}
use Rattle.forms.proofs.Widths as Widths
use Rattle.forms.proofs.Widths.{form_width, bounded}
use Rattle.sheets.specs.Slots.{field_slots, own_slots, member_slots, slots_of, first_slots, must_slots}
use Rattle.sheets.specs.Sheets.{line_of, lines_in, has}
use Rattle.sheets.specs.Filled.{some, any_field, any_member, any_in, filled_fields, filled_members, filled}
use Rattle.format.specs.Format.{optional}
use Rattle.format.proofs.Laws.{every_slot}
use Rattle.format.specs.Writing.{head_line, behind_in}
use Rattle.format.proofs.Tests.{every}
use Rattle.format.proofs.Lengths.{wide, bytes_of, within, capped, Capped, capped-most, no_text}
use Rattle.trade.specs.declared.Kind.{Kind}
use Rattle.typed.specs.declared.Side.{Side}
use Rattle.trade.specs.declared.Service.{Service}
use Rattle.trade.specs.declared.Trade.{Trade}
use Rattle.kinds.specs.Kinds.{present, has_days, other, own, contra, stray, tddk_only, tddk_never, has_forbidden}
use Rattle.kinds.proofs.Laws.{passes}
use Rattle.table.specs.Table.{slots, header, slot_of}
use Rattle.table.specs.Tree.{general, pool, details, tree}
use Rattle.reason.specs.Reason.{reason_text}
use Rattle.reason.proofs.Laws.{reason-short, no-reason}
use Rattle.values.specs.Mt515.{mt515}
use Rattle.values.specs.Values.{service_word, period_text, narrative, values, value_of}
use Rattle.values.specs.Writable.{period_form, tests, in_form}
use Rattle.format.proofs.BySlot.{◌⨾◌}
use Rattle.values.proofs.Narratives.{period-short}
use Rattle.values.proofs.Widths.{service-long, narrative-is}
use Rattle.values.proofs.Laws.{test, values-held}
use Rattle.judge.specs.Judging.{judge_of}
use Rattle.judge.proofs.Laws.{judge-zero}
use Rattle.message.specs.Messages.{message_of}

-- ---- how wide the values of a record may be

-- less than their forms take: none of MAST, PREV, LIST and the contra references where a kind may not have them, and the narrative, which
-- is with GUPP or with DKRS
unfoldable pub caps : Kind → Side → List (ℕ × ℕ)
caps Kind.Inst side = (5, 0) ∷ (6, 0) ∷ (13, 0) ∷ (16, 0) ∷ (21, 15) ∷ []
caps Kind.Canc side = (5, 0) ∷ (13, 0) ∷ (16, 0) ∷ (21, 15) ∷ []
caps Kind.Mdfc side = (13, 0) ∷ (16, 0) ∷ (21, 15) ∷ []
caps Kind.Tddk Side.Buyi = (4, 0) ∷ (5, 0) ∷ (6, 0) ∷ (13, 0) ∷ (21, 18) ∷ []
caps Kind.Tddk Side.Sell = (4, 0) ∷ (5, 0) ∷ (6, 0) ∷ (16, 0) ∷ (21, 18) ∷ []

unfoldable pub longest : Kind → ℕ
longest Kind.Inst = 718
longest Kind.Canc = 770
longest Kind.Mdfc = 822
longest Kind.Tddk = 699

-- the bytes of a message whose values are so wide
pub widest-is : (t : Trade) (kind : Kind) (side : Side) → bytes_of mt515 (within mt515 t (capped mt515 (caps kind side))) ≡ longest kind
unfolding longest caps capped form_width Widths.longest within wide every_slot optional slots_of member_slots own_slots field_slots must_slots first_slots has header tree general pool details filled filled_members filled_fields any_in any_member any_field some lines_in line_of joined head_line behind_in slot_of slots bytes
widest-is t Kind.Inst side = refl
widest-is t Kind.Canc side = refl
widest-is t Kind.Mdfc side = refl
widest-is t Kind.Tddk Side.Buyi = refl
widest-is t Kind.Tddk Side.Sell = refl

-- ---- what is not there has no bytes

no-period : (period : Option ℕ) → has_days period ≡ false → length (period_text period) ≤ 0
unfolding period_text
no-period None e = omega arith
no-period (Some n) e = absurd (true≢false e)

no-dkrs : (reason : Text) → present reason ≡ false → length (reason_text reason) ≤ 0
no-dkrs reason e = rw (no-reason reason e) (omega arith)

-- the narrative, by what it has of GUPP and DKRS
told-most : (service : Service) (period : Option ℕ) (reason : Text) (p r : ℕ) → length (period_text period) ≤ p → length (reason_text reason) ≤ r
    → length (narrative service period reason) ≤ 9 + (p + r)
told-most service period reason p r h k =
    let w = bytes "/TDSV" ++ service_word service in
    let e = ap length (narrative-is service period reason w refl) in
    let a = length-append w (period_text period ++ reason_text reason) in
    let b = length-append (period_text period) (reason_text reason) in
    let s = service-long service in
    omega arith

-- ---- so no record has more

module _ (t : Trade) (good : judge_of t ≡ 0) where
  form : in_form t ≡ true
  form = (judge-zero t good).0

  allowed : has_forbidden t.kind t ≡ false
  allowed = (passes t (judge-zero t good).1).1

  -- what the others may not have, and what a TDDK may not
  no-tddk : tddk_only t ≡ false → Capped mt515 t ((13, 0) ∷ (16, 0) ∷ (21, 15) ∷ [])
  unfolding tddk_only contra stray other own value_of values
  no-tddk e =
      let k = or_right (contra t) _ e in
      let r = or_right (stray t) _ k in
      go t.side (or_left _ _ e) (or_left _ _ k) (told-most t.service t.period t.reason 6 0 (period-short t.period) (no-dkrs t.reason r))
    where
      go : (side : Side) → present (other t side).reference ≡ false → present (own t side).reference ≡ false → length (value_of t 21) ≤ 15 → Capped mt515 t ((13, 0) ∷ (16, 0) ∷ (21, 15) ∷ [])
      go Side.Buyi a b n = no_text t.buyer.reference b ⨾ no_text t.seller.reference a ⨾ n ⨾ tt
      go Side.Sell a b n = no_text t.buyer.reference a ⨾ no_text t.seller.reference b ⨾ n ⨾ tt

  no-others : tddk_never t ≡ false → (length (value_of t 4) ≤ 0) × (length (value_of t 5) ≤ 0) × (length (value_of t 6) ≤ 0) × (stray t ≡ false) × (length (value_of t 21) ≤ 18)
  unfolding tddk_never value_of values tests
  no-others e =
      let k = or_right (present t.mast) _ e in
      let l = or_right (present t.prev) _ k in
      let m = or_right (present t.list) _ l in
      let r = reason-short t.reason (and_right (period_form t.period) _ (test t form 21)) in (
        no_text t.mast (or_left _ _ e),
        no_text t.prev (or_left _ _ k),
        no_text t.list (or_left _ _ l),
        or_left _ _ m,
        told-most t.service t.period t.reason 0 9 (no-period t.period (or_right (stray t) _ m)) r,
      )

  caps-kept : (kind : Kind) (side : Side) → t.side ≡ side → has_forbidden kind t ≡ false → Capped mt515 t (caps kind side)
  unfolding has_forbidden caps stray own value_of values
  caps-kept Kind.Inst side s e =
      let k = or_right (present t.prev) _ e in
      no_text t.prev (or_left _ _ e) ⨾ no_text t.list (or_left _ _ k) ⨾ no-tddk (or_right (present t.list) _ k)
  caps-kept Kind.Canc side s e = no_text t.prev (or_left _ _ e) ⨾ no-tddk (or_right (present t.prev) _ e)
  caps-kept Kind.Mdfc side s e = no-tddk e
  caps-kept Kind.Tddk Side.Buyi s e = let n = no-others e in n.0 ⨾ n.1 ⨾ n.2 ⨾ no_text t.buyer.reference (rw s at n.3) ⨾ n.4 ⨾ tt
  caps-kept Kind.Tddk Side.Sell s e = let n = no-others e in n.0 ⨾ n.1 ⨾ n.2 ⨾ no_text t.seller.reference (rw s at n.3) ⨾ n.4 ⨾ tt

  are-bounded : every (λ s. bounded (slot_of s).form) (every_slot mt515) ≡ true
  unfolding every bounded every_slot slots_of member_slots own_slots field_slots header tree general pool details slot_of slots
  are-bounded = refl

  pub most-of-kind : length (message_of t) ≤ longest t.kind
  most-of-kind =
      let h = capped-most mt515 t (values-held t form) are-bounded (caps t.kind t.side) (caps-kept t.kind t.side refl allowed) in
      let e = widest-is t t.kind t.side in
      omega arith

  -- the longest of all is an MDFC
  pub message-most : length (message_of t) ≤ 822
  unfolding longest
  message-most = let m = most-of-kind in go t.kind m
    where
      go : (k : Kind) → length (message_of t) ≤ longest k → length (message_of t) ≤ 822
      go Kind.Inst m = omega arith
      go Kind.Canc m = omega arith
      go Kind.Mdfc m = omega arith
      go Kind.Tddk m = omega arith
