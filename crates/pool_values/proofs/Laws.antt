-- What callers cite: a record in form and the values of its slots tell each other. A record in form is the record of its values
-- (`record-back`), and these are a message's (`values-held`); and the record of a message's values is in form, and its values are
-- those, with the amounts tidied (`values-back`). Each is a list, slot by slot, of what format's proofs/Values says of one.
-- Assumes nothing.
use Prim.Native.Nat.{ℕ, ◌≤◌}
use mathlib.Core.Path.{◌≡◌, refl, ap, ◌∙◌}
use mathlib.Core.Bool.{true, cond}
use mathlib.Core.List.{List, [], ◌∷◌}
use mathlib.Core.Logic.{◌⊎◌}
use native.Mathlib.Omega.{arith}
use lib.Dec.{eqb}
use lib.ListN.{length, get_or}
use borrow.Author.Tests.{ne_eqb}
use Rattle.text.specs.Bytes.{bytes, begins, same}
use Rattle.text.proofs.Laws.{and_left, and_right, and_both, same-eq}
use Rattle.amount.specs.Amounts.{amount_read, amount_number, amount_text, tidy}
use Rattle.amount.proofs.Laws.{amount-round}
use Rattle.calendar.specs.Dates.{date_number, date_text, moment_number, moment_text}
use Rattle.calendar.proofs.Laws.{date-round, moment-round}
use Rattle.reason.specs.Reason.{reason_form}
use Rattle.forms.specs.Forms.{amount, word_at, is_word, form_number}
use Rattle.forms.specs.Pool.{pool_number}
use Rattle.forms.proofs.Laws.{unless-good}
use Rattle.sheets.specs.Slots.{field_slots, own_slots, member_slots, slots_of, first_slots, must_slots}
use Rattle.sheets.specs.Sheets.{has}
use Rattle.sheets.specs.Filled.{some}
use Rattle.sheets.proofs.Checks.{clash, avoids}
use Rattle.sheets.proofs.Loose.{lone, loose_fields, loose_members, loose}
use Rattle.format.specs.Format.{optional}
use Rattle.format.specs.Reading.{rules_of}
use Rattle.format.proofs.BySlot.{Each, ◌⨾◌, hold_at, word_back}
use Rattle.format.proofs.Tests.{every, tidied}
use Rattle.format.proofs.Laws.{every_slot, Filled, Held, Rests}
use Rattle.format.proofs.Values.{good-unless, fixed-line, amount-text, filled, may-filled, text-filled, text-back, Named, none, each-slot, held_of, may-form, must-form, text-kept, Kept, kept, no_slot, kept-all, at_slots, rests-of}
use Rattle.typed.specs.Payments.{payment_in, payment_text, payment_form}
use Rattle.typed.specs.Sides.{side_word}
use Rattle.typed.proofs.Laws.{date-held, moment-held}
use Rattle.typed.proofs.PaymentTexts.{payment-back, payment-number, payment-held}
use Rattle.typed.proofs.SideWords.{side-back, side-word, side-held}
use Rattle.pool_trade.specs.Records.{kinds, kind_in, party_of, trade_of}
use Rattle.pool_trade.specs.declared.Kind.{Kind}
use Rattle.pool_trade.specs.declared.PoolTrade.{PoolTrade}
use Rattle.pool_kinds.specs.Kinds.{function_of, record_pass}
use Rattle.pool_kinds.proofs.Laws.{passes, kinds-passes, told-apart}
use Rattle.pool_table.specs.Table.{slots, header, slot_of}
use Rattle.pool_table.specs.Tree.{general, security, details, tree}
use Rattle.pool_values.specs.Values.{kind_word, narrative, values, value_of}
use Rattle.pool_values.specs.Writable.{delivery_form, tests, in_form}
use Rattle.pool_values.specs.Pool.{pool}
use Rattle.pool_values.proofs.Laid.{layout}
use Rattle.pool_values.proofs.Narratives.{narrative-shorter, told-parts, told_back, told-form}

-- ---- code words

kind-back : (k : Kind) → kind_in (kind_word k) ≡ k
unfolding kind_in kind_word bytes word_at same
kind-back Kind.Inst = refl
kind-back Kind.Canc = refl
kind-back Kind.Mdfc = refl
kind-back Kind.Tddk = refl
kind-back Kind.Cdrq = refl
kind-back Kind.Cdrl = refl

kind-word : (k : Kind) → is_word kinds (kind_word k) ≡ true
unfolding kind_word bytes is_word word_at same
kind-word Kind.Inst = refl
kind-word Kind.Canc = refl
kind-word Kind.Mdfc = refl
kind-word Kind.Tddk = refl
kind-word Kind.Cdrq = refl
kind-word Kind.Cdrl = refl

function-word : (k : Kind) → is_word (bytes "NEWM" ∷ bytes "CANC" ∷ []) (function_of k) ≡ true
unfolding function_of bytes is_word word_at same
function-word Kind.Inst = refl
function-word Kind.Canc = refl
function-word Kind.Mdfc = refl
function-word Kind.Tddk = refl
function-word Kind.Cdrq = refl
function-word Kind.Cdrl = refl

-- ---- a record in form

module _ (t : PoolTrade) (form : in_form t ≡ true) where
  -- the test of each slot holds
  pub test : (slot : ℕ) → get_or (tests t) slot true ≡ true
  unfolding in_form
  test = hold_at (tests t) form

  narrated : (delivery_form t.delivery ≡ true) × (reason_form t.reason ≡ true)
  unfolding tests
  narrated = (and_left _ _ (test 19), and_right (delivery_form t.delivery) _ (test 19))

  pub record-back : trade_of (value_of t) ≡ t
  unfolding trade_of party_of value_of values tests
  record-back =
      let told = told-parts t.cdr t.delivery t.reason narrated.0 narrated.1 in
      let text = text-back pool in
      rw (
        kind-back t.kind,
        text 20 t.password (test 20),
        text 21 t.sender (test 21),
        text 1 t.seme (test 1),
        text 3 t.mast (test 3),
        text 4 t.prev (test 4),
        text 5 t.list (test 5),
        moment-round t.trad (test 6),
        date-round t.sett (test 7),
        amount-round t.price.0 (test 8),
        payment-back t.money (test 9),
        side-back t.side,
        text 12 t.buyer.code (test 12),
        text 13 t.buyer.reference (test 13),
        text 14 t.seller.code (test 14),
        text 15 t.seller.reference (test 15),
        amount-round t.par.0 (test 16),
        text 17 t.cusip (test 17),
        text 18 t.pool (test 18),
        told.cdr-of,
        told.delivery-of,
        told.reason-of,
      )

  -- ---- its values, slot by slot

  told : Filled pool 19 (narrative t.cdr t.delivery t.reason)
  unfolding slot_of slots form_number
  told = filled pool 19 (narrative t.cdr t.delivery t.reason) (told-parts t.cdr t.delivery t.reason narrated.0 narrated.1).number

  each-filled : Each (Named pool (λ slot. Filled pool slot (value_of t slot))) 0 26
  unfolding every_slot optional slots_of member_slots own_slots field_slots must_slots first_slots header tree general security details has value_of values slot_of slots form_number tests
  each-filled =
      let good = filled pool in
      let text = text-filled pool in
      none pool 0 refl
      ⨾ (λ i. text 1 t.seme (test 1))
      ⨾ (λ i. good 2 (function_of t.kind) (good-unless _ (function-word t.kind)))
      ⨾ (λ i. text 3 t.mast (test 3))
      ⨾ (λ i. text 4 t.prev (test 4))
      ⨾ (λ i. text 5 t.list (test 5))
      ⨾ (λ i. good 6 (moment_text t.trad) (ap moment_number (moment-round t.trad (test 6))))
      ⨾ (λ i. good 7 (date_text t.sett) (ap date_number (date-round t.sett (test 7))))
      ⨾ (λ i. good 8 (amount_text t.price.0) (ap amount_number (amount-round t.price.0 (test 8))))
      ⨾ (λ i. may-filled pool 9 (payment_text t.money) refl (payment-number t.money (test 9)))
      ⨾ (λ i. good 10 (side_word t.side) (good-unless _ (side-word t.side)))
      ⨾ (λ i. good 11 (kind_word t.kind) (good-unless _ (kind-word t.kind)))
      ⨾ (λ i. text 12 t.buyer.code (test 12))
      ⨾ (λ i. text 13 t.buyer.reference (test 13))
      ⨾ (λ i. text 14 t.seller.code (test 14))
      ⨾ (λ i. text 15 t.seller.reference (test 15))
      ⨾ (λ i. good 16 (amount_text t.par.0) (ap amount_number (amount-round t.par.0 (test 16))))
      ⨾ (λ i. text 17 t.cusip (test 17))
      ⨾ (λ i. text 18 t.pool (test 18))
      ⨾ (λ i. told)
      ⨾ (λ i. text 20 t.password (test 20))
      ⨾ (λ i. text 21 t.sender (test 21))
      ⨾ (λ i. good 22 [] (good-unless true refl))
      ⨾ (λ i. good 23 [] (good-unless true refl))
      ⨾ (λ i. good 24 [] (good-unless true refl))
      ⨾ (λ i. good 25 [] (good-unless true refl))
      ⨾ tt

  -- the values of a record in form are those of a message
  pub values-held : Held pool (value_of t)
  unfolding every_slot slots_of member_slots own_slots field_slots header tree general security details every loose lone loose_members loose_fields avoids clash bytes begins same
  values-held = held_of pool layout (value_of t) (each-slot pool 26 refl (λ slot. Filled pool slot (value_of t slot)) each-filled) refl

  -- where the rules of the record are kept its narrative has at most 31 bytes, so that number 20 can not come up: no kind may have CDRY and
  -- DKRS both
  pub told-short : (record_pass t).number ≡ 0 → length (value_of t 19) ≤ 31
  unfolding value_of values
  told-short p = narrative-shorter t.cdr t.delivery t.reason narrated.1 (told-apart t (passes t p).1)

-- ---- the record of a message's values

-- money that need not stand is written as it was, or tidied
payment-kept : (v : List ℕ) → (v ≡ []) ⊎ (amount_number (amount_read v) ≡ 0)
    → (payment_form (payment_in v) ≡ true) × (payment_text (payment_in v) ≡ tidied amount v)
unfolding tidied some
payment-kept v h = let k = payment-held v h in (k.0, k.1 ∙ go v)
  where
    go : (v : List ℕ) → cond (eqb (length v) 0) [] (tidy v) ≡ tidied amount v
    go [] = refl
    go (b ∷ v) = rw (ne_eqb (length (b ∷ v)) 0 (λ e. let z : ⊥ = omega arith in z))

module _ (value : ℕ → List ℕ) (h : Held pool value) (rules : (rules_of pool value).number ≡ 0) where
  told-kept : pool_number (value 19) ≡ 0
  unfolding every_slot optional slots_of member_slots own_slots field_slots must_slots first_slots header tree general security details has slot_of slots form_number
  told-kept = must-form pool value h 19 refl refl

  -- 23G goes with the kind
  function-kept : function_of (kind_in (value 11)) ≡ value 2
  unfolding rules_of trade_of
  function-kept = same-eq (function_of (kind_in (value 11))) (value 2) (kinds-passes (value 2) (trade_of value) rules).0

  each-kept : Each (Kept pool tests value) 0 26
  unfolding every_slot optional slots_of member_slots own_slots field_slots must_slots first_slots header tree general security details has trade_of party_of tests value_of values tidied slot_of slots form_number kind_in kind_word bytes
  each-kept =
      let must = must-form pool value h in
      let text = text-kept pool value h in
      let is = kept pool tests value in
      let no = no_slot pool tests value in
      no 0 refl refl
      ⨾ is 1 (text 1 1 16 refl refl refl)
      ⨾ is 2 (refl, function-kept)
      ⨾ is 3 (text 3 1 16 refl refl refl)
      ⨾ is 4 (text 4 1 16 refl refl refl)
      ⨾ is 5 (text 5 1 16 refl refl refl)
      ⨾ is 6 (moment-held (value 6) (must 6 refl refl))
      ⨾ is 7 (date-held (value 7) (must 7 refl refl))
      ⨾ is 8 (amount-text (value 8) (must 8 refl refl))
      ⨾ is 9 (payment-kept (value 9) (may-form pool value h 9 refl))
      ⨾ is 10 (refl, side-held (value 10) (unless-good _ (must 10 refl refl)))
      ⨾ is 11 (
        refl,
        word_back kinds (Kind.Inst ∷ Kind.Canc ∷ Kind.Mdfc ∷ Kind.Tddk ∷ Kind.Cdrq ∷ Kind.Cdrl ∷ []) Kind.Inst kind_word
            (refl ⨾ refl ⨾ refl ⨾ refl ⨾ refl ⨾ refl ⨾ tt) (value 11) (unless-good _ (must 11 refl refl)),
      )
      ⨾ is 12 (text 12 4 4 refl refl refl)
      ⨾ is 13 (text 13 1 16 refl refl refl)
      ⨾ is 14 (text 14 4 4 refl refl refl)
      ⨾ is 15 (text 15 1 16 refl refl refl)
      ⨾ is 16 (amount-text (value 16) (must 16 refl refl))
      ⨾ is 17 (text 17 9 9 refl refl refl)
      ⨾ is 18 (text 18 1 9 refl refl refl)
      ⨾ is 19 (and_both (told-form (value 19) told-kept).0 (told-form (value 19) told-kept).1, told_back (value 19) told-kept)
      ⨾ is 20 (text 20 0 12 refl refl refl)
      ⨾ is 21 (text 21 1 8 refl refl refl)
      ⨾ is 22 (refl, fixed-line (value 22) (must 22 refl refl))
      ⨾ is 23 (refl, fixed-line (value 23) (must 23 refl refl))
      ⨾ is 24 (refl, fixed-line (value 24) (must 24 refl refl))
      ⨾ is 25 (refl, fixed-line (value 25) (must 25 refl refl))
      ⨾ tt

  pub values-back : (in_form (trade_of value) ≡ true)
      × ((slot : ℕ) → has (every_slot pool) slot ≡ true → value_of (trade_of value) slot ≡ tidied (slot_of slot).form (value slot))
  unfolding every_slot slots_of member_slots own_slots field_slots header tree general security details every in_form tests
  values-back = kept-all pool tests value 26 refl refl each-kept

-- ---- what a record rests on: the values of the slots

pub rests : Rests pool
unfolding at_slots trade_of every_slot slots_of member_slots own_slots field_slots header tree general security details has
rests = rests-of pool (λ value. refl) (λ value t. refl)
