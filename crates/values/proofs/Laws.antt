-- What callers cite: a record in form and the values of its slots tell each other. A record in form is the record of its values
-- (`record-back`), and these are a message's (`values-held`); and the record of a message's values is in form, and its values are
-- those, with the amounts tidied (`values-back`). Each is a list, slot by slot, of what format's proofs/Values says of one.
-- Assumes nothing.
use Prim.Native.Nat.{ℕ, ◌≤◌}
use mathlib.Core.Path.{◌≡◌, refl, ap}
use mathlib.Core.Bool.{true}
use mathlib.Core.List.{List, [], ◌∷◌}
use lib.ListN.{length, get_or}
use Rattle.text.specs.Bytes.{bytes, begins, same}
use Rattle.text.proofs.Laws.{and_left, and_right, and_both, same-eq}
use Rattle.amount.specs.Amounts.{amount_number, amount_text}
use Rattle.amount.proofs.Laws.{amount-round}
use Rattle.calendar.specs.Dates.{date_number, date_text, moment_number, moment_text}
use Rattle.calendar.proofs.Laws.{date-round, moment-round}
use Rattle.reason.specs.Reason.{reason_form}
use Rattle.forms.specs.Forms.{word_at, is_word, form_number}
use Rattle.forms.specs.Narrative.{is_narrative}
use Rattle.forms.proofs.Laws.{unless-good}
use Rattle.sheets.specs.Slots.{field_slots, own_slots, member_slots, slots_of, first_slots, must_slots}
use Rattle.sheets.specs.Sheets.{has}
use Rattle.sheets.proofs.Checks.{clash, avoids}
use Rattle.sheets.proofs.Loose.{lone, loose_fields, loose_members, loose}
use Rattle.format.specs.Format.{optional}
use Rattle.format.specs.Reading.{rules_of}
use Rattle.format.proofs.BySlot.{Each, ◌⨾◌, hold_at, word_back}
use Rattle.format.proofs.Tests.{every, tidied}
use Rattle.format.proofs.Laws.{every_slot, Filled, Held, Rests}
use Rattle.format.proofs.Values.{good-unless, fixed-line, amount-text, filled, may-filled, text-filled, text-back, Named, none, each-slot, held_of, may-form, must-form, text-kept, Kept, kept, no_slot, kept-all, at_slots, rests-of}
use Rattle.typed.proofs.Preps.{prep-back, prep-number, prep-held}
use Rattle.typed.proofs.Laws.{date-held, moment-held}
use Rattle.typed.specs.Sides.{side_word}
use Rattle.typed.proofs.SideWords.{side-back, side-word, side-held}
use Rattle.trade.specs.Records.{kinds, kind_in, party_of, trade_of}
use Rattle.trade.specs.declared.Kind.{Kind}
use Rattle.trade.specs.declared.Trade.{Trade}
use Rattle.kinds.specs.Kinds.{function_of}
use Rattle.kinds.proofs.Laws.{kinds-passes}
use Rattle.table.specs.Table.{slots, header, slot_of}
use Rattle.table.specs.Tree.{general, pool, details, tree}
use Rattle.values.specs.Values.{kind_word, narrative, values, value_of}
use Rattle.values.specs.Writable.{period_form, tests, in_form}
use Rattle.values.specs.Mt515.{mt515}
use Rattle.values.proofs.Laid.{layout}
use Rattle.values.proofs.Narratives.{narrative-short, told-parts, told_back, told-form}

-- ---- code words

kind-back : (k : Kind) → kind_in (kind_word k) ≡ k
unfolding kind_in kind_word bytes word_at same
kind-back Kind.Inst = refl
kind-back Kind.Canc = refl
kind-back Kind.Mdfc = refl
kind-back Kind.Tddk = refl

kind-word : (k : Kind) → is_word kinds (kind_word k) ≡ true
unfolding kind_word bytes is_word word_at same
kind-word Kind.Inst = refl
kind-word Kind.Canc = refl
kind-word Kind.Mdfc = refl
kind-word Kind.Tddk = refl

function-word : (k : Kind) → is_word (bytes "NEWM" ∷ bytes "CANC" ∷ []) (function_of k) ≡ true
unfolding function_of bytes is_word word_at same
function-word Kind.Inst = refl
function-word Kind.Canc = refl
function-word Kind.Mdfc = refl
function-word Kind.Tddk = refl

-- ---- a record in form

module _ (t : Trade) (form : in_form t ≡ true) where
  -- the test of each slot holds
  pub test : (slot : ℕ) → get_or (tests t) slot true ≡ true
  unfolding in_form
  test = hold_at (tests t) form

  narrated : (period_form t.period ≡ true) × (reason_form t.reason ≡ true)
  unfolding tests
  narrated = (and_left _ _ (test 21), and_right (period_form t.period) _ (test 21))

  pub record-back : trade_of (value_of t) ≡ t
  unfolding trade_of party_of value_of values tests
  record-back =
      let told = told-parts t.service t.period t.reason narrated.0 narrated.1 in
      let text = text-back mt515 in
      rw (
        text 28 t.password (test 28),
        text 29 t.sender (test 29),
        text 1 t.seme (test 1),
        prep-back t.prep (test 3),
        text 4 t.mast (test 4),
        text 5 t.prev (test 5),
        text 6 t.list (test 6),
        moment-round t.trad (test 7),
        date-round t.sett (test 8),
        amount-round t.price.0 (test 9),
        side-back t.side,
        kind-back t.kind,
        text 12 t.buyer.code (test 12),
        text 13 t.buyer.reference (test 13),
        text 14 t.buyer.trader (test 14),
        text 15 t.seller.code (test 15),
        text 16 t.seller.reference (test 16),
        text 17 t.seller.trader (test 17),
        amount-round t.par.0 (test 18),
        text 19 t.cusip (test 19),
        text 20 t.pool (test 20),
        told.service-of,
        told.period-of,
        told.reason-of,
      )

  -- the narrative has at most 24 bytes, so that number 20 can not come up
  pub told-short : length (value_of t 21) ≤ 24
  unfolding value_of values
  told-short = narrative-short t.service t.period t.reason narrated.1

  -- ---- its values, slot by slot

  told : Filled mt515 21 (narrative t.service t.period t.reason)
  unfolding slot_of slots form_number
  told = filled mt515 21 (narrative t.service t.period t.reason) (good-unless _ (told-parts t.service t.period t.reason narrated.0 narrated.1).is)

  each-filled : Each (Named mt515 (λ slot. Filled mt515 slot (value_of t slot))) 0 34
  unfolding every_slot optional slots_of member_slots own_slots field_slots must_slots first_slots header tree general pool details has value_of values slot_of slots form_number tests
  each-filled =
      let good = filled mt515 in
      let text = text-filled mt515 in
      none mt515 0 refl
      ⨾ (λ i. text 1 t.seme (test 1))
      ⨾ (λ i. good 2 (function_of t.kind) (good-unless _ (function-word t.kind)))
      ⨾ (λ i. may-filled mt515 3 (moment_text t.prep) refl (prep-number t.prep (test 3)))
      ⨾ (λ i. text 4 t.mast (test 4))
      ⨾ (λ i. text 5 t.prev (test 5))
      ⨾ (λ i. text 6 t.list (test 6))
      ⨾ (λ i. good 7 (moment_text t.trad) (ap moment_number (moment-round t.trad (test 7))))
      ⨾ (λ i. good 8 (date_text t.sett) (ap date_number (date-round t.sett (test 8))))
      ⨾ (λ i. good 9 (amount_text t.price.0) (ap amount_number (amount-round t.price.0 (test 9))))
      ⨾ (λ i. good 10 (side_word t.side) (good-unless _ (side-word t.side)))
      ⨾ (λ i. good 11 (kind_word t.kind) (good-unless _ (kind-word t.kind)))
      ⨾ (λ i. text 12 t.buyer.code (test 12))
      ⨾ (λ i. text 13 t.buyer.reference (test 13))
      ⨾ (λ i. text 14 t.buyer.trader (test 14))
      ⨾ (λ i. text 15 t.seller.code (test 15))
      ⨾ (λ i. text 16 t.seller.reference (test 16))
      ⨾ (λ i. text 17 t.seller.trader (test 17))
      ⨾ (λ i. good 18 (amount_text t.par.0) (ap amount_number (amount-round t.par.0 (test 18))))
      ⨾ (λ i. text 19 t.cusip (test 19))
      ⨾ (λ i. text 20 t.pool (test 20))
      ⨾ (λ i. told)
      ⨾ none mt515 22 refl
      ⨾ none mt515 23 refl
      ⨾ none mt515 24 refl
      ⨾ none mt515 25 refl
      ⨾ none mt515 26 refl
      ⨾ none mt515 27 refl
      ⨾ (λ i. text 28 t.password (test 28))
      ⨾ (λ i. text 29 t.sender (test 29))
      ⨾ (λ i. good 30 [] (good-unless true refl))
      ⨾ (λ i. good 31 [] (good-unless true refl))
      ⨾ (λ i. good 32 [] (good-unless true refl))
      ⨾ (λ i. good 33 [] (good-unless true refl))
      ⨾ tt

  -- the values of a record in form are those of a message
  pub values-held : Held mt515 (value_of t)
  unfolding every_slot slots_of member_slots own_slots field_slots header tree general pool details every loose lone loose_members loose_fields avoids clash bytes begins same
  values-held = held_of mt515 layout (value_of t) (each-slot mt515 34 refl (λ slot. Filled mt515 slot (value_of t slot)) each-filled) refl

-- ---- the record of a message's values

module _ (value : ℕ → List ℕ) (h : Held mt515 value) (rules : (rules_of mt515 value).number ≡ 0) where
  told-kept : is_narrative (value 21) ≡ true
  unfolding every_slot optional slots_of member_slots own_slots field_slots must_slots first_slots header tree general pool details has slot_of slots form_number
  told-kept = unless-good _ (must-form mt515 value h 21 refl refl)

  -- 23G goes with the kind
  function-kept : function_of (kind_in (value 11)) ≡ value 2
  unfolding rules_of trade_of
  function-kept = same-eq (function_of (kind_in (value 11))) (value 2) (kinds-passes (value 2) (trade_of value) rules).0

  each-kept : Each (Kept mt515 tests value) 0 34
  unfolding every_slot optional slots_of member_slots own_slots field_slots must_slots first_slots header tree general pool details has trade_of party_of tests value_of values tidied slot_of slots form_number kind_in kind_word bytes
  each-kept =
      let must = must-form mt515 value h in
      let text = text-kept mt515 value h in
      let is = kept mt515 tests value in
      let no = no_slot mt515 tests value in
      no 0 refl refl
      ⨾ is 1 (text 1 1 16 refl refl refl)
      ⨾ is 2 (refl, function-kept)
      ⨾ is 3 (prep-held (value 3) (may-form mt515 value h 3 refl))
      ⨾ is 4 (text 4 1 16 refl refl refl)
      ⨾ is 5 (text 5 1 16 refl refl refl)
      ⨾ is 6 (text 6 1 16 refl refl refl)
      ⨾ is 7 (moment-held (value 7) (must 7 refl refl))
      ⨾ is 8 (date-held (value 8) (must 8 refl refl))
      ⨾ is 9 (amount-text (value 9) (must 9 refl refl))
      ⨾ is 10 (refl, side-held (value 10) (unless-good _ (must 10 refl refl)))
      ⨾ is 11 (refl, word_back kinds (Kind.Inst ∷ Kind.Canc ∷ Kind.Mdfc ∷ Kind.Tddk ∷ []) Kind.Inst kind_word (refl ⨾ refl ⨾ refl ⨾ refl ⨾ tt) (value 11) (unless-good _ (must 11 refl refl)))
      ⨾ is 12 (text 12 4 4 refl refl refl)
      ⨾ is 13 (text 13 1 16 refl refl refl)
      ⨾ is 14 (text 14 1 20 refl refl refl)
      ⨾ is 15 (text 15 4 4 refl refl refl)
      ⨾ is 16 (text 16 1 16 refl refl refl)
      ⨾ is 17 (text 17 1 20 refl refl refl)
      ⨾ is 18 (amount-text (value 18) (must 18 refl refl))
      ⨾ is 19 (text 19 9 9 refl refl refl)
      ⨾ is 20 (text 20 1 9 refl refl refl)
      ⨾ is 21 (and_both (told-form (value 21) told-kept).0 (told-form (value 21) told-kept).1, told_back (value 21) told-kept)
      ⨾ no 22 refl refl
      ⨾ no 23 refl refl
      ⨾ no 24 refl refl
      ⨾ no 25 refl refl
      ⨾ no 26 refl refl
      ⨾ no 27 refl refl
      ⨾ is 28 (text 28 0 12 refl refl refl)
      ⨾ is 29 (text 29 1 8 refl refl refl)
      ⨾ is 30 (refl, fixed-line (value 30) (must 30 refl refl))
      ⨾ is 31 (refl, fixed-line (value 31) (must 31 refl refl))
      ⨾ is 32 (refl, fixed-line (value 32) (must 32 refl refl))
      ⨾ is 33 (refl, fixed-line (value 33) (must 33 refl refl))
      ⨾ tt

  pub values-back : (in_form (trade_of value) ≡ true)
      × ((slot : ℕ) → has (every_slot mt515) slot ≡ true → value_of (trade_of value) slot ≡ tidied (slot_of slot).form (value slot))
  unfolding every_slot slots_of member_slots own_slots field_slots header tree general pool details every in_form tests
  values-back = kept-all mt515 tests value 34 refl refl each-kept

-- ---- what a record rests on: the values of the slots

pub rests : Rests mt515
unfolding at_slots trade_of every_slot slots_of member_slots own_slots field_slots header tree general pool details has
rests = rests-of mt515 (λ value. refl) (λ value t. refl)
