-- Packing and unpacking lose nothing.
-- Assumes nothing.
use Prim.Native.Nat.{ℕ, zero, suc, ◌+◌, ◌*◌, ◌/◌, ◌%◌, ◌^◌, ◌≤◌, ◌<◌}
use mathlib.Core.Path.{◌≡◌, refl, sym, ap, ◌∙◌}
use mathlib.Core.Bool.{Bool, true, false, ◌&&◌, ◌||◌, cond}
use mathlib.Core.List.{List, [], ◌∷◌, ◌++◌, map, append-nil, flatten}
use native.Mathlib.Omega.{arith}
use lib.Dec.{leb, ltb, eqb}
use lib.ListN.{length, take, drop, get_or, length-drop, drop_of_length-le}
use lib.Seq.{drop_at, drop-drop, length-take-le}
use borrow.Author.Tests.{leb-true, le-leb, ltb-true, eqb-true, eqb-false, eq-eqb, ne_eqb}
use Rattle.std.proofs.Common.{Option, Some, None}
use Rattle.std.proofs.lemmas.Option.{cond_some}
use Rattle.text.specs.Bytes.{parts}
use Rattle.text.specs.Texts.{in_form as text_form}
use Rattle.text.specs.Texts.{Text}
use Rattle.text.proofs.Laws.{and_left, and_right, and_both, in-form-facts}
use Rattle.amount.specs.Amounts.{in_form as amount_form}
use Rattle.amount.specs.declared.Amount.{Amount}
use Rattle.calendar.specs.Dates.{is_date, is_moment, moment_of}
use Rattle.calendar.specs.declared.Moment.{Moment}
use Rattle.calendar.proofs.Laws.{date-small, time-small}
use Rattle.trade.specs.Records.{blank_trade}
use Rattle.trade.specs.declared.Kind.{Kind}
use Rattle.typed.specs.declared.Side.{Side}
use Rattle.trade.specs.declared.Service.{Service}
use Rattle.trade.specs.declared.Trade.{Trade}
use Rattle.format.specs.Writable.{hold}
use Rattle.table.specs.Table.{slot_of}
use Rattle.table.specs.Tree.{tree}
use Rattle.reason.specs.Reason.{reason_form}
use Rattle.values.specs.Writable.{period_form, tests, in_form}
use Rattle.typed.specs.Prep.{prep_form}
use Rattle.format.proofs.BySlot.{fitted-form}
use Rattle.values.proofs.Laws.{test}
use Rattle.judge.specs.Judging.{judge_of}
use Rattle.judge.specs.Cases.{cases}
use Rattle.judge.proofs.Laws.{judge-zero}
use Rattle.judge.proofs.Cases.{answered}
use Rattle.message.specs.Writing.{writable}
use Rattle.message.proofs.Writes.{writable-judged}
use Rattle.packed.specs.Packed.{kind_byte, side_byte, service_byte, period_byte, codes, texts, text_bytes, moment_packed, numbers, number_bytes, packed_of}
use Rattle.unpacked.specs.Unpacked.{named, kind_from, side_from, service_from, period_from, text_from, number_from, texts_in, numbers_in, trade_from, trade_in, unpacked_of, record_in}
use Rattle.unpacked.specs.Back.{text_fits, period_fits, moment_fits, number_fits, has_room, byte_fits, Again}
use Rattle.packed.proofs.Laws.{at_most_in, at-most-le, length-number}
use Rattle.unpacked.proofs.Laws.{number-back, byte_small, bytes_take, bytes_drop, number-again, number_small, cut-row, length-row, row-parts, parts_again}

-- ---- each code byte and its word

kind-back : (k : Kind) → (kind_from (kind_byte k) ≡ k) × (leb (kind_byte k) 3 ≡ true)
unfolding kind_from kind_byte
kind-back Kind.Inst = (refl, refl)
kind-back Kind.Canc = (refl, refl)
kind-back Kind.Mdfc = (refl, refl)
kind-back Kind.Tddk = (refl, refl)

side-back : (k : Side) → (side_from (side_byte k) ≡ k) × (leb (side_byte k) 1 ≡ true)
unfolding side_from side_byte
side-back Side.Buyi = (refl, refl)
side-back Side.Sell = (refl, refl)

service-back : (k : Service) → (service_from (service_byte k) ≡ k) × (leb (service_byte k) 2 ≡ true)
unfolding service_from service_byte
service-back Service.Sbod = (refl, refl)
service-back Service.Tftd = (refl, refl)
service-back Service.Stip = (refl, refl)

period-back : (p : Option ℕ) → period_fits p ≡ true → period_from (period_byte p) ≡ p
unfolding period_fits period_from period_byte
period-back None e = refl
period-back (Some n) e =
    let h = leb-true n 254 e in
    rw (at_most_in 254 n h, ne_eqb n 255 (λ z. let w : ⊥ = omega arith in w))

kind-again : (b : ℕ) → b ≤ 3 → kind_byte (kind_from b) ≡ b
unfolding kind_from kind_byte
kind-again zero h = refl
kind-again (suc zero) h = refl
kind-again (suc (suc zero)) h = refl
kind-again (suc (suc (suc zero))) h = refl
kind-again (suc (suc (suc (suc b)))) h = absurd (omega arith)

side-again : (b : ℕ) → b ≤ 1 → side_byte (side_from b) ≡ b
unfolding side_from side_byte
side-again zero h = refl
side-again (suc zero) h = refl
side-again (suc (suc b)) h = absurd (omega arith)

service-again : (b : ℕ) → b ≤ 2 → service_byte (service_from b) ≡ b
unfolding service_from service_byte
service-again zero h = refl
service-again (suc zero) h = refl
service-again (suc (suc zero)) h = refl
service-again (suc (suc (suc b))) h = absurd (omega arith)

period-again : (b : ℕ) → b ≤ 255 → period_byte (period_from b) ≡ b
unfolding period_from period_byte
period-again b h = go (eqb b 255) refl
  where
    go : (t : Bool) → eqb b 255 ≡ t → period_byte (cond t None (Some b)) ≡ b
    go true e = sym (eqb-true b 255 e)
    go false e = let n = eqb-false b 255 e in at_most_in 254 b (omega (arith, n))

-- ---- a text, a number, a date and time

text-long : (t : Text) → text_fits t ≡ true → length (text_bytes t) ≡ 21
unfolding text_fits text_bytes
text-long t e = ap suc (eqb-true (length t.bytes) 20 (and_left _ _ e))

text-back : (t : Text) → text_fits t ≡ true → text_from (text_bytes t) ≡ t
unfolding text_fits text_bytes text_from
text-back t e = rw (at_most_in 255 t.len (leb-true t.len 255 (and_right (eqb (length t.bytes) 20) _ e)))

text-again : (p : List ℕ) → length p ≡ 21 → hold (map byte_fits p) ≡ true → text_bytes (text_from p) ≡ p
unfolding text_bytes text_from
text-again [] l e = absurd (omega arith)
text-again (b ∷ p) l e = rw (at_most_in 255 b (byte_small b p e))

number_fits_lem : (n : ℕ) → number_fits n ≡ true → number_from (number_bytes 8 n) ≡ n
unfolding number_fits
number_fits_lem n e = let h = leb-true n 18446744073709551615 e in number-back 8 n (omega arith)

eight-again : (p : List ℕ) → length p ≡ 8 → hold (map byte_fits p) ≡ true → number_bytes 8 (number_from p) ≡ p
eight-again p l e = ap (λ (w : ℕ). number_bytes w (number_from p)) (sym l) ∙ number-again p e

moment-back : (m : Moment) → moment_fits m ≡ true → moment_of (moment_packed m) ≡ m
unfolding moment_fits moment_of moment_packed
moment-back m e =
    let n : ℕ = m.date.0 * 1000000 + m.time.0 in
    let h : n ≤ 18446744073709551615 = leb-true n 18446744073709551615 (and_left _ _ e) in
    let t : m.time.0 ≤ 999999 = leb-true m.time.0 999999 (and_right (leb n 18446744073709551615) _ e) in
    let d : n / 1000000 ≡ m.date.0 = omega arith in
    let r : n % 1000000 ≡ m.time.0 = omega arith in
    rw (at_most_in 999999 m.time.0 t, at_most_in 18446744073709551615 n h, d, r)

pub moment-again : (n : ℕ) → n ≤ 18446744073709551615 → moment_packed (moment_of n) ≡ n
unfolding moment_of moment_packed
moment-again n h =
    let t : n % 1000000 ≤ 999999 = omega arith in
    let s : n / 1000000 * 1000000 + n % 1000000 ≡ n = omega arith in
    rw (at_most_in 999999 (n % 1000000) t, s, at_most_in 18446744073709551615 n h)

-- ---- unpacking what was packed

module _ (t : Trade) (e : has_room t ≡ true) where
  texts-fit : hold (map text_fits (texts t)) ≡ true
  unfolding has_room
  texts-fit = and_left _ _ e

  numbers_fit : hold (map number_fits (numbers t)) ≡ true
  unfolding has_room
  numbers_fit = and_left _ _ (and_right (hold (map text_fits (texts t))) _ e)

  others-fit : (period_fits t.period ≡ true) × (moment_fits t.prep ≡ true) × (moment_fits t.trad ≡ true)
  unfolding has_room
  others-fit =
      let r = and_right (hold (map number_fits (numbers t))) _ (and_right (hold (map text_fits (texts t))) _ e) in
      let m = and_right (period_fits t.period) _ r in
      (and_left _ _ r, and_left _ _ m, and_right (moment_fits t.prep) _ m)

  texts-back : texts_in (packed_of t) ≡ texts t
  unfolding texts_in packed_of codes texts
  texts-back = cut-row text_bytes text_from text_fits 21 text-long text-back (texts t) (flatten (map (number_bytes 8) (numbers t))) texts-fit

  numbers-back : numbers_in (packed_of t) ≡ numbers t
  unfolding numbers_in packed_of codes texts numbers
  numbers-back =
      let row : List ℕ = flatten (map text_bytes (texts t)) in
      let rest : List ℕ = flatten (map (number_bytes 8) (numbers t)) in
      let l : length row ≡ 315 = length-row text_bytes text_from text_fits 21 text-long text-back (texts t) texts-fit in
      let d : drop 319 (packed_of t) ≡ rest ++ [] = sym (drop-drop 315 4 (packed_of t)) ∙ drop_at row rest 315 l ∙ sym (append-nil rest) in
      ap (λ (s : List ℕ). map number_from (parts 8 7 s)) d
      ∙ cut-row (number_bytes 8) number_from number_fits 8 (λ n h. length-number 8 n) number_fits_lem (numbers t) [] numbers_fit

  named-is : named (packed_of t) ≡ true
  unfolding named packed_of codes
  named-is = rw ((kind-back t.kind).1, (side-back t.side).1, (service-back t.service).1)

  trade-back : trade_in (packed_of t) ≡ t
  unfolding trade_in trade_from packed_of codes texts numbers
  trade-back =
      let o = others-fit in
      rw (texts-back, numbers-back, (kind-back t.kind).0, (side-back t.side).0, (service-back t.service).0, period-back t.period o.0, moment-back t.prep o.1, moment-back t.trad o.2)

  pub unpacks : unpacked_of (packed_of t) ≡ Some t
  unfolding unpacked_of
  unpacks = rw (named-is, trade-back)

-- ---- packing what was unpacked

module _ (a b c d : ℕ) (r : List ℕ) (l : length r ≡ 371) (e : hold (map byte_fits (a ∷ b ∷ c ∷ d ∷ r)) ≡ true) (n : named (a ∷ b ∷ c ∷ d ∷ r) ≡ true) where
  abbrev all : List ℕ
  all = a ∷ b ∷ c ∷ d ∷ r

  rest-bytes : hold (map byte_fits r) ≡ true
  rest-bytes = bytes_drop 4 all e

  codes-again : codes (trade_in all) ≡ a ∷ b ∷ c ∷ d ∷ []
  unfolding codes trade_in trade_from named
  codes-again =
      let m = and_right (leb a 3) _ n in
      rw (
        kind-again a (leb-true a 3 (and_left _ _ n)),
        side-again b (leb-true b 1 (and_left _ _ m)),
        service-again c (leb-true c 2 (and_right (leb b 1) _ m)),
        period-again d (byte_small d r (bytes_drop 3 all e)),
      )

  texts-again : map text_bytes (texts (trade_in all)) ≡ parts 21 15 r
  unfolding texts trade_in trade_from texts_in parts
  texts-again = parts_again text_bytes text_from 21 text-again 15 r rest-bytes (omega arith)

  -- a place of eight bytes holds a number that fits
  eight-small : (p : List ℕ) → hold (map byte_fits p) ≡ true → length p ≡ 8 → number_from p ≤ 18446744073709551615
  eight-small p h k = let s : number_from p < 256 ^ 8 = rw k at (number_small p h) in omega arith

  numbers-again : map (number_bytes 8) (numbers (trade_in all)) ≡ parts 8 7 (drop 315 r)
  unfolding numbers trade_in trade_from numbers_in parts
  numbers-again =
      let s : List ℕ = drop 315 r in
      let h : hold (map byte_fits s) ≡ true = bytes_drop 315 r rest-bytes in
      let k : length s ≡ 56 = length-drop 315 r ∙ omega arith in
      let first = moment-again (number_from (take 8 s)) (eight-small (take 8 s) (bytes_take 8 s h) (length-take-le 8 s (omega arith))) in
      let m = length-drop 8 s in
      let second = moment-again (number_from (take 8 (drop 8 s))) (eight-small (take 8 (drop 8 s)) (bytes_take 8 (drop 8 s) (bytes_drop 8 s h)) (length-take-le 8 (drop 8 s) (omega arith))) in
      rw (first, second) (parts_again (number_bytes 8) number_from 8 eight-again 7 s h (omega arith))

  packs : packed_of (trade_in all) ≡ all
  unfolding packed_of
  packs =
      let s : List ℕ = drop 315 r in
      let k : length s ≡ 56 = length-drop 315 r ∙ omega arith in
      let end : drop 56 s ≡ [] = drop_of_length-le s {i = 56} (omega arith) in
      let row : flatten (parts 8 7 s) ≡ s = sym (append-nil (flatten (parts 8 7 s))) ∙ ap (λ (q : List ℕ). flatten (parts 8 7 s) ++ q) (sym end) ∙ row-parts 8 7 s in
      rw (codes-again, texts-again, numbers-again, row) (ap (λ (q : List ℕ). a ∷ b ∷ c ∷ d ∷ q) (row-parts 21 15 r))

-- ---- what may be written has room

form-fits : (least most : ℕ) (t : Text) → text_form least most t ≡ true → text_fits t ≡ true
unfolding text_fits
form-fits least most t e =
    let f = in-form-facts least most t e in
    and_both (eq-eqb (length t.bytes) 20 f.0) (le-leb t.len 255 (omega (arith, f.1)))

reason-fits : (t : Text) → reason_form t ≡ true → text_fits t ≡ true
unfolding reason_form
reason-fits t e = go (text_form 0 0 t) refl e
  where
    go : (b : Bool) → text_form 0 0 t ≡ b → (b || text_form 4 4 t) ≡ true → text_fits t ≡ true
    go true h q = form-fits 0 0 t h
    go false h q = form-fits 4 4 t q

moment-fits : (m : Moment) → is_moment m ≡ true → moment_fits m ≡ true
unfolding is_moment moment_fits
moment-fits m e =
    let d = date-small m.date.0 (and_left _ _ e) in
    let t = time-small m.time.0 (and_right (is_date m.date.0) _ e) in
    and_both (le-leb (m.date.0 * 1000000 + m.time.0) 18446744073709551615 (omega arith)) (le-leb m.time.0 999999 (omega arith))

prep-fits : (m : Moment) → prep_form m ≡ true → moment_fits m ≡ true
unfolding prep_form moment_fits
prep-fits m e = go (eqb m.date.0 0 && eqb m.time.0 0) refl e
  where
    go : (b : Bool) → (eqb m.date.0 0 && eqb m.time.0 0) ≡ b → (b || is_moment m) ≡ true → moment_fits m ≡ true
    go true h q =
        let d = eqb-true m.date.0 0 (and_left _ _ h) in
        let t = eqb-true m.time.0 0 (and_right (eqb m.date.0 0) _ h) in
        and_both (le-leb (m.date.0 * 1000000 + m.time.0) 18446744073709551615 (omega arith)) (le-leb m.time.0 999999 (omega arith))
    go false h q = moment-fits m q

number-of-fits : (m : Moment) → number_fits (moment_packed m) ≡ true
unfolding number_fits moment_packed
number-of-fits m = le-leb _ 18446744073709551615 (at-most-le 18446744073709551615 _)

amount-fits : (a : Amount) → amount_form a ≡ true → (number_fits a.number ≡ true) × (number_fits a.decimals ≡ true)
unfolding amount_form number_fits
amount-fits a e =
    let n = ltb-true a.number (10 ^ 14) (and_left _ _ e) in
    let d = leb-true a.decimals 13 (and_left _ _ (and_right (ltb a.number (10 ^ 14)) _ e)) in
    (le-leb a.number 18446744073709551615 (omega arith), le-leb a.decimals 18446744073709551615 (omega arith))

date-fits : (n : ℕ) → is_date n ≡ true → number_fits n ≡ true
unfolding number_fits
date-fits n e = let h = date-small n e in le-leb n 18446744073709551615 (omega arith)

period-fits : (p : Option ℕ) → period_form p ≡ true → period_fits p ≡ true
unfolding period_form period_fits
period-fits None e = refl
period-fits (Some n) e = let h = leb-true n 9 e in le-leb n 254 (omega arith)

module _ (t : Trade) (e : in_form t ≡ true) where
  form-texts : hold (map text_fits (texts t)) ≡ true
  unfolding texts tests hold
  form-texts =
      and_both (form-fits 0 20 t.password (fitted-form tree slot_of 28 _ (test t e 28)))
      (and_both (form-fits 0 20 t.sender (fitted-form tree slot_of 29 _ (test t e 29)))
      (and_both (form-fits 0 20 t.seme (fitted-form tree slot_of 1 _ (test t e 1)))
      (and_both (form-fits 0 20 t.mast (fitted-form tree slot_of 4 _ (test t e 4)))
      (and_both (form-fits 0 20 t.prev (fitted-form tree slot_of 5 _ (test t e 5)))
      (and_both (form-fits 0 20 t.list (fitted-form tree slot_of 6 _ (test t e 6)))
      (and_both (form-fits 0 20 t.buyer.code (fitted-form tree slot_of 12 _ (test t e 12)))
      (and_both (form-fits 0 20 t.buyer.reference (fitted-form tree slot_of 13 _ (test t e 13)))
      (and_both (form-fits 0 20 t.buyer.trader (fitted-form tree slot_of 14 _ (test t e 14)))
      (and_both (form-fits 0 20 t.seller.code (fitted-form tree slot_of 15 _ (test t e 15)))
      (and_both (form-fits 0 20 t.seller.reference (fitted-form tree slot_of 16 _ (test t e 16)))
      (and_both (form-fits 0 20 t.seller.trader (fitted-form tree slot_of 17 _ (test t e 17)))
      (and_both (form-fits 0 20 t.cusip (fitted-form tree slot_of 19 _ (test t e 19)))
      (and_both (form-fits 0 20 t.pool (fitted-form tree slot_of 20 _ (test t e 20)))
      (and_both (reason-fits t.reason (and_right (period_form t.period) _ (test t e 21))) refl))))))))))))))

  form-numbers : hold (map number_fits (numbers t)) ≡ true
  unfolding numbers tests hold
  form-numbers =
      let price = amount-fits t.price.0 (test t e 9) in
      let par = amount-fits t.par.0 (test t e 18) in
      and_both (number-of-fits t.prep)
      (and_both (number-of-fits t.trad)
      (and_both (date-fits t.sett.0 (test t e 8))
      (and_both price.0 (and_both price.1 (and_both par.0 (and_both par.1 refl))))))

  form-all : has_room t ≡ true
  unfolding has_room tests
  form-all =
      and_both form-texts
      (and_both form-numbers
      (and_both (period-fits t.period (and_left _ _ (test t e 21)))
      (and_both (prep-fits t.prep (test t e 3)) (moment-fits t.trad (test t e 7)))))

pub writable-fits : (t : Trade) → writable t ≡ true → has_room t ≡ true
writable-fits t h = form-all t (judge-zero t (writable-judged t h)).0

-- ---- bytes that are no record

pub blank-judged : 18 ≡ judge_of blank_trade
unfolding cases
blank-judged = sym (ap (λ (l : List ℕ). get_or l 1 0) answered)

-- ---- the statements

pub packs-all : Again
unfolding unpacked_of
packs-all (a ∷ b ∷ c ∷ d ∷ r) t l e g =
    let n = cond_some (named (a ∷ b ∷ c ∷ d ∷ r)) _ t g in
    ap packed_of (sym n.1) ∙ packs a b c d r (omega arith) e n.0
packs-all [] t l e g = absurd (omega arith)
packs-all (a ∷ []) t l e g = absurd (omega arith)
packs-all (a ∷ b ∷ []) t l e g = absurd (omega arith)
packs-all (a ∷ b ∷ c ∷ []) t l e g = absurd (omega arith)

pub none-blank : (s : List ℕ) → unpacked_of s ≡ None → record_in s ≡ blank_trade
unfolding record_in
none-blank s e = rw e
