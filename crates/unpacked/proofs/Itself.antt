-- A record whose fields have no room in their places is packed as one that has the most of each place, and that one may not be written.
-- Assumes nothing.
use Prim.Native.Nat.{ℕ, ◌+◌, ◌*◌, ◌/◌, ◌%◌, ◌≤◌, ◌<◌}
use mathlib.Core.Path.{◌≡◌, refl, sym, ap, ◌∙◌}
use mathlib.Core.Bool.{Bool, true, false, ◌&&◌, true≢false}
use mathlib.Core.List.{List, [], ◌∷◌, map}
use native.Mathlib.Omega.{arith}
use lib.Dec.{leb, eqb}
use borrow.Author.Tests.{leb-true, leb-false, le-leb, eqb-true}
use Rattle.std.proofs.Common.{Option, Some, None}
use Rattle.text.specs.Texts.{in_form as text_form}
use Rattle.text.specs.Texts.{Text}
use Rattle.text.proofs.Bools.{or_case}
use Rattle.text.proofs.Laws.{and_left, and_right, and_both, in-form-facts}
use Rattle.calendar.specs.Dates.{is_date, is_time, is_moment, moment_of}
use Rattle.calendar.specs.declared.Moment.{Moment}
use Rattle.calendar.proofs.Laws.{date-small, time-small}
use Rattle.trade.specs.declared.Party.{Party}
use Rattle.trade.specs.declared.Trade.{Trade}
use Rattle.format.specs.Writable.{hold}
use Rattle.table.specs.Table.{slot_of}
use Rattle.table.specs.Tree.{tree}
use Rattle.reason.specs.Reason.{reason_form}
use Rattle.values.specs.Writable.{period_form, tests, in_form}
use Rattle.typed.specs.Prep.{prep_form}
use Rattle.format.proofs.BySlot.{fitted-form}
use Rattle.values.proofs.Laws.{test}
use Rattle.judge.proofs.Laws.{judge-zero}
use Rattle.message.specs.Writing.{writable}
use Rattle.message.proofs.Writes.{writable-judged}
use Rattle.packed.specs.Packed.{at_most, period_byte, codes, texts, text_bytes, moment_packed, numbers, packed_of}
use Rattle.packed.proofs.Laws.{at_most_in, at-most-out, at-most-le}
use Rattle.unpacked.specs.Unpacked.{unpacked_of, record_in}
use Rattle.unpacked.specs.Back.{text_fits, period_fits, moment_fits, has_room, text_held, typed, Itself}
use Rattle.unpacked.proofs.Back.{moment-again, unpacks}

-- ---- the record that has room, and the same bytes

text_in : Text → Text
text_in t = record { bytes = t.bytes; len = at_most 255 t.len }

period_of : Option ℕ → Option ℕ
period_of None = None
period_of (Some n) = Some (at_most 254 n)

moment_in : Moment → Moment
moment_in m = moment_of (moment_packed m)

party_in : Party → Party
party_in p = record { code = text_in p.code; reference = text_in p.reference; trader = text_in p.trader }

capped : Trade → Trade
capped t =
    record {
      password = text_in t.password;
      sender = text_in t.sender;
      seme = text_in t.seme;
      prep = moment_in t.prep;
      mast = text_in t.mast;
      prev = text_in t.prev;
      list = text_in t.list;
      trad = moment_in t.trad;
      sett = t.sett;
      price = t.price;
      side = t.side;
      kind = t.kind;
      buyer = party_in t.buyer;
      seller = party_in t.seller;
      par = t.par;
      cusip = text_in t.cusip;
      pool = text_in t.pool;
      service = t.service;
      period = period_of t.period;
      reason = text_in t.reason;
    }

same_text : (t : Text) → text_bytes (text_in t) ≡ text_bytes t
unfolding text_bytes text_in
same_text t = rw (at_most_in 255 (at_most 255 t.len) (at-most-le 255 t.len))

same-period : (p : Option ℕ) → period_byte (period_of p) ≡ period_byte p
unfolding period_byte period_of
same-period None = refl
same-period (Some n) = at_most_in 254 (at_most 254 n) (at-most-le 254 n)

moment-most : (m : Moment) → moment_packed m ≤ 18446744073709551615
unfolding moment_packed
moment-most m = at-most-le 18446744073709551615 _

same-moment : (m : Moment) → moment_packed (moment_in m) ≡ moment_packed m
unfolding moment_in
same-moment m = moment-again (moment_packed m) (moment-most m)

same_bytes : (t : Trade) → packed_of (capped t) ≡ packed_of t
unfolding packed_of codes texts numbers capped party_in
same_bytes t =
    rw (
      same-period t.period,
      same-moment t.prep,
      same-moment t.trad,
      same_text t.password,
      same_text t.sender,
      same_text t.seme,
      same_text t.mast,
      same_text t.prev,
      same_text t.list,
      same_text t.buyer.code,
      same_text t.buyer.reference,
      same_text t.buyer.trader,
      same_text t.seller.code,
      same_text t.seller.reference,
      same_text t.seller.trader,
      same_text t.cusip,
      same_text t.pool,
      same_text t.reason,
    )

-- ---- it has room

text-room : (t : Text) → text_held t ≡ true → text_fits (text_in t) ≡ true
unfolding text_held text_fits text_in
text-room t e = and_both e (le-leb (at_most 255 t.len) 255 (at-most-le 255 t.len))

texts-room : (ts : List Text) → hold (map text_held ts) ≡ true → hold (map text_fits (map text_in ts)) ≡ true
unfolding hold
texts-room [] e = refl
texts-room (t ∷ ts) e = and_both (text-room t (and_left _ _ e)) (texts-room ts (and_right (text_held t) _ e))

period-room : (p : Option ℕ) → period_fits (period_of p) ≡ true
unfolding period_fits period_of
period-room None = refl
period-room (Some n) = le-leb (at_most 254 n) 254 (at-most-le 254 n)

moment-room : (m : Moment) → moment_fits (moment_in m) ≡ true
unfolding moment_fits moment_in moment_of
moment-room m =
    let n : ℕ = moment_packed m in
    let h : n ≤ 18446744073709551615 = moment-most m in
    and_both (le-leb (n / 1000000 * 1000000 + n % 1000000) 18446744073709551615 (omega arith)) (le-leb (n % 1000000) 999999 (omega arith))

capped-texts : (t : Trade) → texts (capped t) ≡ map text_in (texts t)
unfolding texts capped party_in
capped-texts t = refl

capped-numbers : (t : Trade) → numbers (capped t) ≡ numbers t
unfolding numbers capped
capped-numbers t = rw (same-moment t.prep, same-moment t.trad)

room : (t : Trade) → typed t ≡ true → has_room (capped t) ≡ true
unfolding typed has_room
room t e =
    rw (capped-texts t, capped-numbers t)
    (and_both (texts-room (texts t) (and_left _ _ e))
    (and_both (and_right (hold (map text_held (texts t))) _ e)
    (unfold capped in and_both (period-room t.period) (and_both (moment-room t.prep) (moment-room t.trad)))))

-- ---- and where it may be written it is the record itself

-- what is less than the most of its place was not cut down to it
in_place : (most n bound : ℕ) → bound < most → at_most most n ≤ bound → n ≤ most
in_place most n bound h e = go (leb n most) refl
  where
    go : (b : Bool) → leb n most ≡ b → n ≤ most
    go true q = leb-true n most q
    go false q = let o = at-most-out most n (leb-false n most q) in let w : ⊥ = omega arith in absurd w

text-itself : (least most : ℕ) (t : Text) → text_form least most (text_in t) ≡ true → text_in t ≡ t
unfolding text_in
text-itself least most t e =
    let s : at_most 255 t.len ≤ 20 = (in-form-facts least most (text_in t) e).1 in
    rw (at_most_in 255 t.len (in_place 255 t.len 20 (omega arith) s))

reason-itself : (t : Text) → reason_form (text_in t) ≡ true → text_in t ≡ t
unfolding reason_form
reason-itself t e = or_case (text_form 0 0 (text_in t)) (text_form 4 4 (text_in t)) e (text-itself 0 0 t) (text-itself 4 4 t)

period-itself : (p : Option ℕ) → period_form (period_of p) ≡ true → period_of p ≡ p
unfolding period_form period_of
period-itself None e = refl
period-itself (Some n) e = rw (at_most_in 254 n (in_place 254 n 9 (omega arith) (leb-true (at_most 254 n) 9 e)))

module _ (m : Moment) where
  time : ℕ
  time = at_most 999999 m.time.0

  all : ℕ
  all = m.date.0 * 1000000 + time

  -- a date that is below a hundred millions was not cut down, nor was a time below a million
  moment-whole : (d t : ℕ) → (moment_in m).date.0 ≡ d → (moment_in m).time.0 ≡ t → d < 100000000 → t < 999999 → moment_in m ≡ m
  unfolding moment_in moment_of moment_packed time all
  moment-whole d t a b h k = go (leb all 18446744073709551615) refl
    where
      n : ℕ
      n = at_most 18446744073709551615 all

      go : (c : Bool) → leb all 18446744073709551615 ≡ c → moment_in m ≡ m
      go false q =
          let o : n ≡ 18446744073709551615 = at-most-out 18446744073709551615 all (leb-false all 18446744073709551615 q) in
          let e : n / 1000000 ≡ d = a in
          let w : ⊥ = omega arith in
          absurd w
      go true q =
          let i : n ≡ all = at_most_in 18446744073709551615 all (leb-true all 18446744073709551615 q) in
          let c : n % 1000000 ≡ t = b in
          let l : time ≤ 999999 = at-most-le 999999 m.time.0 in
          let r : all % 1000000 ≡ time = omega arith in
          let f : all / 1000000 ≡ m.date.0 = omega arith in
          let s : time ≡ m.time.0 = at_most_in 999999 m.time.0 (in_place 999999 m.time.0 t k (omega arith)) in
          rw (i, f, r, s)

late : is_time 999999 ≡ false
unfolding is_time
late = refl

moment-itself : (m : Moment) → is_moment (moment_in m) ≡ true → moment_in m ≡ m
unfolding is_moment
moment-itself m e =
    let d : ℕ = (moment_in m).date.0 in
    let t : ℕ = (moment_in m).time.0 in
    let h = date-small d (and_left _ _ e) in
    let f : is_time t ≡ true = and_right (is_date d) _ e in
    let k = time-small t f in
    let o : t ≡ 999999 → ⊥ = λ z. true≢false (sym f ∙ ap is_time z ∙ late) in
    moment-whole m d t refl refl (omega (arith, h)) (omega (arith, k, o))

prep-itself : (m : Moment) → prep_form (moment_in m) ≡ true → moment_in m ≡ m
unfolding prep_form
prep-itself m e =
    let d : ℕ = (moment_in m).date.0 in
    let t : ℕ = (moment_in m).time.0 in
    or_case (eqb d 0 && eqb t 0) (is_moment (moment_in m)) e
    (λ z. moment-whole m 0 0 (eqb-true d 0 (and_left _ _ z)) (eqb-true t 0 (and_right (eqb d 0) _ z)) (omega arith) (omega arith))
    (moment-itself m)

module _ (t : Trade) (form : in_form (capped t) ≡ true) where
  capped-itself : capped t ≡ t
  unfolding capped party_in tests
  capped-itself =
      rw (
        text-itself 0 20 t.password (fitted-form tree slot_of 28 _ (test (capped t) form 28)),
        text-itself 0 20 t.sender (fitted-form tree slot_of 29 _ (test (capped t) form 29)),
        text-itself 0 20 t.seme (fitted-form tree slot_of 1 _ (test (capped t) form 1)),
        prep-itself t.prep (test (capped t) form 3),
        text-itself 0 20 t.mast (fitted-form tree slot_of 4 _ (test (capped t) form 4)),
        text-itself 0 20 t.prev (fitted-form tree slot_of 5 _ (test (capped t) form 5)),
        text-itself 0 20 t.list (fitted-form tree slot_of 6 _ (test (capped t) form 6)),
        moment-itself t.trad (test (capped t) form 7),
        text-itself 0 20 t.buyer.code (fitted-form tree slot_of 12 _ (test (capped t) form 12)),
        text-itself 0 20 t.buyer.reference (fitted-form tree slot_of 13 _ (test (capped t) form 13)),
        text-itself 0 20 t.buyer.trader (fitted-form tree slot_of 14 _ (test (capped t) form 14)),
        text-itself 0 20 t.seller.code (fitted-form tree slot_of 15 _ (test (capped t) form 15)),
        text-itself 0 20 t.seller.reference (fitted-form tree slot_of 16 _ (test (capped t) form 16)),
        text-itself 0 20 t.seller.trader (fitted-form tree slot_of 17 _ (test (capped t) form 17)),
        text-itself 0 20 t.cusip (fitted-form tree slot_of 19 _ (test (capped t) form 19)),
        text-itself 0 20 t.pool (fitted-form tree slot_of 20 _ (test (capped t) form 20)),
        period-itself t.period (and_left _ _ (test (capped t) form 21)),
        reason-itself t.reason (and_right (period_form (period_of t.period)) _ (test (capped t) form 21)),
      )

pub itself : Itself
unfolding record_in
itself t h w =
    let e : unpacked_of (packed_of t) ≡ Some (capped t) = ap unpacked_of (sym (same_bytes t)) ∙ unpacks (capped t) (room t h) in
    let r : record_in (packed_of t) ≡ capped t = rw e in
    let v : writable (capped t) ≡ true = rw r at w in
    r ∙ capped-itself t (judge-zero (capped t) (writable-judged (capped t) v)).0
