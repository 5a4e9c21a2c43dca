-- The chain of passes, of any message type: what is wrong up to the values decides, and where nothing is the record is that of the
-- values, judged by the rules.
-- Assumes nothing.
use Prim.Native.Nat.{ℕ}
use mathlib.Core.Path.{◌≡◌, sym, ap, ◌∙◌}
use mathlib.Core.Bool.{true}
use mathlib.Core.List.{List}
use lib.Dec.{ltb}
use borrow.Author.Tests.{eq-eqb, ne_eqb, ltb-true}
use Rattle.lines.specs.declared.Verdict.{Verdict}
use Rattle.lines.proofs.Laws.{stop, go}
use Rattle.stretches.specs.Stretches.{slot_count, stretch_of}
use Rattle.sheets.specs.Sheets.{has}
use Rattle.sheets.specs.Trees.{table_of}
use Rattle.walk.specs.Walk.{taken_in}
use Rattle.walk.specs.declared.Body.{Body}
use Rattle.reader.proofs.Laws.{pass_of, take-verdict, take-values}
use Rattle.measure.specs.Measure.{clean_slot}
use Rattle.format.specs.Format.{Format}
use Rattle.format.specs.Reading.{reading, body_of, value_on, rules_of, read_of}
use Rattle.format.specs.declared.Reading.{Reading}
use Rattle.format.specs.Kept.{taken}
use Rattle.format.proofs.Laws.{every_slot, Layout, Placed, Rests}
use Rattle.format.proofs.Rows.{rows-body, rows-verdict}
use Rattle.format.proofs.Tests.{every-at}

-- what is asked of a message type that is read by what was taken of it: its layout, that every slot has its place, that the texts of
-- its slots are of 20 to 7E hex, and that its record rests on the values of the slots
pub record Readable (F : Format) : Type 0 where
  pub layout : Layout F
  pub placed : Placed F
  pub clean : (s : ℕ) → clean_slot (F.slot_of s) ≡ true
  pub rests : Rests F

module _ (F : Format) where
  -- a refusal with the blank record
  abbrev pub blankly : Verdict → Reading F.Held
  blankly v = record { number = v.number; line = v.line; held = F.blank }

  -- the record of values, judged by the rules
  abbrev pub judged : (ℕ → List ℕ) → Reading F.Held
  judged value = reading F.blank (rules_of F value) (F.record_of value)

  refused-is : (v : Verdict) (r : F.Held) → (v.number ≡ 0 → ⊥) → blankly v ≡ reading F.blank v r
  unfolding reading
  refused-is v r h = rw (ne_eqb v.number 0 h)

  accepted-is : (v : Verdict) (r : F.Held) → v.number ≡ 0 → record { number = v.number; line = v.line; held = r } ≡ reading F.blank v r
  unfolding reading
  accepted-is v r h = rw (eq-eqb v.number 0 h)

  -- ---- the rules alone

  module _ (value : ℕ → List ℕ) (v : Verdict) (e : v ≡ rules_of F value) where
    pub rules-refused : (v.number ≡ 0 → ⊥) → blankly v ≡ judged value
    rules-refused h = refused-is v (F.record_of value) h ∙ ap (λ (w : Verdict). reading F.blank w (F.record_of value)) e

    pub rules-accepted : (r : F.Held) → r ≡ F.record_of value → v.number ≡ 0 → record { number = v.number; line = v.line; held = r } ≡ judged value
    rules-accepted r is h = accepted-is v r h ∙ rw (is, e)

  -- the same in the type's own words, of a record and its rules as a program has them
  module _ {A : Type 0} (told : Reading F.Held → A) (value : ℕ → List ℕ) (r : F.Held) (is : r ≡ F.record_of value) (v : Verdict) (e : v ≡ F.read_rules value r) where
    rules-are : v ≡ rules_of F value
    unfolding rules_of
    rules-are = e ∙ rw is

    pub told-refused : (v.number ≡ 0 → ⊥) → told (blankly v) ≡ told (judged value)
    told-refused h = ap told (rules-refused value v rules-are h)

    pub told-accepted : v.number ≡ 0 → told (record { number = v.number; line = v.line; held = r }) ≡ told (judged value)
    told-accepted h = ap told (rules-accepted value v rules-are r is h)

  -- ---- the passes in their order

  module _ (R : Readable F) (m : List ℕ) (r : Body) (e : r ≡ taken F m) where
    abbrev value : ℕ → List ℕ
    value = value_on F m (taken_in (body_of F m))

    abbrev passed : Verdict
    passed = pass_of (table_of F.tree) F.slot_of F.header m

    verdict-is : r.verdict ≡ passed
    verdict-is = take-verdict (table_of F.tree) F.slot_of F.header m r e

    -- something wrong up to the values
    pub refused : (r.verdict.number ≡ 0 → ⊥) → blankly r.verdict ≡ read_of F m
    unfolding read_of
    refused h =
        refused-is r.verdict (F.record_of value) h
        ∙ ap (λ (v : Verdict). reading F.blank v (F.record_of value))
        (stop r.verdict passed (rules_of F value) verdict-is h ∙ rows-verdict F R.layout.good m)

    -- what stands at a slot's places is its value
    stretch-value : r.verdict.number ≡ 0 → (s : ℕ) → has (every_slot F) s ≡ true → stretch_of m r.starts r.ends s ≡ value s
    unfolding value_on
    stretch-value z s i =
        let pass = ap (λ (v : Verdict). v.number) (sym verdict-is) ∙ z in
        let below = ltb-true s slot_count (every-at (λ n. ltb n slot_count) (every_slot F) s R.placed i) in
        rw (← (rows-body F R.layout.good m)) (take-values (table_of F.tree) F.slot_of F.header m r e pass s below)

    -- nothing wrong up to the values: the rules decide
    pub judged-is : r.verdict.number ≡ 0 → judged (stretch_of m r.starts r.ends) ≡ read_of F m
    unfolding read_of rules_of
    judged-is z =
        let stretch = stretch_of m r.starts r.ends in
        let same = R.rests stretch value (stretch-value z) in
        let rules : rules_of F stretch ≡ rules_of F value = ap (F.read_rules stretch) same.0 ∙ same.1 (F.record_of value) in
        rw (same.0, rules)
        (ap (λ (v : Verdict). reading F.blank v (F.record_of value))
        (go r.verdict passed (rules_of F value) verdict-is z ∙ rows-verdict F R.layout.good m))
