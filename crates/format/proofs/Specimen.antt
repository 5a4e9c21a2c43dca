-- The specimen has what the demands ask of a layout, by computation, and of a record; and so the demands are met by it, and it answers
-- as with another form of a slot where both forms give the value the same number.
-- Assumes nothing.
use Prim.Native.Nat.{ℕ, ◌≤◌}
use mathlib.Core.Path.{◌≡◌, refl, sym, ap, ◌∙◌}
use mathlib.Core.Bool.{Bool, true, false, ◌&&◌, ◌||◌, not, cond, true≢false, or-true}
use mathlib.Core.List.{List, [], ◌∷◌, ◌++◌, map}
use mathlib.Core.Logic.{inl, inr}
use native.Mathlib.Omega.{arith}
use lib.Dec.{eqb}
use lib.ListN.{length}
use borrow.Author.Tests.{eqb-true, eq-eqb, ne_eqb}
use Rattle.text.specs.Bytes.{bytes, begins, same, before}
use Rattle.text.specs.Classes.{is_between, is_digit, is_upper, is_c, in_class, all_in, is_code}
use Rattle.text.proofs.Bools.{or_case, or-one, or-two}
use Rattle.text.proofs.Laws.{and_left, and_right, and_both, same-eq, same_refl}
use Rattle.text.proofs.Printed.{printed, all_printed}
use Rattle.lines.specs.Lines.{joined}
use Rattle.lines.specs.Verdicts.{refused, pass, then, when}
use Rattle.amount.specs.Amounts.{amount_read, amount_number, is_amount, whole, tidy}
use Rattle.amount.proofs.Laws.{tidy-amount, tidy-tidy}
use Rattle.forms.specs.Forms.{Form, nothing, codes, characters, words, amount, date, moment, narrative, pool_narrative, other, is_word, word_at, unless, form_number, value_number}
use Rattle.forms.proofs.Laws.{amount-good}
use Rattle.forms.proofs.Widths.{longest, form_width, bounded}
use Rattle.forms.proofs.Printing.{printed_form}
use Rattle.blocks.specs.Blocks.{is_tagged, name_of}
use Rattle.sheets.specs.Trees.{last, block, chain}
use Rattle.sheets.specs.Notation.{may}
use Rattle.sheets.specs.Slots.{field_slots, own_slots, member_slots, slots_of, first_slots, must_slots}
use Rattle.sheets.specs.Sheets.{line_of, lines_in, has}
use Rattle.sheets.specs.Filled.{some, any_field, any_member, any_in, filled_fields, filled_members, filled}
use Rattle.sheets.proofs.Checks.{keys_of, groups_of, good_slot, good_fields, good_members, good_tree, clash, avoids, none_of, apart_fields, later_apart, apart_members, unlike, apart, free_fields, free_members, free, with_fields, with_members, with_tree, once_members, once, disjoint, distinct, sole_members, sole, all_free, closed_members, heavy, tellable, all_members, whole_members, complete, solid_fields, solid_members, solid}
use Rattle.sheets.proofs.Ends.{last_line}
use Rattle.format.specs.Format.{every, may_lack, optional}
use Rattle.format.specs.Plain.{tidied}
use Rattle.format.specs.Writing.{behind_in, head_line, message_of, judge_of}
use Rattle.format.specs.Demands.{Demands}
use Rattle.format.specs.OtherForm.{AsWith}
use Rattle.format.specs.Specimen.{slots, slot_of, header, general, commission, settlement, status, tree, links, fronts, named, record_of, beside, value_of, alike, is_filled, together, in_form, specimen}
use Rattle.format.proofs.Tests.{every-at, every_of, number-form, no_length, tidied-none, tidied-some, amount-some, is_codes, no_code, foreign, is_amount_form, apart_text, once_front, untouched, tidy_row, tidy_fields, tidy_members, tidy_tree}
use Rattle.format.proofs.Nests.{field_key, opens_at, closer, field_keys, member_keys, nestable}
use Rattle.format.proofs.Prints.{field_texts, member_texts, texts, printable}
use Rattle.format.proofs.Plainly.{map_same}
use Rattle.format.proofs.Worded.{words_agree}
use Rattle.sheets.proofs.Loose.{none-begun}
use Rattle.format.proofs.Values.{some-behind}
use Rattle.format.proofs.Laws.{edges, strangers, every_slot, Layout, Filled, Held, Laws}
use Rattle.format.proofs.Lengths.{value-width, wide, bytes_of, message-most, within, within-most}
use Rattle.format.proofs.Demands.{demands}
use Rattle.format.proofs.OtherForm.{as-with}

-- ---- the layout, by computation

pub layout : Layout specimen
unfolding bytes begins same before is_between is_digit is_upper is_c in_class all_in printed amount_read is_amount whole is_code is_word word_at unless form_number value_number all_printed printed_form is_tagged name_of chain field_slots own_slots member_slots slots_of first_slots must_slots has groups_of keys_of good_slot good_fields good_members good_tree clash avoids none_of apart_fields later_apart apart_members unlike apart words_agree free_fields free_members free with_fields with_members with_tree once_members once disjoint distinct sole_members sole all_free closed_members heavy tellable last_line every_slot optional slots slot_of header general commission settlement status tree links fronts every is_codes no_code foreign is_amount_form apart_text once_front untouched tidy_row tidy_fields tidy_members tidy_tree field_key opens_at closer field_keys member_keys nestable field_texts member_texts texts printable edges strangers
layout =
    record {
      good = refl;
      is-apart = refl;
      ends_at = refl;
      last-is = refl;
      is-once = refl;
      is-sole = refl;
      is-tellable = refl;
      are-with = refl;
      nests = refl;
      texts-are = refl;
      none_bare = refl;
      none-fixed = refl;
      words-agree = refl;
      printing = refl;
      groups-are = refl;
      is-tidy = refl;
      four = refl;
      heads-distinct = refl;
      heads-apart = refl;
      heads-plain = refl;
      heads-foreign = refl;
      short = omega arith;
    }

-- ---- a value tidied has its form, and stays as it is when it is tidied again

tidy-number : (v : List ℕ) → amount_number (amount_read v) ≡ 0 → amount_number (amount_read (tidy v)) ≡ 0
unfolding amount_read
tidy-number v h = rw (tidy-amount v (amount-good v h))

form-tidied : (f : Form) (v : List ℕ) → form_number f v ≡ 0 → form_number f (tidied f v) ≡ 0
unfolding form_number tidied
form-tidied nothing v h = h
form-tidied (codes least most) v h = h
form-tidied (characters class least most) v h = h
form-tidied (words ws) v h = h
form-tidied amount v h = ap (λ (x : List ℕ). amount_number (amount_read x)) (sym (amount-some v h)) ∙ tidy-number v h
form-tidied date v h = h
form-tidied moment v h = h
form-tidied narrative v h = h
form-tidied pool_narrative v h = h
form-tidied other v h = h

tidied-twice : (f : Form) (v : List ℕ) → form_number f v ≡ 0 → tidied f (tidied f v) ≡ tidied f v
unfolding form_number tidied
tidied-twice nothing v h = refl
tidied-twice (codes least most) v h = refl
tidied-twice (characters class least most) v h = refl
tidied-twice (words ws) v h = refl
tidied-twice amount v h =
    ap (tidied amount) (sym (amount-some v h)) ∙ sym (amount-some (tidy v) (tidy-number v h)) ∙ tidy-tidy v (amount-good v h) ∙ amount-some v h
tidied-twice date v h = refl
tidied-twice moment v h = refl
tidied-twice narrative v h = refl
tidied-twice pool_narrative v h = refl
tidied-twice other v h = refl

-- ---- a list of values beside their slots

alike-eq : (vs ws : List (List ℕ)) → alike vs ws ≡ true → vs ≡ ws
unfolding alike
alike-eq [] [] e = refl
alike-eq [] (w ∷ ws) e = absurd (true≢false (sym e))
alike-eq (v ∷ vs) [] e = absurd (true≢false (sym e))
alike-eq (v ∷ vs) (w ∷ ws) e = rw (same-eq v w (and_left _ _ e), alike-eq vs ws (and_right (same v w) _ e))

alike_refl : (vs : List (List ℕ)) → alike vs vs ≡ true
unfolding alike
alike_refl [] = refl
alike_refl (v ∷ vs) = and_both (same_refl v) (alike_refl vs)

beside-map : (f : ℕ → List ℕ) (ss : List ℕ) (s : ℕ) → has ss s ≡ true → beside ss (map f ss) s ≡ f s
unfolding beside has
beside-map f [] s e = absurd (true≢false (sym e))
beside-map f (i ∷ ss) s e = go (λ h. beside-map f ss s h) (eqb i s) refl e
  where
    go : (has ss s ≡ true → beside ss (map f ss) s ≡ f s) → (b : Bool) → eqb i s ≡ b → (b || has ss s) ≡ true → cond b (f i) (beside ss (map f ss) s) ≡ f s
    go later true q h = ap f (eqb-true i s q)
    go later false q h = later h

-- ---- what stands together, by the values

named-are : every_slot specimen ≡ named
unfolding every_slot slots_of member_slots own_slots field_slots header tree general commission settlement status named
named-are = refl

complete-tree : (v : ℕ → List ℕ) → complete v tree ≡ true
unfolding complete all_members whole_members tree general commission settlement status any_in any_field avoids clash bytes same
complete-tree v =
    rw (none-begun v (bytes ":16R:SETDET") (block may (bytes ":16R:STAT") status (last (bytes "-"))) refl, none-begun v (bytes ":16R:STAT") (last (bytes "-")) refl)
    (simp or-true)

solid-general : (v : ℕ → List ℕ) → solid v general ≡ some (v 5)
unfolding solid solid_members solid_fields general
solid-general v = simp or-true (right (some (v 5)))
  where
    right : (b : Bool) → (b && true) ≡ b
    right true = refl
    right false = refl

solid-settlement : (v : ℕ → List ℕ) → (not (any_in v settlement) || solid v settlement) ≡ together (v 10) (v 11)
unfolding solid any_in settlement commission together
solid-settlement v = go (some (v 10)) (some (v 11))
  where
    go : (x y : Bool) → (not (x || ((y || false) || false)) || (x && ((y && true) && true))) ≡ cond x y (not y)
    go true true = refl
    go true false = refl
    go false true = refl
    go false false = refl

solid-status : (v : ℕ → List ℕ) → (not (any_in v status) || solid v status) ≡ together (v 12) (v 13)
unfolding solid any_in status together
solid-status v = go (some (v 12)) (some (v 13))
  where
    go : (x y : Bool) → (not (x || (y || false)) || (x && (y && true))) ≡ cond x y (not y)
    go true true = refl
    go true false = refl
    go false true = refl
    go false false = refl

solid-tree : (v : ℕ → List ℕ) → solid v tree ≡ (some (v 5) && (together (v 10) (v 11) && (together (v 12) (v 13) && true)))
unfolding solid tree
solid-tree v = rw (solid-general v, solid-settlement v, solid-status v)

together-behind : (value : ℕ → List ℕ) (s t : ℕ) → optional specimen s ≡ true → optional specimen t ≡ true
    → together (behind_in specimen value s) (behind_in specimen value t) ≡ together (value s) (value t)
unfolding together
together-behind value s t o p = rw (some-behind specimen value s o, some-behind specimen value t p)

-- the slots of the blocks that need not stand
lackable : (optional specimen 10 ≡ true) × (optional specimen 11 ≡ true) × (optional specimen 12 ≡ true) × (optional specimen 13 ≡ true)
unfolding optional slots_of member_slots own_slots field_slots must_slots first_slots tree general commission settlement status has
lackable = (refl, refl, refl, refl)

seme-behind : (value : ℕ → List ℕ) → some (behind_in specimen value 5) ≡ true
unfolding behind_in optional slots_of member_slots own_slots field_slots must_slots first_slots tree general commission settlement status has slot_of slots bytes some
seme-behind value = refl

-- ---- one slot

filled_of : (s : ℕ) (v : List ℕ) → is_filled s v ≡ true → Filled specimen s v
unfolding is_filled optional
filled_of s v h =
    or_case (may_lack tree s && eqb (length v) 0) _ h
    (λ e. inl (no_length v (and_right (may_lack tree s) _ e), and_left (may_lack tree s) _ e))
    (λ e. inr (eqb-true _ 0 e))

is-filled : (s : ℕ) (v : List ℕ) → Filled specimen s v → is_filled s v ≡ true
unfolding is_filled optional
is-filled s v (inl (e, o)) = or-one _ _ (and_both o (rw e))
is-filled s v (inr e) = or-two (may_lack tree s && eqb (length v) 0) _ (eq-eqb _ 0 e)

filled-tidied : (s : ℕ) (v : List ℕ) → Filled specimen s v → Filled specimen s (tidied (slot_of s).form v)
filled-tidied s v (inl (e, o)) = inl (rw e (tidied-none (slot_of s).form), o)
filled-tidied s v (inr e) = inr (number-form (slot_of s) _ ∙ form-tidied (slot_of s).form v (sym (number-form (slot_of s) v) ∙ e))

filled-twice : (s : ℕ) (v : List ℕ) → Filled specimen s v → tidied (slot_of s).form (tidied (slot_of s).form v) ≡ tidied (slot_of s).form v
filled-twice s v (inl (e, o)) = ap (tidied (slot_of s).form) (rw e (tidied-none (slot_of s).form) ∙ sym e)
filled-twice s v (inr e) = tidied-twice (slot_of s).form v (sym (number-form (slot_of s) v) ∙ e)

-- ---- a record in form

module _ (r : List (List ℕ)) (form : in_form r ≡ true) where
  record-back : record_of (value_of r) ≡ r
  unfolding in_form
  record-back = alike-eq _ _ (and_left _ _ form)

  held-form : (every (λ s. is_filled s (value_of r s)) named && (together (value_of r 10) (value_of r 11) && together (value_of r 12) (value_of r 13))) ≡ true
  unfolding in_form
  held-form = and_right (alike (record_of (value_of r)) r) _ form

  pairs : (together (value_of r 10) (value_of r 11) && together (value_of r 12) (value_of r 13)) ≡ true
  pairs = and_right (every (λ s. is_filled s (value_of r s)) named) _ held-form

  values-held : Held specimen (value_of r)
  values-held =
      record {
        each = λ s i. filled_of s (value_of r s) (every-at (λ x. is_filled x (value_of r x)) named s (and_left _ _ held-form) (rw named-are at i));
        whole = complete-tree (behind_in specimen (value_of r));
        firm =
            solid-tree (behind_in specimen (value_of r))
            ∙ and_both (seme-behind (value_of r))
            (and_both (together-behind (value_of r) 10 11 lackable.0 lackable.1 ∙ and_left _ _ pairs)
            (and_both (together-behind (value_of r) 12 13 lackable.2 lackable.3 ∙ and_right (together (value_of r 10) (value_of r 11)) _ pairs) refl));
      }

-- ---- the record of a message's values

module _ (value : ℕ → List ℕ) (h : Held specimen value) where
  filled_at : (s : ℕ) → has named s ≡ true → Filled specimen s (value s)
  filled_at s i = h.each s (rw named-are i)

  value-kept : (s : ℕ) → has named s ≡ true → value_of (record_of value) s ≡ tidied (slot_of s).form (value s)
  unfolding value_of record_of
  value-kept s i = beside-map (λ x. tidied (slot_of x).form (value x)) named s i

  some-kept : (s : ℕ) → has named s ≡ true → some (value_of (record_of value) s) ≡ some (value s)
  some-kept s i = ap some (value-kept s i) ∙ sym (tidied-some (slot_of s).form [] (value s))

  together-kept : (s t : ℕ) → has named s ≡ true → has named t ≡ true → optional specimen s ≡ true → optional specimen t ≡ true
      → together (behind_in specimen value s) (behind_in specimen value t) ≡ true → together (value_of (record_of value) s) (value_of (record_of value) t) ≡ true
  unfolding together
  together-kept s t i j o p e = rw (some-kept s i, some-kept t j) (sym (together-behind value s t o p) ∙ e)

  firm-is : (some (behind_in specimen value 5) && (together (behind_in specimen value 10) (behind_in specimen value 11) && (together (behind_in specimen value 12) (behind_in specimen value 13) && true))) ≡ true
  firm-is = sym (solid-tree (behind_in specimen value)) ∙ h.firm

  record_same : record_of (value_of (record_of value)) ≡ record_of value
  unfolding record_of
  record_same =
      map_same (λ s. tidied (slot_of s).form (value_of (record_of value) s)) (λ s. tidied (slot_of s).form (value s)) named
      (λ s i. ap (tidied (slot_of s).form) (value-kept s i) ∙ filled-twice s (value s) (filled_at s i))

  record-alike : alike (record_of (value_of (record_of value))) (record_of value) ≡ true
  record-alike = rw record_same (alike_refl (record_of value))

  all-filled : every (λ s. is_filled s (value_of (record_of value) s)) named ≡ true
  all-filled =
      every_of (λ s. is_filled s (value_of (record_of value) s)) named
      (λ s i. is-filled s (value_of (record_of value) s) (rw (value-kept s i) (filled-tidied s (value s) (filled_at s i))))

  form-back : in_form (record_of value) ≡ true
  unfolding in_form named has
  form-back =
      let b = and_right (some (behind_in specimen value 5)) _ firm-is in
      and_both record-alike
      (and_both all-filled
      (and_both (together-kept 10 11 refl refl lackable.0 lackable.1 (and_left _ _ b))
      (together-kept 12 13 refl refl lackable.2 lackable.3 (and_left _ _ (and_right (together (behind_in specimen value 10) (behind_in specimen value 11)) _ b)))))

-- ---- no message is longer

abbrev widths : ℕ → ℕ
widths s = form_width (slot_of s).form

forms-bounded : every (λ s. bounded (slot_of s).form) (every_slot specimen) ≡ true
unfolding every every_slot slots_of member_slots own_slots field_slots header tree general commission settlement status slot_of slots bounded
forms-bounded = refl

widest : (r : List (List ℕ)) → bytes_of specimen (within specimen r widths) ≡ 423
unfolding within wide every every_slot slots_of member_slots own_slots field_slots must_slots first_slots has header tree general commission settlement status slot_of slots form_width longest joined head_line lines_in line_of filled filled_members filled_fields any_in any_field any_member some behind_in optional bytes
widest r = refl

longest-is : (r : List (List ℕ)) → in_form r ≡ true → length (message_of specimen r) ≤ 423
longest-is r form =
    let most = within-most specimen r widths (λ s i. value-width specimen (value_of r) (values-held r form) forms-bounded s i) in
    let n = message-most specimen r (within specimen r widths) most in
    omega (arith, n, widest r)

judged-form : (r : List (List ℕ)) → judge_of specimen r ≡ 0 → in_form r ≡ true
unfolding judge_of then when refused pass
judged-form r j = go (in_form r) j
  where
    go : (b : Bool) → (then (when (not b) 18) pass).number ≡ 0 → b ≡ true
    go true z = refl
    go false z = let e : ⊥ = omega arith in absurd e

-- ---- the laws, and the demands

record-rests : (f g : ℕ → List ℕ) → ((s : ℕ) → has (every_slot specimen) s ≡ true → f s ≡ g s) → record_of f ≡ record_of g
unfolding record_of
record-rests f g e =
    map_same (λ s. tidied (slot_of s).form (f s)) (λ s. tidied (slot_of s).form (g s)) named (λ s i. ap (tidied (slot_of s).form) (e s (rw named-are i)))

pub laws : Laws specimen
unfolding pass refused
laws =
    record {
      record-back = record-back;
      values-held = values-held;
      values-back = λ value h z. (form-back value h, λ s i. value-kept value h s (rw named-are at i));
      rests = λ f g e. (record-rests f g e, λ r. refl);
      rules-back = λ r h z. refl;
      rules-on = λ value h z. refl;
      rules-line = λ value r. refl;
      never-19 = λ r z. omega arith;
      most = λ r j. longest-is r (judged-form r j);
    }

pub demanded : Demands specimen
demanded = demands specimen layout laws

-- ---- with another form of REAS

pub reas-as-with : (form : Form) (test : List (List ℕ) → Bool) → AsWith specimen 13 form test
unfolding header has
reas-as-with form test = as-with specimen 13 form test layout refl
