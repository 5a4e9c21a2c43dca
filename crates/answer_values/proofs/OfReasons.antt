-- The reasons of a record, of any number of them: what the tests of their slots say, that they are the record of their values, that these
-- fill their slots, and how their blocks stand.
-- Assumes nothing.
use Prim.Native.Nat.{ℕ, zero, suc, ◌≤◌}
use mathlib.Core.Path.{◌≡◌, refl, sym, ap, ◌∙◌}
use mathlib.Core.Bool.{Bool, true, false, ◌&&◌, ◌||◌, not, true≢false}
use mathlib.Core.List.{List, [], ◌∷◌, ◌++◌}
use mathlib.Core.Logic.{inl, inr}
use native.Mathlib.Omega.{arith}
use lib.Dec.{leb, ltb, eqb}
use lib.ListN.{length, get_or}
use borrow.Author.Tests.{le-leb, lt-ltb, ne_eqb, eq-eqb, eqb-true}
use Rattle.text.specs.Classes.{is_all, all_in}
use Rattle.text.specs.Texts.{contents, text_of}
use Rattle.text.specs.declared.Class.TheVariants.{Printed}
use Rattle.text.specs.Texts.{Text}
use Rattle.text.proofs.Bools.{or-one, or-two}
use Rattle.text.proofs.Laws.{and_left, and_right, and_both, length-contents}
use Rattle.forms.specs.Forms as Forms
use Rattle.forms.specs.Forms.{characters, form_number}
use Rattle.forms.proofs.Laws.{unless-good}
use Rattle.remark.specs.Remarks.{remark_of, contents as remark_text, in_form as remark_form}
use Rattle.remark.specs.Remarks.{Remark}
use Rattle.remark.proofs.Laws as Remarks
use Rattle.sheets.specs.Slots.{slots_of}
use Rattle.sheets.specs.Sheets.{has}
use Rattle.sheets.specs.Filled.{some}
use Rattle.format.specs.Format.{optional}
use Rattle.format.specs.Writing.{behind_in}
use Rattle.format.specs.Writable.{fitted_in, hold}
use Rattle.format.proofs.BySlot.{Each, fitted-form, fitted-held}
use Rattle.format.proofs.Tests.{tidied}
use Rattle.format.proofs.Laws.{every_slot, Filled, Held}
use Rattle.format.proofs.Round.{in_tree}
use Rattle.format.proofs.Values.{text-filled, held-filled, text-back, some-behind, Named, FormOf, form_of, text-kept}
use Rattle.answer.specs.Records.{no_reason, reason_of, reason_at}
use Rattle.answer.specs.declared.Reason.{Reason}
use Rattle.answer.specs.declared.Answer.{Answer}
use Rattle.answer_table.specs.Table.{slot_of}
use Rattle.answer_table.specs.Tree.{tree}
use Rattle.answer_values.specs.Values.{value_of}
use Rattle.answer_values.specs.Writable.{fitted, remarked, stands, reason_tests}
use Rattle.answer_values.specs.Mt509.{mt509}
use Rattle.answer_values.proofs.Laid.{layout}
use Rattle.answer_values.proofs.Blocks.{Tied}

-- ---- a value is there where it has a byte

pub some-long : (v : List ℕ) → some v ≡ ltb 0 (length v)
unfolding some
some-long [] = refl
some-long (b ∷ v) = sym (lt-ltb 0 (length (b ∷ v)) (omega arith))

-- ---- the first of some lists' elements are all of them

firsts : {A : Type 0} → A → List A → ℕ → ℕ → List A
firsts d l k zero = []
firsts d l k (suc n) = get_or l k d ∷ firsts d l (suc k) n

firsts-behind : {A : Type 0} (d x : A) (l : List A) (k n : ℕ) → firsts d (x ∷ l) (suc k) n ≡ firsts d l k n
unfolding firsts
firsts-behind d x l k zero = refl
firsts-behind d x l k (suc n) = ap (λ r. get_or l k d ∷ r) (firsts-behind d x l (suc k) n)

firsts-all : {A : Type 0} (d : A) (l : List A) → firsts d l 0 (length l) ≡ l
unfolding firsts
firsts-all d [] = refl
firsts-all d (x ∷ l) = ap (λ r. x ∷ r) (firsts-behind d x l 0 (length l) ∙ firsts-all d l)

pub hold-left : (xs ys : List Bool) → hold (xs ++ ys) ≡ true → hold xs ≡ true
unfolding hold
hold-left [] ys e = refl
hold-left (b ∷ xs) ys e = rw (and_left b _ e) (hold-left xs ys (and_right b _ e))

pub hold-both : (xs ys : List Bool) → hold xs ≡ true → hold ys ≡ true → hold (xs ++ ys) ≡ true
unfolding hold
hold-both [] ys e f = f
hold-both (b ∷ xs) ys e f = rw (and_left b _ e) (hold-both xs ys (and_right b _ e) f)

-- the slot behind so many reasons, how many slots these and m more are, and the slots of their codes
unfoldable pub past : ℕ → ℕ → ℕ
past slot zero = slot
past slot (suc n) = past (suc (suc slot)) n

unfoldable pub twice : ℕ → ℕ → ℕ
twice zero m = m
twice (suc n) m = suc (suc (twice n m))

unfoldable pub codes : ℕ → ℕ → List ℕ
codes slot zero = []
codes slot (suc n) = slot ∷ codes (suc (suc slot)) n

module _ (a : Answer) where
  -- ---- what the tests say of reasons, behind one that stands or not

  unfoldable pub Right : Bool → ℕ → ℕ → ℕ → Type 0
  Right before slot number zero = Unit
  Right before slot number (suc n) =
      (fitted slot (reason_at a number).code ≡ true)
      × (stands (reason_at a number) ≡ true → before ≡ true)
      × (remarked (suc slot) (reason_at a number).text ≡ true)
      × (eqb (reason_at a number).text.len 0 ≡ false → stands (reason_at a number) ≡ true)
      × Right (stands (reason_at a number)) (suc (suc slot)) (suc number) n

  -- of a reason that stands, where it may only behind another; and of a text that is there, where it may only with its code
  not-or : (x y : Bool) → (not x || y) ≡ true → x ≡ true → y ≡ true
  not-or x y h e = rw e at h

  or-not : (x y : Bool) → (x || y) ≡ true → x ≡ false → y ≡ true
  or-not x y h e = rw e at h

  pub right_of : (before : Bool) (slot number n : ℕ) → hold (reason_tests a before slot number n) ≡ true → Right before slot number n
  unfolding Right reason_tests hold
  right_of before slot number zero h = tt
  right_of before slot number (suc n) h =
      let r = reason_at a number in
      let first = fitted slot r.code && (not (stands r) || before) in
      let second = remarked (suc slot) r.text && (eqb r.text.len 0 || stands r) in
      let x = and_left first _ h in
      let y = and_left second _ (and_right first _ h) in (
        and_left (fitted slot r.code) _ x,
        not-or (stands r) before (and_right (fitted slot r.code) _ x),
        and_left (remarked (suc slot) r.text) _ y,
        or-not (eqb r.text.len 0) (stands r) (and_right (remarked (suc slot) r.text) _ y),
        right_of (stands r) (suc (suc slot)) (suc number) n (and_right second _ (and_right first _ h)),
      )

  -- ---- they are the record of their values

  remark-in : (slot : ℕ) (r : Remark) → remarked slot r ≡ true → remark_form 0 35 r ≡ true
  unfolding fitted_in
  remark-in slot r e = and_left (remark_form 0 35 r) _ e

  unfoldable pub reread : ℕ → ℕ → List Reason
  reread number zero = []
  reread number (suc n) = reason_of (contents (reason_at a number).code) (remark_text (reason_at a number).text) ∷ reread (suc number) n

  reread-is : (before : Bool) (slot number n : ℕ) → Right before slot number n → reread number n ≡ firsts no_reason a.reasons number n
  unfolding Right reread firsts reason_of reason_at
  reread-is before slot number zero h = refl
  reread-is before slot number (suc n) h =
      let r = get_or a.reasons number no_reason in
      rw (text-back mt509 slot r.code h.0, Remarks.remark-back 0 35 r.text (remark-in (suc slot) r.text h.2))
      (ap (λ (l : List Reason). r ∷ l) (reread-is (stands r) (suc (suc slot)) (suc number) n h.4))

  pub reasons-back : (before : Bool) (slot : ℕ) → Right before slot 0 10 → eqb (length a.reasons) 10 ≡ true → reread 0 10 ≡ a.reasons
  reasons-back before slot h e =
      reread-is before slot 0 10 h ∙ ap (firsts no_reason a.reasons 0) (sym (eqb-true (length a.reasons) 10 e)) ∙ firsts-all no_reason a.reasons

  -- ---- their values

  -- where they stand among the values of the record
  unfoldable pub Aligned : ℕ → ℕ → ℕ → Type 0
  Aligned slot number zero = Unit
  Aligned slot number (suc n) =
      (value_of a slot ≡ contents (reason_at a number).code)
      × ((value_of a (suc slot) ≡ remark_text (reason_at a number).text) × Aligned (suc (suc slot)) (suc number) n)

  abbrev Fills : ℕ → Type 0
  Fills slot = Filled mt509 slot (value_of a slot)

  -- each fills its slot, and so do those of the slots behind them
  pub each-reason : (before : Bool) (slot number n m : ℕ) → Aligned slot number n → Right before slot number n
      → Each (Named mt509 Fills) (past slot n) m → Each (Named mt509 Fills) slot (twice n m)
  unfolding Aligned Right past twice
  each-reason before slot number zero m e h rest = rest
  each-reason before slot number (suc n) m e h rest =
      let r = reason_at a number in (
        λ i. rw e.0 (text-filled mt509 slot r.code h.0),
        (
          λ i. rw e.1.0 (held-filled mt509 (suc slot) (remark_form 0 35 r.text) (remark_text r.text) h.2),
          each-reason (stands r) (suc (suc slot)) (suc number) n m e.1.1 h.4 rest,
        ),
      )

  -- ---- their blocks

  -- a code is there where its reason stands, and a text where it has a byte
  code-some : (slot : ℕ) (r : Reason) → fitted slot r.code ≡ true → some (contents r.code) ≡ stands r
  unfolding stands
  code-some slot r e = some-long (contents r.code) ∙ ap (ltb 0) (length-contents 0 20 r.code (fitted-form tree slot_of slot r.code e))

  text-some : (slot : ℕ) (x : Remark) → remarked slot x ≡ true → some (remark_text x) ≡ true → eqb x.len 0 ≡ false
  unfolding some
  text-some slot x e h = go (remark_text x) (Remarks.length-contents 0 35 x (remark-in slot x e)) h
    where
      go : (v : List ℕ) → length v ≡ x.len → some v ≡ true → eqb x.len 0 ≡ false
      go [] n s = absurd (true≢false (sym s))
      go (b ∷ v) n s = ne_eqb x.len 0 (λ z. let w : ⊥ = omega (arith, n) in w)

  -- the slots of reasons need not stand
  unfoldable pub all_may : ℕ → ℕ → Bool
  all_may slot zero = true
  all_may slot (suc n) = (optional mt509 slot && optional mt509 (suc slot)) && all_may (suc (suc slot)) n

  pub reasons-tied : (before : Bool) (slot number n : ℕ) → all_may slot n ≡ true → Aligned slot number n → Right before slot number n
      → Tied (behind_in mt509 (value_of a)) before (codes slot n)
  unfolding all_may Aligned Right codes Tied
  reasons-tied before slot number zero o e h = tt
  reasons-tied before slot number (suc n) o e h =
      let r = reason_at a number in
      let v = behind_in mt509 (value_of a) in
      let both = and_left (optional mt509 slot && optional mt509 (suc slot)) _ o in
      let code : some (v slot) ≡ stands r = some-behind mt509 (value_of a) slot (and_left (optional mt509 slot) _ both) ∙ ap some e.0 ∙ code-some slot r h.0 in
      let text : some (v (suc slot)) ≡ some (remark_text r.text) = some-behind mt509 (value_of a) (suc slot) (and_right (optional mt509 slot) _ both) ∙ ap some e.1.0 in
      rw (code) (
        h.1,
        λ s. h.3 (text-some (suc slot) r.text h.2 (sym text ∙ s)),
        reasons-tied (stands r) (suc (suc slot)) (suc number) n (and_right (optional mt509 slot && optional mt509 (suc slot)) _ o) e.1.1 h.4,
      )

-- ---- the reasons of a message's values

module _ (value : ℕ → List ℕ) (h : Held mt509 value) where
  abbrev v : ℕ → List ℕ
  v = behind_in mt509 value

  -- a slot that need not stand is one of the message's
  may-slot : (slot : ℕ) → optional mt509 slot ≡ true → has (every_slot mt509) slot ≡ true
  unfolding optional
  may-slot slot o = in_tree mt509 layout slot (and_left (has (slots_of tree) slot) _ o)

  -- the text of a reason is held as a remark, and that is written as it was
  remark-kept : (slot : ℕ) → has (every_slot mt509) slot ≡ true → (slot_of slot).form ≡ characters Printed 1 35
      → (remarked slot (remark_of (value slot)) ≡ true) × (remark_text (remark_of (value slot)) ≡ value slot)
  unfolding form_number optional all_in
  remark-kept slot i is =
      let t = held (form_of mt509 value h slot i) in
      (fitted-held tree slot_of slot (remark_form 0 35 (remark_of (value slot))) (remark_text (remark_of (value slot))) (value slot) t.0 t.1 (form_of mt509 value h slot i), t.1)
    where
      held : FormOf mt509 value h slot → (remark_form 0 35 (remark_of (value slot)) ≡ true) × (remark_text (remark_of (value slot)) ≡ value slot)
      held (inl n) = Remarks.remark-held 0 35 (value slot) (omega arith) (rw n.0)
      held (inr z) =
          let e = unless-good (is_all Printed 1 35 (value slot)) (rw is at z) in
          Remarks.remark-held 0 35 (value slot) (omega arith) (and_both (le-leb 0 (length (value slot)) (omega arith)) (and_right (leb 1 (length (value slot))) _ e))

  -- it stands where its code's slot does
  stands-is : (slot : ℕ) → optional mt509 slot ≡ true → (slot_of slot).form ≡ Forms.codes 4 4 → stands (reason_of (value slot) (value (suc slot))) ≡ some (v slot)
  unfolding stands reason_of
  stands-is slot o is =
      let k = text-kept mt509 value h slot 4 4 (may-slot slot o) is refl in
      let n = length-contents 0 20 (text_of (value slot)) (fitted-form tree slot_of slot (text_of (value slot)) k.0) in
      ap (ltb 0) (sym n ∙ ap length k.1) ∙ sym (some-long (value slot)) ∙ sym (some-behind mt509 value slot o)

  -- of a reason that stands behind one that does, and of a text beside its code
  behind : (x before : Bool) → (x ≡ true → before ≡ true) → (not x || before) ≡ true
  behind true before k = k refl
  behind false before k = refl

  beside : (slot : ℕ) (x : Bool) → optional mt509 slot ≡ true → (slot_of slot).form ≡ characters Printed 1 35 → (some (v slot) ≡ true → x ≡ true)
      → (eqb (remark_of (value slot)).len 0 || x) ≡ true
  unfolding some fitted_in
  beside slot x o is k =
      let t = remark-kept slot (may-slot slot o) is in
      let n = Remarks.length-contents 0 35 (remark_of (value slot)) (and_left (remark_form 0 35 (remark_of (value slot))) _ t.0) in
      go (value slot) (sym n ∙ ap length t.1) (λ q. k (some-behind mt509 value slot o ∙ q))
    where
      go : (w : List ℕ) → (remark_of (value slot)).len ≡ length w → (some w ≡ true → x ≡ true) → (eqb (remark_of (value slot)).len 0 || x) ≡ true
      go [] n q = or-one _ _ (eq-eqb _ _ n)
      go (b ∷ w) n q = or-two (eqb (remark_of (value slot)).len 0) _ (q refl)

  -- the forms of the slots of so many reasons
  unfoldable pub Formed : ℕ → ℕ → Type 0
  Formed slot zero = Unit
  Formed slot (suc n) = ((slot_of slot).form ≡ Forms.codes 4 4) × (((slot_of (suc slot)).form ≡ characters Printed 1 35) × Formed (suc (suc slot)) n)

  module _ (a : Answer) where
    -- the reasons of a record are those of the values
    unfoldable pub Reads : ℕ → ℕ → ℕ → Type 0
    Reads slot number zero = Unit
    Reads slot number (suc n) = (reason_at a number ≡ reason_of (value slot) (value (suc slot))) × Reads (suc (suc slot)) (suc number) n

    -- then their tests hold
    pub reasons-hold : (before : Bool) (slot number n : ℕ) → all_may a slot n ≡ true → Formed slot n → Reads slot number n → Tied v before (codes slot n)
        → hold (reason_tests a before slot number n) ≡ true
    unfolding all_may Formed Reads codes Tied reason_tests hold reason_of
    reasons-hold before slot number zero o f r t = refl
    reasons-hold before slot number (suc n) o f r t =
        let both = and_left (optional mt509 slot && optional mt509 (suc slot)) _ o in
        let here = and_left (optional mt509 slot) _ both in
        let next = and_right (optional mt509 slot) _ both in
        let code = text-kept mt509 value h slot 4 4 (may-slot slot here) f.0 refl in
        let text = remark-kept (suc slot) (may-slot (suc slot) next) f.1.0 in
        let is = stands-is slot here f.0 in
        rw (r.0, is)
        (and_both (and_both code.0 (behind (some (v slot)) before t.0))
        (and_both (and_both text.0 (beside (suc slot) (some (v slot)) next f.1.0 t.1))
        (reasons-hold (some (v slot)) (suc (suc slot)) (suc number) n (and_right (optional mt509 slot && optional mt509 (suc slot)) _ o) f.1.1 r.1 t.2)))

    -- and they are written as the values are
    abbrev Back : ℕ → Type 0
    Back slot = value_of a slot ≡ tidied (slot_of slot).form (value slot)

    pub reasons-kept : (slot number n m : ℕ) → all_may a slot n ≡ true → Formed slot n → Reads slot number n → Aligned a slot number n
        → Each (Named mt509 Back) (past slot n) m → Each (Named mt509 Back) slot (twice n m)
    unfolding all_may Formed Reads Aligned past twice tidied reason_of
    reasons-kept slot number zero m o f r e rest = rest
    reasons-kept slot number (suc n) m o f r e rest =
        let both = and_left (optional mt509 slot && optional mt509 (suc slot)) _ o in
        let here = and_left (optional mt509 slot) _ both in
        let next = and_right (optional mt509 slot) _ both in (
          λ i. rw (e.0, r.0, f.0) (text-kept mt509 value h slot 4 4 (may-slot slot here) f.0 refl).1,
          (
            λ i. rw (e.1.0, r.0, f.1.0) (remark-kept (suc slot) (may-slot (suc slot) next) f.1.0).1,
            reasons-kept (suc (suc slot)) (suc number) n m (and_right (optional mt509 slot && optional mt509 (suc slot)) _ o) f.1.1 r.1 e.1.1 rest,
          ),
        )
