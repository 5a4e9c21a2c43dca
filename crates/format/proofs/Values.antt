-- A record and the values of its slots, of any message type: what one slot's form says of its value, and what was shown slot by slot, put
-- together. The values of a record in form are a message's (`held_of`); the record of a message's values is in form and has them
-- (`kept-all`), and rests on them alone (`rests-of`).
-- Assumes nothing.
use Prim.Native.Nat.{ℕ, ◌≤◌, ◌<◌}
use mathlib.Core.Path.{◌≡◌, refl, sym, ap, fun_ext, ◌∙◌}
use mathlib.Core.Bool.{Bool, true, false, ◌&&◌, not, cond, true≢false}
use mathlib.Core.List.{List, [], ◌∷◌, ◌++◌}
use mathlib.Core.Logic.{◌⊎◌, inl, inr}
use native.Mathlib.Omega.{arith}
use lib.Dec.{leb, ltb, eqb}
use lib.ListN.{length, get_or}
use borrow.Author.Tests.{le-leb, leb-true, ltb-true, ne_eqb, eqb-true}
use Rattle.std.proofs.Common.{Option, Some, None}
use Rattle.text.specs.Classes.{all_in, is_all}
use Rattle.text.specs.Texts.{contents, text_of, in_form_of, in_form as text_form}
use Rattle.text.specs.declared.Class.{Class}
use Rattle.text.proofs.Codes.{all_most, all-class}
use Rattle.text.specs.Texts.{Text}
use Rattle.text.proofs.Bools.{or_case, or-two}
use Rattle.text.proofs.Laws as Texts
use Rattle.text.proofs.Laws.{and_left, and_right}
use Rattle.amount.specs.Amounts.{amount_read, amount_number, amount_text, in_form as amount_form}
use Rattle.amount.specs.declared.Amount.{Amount}
use Rattle.amount.proofs.Laws.{amount-round}
use Rattle.forms.specs.Forms.{codes, characters, amount, unless, form_number, value_number}
use Rattle.forms.proofs.Laws.{unless-good}
use Rattle.sheets.specs.Slots.{slots_of, must_slots}
use Rattle.sheets.specs.Sheets.{has}
use Rattle.sheets.specs.Filled.{some}
use Rattle.sheets.proofs.Once.{has-append}
use Rattle.sheets.proofs.Loose.{loose, must-slots, stand-together}
use Rattle.typed.specs.Typed.{amount_or0}
use Rattle.typed.proofs.Laws.{amount-held}
use Rattle.format.specs.Format.{Format, may_lack, optional}
use Rattle.format.specs.Writing.{behind_in}
use Rattle.format.specs.Writable.{fitted, fitted_in, hold}
use Rattle.format.proofs.Tests.{every, every-at, number-form, no_length, tidied, tidied-none, amount-some}
use Rattle.format.proofs.Laws.{every_slot, Layout, Filled, Held, Rests}
use Rattle.format.proofs.Holds.{behind-filled, behind-some}
use Rattle.format.proofs.BySlot.{Each, each_at, hold-all, no-contents, fitted-form, fitted-text, fitted-held}

-- ---- one value

pub good-unless : (b : Bool) → b ≡ true → unless b ≡ 0
unfolding unless
good-unless b e = rw e

-- that of a line that is fixed is empty
pub fixed-line : (v : List ℕ) → unless (eqb (length v) 0) ≡ 0 → [] ≡ v
fixed-line v e = sym (no_length v (unless-good _ e))

-- an amount that gets 0 is held in form, and is written as the tidied one
pub amount-text : (v : List ℕ) → amount_number (amount_read v) ≡ 0
    → (amount_form (amount_or0 (amount_read v)) ≡ true) × (amount_text (amount_or0 (amount_read v)) ≡ tidied amount v)
amount-text v e = let k = amount-held v e in (k.0, k.1 ∙ amount-some v e)

-- some bytes of a class are held as a text of the class, and that is written as they were
class-text : (class : Class) (v : List ℕ) → length v ≤ 20 → all_in class v ≡ true → (in_form_of class 0 20 (text_of v) ≡ true) × (contents (text_of v) ≡ v)
class-text class v short e = (Texts.form_of v short class 0 20 ∙ rw (le-leb 0 (length v) (omega arith), le-leb (length v) 20 short, e), Texts.contents-of v short)

-- ---- an amount that need not stand, which is held as absent or as an amount

module _ {T : Type 0} (absent : T) (there : Amount → T) (held_as : List ℕ → T) where
  -- nothing is held as absent, and an amount as itself
  pub record Perhaps : Type 0 where
    pub of_none : held_as [] ≡ absent
    pub of-amount : (v : List ℕ) (a : Amount) → amount_read v ≡ Some a → held_as v ≡ there a

  module _ (p : Perhaps) where
    -- what is held and written is held again
    pub perhaps-back : (a : Amount) → amount_form a ≡ true → held_as (amount_text a) ≡ there a
    perhaps-back a h = p.of-amount (amount_text a) a (amount-round a h)

    -- a value of an optional slot is held in form, and is written as the tidied one
    module _ (form : T → Bool) (spelled : T → List ℕ) (form-none : form absent ≡ true) (form-one : (a : Amount) → form (there a) ≡ amount_form a)
        (text-none : spelled absent ≡ []) (text-one : (a : Amount) → spelled (there a) ≡ amount_text a) where
      pub perhaps-kept : (v : List ℕ) → (v ≡ []) ⊎ (amount_number (amount_read v) ≡ 0) → (form (held_as v) ≡ true) × (spelled (held_as v) ≡ tidied amount v)
      perhaps-kept v (inl e) = rw (e, p.of_none) (form-none, text-none ∙ sym (tidied-none amount))
      perhaps-kept v (inr e) = go (amount_read v) refl e
        where
          go : (r : Option Amount) → amount_read v ≡ r → amount_number r ≡ 0 → (form (held_as v) ≡ true) × (spelled (held_as v) ≡ tidied amount v)
          go (Some a) q z =
              let k = rw q at (amount-text v e) in
              rw (p.of-amount v a q) (form-one a ∙ k.0, text-one a ∙ k.1)
          go None q z = let w : ⊥ = omega arith in absurd w

-- ---- one slot

module _ (F : Format) where
  pub filled : (slot : ℕ) (v : List ℕ) → form_number (F.slot_of slot).form v ≡ 0 → Filled F slot v
  filled slot v h = inr (number-form (F.slot_of slot) v ∙ h)

  pub may-filled : (slot : ℕ) (v : List ℕ) → optional F slot ≡ true → (v ≡ []) ⊎ (form_number (F.slot_of slot).form v ≡ 0) → Filled F slot v
  may-filled slot v o (inl e) = inl (e, o)
  may-filled slot v o (inr h) = filled slot v h

  pub text-filled : (slot : ℕ) (x : Text) → fitted F.tree F.slot_of slot x ≡ true → Filled F slot (contents x)
  unfolding fitted optional
  text-filled slot x e =
      or_case (may_lack F.tree slot && eqb x.len 0) _ (and_right (text_form 0 20 x) _ e)
      (λ a. inl (no-contents x (eqb-true _ _ (and_right (may_lack F.tree slot) _ a)), and_left _ _ a))
      (λ z. filled slot (contents x) (eqb-true _ _ z))

  -- of any class, and in any room
  pub held-filled : (slot : ℕ) (form : Bool) (v : List ℕ) → fitted_in F.tree F.slot_of slot form v ≡ true → Filled F slot v
  unfolding fitted_in optional
  held-filled slot form v e =
      or_case (may_lack F.tree slot && eqb (length v) 0) _ (and_right form _ e)
      (λ a. inl (no_length v (and_right (may_lack F.tree slot) _ a), and_left _ _ a))
      (λ z. filled slot v (eqb-true _ _ z))

  pub text-back : (slot : ℕ) (x : Text) → fitted F.tree F.slot_of slot x ≡ true → text_of (contents x) ≡ x
  text-back slot x e = Texts.text-back 0 20 x (fitted-form F.tree F.slot_of slot x e)

  -- what is said of the slots of a message, by numbers of which some name none
  abbrev pub Named : (ℕ → Type 0) → ℕ → Type 0
  Named P slot = has (every_slot F) slot ≡ true → P slot

  pub none : {A : Type 0} (slot : ℕ) → has (every_slot F) slot ≡ false → has (every_slot F) slot ≡ true → A
  none slot e i = absurd (true≢false (sym i ∙ e))

  -- the slots of a message are below a number, by one test
  module _ (n : ℕ) (all : every (λ s. ltb s n) (every_slot F) ≡ true) where
    pub below : (slot : ℕ) → has (every_slot F) slot ≡ true → slot < n
    below slot i = ltb-true slot n (every-at (λ s. ltb s n) (every_slot F) slot all i)

    pub each-slot : (P : ℕ → Type 0) → Each (Named P) 0 n → (slot : ℕ) → has (every_slot F) slot ≡ true → P slot
    each-slot P each slot i = each_at (Named P) n each slot (below slot i) i

  -- what stands behind a slot that may be without a value stands where the value does
  pub some-behind : (value : ℕ → List ℕ) (s : ℕ) → optional F s ≡ true → some (behind_in F value s) ≡ some (value s)
  unfolding behind_in some
  some-behind value s o = rw o (go (F.slot_of s).fixed (value s))
    where
      go : (f v : List ℕ) → some (cond (true && eqb (length v) 0) [] (f ++ v)) ≡ some v
      go f [] = refl
      go [] (b ∷ v) = rw (ne_eqb (length (b ∷ v)) 0 (λ q. omega arith))
      go (c ∷ f) (b ∷ v) = rw (ne_eqb (length (b ∷ v)) 0 (λ q. omega arith))

  -- ---- values of which each fills its slot: what must stand does; and they are those of a message, where the layout is loose

  module _ (L : Layout F) (value : ℕ → List ℕ) (each : (s : ℕ) → has (every_slot F) s ≡ true → Filled F s (value s)) where
    pub behind-must : (s : ℕ) → has (must_slots F.tree) s ≡ true → some (behind_in F value s) ≡ true
    unfolding every_slot optional
    behind-must s m = go (behind-filled F L value s (each s (has-append F.header (slots_of F.tree) s ∙ or-two (has F.header s) _ i)))
      where
        i : has (slots_of F.tree) s ≡ true
        i = must-slots F.tree s m

        go : ((behind_in F value s ≡ []) × (value s ≡ []) × (optional F s ≡ true))
            ⊎ ((behind_in F value s ≡ (F.slot_of s).fixed ++ value s) × (value_number (F.slot_of s) ((F.slot_of s).fixed ++ value s) ≡ 0))
            → some (behind_in F value s) ≡ true
        go (inl (b, e, o)) = absurd (true≢false (sym (and_right (has (slots_of F.tree) s) _ o) ∙ ap not m))
        go (inr (b, z)) = rw b (behind-some F L s _ i z)

    pub held_of : loose F.tree ≡ true → Held F value
    held_of l = let t = stand-together (behind_in F value) F.tree behind-must l in record { each = each; whole = t.0; firm = t.1 }

  -- ---- the values of a message, by the forms of their slots

  module _ (value : ℕ → List ℕ) (h : Held F value) where
    abbrev pub FormOf : ℕ → Type 0
    FormOf slot = ((value slot ≡ []) × (optional F slot ≡ true)) ⊎ (form_number (F.slot_of slot).form (value slot) ≡ 0)

    pub form_of : (slot : ℕ) → has (every_slot F) slot ≡ true → FormOf slot
    form_of slot i = go (h.each slot i)
      where
        go : Filled F slot (value slot) → FormOf slot
        go (inl n) = inl n
        go (inr n) = inr (sym (number-form (F.slot_of slot) (value slot)) ∙ n)

    pub may-form : (slot : ℕ) → has (every_slot F) slot ≡ true → (value slot ≡ []) ⊎ (form_number (F.slot_of slot).form (value slot) ≡ 0)
    may-form slot i = go (form_of slot i)
      where
        go : FormOf slot → (value slot ≡ []) ⊎ (form_number (F.slot_of slot).form (value slot) ≡ 0)
        go (inl n) = inl n.0
        go (inr n) = inr n

    pub must-form : (slot : ℕ) → has (every_slot F) slot ≡ true → optional F slot ≡ false → form_number (F.slot_of slot).form (value slot) ≡ 0
    must-form slot i o = go (form_of slot i)
      where
        go : FormOf slot → form_number (F.slot_of slot).form (value slot) ≡ 0
        go (inl n) = absurd (true≢false (sym n.1 ∙ o))
        go (inr n) = n

    pub text-kept : (slot least most : ℕ) → has (every_slot F) slot ≡ true → (F.slot_of slot).form ≡ codes least most → leb most 20 ≡ true
        → (fitted F.tree F.slot_of slot (text_of (value slot)) ≡ true) × (contents (text_of (value slot)) ≡ value slot)
    unfolding optional
    text-kept slot least most i is l = fitted-text F.tree F.slot_of slot least most (value slot) is l (form_of slot i)

    -- a text of a class
    pub class-kept : (slot : ℕ) (class : Class) (least most : ℕ) → has (every_slot F) slot ≡ true → (F.slot_of slot).form ≡ characters class least most → leb most 20 ≡ true
        → (fitted_in F.tree F.slot_of slot (in_form_of class 0 20 (text_of (value slot))) (contents (text_of (value slot))) ≡ true) × (contents (text_of (value slot)) ≡ value slot)
    unfolding optional form_number all_in
    class-kept slot class least most i is l =
        let t = held (form_of slot i) in
        (fitted-held F.tree F.slot_of slot (in_form_of class 0 20 (text_of (value slot))) (contents (text_of (value slot))) (value slot) t.0 t.1 (form_of slot i), t.1)
      where
        held : FormOf slot → (in_form_of class 0 20 (text_of (value slot)) ≡ true) × (contents (text_of (value slot)) ≡ value slot)
        held (inl n) = class-text class (value slot) (rw n.0 (omega arith)) (rw n.0)
        held (inr z) =
            let e = unless-good (is_all class least most (value slot)) (rw is at z) in
            let m = all_most class least most (value slot) e in
            let k = leb-true most 20 l in
            class-text class (value slot) (omega arith) (all-class class least most (value slot) e)

  -- ---- the record of a message's values, with a test for each slot that it is in form

  module _ (tests : F.Held → List Bool) (value : ℕ → List ℕ) where
    abbrev pub Back : ℕ → Type 0
    Back slot = F.value_of (F.record_of value) slot ≡ tidied (F.slot_of slot).form (value slot)

    -- what is to be shown of each slot: its test holds, and its value is written as it was, or tidied
    abbrev pub Kept : ℕ → Type 0
    Kept slot = (get_or (tests (F.record_of value)) slot true ≡ true) × Named Back slot

    pub kept : (slot : ℕ) → (get_or (tests (F.record_of value)) slot true ≡ true) × Back slot → Kept slot
    kept slot e = (e.0, λ i. e.1)

    pub no_slot : (slot : ℕ) → get_or (tests (F.record_of value)) slot true ≡ true → has (every_slot F) slot ≡ false → Kept slot
    no_slot slot a b = (a, none slot b)

    pub kept-all : (n : ℕ) → every (λ s. ltb s n) (every_slot F) ≡ true → leb (length (tests (F.record_of value))) n ≡ true → Each Kept 0 n
        → (hold (tests (F.record_of value)) ≡ true) × ((slot : ℕ) → has (every_slot F) slot ≡ true → Back slot)
    kept-all n all l each = (
      hold-all (tests (F.record_of value)) (λ slot i. (each_at Kept n each slot (let m = leb-true (length (tests (F.record_of value))) n l in omega arith)).0),
      λ slot i. (each_at Kept n each slot (below n all slot i)).1 i,
    )

  -- ---- what a record rests on: it and the rules are as they would be with no values but those of the slots

  unfoldable pub at_slots : (ℕ → List ℕ) → ℕ → List ℕ
  at_slots value slot = cond (has (every_slot F) slot) (value slot) []

  at_slots_lem : (f g : ℕ → List ℕ) → ((slot : ℕ) → has (every_slot F) slot ≡ true → f slot ≡ g slot) → at_slots f ≡ at_slots g
  unfolding at_slots
  at_slots_lem f g e = fun_ext (λ slot. go slot (has (every_slot F) slot) refl)
    where
      go : (slot : ℕ) (b : Bool) → has (every_slot F) slot ≡ b → cond b (f slot) [] ≡ cond b (g slot) []
      go slot true i = e slot i
      go slot false i = refl

  pub rests-of : ((value : ℕ → List ℕ) → F.record_of value ≡ F.record_of (at_slots value))
      → ((value : ℕ → List ℕ) (r : F.Held) → F.read_rules value r ≡ F.read_rules (at_slots value) r) → Rests F
  rests-of a b f g e =
      let same = at_slots_lem f g e in
      (a f ∙ ap F.record_of same ∙ sym (a g), λ r. b f r ∙ ap (λ (v : ℕ → List ℕ). F.read_rules v r) same ∙ sym (b g r))
