-- What callers cite: the answers of a program that finds a field, of any message type, by what it does: the message is refused, the number
-- names no field, or its line is searched for. And a type of which one field alone leaves bytes of its value out.
-- Assumes nothing.
use Prim.Native.Nat.{ℕ, ◌+◌, ◌-◌, ◌≤◌, ◌<◌}
use mathlib.Core.Path.{◌≡◌, refl, sym, ap, ◌∙◌}
use mathlib.Core.Bool.{Bool, true, false, cond}
use mathlib.Core.List.{List, [], ◌++◌}
use mathlib.Core.Logic.{◌↔◌}
use native.Mathlib.Omega.{arith}
use lib.Dec.{leb, ltb, eqb}
use lib.ListN.{length, take, drop, length-drop, take-append-drop}
use lib.Seq.{take-append-le}
use borrow.Author.Tests.{le-leb, lt-leb, leb-true, ltb-true, eq-eqb, ne_eqb, eqb-true}
use Rattle.text.specs.Bytes.{begins}
use Rattle.text.specs.Classes.{is_between}
use Rattle.text.proofs.Laws.{and_left, and_right, begins-is, begins-length}
use Rattle.layout.specs.Rows.{Row}
use Rattle.forms.specs.Forms.{form_number, value_number}
use Rattle.forms.proofs.Laws.{value-begins}
use Rattle.sheets.specs.Trees.{table_of}
use Rattle.sheets.specs.Slots.{must_slots}
use Rattle.sheets.specs.Sheets.{come, has}
use Rattle.sheets.proofs.Musts.{musts}
use Rattle.search.specs.Search.{span_of}
use Rattle.search.specs.declared.Span.{Span}
use Rattle.format.specs.Format.{Format}
use Rattle.format.specs.Reading.{read_of}
use Rattle.format.specs.Lawful.{said_in, Lawful}
use Rattle.format.specs.Demands.{Accepted, Demands}
use Rattle.format.specs.Field as AnyType
use Rattle.format.specs.Field.{nowhere, front_of, field_of, span_in}
use Rattle.format.proofs.Tests.{number-form}
use Rattle.format.proofs.Laws.{Layout, Laws}
use Rattle.format.proofs.Said.{valued-at}
use Rattle.format.proofs.Holds.{stands}
use Rattle.format.proofs.Field.{asked_of, refused_none, unnamed-none, no_span, span-found}

-- ---- numbers from 1 on

module _ (n slot : ℕ) where
  pub below-named : slot < 1 → is_between 1 n slot ≡ false
  unfolding is_between
  below-named h = rw (lt-leb 1 slot h)

  pub above-named : n < slot → is_between 1 n slot ≡ false
  unfolding is_between
  above-named h = let l : 1 ≤ slot = omega arith in rw (le-leb 1 slot l, lt-leb slot n h)

  pub is-named : 1 ≤ slot → slot ≤ n → is_between 1 n slot ≡ true
  unfolding is_between
  is-named l h = rw (le-leb 1 slot l, le-leb slot n h)

-- ---- the ways through

module _ (F : Format) (m : List ℕ) (slot : ℕ) where
  -- an answer by its parts: the read's number, and where the field stands
  pub record Found (number : ℕ) (span : Span) : Type 0 where
    pub is_number : number ≡ (read_of F m).number
    pub is-span : span ≡ span_in F m slot

  module _ (number : ℕ) (is : number ≡ (read_of F m).number) where
    pub turned-away : (number ≡ 0 → ⊥) → Found number nowhere
    turned-away h = record { is_number = is; is-span = sym (no_span F m slot (refused_none F m slot (λ e. h (is ∙ e)))) }

    module _ (z : number ≡ 0) where
      pub unnamed : is_between 1 F.fields slot ≡ false → Found 0 nowhere
      unnamed h = record { is_number = sym z ∙ is; is-span = sym (no_span F m slot (unnamed-none F m slot h)) }

      pub searched : Layout F → Laws F → is_between 1 F.fields slot ≡ true → (rows : List Row) → rows ≡ table_of F.tree
          → (front : ℕ) → front ≡ front_of F slot → (s : Span) → s ≡ span_of rows m slot front → Found 0 s
      searched L W h rows r front f s q =
          record { is_number = sym z ∙ is; is-span = q ∙ rw (r, f) (span-found F L W m slot (asked_of F m slot (sym is ∙ z) h)) }

-- ---- what was found is a part of the message

module _ (F : Format) (N : AnyType.Finding F) (m : List ℕ) (slot offset count : ℕ) (a : offset ≡ (span_in F m slot).offset) (b : count ≡ (span_in F m slot).count) where
  pub part_in : offset + count ≤ length m
  part_in = rw (a, b) (N.is-part m slot).0

  pub part-is : take (offset + count - offset) (drop offset m) ≡ field_of F m slot
  part-is =
      let n : offset + count - offset ≡ count = omega arith in
      rw n (rw (a, b) (N.is-part m slot).1)

-- ---- an answer in the type's own words, which are put together of a number and a stretch: nothing of a refused message, nothing for a
-- number that names no field, and of an accepted message nothing for the slots that it does not have

module _ (F : Format) (D : Demands F) (N : AnyType.Finding F) {S : Type 0} (put : ℕ → Span → S) (span : S → Span) (back : (n : ℕ) (s : Span) → span (put n s) ≡ s) where
  abbrev placed : List ℕ → ℕ → S
  placed m slot = put (read_of F m).number (span_in F m slot)

  pub none-refused : (m : List ℕ) (slot : ℕ) → (Accepted F m → ⊥) → (placed m slot ≡ put (read_of F m).number nowhere) × (field_of F m slot ≡ [])
  none-refused m slot h = let (e, f) = N.none-refused m slot h in (ap (put (read_of F m).number) e, f)

  pub none-unnamed : (m : List ℕ) (slot : ℕ) → is_between 1 F.fields slot ≡ false
      → (placed m slot ≡ put (read_of F m).number nowhere) × (field_of F m slot ≡ [])
  none-unnamed m slot h = let (e, f) = N.none-unnamed m slot h in (ap (put (read_of F m).number) e, f)

  pub none-absent : (m : List ℕ) (w : Lawful F m) (slot : ℕ) → is_between 1 F.fields slot ≡ true → (placed m slot ≡ put 0 nowhere) ↔ (has (come [] w.sheet) slot ≡ false)
  none-absent m w slot h =
      let z : (read_of F m).number ≡ 0 = (D.accepts-lawful m).1 w in
      let both = N.none-absent m w slot h in
      (λ e. both.0 (sym (back (read_of F m).number (span_in F m slot)) ∙ ap span e ∙ back 0 nowhere), λ e. rw (z, both.1 e))

-- ---- a type of which one field alone leaves bytes of its value out: those that the value always begins with

module _ (F : Format) (k n : ℕ) (key : List ℕ) (only : (s : ℕ) → F.beyond s ≡ cond (eqb s k) n 0) (short : ltb n (length key) ≡ true)
    (begun : (v : List ℕ) → form_number (F.slot_of k).form v ≡ 0 → begins key v ≡ true) where
  -- so no field that is there is empty (proofs/FieldTests asks for this)
  pub behind-front : (s : ℕ) (v : List ℕ) → (F.beyond s ≡ 0 → ⊥) → value_number (F.slot_of s) v ≡ 0 → front_of F s < length v
  unfolding front_of
  behind-front s v more h = go (eqb s k) refl
    where
      there : value_number (F.slot_of k) v ≡ 0 → length (F.slot_of k).fixed + n < length v
      there z =
          let is = begins-is (F.slot_of k).fixed v (value-begins (F.slot_of k) v z) in
          let rest = drop (length (F.slot_of k).fixed) v in
          let l = begins-length key rest (begun rest (sym (number-form (F.slot_of k) rest) ∙ (rw is at z))) in
          let d = length-drop (length (F.slot_of k).fixed) v in
          let i = ltb-true n (length key) short in
          omega arith

      go : (b : Bool) → eqb s k ≡ b → length (F.slot_of s).fixed + F.beyond s < length v
      go true e = let q = eqb-true s k e in rw (only s, e, q) (there (rw q at h))
      go false e = absurd (more (only s ∙ rw e))

  -- what is left out of it, in front of the field
  module _ (L : Layout F) (N : AnyType.Finding F) (m : List ℕ) (w : Lawful F m) where
    pub said-behind : has (must_slots F.tree) k ≡ true → is_between 1 F.fields k ≡ true → said_in F m w.sheet k ≡ take n key ++ field_of F m k
    said-behind must named =
        let h = musts F.tree w.sheet k w.laid must in
        let v = rw (stands F L m w.sheet w.laid w.valued k h) at (valued-at F w.sheet k w.valued h) in
        let said = said_in F m w.sheet k in
        let is = begins-is key said (begun said (sym (number-form (F.slot_of k) said) ∙ v)) in
        let i = ltb-true n (length key) short in
        let front : take n said ≡ take n key = ap (take n) is ∙ take-append-le n key _ (omega arith) in
        let field : field_of F m k ≡ drop n said = N.is_read m w k named ∙ rw (only k, eq-eqb k k refl) in
        sym (take-append-drop n said) ∙ rw (front, field)

    -- and of those before it nothing is left out
    pub read-before : (j : ℕ) → ltb j k ≡ true → leb k F.fields ≡ true → (slot : ℕ) → is_between 1 j slot ≡ true → field_of F m slot ≡ said_in F m w.sheet slot
    unfolding is_between
    read-before j l g slot h =
        let low = leb-true 1 slot (and_left (leb 1 slot) _ h) in
        let high = leb-true slot j (and_right (leb 1 slot) _ h) in
        let less = ltb-true j k l in
        let most = leb-true k F.fields g in
        let o : slot ≡ k → ⊥ = λ e. omega arith in
        N.is_read m w slot (is-named F.fields slot low (omega arith)) ∙ rw (only slot, ne_eqb slot k o)
