-- What a stretch and a field are to each other, to the message and to its record, of any message type: the value is the end of its
-- line, and the line is the one that the message's sheet has for the slot.
-- Assumes nothing.
use Prim.Native.Nat.{ℕ, suc, ◌<◌}
use mathlib.Core.Path.{◌≡◌, refl, sym, ap, subst, ◌∙◌}
use mathlib.Core.Bool.{Bool, true, false, ◌&&◌, cond, true≢false}
use mathlib.Core.List.{List, [], ◌∷◌}
use mathlib.Core.Logic.{inl}
use native.Mathlib.Omega.{arith}
use lib.Dec.{eqb}
use lib.ListN.{length, drop, length-drop}
use lib.Seq.{drop-nil, drop-drop}
use borrow.Author.Tests.{ne_eqb, eqb-true}
use Rattle.text.specs.Classes.{is_between}
use Rattle.text.proofs.Laws.{and_left}
use Rattle.layout.specs.Layout.{Taken, taken}
use Rattle.forms.specs.Forms.{value_number}
use Rattle.sheets.specs.Trees.{table_of}
use Rattle.sheets.specs.Slots.{slots_of}
use Rattle.sheets.specs.Sheets.{Entry, edge, item, come, has}
use Rattle.sheets.specs.Filled.{value_in}
use Rattle.text.proofs.Bools.{is_false, or-one, or_left, or_right, or_case}
use Rattle.sheets.proofs.Accepts.{taken_on}
use Rattle.sheets.proofs.Emits.{come-more}
use Rattle.sheets.proofs.Once.{slots_held}
use Rattle.sheets.proofs.Musts.{come-held}
use Rattle.search.specs.Search.{no_line, taken_for, found_of, span_from, span_of}
use Rattle.search.specs.declared.Span.{Span}
use Rattle.search.proofs.Laws.{Stood, found-laid, found-stood, span_none, span-part}
use Rattle.walk.specs.Walk.{taken_in}
use Rattle.format.specs.Format.{Format}
use Rattle.format.specs.Reading.{body_of, read_of}
use Rattle.format.specs.Lawful.{said_in, Lawful}
use Rattle.format.specs.Field.{nowhere, asked, line_for, front_of, field_of, span_in, Finding}
use Rattle.format.proofs.Laws.{Layout, Laws}
use Rattle.format.proofs.Said.{valued-at}
use Rattle.format.proofs.Rows.{rows-body}
use Rattle.format.proofs.Accepting.{body-taken}
use Rattle.format.proofs.Holds.{not-header}
use Rattle.format.proofs.Demands.{demands}

-- what is asked of the fields: each is a slot of the layout, and none that is there is empty
pub record Fields (F : Format) : Type 0 where
  pub are-slots : (s : ℕ) → is_between 1 F.fields s ≡ true → has (slots_of F.tree) s ≡ true
  pub are-some : (s : ℕ) (v : List ℕ) → is_between 1 F.fields s ≡ true → value_number (F.slot_of s) v ≡ 0 → front_of F s < length v

-- ---- the lines of a sheet that were taken

value_taken : (es : List Entry) (n slot : ℕ) → (taken_for slot (taken_on n es)).value ≡ value_in es slot
unfolding taken_for taken_on value_in no_line
value_taken [] n slot = refl
value_taken (edge o ∷ es) n slot = value_taken es (suc n) slot
value_taken (item i k v ∷ es) n slot = go (eqb i slot) (value_taken es (suc n) slot)
  where
    go : (b : Bool) → (taken_for slot (taken_on (suc n) es)).value ≡ value_in es slot
        → (cond b (record { slot = i; line = n; value = v }) (taken_for slot (taken_on (suc n) es))).value ≡ cond b v (value_in es slot)
    go true e = refl
    go false e = e

none-taken : (es : List Entry) (n slot : ℕ) → has (slots_held es) slot ≡ false → taken_for slot (taken_on n es) ≡ no_line
unfolding taken_for taken_on slots_held has
none-taken [] n slot h = refl
none-taken (edge o ∷ es) n slot h = none-taken es (suc n) slot h
none-taken (item i k v ∷ es) n slot h = rw (or_left (eqb i slot) _ h) (none-taken es (suc n) slot (or_right (eqb i slot) _ h))

held-come : (es : List Entry) (slots : List ℕ) (s : ℕ) → has (slots_held es) s ≡ true → has (come slots es) s ≡ true
unfolding slots_held has come
held-come [] slots s h = absurd (true≢false (sym h))
held-come (edge o ∷ es) slots s h = held-come es slots s h
held-come (item i k v ∷ es) slots s h =
    or_case (eqb i s) (has (slots_held es) s) h (λ e. come-more es (i ∷ slots) s (or-one (eqb i s) _ e)) (λ e. held-come es (i ∷ slots) s e)

module _ (F : Format) where
  -- ---- nothing is asked of a refused message, and nothing for a number that names no slot

  not-asked : (m : List ℕ) (slot : ℕ) → asked F m slot ≡ false → line_for F m slot ≡ no_line
  unfolding line_for
  not-asked m slot h = rw h

  pub asked_of : (m : List ℕ) (slot : ℕ) → (read_of F m).number ≡ 0 → is_between 1 F.fields slot ≡ true → asked F m slot ≡ true
  unfolding asked
  asked_of m slot z h = rw (z, h)

  pub refused_none : (m : List ℕ) (slot : ℕ) → ((read_of F m).number ≡ 0 → ⊥) → line_for F m slot ≡ no_line
  unfolding asked
  refused_none m slot h = not-asked m slot (rw (ne_eqb (read_of F m).number 0 h))

  pub unnamed-none : (m : List ℕ) (slot : ℕ) → is_between 1 F.fields slot ≡ false → line_for F m slot ≡ no_line
  unfolding asked
  unnamed-none m slot h = not-asked m slot (rw h (go (eqb (read_of F m).number 0)))
    where
      go : (b : Bool) → (b && false) ≡ false
      go true = refl
      go false = refl

  pub no_span : (m : List ℕ) (slot : ℕ) → line_for F m slot ≡ no_line → span_in F m slot ≡ nowhere
  unfolding span_in
  no_span m slot e = rw e (sym (span_none m (front_of F slot)))

  no_field : (m : List ℕ) (slot : ℕ) → line_for F m slot ≡ no_line → field_of F m slot ≡ []
  unfolding field_of no_line
  no_field m slot e = rw e (drop-nil (front_of F slot))

  -- ---- the line that is found, of an accepted message

  module _ (m : List ℕ) (slot : ℕ) (h : asked F m slot ≡ true) where
    accepted : (read_of F m).number ≡ 0
    unfolding asked
    accepted = eqb-true (read_of F m).number 0 (and_left (eqb (read_of F m).number 0) _ h)

    line-is : (ts : List Taken) → body_of F m ≡ taken ts → taken_for slot ts ≡ line_for F m slot
    unfolding line_for taken_in
    line-is ts b = rw (h, b)

  module _ (L : Layout F) (W : Laws F) where
    -- the reading has taken all lines, so the first that a search meets for the slot is the slot's
    pub line-found : (m : List ℕ) (slot : ℕ) → asked F m slot ≡ true → found_of (table_of F.tree) m slot ≡ line_for F m slot
    line-found m slot h =
        let w = ((demands F L W).accepts-lawful m).0 (accepted m slot h) in
        let b = body-taken F L m w.sheet w.laid w.lines in
        found-laid (table_of F.tree) m slot (taken_on 5 w.sheet) (rows-body F L.good m ∙ b) ∙ line-is m slot h (taken_on 5 w.sheet) b

    -- so a search finds the field
    pub span-found : (m : List ℕ) (slot : ℕ) → asked F m slot ≡ true → span_of (table_of F.tree) m slot (front_of F slot) ≡ span_in F m slot
    unfolding span_of span_in
    span-found m slot h = rw (line-found m slot h)

    pub line-stood : (m : List ℕ) (slot : ℕ) → Stood m (line_for F m slot)
    line-stood m slot = go (asked F m slot) refl
      where
        go : (b : Bool) → asked F m slot ≡ b → Stood m (line_for F m slot)
        go true h = subst (Stood m) (line-found m slot h) (found-stood (table_of F.tree) m slot)
        go false h = inl (not-asked m slot h)

    -- ---- a field is what the record was read from

    module _ (N : Fields F) where
      module _ (m : List ℕ) (w : Lawful F m) (slot : ℕ) (named : is_between 1 F.fields slot ≡ true) where
        number_is : (read_of F m).number ≡ 0
        number_is = ((demands F L W).accepts-lawful m).1 w

        pub lawful-line : taken_for slot (taken_on 5 w.sheet) ≡ line_for F m slot
        lawful-line = line-is m slot (asked_of m slot number_is named) (taken_on 5 w.sheet) (body-taken F L m w.sheet w.laid w.lines)

        lawful-field : field_of F m slot ≡ drop (front_of F slot) (value_in w.sheet slot)
        unfolding field_of
        lawful-field = rw (← lawful-line) (ap (drop (front_of F slot)) (value_taken w.sheet 5 slot))

        said : said_in F m w.sheet slot ≡ drop (length (F.slot_of slot).fixed) (value_in w.sheet slot)
        unfolding said_in
        said = rw (not-header F L slot (N.are-slots slot named))

        field-said : field_of F m slot ≡ drop (F.beyond slot) (said_in F m w.sheet slot)
        unfolding front_of
        field-said = lawful-field ∙ sym (drop-drop (F.beyond slot) (length (F.slot_of slot).fixed) (value_in w.sheet slot)) ∙ ap (drop (F.beyond slot)) (sym said)

        -- a field that is there is never empty
        pub field-some : has (slots_held w.sheet) slot ≡ true → 0 < length (field_of F m slot)
        field-some h =
            let v = value_in w.sheet slot in
            let f = N.are-some slot v named (valued-at F w.sheet slot w.valued h) in
            let d = length-drop (front_of F slot) v in
            let e = ap length lawful-field in
            omega arith

        pub held_none : has (slots_held w.sheet) slot ≡ false → span_in F m slot ≡ nowhere
        held_none h = no_span m slot (sym lawful-line ∙ none-taken w.sheet 5 slot h)

        absent_none : has (come [] w.sheet) slot ≡ false → span_in F m slot ≡ nowhere
        absent_none h = held_none (is_false (has (slots_held w.sheet) slot) (λ e. true≢false (sym (held-come w.sheet [] slot e) ∙ h)))

        none-absent-at : span_in F m slot ≡ nowhere → has (come [] w.sheet) slot ≡ false
        unfolding span_in field_of span_from has
        none-absent-at e =
            is_false (has (come [] w.sheet) slot)
            (λ h. let s = field-some (come-held w.sheet [] slot h) in
            let c : length (field_of F m slot) ≡ 0 = ap (λ (x : Span). x.count) e in
            let z : ⊥ = omega arith in z)

      pub finding : Finding F
      unfolding span_in field_of
      finding =
          record {
            is-part = λ m slot. span-part m (front_of F slot) (line_for F m slot) (line-stood m slot);
            is_read = field-said;
            none-refused = λ m slot h. (no_span m slot (refused_none m slot h), no_field m slot (refused_none m slot h));
            none-unnamed = λ m slot h. (no_span m slot (unnamed-none m slot h), no_field m slot (unnamed-none m slot h));
            none-absent = λ m w slot h. (none-absent-at m w slot h, absent_none m w slot h);
          }
