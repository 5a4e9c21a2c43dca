-- Where the fields of a message of any type stand, by the places that its reading keeps: those of an accepted message are its fields',
-- and beside a refusal all are 0. And what stands between them.
-- Assumes nothing.
use Prim.Native.Nat.{ℕ, zero, suc, ◌+◌, ◌-◌, ◌≤◌, ◌<◌}
use mathlib.Core.Path.{◌≡◌, refl, sym, ap, ◌∙◌}
use mathlib.Core.Bool.{Bool, true, false, cond}
use mathlib.Core.List.{List, [], map}
use mathlib.Core.Logic.{◌⊎◌, inl, inr}
use native.Mathlib.Nat.{add-zero}
use native.Mathlib.Omega.{arith}
use lib.Dec.{eqb, leb, ltb}
use lib.ListN.{length, take, drop, get_or, replicate, length-drop, length-replicate, get_or-replicate}
use borrow.Author.Tests.{eqb-true, eqb-false, eq-eqb, ne_eqb, le-leb, leb-true, lt-ltb, ltb-true}
use Rattle.text.specs.Classes.{is_between}
use Rattle.text.proofs.Laws.{and_left, and_right}
use Rattle.text.proofs.Bools.{is_false, or-one, or-two}
use Rattle.lines.specs.Verdicts.{refused, pass, then}
use Rattle.lines.specs.Lines.{lines_of, lines_pass, start_behind, end_of}
use Rattle.lines.proofs.Laws.{Stands}
use Rattle.blocks.specs.Blocks.{nest_pass}
use Rattle.stretches.specs.Stretches.{slot_count, between, stretch_of}
use Rattle.layout.specs.Layout.{Taken, taken, layout_of}
use Rattle.sheets.specs.Trees.{table_of}
use Rattle.sheets.specs.Slots.{slots_of}
use Rattle.sheets.specs.Sheets.{has}
use Rattle.sheets.proofs.Accepts.{taken_on}
use Rattle.sheets.proofs.Checks.{good_slot}
use Rattle.sheets.proofs.Once.{has-append, apart-lists, slots_held, outside, comes-once}
use Rattle.search.specs.Search.{no_line, span_from}
use Rattle.search.proofs.Laws.{Stood}
use Rattle.walk.specs.Walk.{body_pass, taken_in, starts_of, ends_of, walk_of}
use Rattle.walk.specs.declared.Body.{Body}
use Rattle.reader.specs.Header.{head_pass, head_value, head_starts, head_ends}
use Rattle.reader.specs.Take.{placeless, take_of}
use Rattle.reader.proofs.Laws.{starts-many, ends-many, header-kept, taken_is}
use Rattle.format.specs.Format.{Format}
use Rattle.format.specs.Reading.{verdict_of, reading, read_of}
use Rattle.format.specs.Kept.{kept_of}
use Rattle.format.specs.Lawful.{said_in, Lawful}
use Rattle.format.specs.Field.{nowhere, line_for, front_of, field_of, span_in}
use Rattle.format.specs.Outline.{numbers, password_field, line_field, head_slot, line_start, line_end, start_in, end_in, starts_in, ends_in, standing, Standing, begun_at, slot_for, start_kept, end_kept, starts_kept, ends_kept}
use Rattle.format.proofs.Tests.{every, every-at}
use Rattle.format.proofs.Laws.{every_slot, Layout, Laws}
use Rattle.format.proofs.Said.{values-pass}
use Rattle.format.proofs.Rows.{rows-body}
use Rattle.format.proofs.Accepting.{passes-from, body-taken, accepted-line, accepted-lawful, lawful-accepted}
use Rattle.format.proofs.Holds.{not-header, said-head}
use Rattle.format.proofs.Field.{Fields, refused_none, unnamed-none, no_span, line-stood, lawful-line, field-some, held_none, finding}
use Rattle.format.proofs.Places.{starts_none, ends-none, starts-one, ends-one, has-at, head-starts-none, head-ends-none, head-starts-one, head-ends-one}

-- what is asked of a message type: every slot has its place, and of the header's two lines the whole text is the field
pub record Outlined (F : Format) (k : ℕ) : Type 0 where
  pub placed : every good_slot (every_slot F) ≡ true
  pub is-line : k < 4
  pub password-bare : length (F.slot_of (head_slot F 0)).fixed ≡ 0
  pub line-bare : length (F.slot_of (head_slot F k)).fixed ≡ 0
  pub password-whole : F.beyond (password_field F) ≡ 0
  pub line-whole : F.beyond (line_field F) ≡ 0

-- what is handed out of what a reading keeps is right
pub record Handed (F : Format) (k : ℕ) (m : List ℕ) (b : Body) : Type 0 where
  pub number : b.verdict.number ≡ (read_of F m).number
  pub line : b.verdict.line ≡ (read_of F m).line
  pub each : (f : ℕ) → f < F.fields + 3
      → (start_kept F k b.starts b.ends f ≡ start_in F k m f)
      × (end_kept F k b.ends f ≡ end_in F k m f)

-- rules that agree on each number give the same answers for all
module _ (g h : ℕ → ℕ) where
  alike : (n k : ℕ) → ((f : ℕ) → f < k + n → g f ≡ h f) → map g (numbers k n) ≡ map h (numbers k n)
  unfolding numbers
  alike zero k e = refl
  alike (suc n) k e = rw (e k (omega arith), alike n (suc k) (λ f l. e f (omega arith)))

  same-answers : (n : ℕ) → ((f : ℕ) → f < n → g f ≡ h f) → map g (numbers 0 n) ≡ map h (numbers 0 n)
  same-answers n e = alike n 0 (λ f l. e f (omega arith))

-- so all fields are where they should be
module _ (F : Format) (k : ℕ) (m : List ℕ) (b : Body) (h : Handed F k m b) where
  pub starts-handed : starts_kept F k b.starts b.ends ≡ starts_in F k m
  unfolding starts_kept starts_in
  starts-handed = same-answers _ _ (F.fields + 3) (λ f l. (h.each f l).0)

  pub ends-handed : ends_kept F k b.ends ≡ ends_in F k m
  unfolding ends_kept ends_in
  ends-handed = same-answers _ _ (F.fields + 3) (λ f l. (h.each f l).1)

-- ---- where a field begins

module _ (F : Format) where
  begun-there : (f from to : ℕ) → from < to → begun_at F f from to ≡ from + F.beyond f
  unfolding begun_at
  begun-there f from to h = rw (lt-ltb from to h)

  begun-whole : (f from to : ℕ) → F.beyond f ≡ 0 → begun_at F f from to ≡ from
  unfolding begun_at
  begun-whole f from to e = rw (e, add-zero from) (go (ltb from to))
    where
      go : (b : Bool) → cond b from from ≡ from
      go true = refl
      go false = refl

  begun-none : (f : ℕ) → begun_at F f 0 0 ≡ 0
  unfolding begun_at
  begun-none f = refl

-- the field of a line that stands in the message, by the places that are kept of its value
module _ (m : List ℕ) (t : Taken) (front fixed beyond : ℕ) (is : front ≡ fixed + beyond) (some : front < length t.value) (d : Stands m t.line t.value) where
  line-begins : end_of m t.line - length t.value + fixed + beyond ≡ (span_from m front t).offset
  unfolding span_from
  line-begins = let n = length-drop front t.value in let l = d.long in omega arith

  line-ends : end_of m t.line ≡ (span_from m front t).offset + (span_from m front t).count
  unfolding span_from
  line-ends = let n = length-drop front t.value in let l = d.long in omega arith

  line-some : end_of m t.line - length t.value + fixed < end_of m t.line
  line-some = let l = d.long in omega arith

-- ---- the slots

module _ (F : Format) where
  -- what is neither of the header's two lines
  abbrev Own : ℕ → Type 0
  Own f = (f ≡ 0) ⊎ (is_between 1 F.fields f ≡ true)

  own : (f : ℕ) → f < F.fields + 3 → eqb f (password_field F) ≡ false → eqb f (line_field F) ≡ false → Own f
  unfolding is_between
  own f h p q = go (eqb f 0) refl
    where
      go : (b : Bool) → eqb f 0 ≡ b → Own f
      go true e = inl (eqb-true f 0 e)
      go false e =
          let a = eqb-false f (password_field F) p in
          let b = eqb-false f (line_field F) q in
          let c = eqb-false f 0 e in
          inr (rw (le-leb 1 f (omega arith), le-leb f F.fields (omega arith)))

module _ (F : Format) (k : ℕ) (L : Layout F) (T : Outlined F k) where
  slot-good : (s : ℕ) → has (every_slot F) s ≡ true → (1 ≤ s) × (s < slot_count)
  unfolding good_slot
  slot-good s h =
      let g = every-at good_slot (every_slot F) s T.placed h in
      (leb-true 1 s (and_left (leb 1 s) _ g), ltb-true s slot_count (and_right (leb 1 s) _ g))

  -- those of the layout, and those of the header
  laid-good : (s : ℕ) → has (slots_of F.tree) s ≡ true → (1 ≤ s) × (s < slot_count)
  unfolding every_slot
  laid-good s h = slot-good s (has-append F.header (slots_of F.tree) s ∙ or-two (has F.header s) _ h)

  head-good : (s : ℕ) → has F.header s ≡ true → (1 ≤ s) × (s < slot_count)
  unfolding every_slot
  head-good s h = slot-good s (has-append F.header (slots_of F.tree) s ∙ or-one (has F.header s) _ h)

  head_in : (j : ℕ) → j < 4 → has F.header (head_slot F j) ≡ true
  head_in j h = has-at F.header j (rw L.four h)

  head-low : (j : ℕ) → j < 4 → head_slot F j < slot_count
  head-low j h = (head-good (head_slot F j) (head_in j h)).1

  -- 0 is none of them
  nought-out : (has F.header 0 ≡ false) × (has (slots_of F.tree) 0 ≡ false)
  nought-out = (
    is_false (has F.header 0) (λ h. let n = (head-good 0 h).0 in omega arith),
    is_false (has (slots_of F.tree) 0) (λ h. let n = (laid-good 0 h).0 in omega arith),
  )

  module _ (N : Fields F) where
    own-low : (f : ℕ) → Own F f → f < slot_count
    own-low f (inl e) = omega arith
    own-low f (inr n) = (laid-good f (N.are-slots f n)).1

    -- a field's slot has its place
    slot-below : (f : ℕ) → f < F.fields + 3 → slot_for F k f < slot_count
    unfolding slot_for
    slot-below f h = go (eqb f (password_field F)) (eqb f (line_field F)) refl refl
      where
        go : (a b : Bool) → eqb f (password_field F) ≡ a → eqb f (line_field F) ≡ b → cond a (head_slot F 0) (cond b (head_slot F k) f) < slot_count
        go true b p q = head-low 0 (omega arith)
        go false true p q = head-low k T.is-line
        go false false p q = own-low f (own F f h p q)

-- ---- an accepted message

module _ (F : Format) (k : ℕ) (L : Layout F) (W : Laws F) (N : Fields F) (T : Outlined F k) (m : List ℕ) where
  module _ (z : (verdict_of F m).number ≡ 0) where
    law : Lawful F m
    law = accepted-lawful F L W m z

    number_is : (read_of F m).number ≡ 0
    unfolding read_of reading
    number_is = z

    abbrev lines : List Taken
    lines = taken_on 5 law.sheet

    abbrev heads_begun : List ℕ
    heads_begun = head_starts F.slot_of F.header m

    abbrev heads_ended : List ℕ
    heads_ended = head_ends F.header m

    abbrev kept_starts : List ℕ
    kept_starts = starts_of F.slot_of m heads_begun lines

    abbrev kept_ends : List ℕ
    kept_ends = ends_of m heads_ended lines

    run_is : layout_of (table_of F.tree) 5 (drop 4 (lines_of m)) ≡ taken lines
    run_is = rows-body F L.good m ∙ body-taken F L m law.sheet law.laid law.lines

    first_passes : (then (lines_pass m) (then (head_pass F.slot_of F.header m) (nest_pass m))).number ≡ 0
    unfolding then
    first_passes = let p = passes-from F m z in rw (p.text, p.head) p.nest

    -- what was taken of it
    body_is : take_of (table_of F.tree) F.slot_of F.header m ≡ record { verdict = pass; starts = kept_starts; ends = kept_ends }
    unfolding walk_of body_pass taken_in
    body_is = sym (taken_is (table_of F.tree) F.slot_of F.header m first_passes) ∙ rw (run_is, values-pass F law.sheet 5 law.valued)

    heads-long : (length heads_begun ≡ slot_count) × (length heads_ended ≡ slot_count)
    unfolding head_starts head_ends
    heads-long =
        let zeros : List ℕ = replicate {A = ℕ} slot_count 0 in
        let n = length-replicate {A = ℕ} slot_count 0 in
        (starts-many F.slot_of m F.header 0 zeros ∙ n, ends-many m F.header 0 zeros ∙ n)

    -- ---- a slot that has no line

    module _ (s : ℕ) (low : s < slot_count) (h : has (slots_held law.sheet) s ≡ false) (n : has F.header s ≡ false) where
      none-starts : get_or kept_starts s 0 ≡ 0
      unfolding head_starts
      none-starts = starts_none F.slot_of m s law.sheet 5 _ h ∙ head-starts-none F.slot_of m F.header _ s n ∙ get_or-replicate {A = ℕ} slot_count s 0 0 low

      none-ends : get_or kept_ends s 0 ≡ 0
      unfolding head_ends
      none-ends = ends-none F.slot_of m s law.sheet 5 _ h ∙ head-ends-none F.slot_of m F.header _ s n ∙ get_or-replicate {A = ℕ} slot_count s 0 0 low

    -- ---- a field of the layout

    abbrev Agrees : ℕ → Type 0
    Agrees f =
        (begun_at F f (get_or kept_starts f 0) (get_or kept_ends f 0) ≡ (span_in F m f).offset)
        × (get_or kept_ends f 0 ≡ (span_in F m f).offset + (span_in F m f).count)

    -- that is not there
    none-agrees : (f : ℕ) → f < slot_count → has (slots_held law.sheet) f ≡ false → has F.header f ≡ false → span_in F m f ≡ nowhere → Agrees f
    none-agrees f low h n e = rw (none-starts f low h n, none-ends f low h n, e) (begun-none F f, refl)

    -- and that is
    module _ (f : ℕ) (named : is_between 1 F.fields f ≡ true) (low : f < slot_count) (h : has (slots_held law.sheet) f ≡ true) where
      abbrev line : Taken
      line = line_for F m f

      some : front_of F f < length line.value
      unfolding field_of
      some = let s = field-some F L W N m law f named h in let n = length-drop (front_of F f) line.value in omega arith

      stands : Stands m line.line line.value
      unfolding no_line
      stands = go (line-stood F L W m f)
        where
          go : Stood m line → Stands m line.line line.value
          go (inr d) = d
          go (inl e) = let n : length line.value ≡ 0 = ap (λ (t : Taken). length t.value) e in let s = some in absurd (omega arith)

      start_is : get_or kept_starts f 0 ≡ end_of m line.line - length line.value + length (F.slot_of f).fixed
      start_is =
          let l : f < length heads_begun = rw heads-long.0 low in
          starts-one F.slot_of m f law.sheet 5 _ (comes-once law.laid L.is-sole) l h
          ∙ ap (λ (t : Taken). end_of m t.line - length t.value + length (F.slot_of f).fixed) (lawful-line F L W N m law f named)

      end_is : get_or kept_ends f 0 ≡ end_of m line.line
      end_is =
          let l : f < length heads_ended = rw heads-long.1 low in
          ends-one F.slot_of m f law.sheet 5 _ (comes-once law.laid L.is-sole) l h
          ∙ ap (λ (t : Taken). end_of m t.line) (lawful-line F L W N m law f named)

      front-is : front_of F f ≡ length (F.slot_of f).fixed + F.beyond f
      unfolding front_of
      front-is = refl

      there-agrees : Agrees f
      unfolding span_in
      there-agrees = (
        rw (start_is, end_is, begun-there F f _ _ (line-some m line _ _ _ front-is some stands)) (line-begins m line _ _ _ front-is some stands),
        end_is ∙ line-ends m line _ _ _ front-is some stands,
      )

    named-agrees : (f : ℕ) → is_between 1 F.fields f ≡ true → Agrees f
    named-agrees f named = go (has (slots_held law.sheet) f) refl
      where
        low : f < slot_count
        low = own-low F k L T N f (inr named)

        go : (b : Bool) → has (slots_held law.sheet) f ≡ b → Agrees f
        go true h = there-agrees f named low h
        go false h = none-agrees f low h (not-header F L f (N.are-slots f named)) (held_none F L W N m law f named h)

    -- no line is field 0's
    nought-agrees : Agrees 0
    unfolding is_between
    nought-agrees =
        let (n, o) = nought-out F k L T in
        none-agrees 0 (omega arith) (outside 0 law.laid o) n (no_span F m 0 (unnamed-none F m 0 refl))

    own-agrees : (f : ℕ) → Own F f → Agrees f
    own-agrees f (inl e) = rw e nought-agrees
    own-agrees f (inr n) = named-agrees f n

    -- ---- a line of the header

    module _ (j : ℕ) (h : j < 4) (bare : length (F.slot_of (head_slot F j)).fixed ≡ 0) where
      -- no line behind the header is its slot's
      not-laid : has (slots_held law.sheet) (head_slot F j) ≡ false
      not-laid = outside (head_slot F j) law.laid (apart-lists F.header (slots_of F.tree) (head_slot F j) L.heads-apart (head_in F k L T j h))

      long : (j < length F.header) × (head_slot F j < length (replicate {A = ℕ} slot_count 0))
      long = (rw L.four h, rw (length-replicate {A = ℕ} slot_count 0) (head-low F k L T j h))

      head-begins : get_or heads_begun (head_slot F j) 0 ≡ start_behind m j
      unfolding head_starts
      head-begins = head-starts-one F.slot_of m F.header _ j L.heads-distinct long.0 long.1 ∙ rw (bare, add-zero (start_behind m j))

      head-ends : get_or heads_ended (head_slot F j) 0 ≡ end_of m (suc j)
      unfolding head_ends
      head-ends = head-ends-one F.slot_of m F.header _ j L.heads-distinct long.0 long.1

      head-agrees : (f : ℕ) → F.beyond f ≡ 0
          → (begun_at F f (get_or kept_starts (head_slot F j) 0) (get_or kept_ends (head_slot F j) 0) ≡ line_start F m j) × (get_or kept_ends (head_slot F j) 0 ≡ line_end F m j)
      unfolding line_start line_end
      head-agrees f whole =
          rw number_is (
            begun-whole F f _ _ whole ∙ starts_none F.slot_of m (head_slot F j) law.sheet 5 _ not-laid ∙ head-begins,
            ends-none F.slot_of m (head_slot F j) law.sheet 5 _ not-laid ∙ head-ends,
          )

      -- what stands there
      head-stands : between m (line_start F m j) (line_end F m j) ≡ head_value F.slot_of [] F.header (lines_of m) (head_slot F j)
      unfolding line_start line_end stretch_of
      head-stands = rw (number_is, ← head-begins, ← head-ends) (header-kept F.slot_of m (head_slot F j) F.header (head-low F k L T j h))

    -- ---- all of them

    abbrev Both : ℕ → Type 0
    Both f = (start_kept F k kept_starts kept_ends f ≡ start_in F k m f) × (end_kept F k kept_ends f ≡ end_in F k m f)

    both : (f : ℕ) → f < F.fields + 3 → Both f
    unfolding slot_for start_in end_in
    both f h = by (eqb f (password_field F)) (eqb f (line_field F)) refl refl
      where
        by : (a b : Bool) → eqb f (password_field F) ≡ a → eqb f (line_field F) ≡ b → Both f
        by true b p q = rw p (head-agrees 0 (omega arith) T.password-bare f (ap F.beyond (eqb-true f (password_field F) p) ∙ T.password-whole))
        by false true p q = rw (p, q) (head-agrees k T.is-line T.line-bare f (ap F.beyond (eqb-true f (line_field F) q) ∙ T.line-whole))
        by false false p q = rw (p, q) (own-agrees f (own F f h p q))

  -- ---- a refused message

  module _ (z : (verdict_of F m).number ≡ 0 → ⊥) where
    refused-number : (read_of F m).number ≡ 0 → ⊥
    unfolding read_of reading
    refused-number = z

    abbrev noughts : List ℕ
    noughts = replicate {A = ℕ} slot_count 0

    nothing : (f : ℕ) → f < F.fields + 3 → (start_kept F k noughts noughts f ≡ start_in F k m f) × (end_kept F k noughts f ≡ end_in F k m f)
    unfolding start_in end_in line_start line_end
    nothing f h =
        let g = get_or-replicate {A = ℕ} slot_count (slot_for F k f) 0 0 (slot-below F k L T N f h) in
        let s = no_span F m f (refused_none F m f refused-number) in
        rw (g, s, ne_eqb (read_of F m).number 0 refused-number)
        (begun-none F f ∙ sym (same (eqb f (password_field F)) (eqb f (line_field F))), sym (same (eqb f (password_field F)) (eqb f (line_field F))))
      where
        same : (a b : Bool) → ◌≡◌ {A = ℕ} (cond a 0 (cond b 0 0)) 0
        same true b = refl
        same false true = refl
        same false false = refl

  -- ---- either

  pub handed : (b : Body) → b ≡ kept_of F m → Handed F k m b
  unfolding kept_of read_of reading placeless pass refused
  handed b is = go (eqb (verdict_of F m).number 0) refl
    where
      go : (x : Bool) → eqb (verdict_of F m).number 0 ≡ x → Handed F k m b
      go true q =
          let z = eqb-true _ 0 q in
          let e : b ≡ record { verdict = pass; starts = kept_starts z; ends = kept_ends z } = is ∙ rw q (body_is z) in
          rw e (record { number = sym z; line = sym (accepted-line F L W m z); each = both z })
      go false q =
          let e : b ≡ placeless (verdict_of F m) = is ∙ rw q in
          rw e (record { number = refl; line = refl; each = nothing (eqb-false _ 0 q) })

-- ---- what stands between the places of a field

part-between : (m : List ℕ) (from count : ℕ) → from + count ≤ length m → between m from (from + count) ≡ take count (drop from m)
unfolding between
part-between m from count h =
    let l : from ≤ from + count = omega arith in
    let n : from + count - from ≡ count = omega arith in
    rw (le-leb from (from + count) l, le-leb (from + count) (length m) h, n)

module _ (F : Format) (k : ℕ) (L : Layout F) (W : Laws F) (N : Fields F) (T : Outlined F k) where
  field-stands : (m : List ℕ) (f : ℕ) → is_between 1 F.fields f ≡ true → standing F k m f ≡ field_of F m f
  unfolding start_in end_in is_between
  field-stands m f n =
      let high = leb-true f F.fields (and_right (leb 1 f) _ n) in
      let p = (finding F L W N).is-part m f in
      rw (ne_eqb f (password_field F) (λ e. omega arith), ne_eqb f (line_field F) (λ e. omega arith)) (part-between m _ _ p.0 ∙ p.1)

  line-stands : (m : List ℕ) (w : Lawful F m) (j : ℕ) → j < 4 → length (F.slot_of (head_slot F j)).fixed ≡ 0
      → between m (line_start F m j) (line_end F m j) ≡ said_in F m w.sheet (head_slot F j)
  line-stands m w j h bare =
      head-stands F k L W N T m (lawful-accepted F L W m w) j h bare
      ∙ sym (said-head F L m w.sheet w.laid w.valued (head_slot F j) (head_in F k L T j h))

  pub stands-in : Standing F k
  unfolding start_in end_in
  stands-in =
      record {
        is_field = field-stands;
        is-password = λ m w. rw (eq-eqb (password_field F) (password_field F) refl) (line-stands m w 0 (omega arith) T.password-bare);
        is-line = λ m w.
            rw (ne_eqb (line_field F) (password_field F) (λ e. omega arith), eq-eqb (line_field F) (line_field F) refl) (line-stands m w k T.is-line T.line-bare);
      }
