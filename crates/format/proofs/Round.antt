-- Demand 2, the round: the message of a record that may be written is a whole message, and reading it gives that record.
-- Assumes nothing.
use Prim.Native.Nat.{ℕ}
use mathlib.Core.Path.{◌≡◌, refl, sym, ap, ◌∙◌}
use mathlib.Core.Bool.{Bool, true, false, ◌||◌, not, cond, true≢false}
use mathlib.Core.List.{List, [], ◌∷◌, ◌++◌, map, append_assoc}
use mathlib.Core.Logic.{◌⊎◌, inl, inr}
use native.Mathlib.Omega.{arith}
use lib.Dec.{eqb}
use lib.ListN.{length, drop, length-map}
use lib.Seq.{drop-append_seam, drop_at, drop-nil}
use borrow.Author.Tests.{eq-eqb}
use Rattle.text.specs.Bytes.{bytes, same}
use Rattle.text.proofs.Laws.{and_left, and_right}
use Rattle.text.proofs.Printed.{printed}
use Rattle.lines.specs.Verdicts.{pass, refused, then, when}
use Rattle.lines.specs.Lines.{lines_of, lines_pass}
use Rattle.lines.specs.declared.Verdict.{Verdict}
use Rattle.lines.proofs.Laws.{then-zero, plain}
use Rattle.lines.proofs.Joins.{printable-append, Whole, lines-joined, passes-joined}
use Rattle.forms.specs.Forms.{value_number}
use Rattle.sheets.specs.Sheets.{Entry, edge, item, lines_in, has, Sheet}
use Rattle.sheets.specs.Slots.{slots_of}
use Rattle.sheets.specs.Filled.{some, value_in, filled}
use Rattle.sheets.specs.Plain.{any_line}
use Rattle.text.proofs.Bools.{or-one, or-two, or_left, or_right}
use Rattle.sheets.proofs.Checks.{with_tree, full, worded}
use Rattle.sheets.proofs.Emits.{emits, values, Fits, fits-filled}
use Rattle.sheets.proofs.Once.{has-append, slots_held, inside}
use Rattle.sheets.proofs.Solid.{full-filled}
use Rattle.sheets.proofs.Ends.{laid-ends}
use Rattle.sheets.proofs.Picking.{none_both}
use Rattle.reader.specs.Header.{head_pass, head_value}
use Rattle.format.specs.Format.{Format, optional}
use Rattle.format.specs.Reading.{rules_of, read_of}
use Rattle.format.specs.Lawful.{Valued, said_in, Lawful}
use Rattle.format.specs.Writing.{behind_in, head_line, lines_for, message_of, judge_of}
use Rattle.format.proofs.Tests.{every-at}
use Rattle.format.proofs.Prints.{Printed, laid-printed, printable, good-printed}
use Rattle.format.proofs.Worded.{agree-worded}
use Rattle.format.proofs.Laws.{every_slot, Layout, Filled, Held, Laws}
use Rattle.format.proofs.Heads.{heads-written, value_written, heads-pass, heads-miss, heads-printed}
use Rattle.format.proofs.Accepting.{no-dash, accepted-line, lawful-accepted, body-taken, record-said}
use Rattle.format.proofs.Holds.{every-slot, not-header, behind-filled}

-- ---- what a judge of 0 says

when-zero : (b : Bool) → (when (not b) 18).number ≡ 0 → b ≡ true
unfolding when refused
when-zero true z = refl
when-zero false z = let w : ⊥ = omega arith in absurd w

pub judge-zero : (F : Format) (r : F.Held) → judge_of F r ≡ 0 → (F.in_form r ≡ true) × ((F.write_rules r).number ≡ 0)
unfolding judge_of
judge-zero F r z = let (a, b) = then-zero (when (not (F.in_form r)) 18) (F.write_rules r) z in (when-zero (F.in_form r) a, b)

pub judge-good : (F : Format) (r : F.Held) → F.in_form r ≡ true → (F.write_rules r).number ≡ 0 → judge_of F r ≡ 0
unfolding judge_of then when pass refused
judge-good F r a b = rw (a, judge_of) b

plain-none : (ls : List (List ℕ)) → any_line (bytes "-") ls ≡ false → plain ls ≡ true
unfolding any_line plain
plain-none [] h = refl
plain-none (l ∷ ls) h = rw (or_left (same (bytes "-") l) _ h) (plain-none ls (or_right (same (bytes "-") l) _ h))

module _ (F : Format) (L : Layout F) where
  -- ---- a header and a sheet whose values get 0 are the lines of a whole message

  -- a value that gets 0 is of 20 to 7E hex
  pub slot-printed : (s : ℕ) (v : List ℕ) → has (every_slot F) s ≡ true → value_number (F.slot_of s) v ≡ 0 → printed v ≡ true
  slot-printed s v i z = good-printed (F.slot_of s) v (every-at (λ x. printable (F.slot_of x)) (every_slot F) s L.printing i) z

  pub in_tree : (s : ℕ) → has (slots_of F.tree) s ≡ true → has (every_slot F) s ≡ true
  unfolding every_slot
  in_tree s i = rw (has-append F.header (slots_of F.tree) s) (or-two (has F.header s) _ i)

  pub in-header : (s : ℕ) → has F.header s ≡ true → has (every_slot F) s ≡ true
  unfolding every_slot
  in-header s i = rw (has-append F.header (slots_of F.tree) s) (or-one (has F.header s) _ i)

  no-option : (s : ℕ) → has F.header s ≡ true → optional F s ≡ true → ⊥
  unfolding optional
  no-option s i o = true≢false (sym i ∙ not-header F L s (and_left (has (slots_of F.tree) s) _ o))

  valued-printed : (es : List Entry) → ((s : ℕ) → has (slots_held es) s ≡ true → has (slots_of F.tree) s ≡ true) → Valued F es → Printed es
  unfolding Valued Printed slots_held has
  valued-printed [] f h = tt
  valued-printed (edge o ∷ es) f h = valued-printed es f h
  valued-printed (item s k v ∷ es) f h =
      (slot-printed s v (in_tree s (f s (or-one (eqb s s) _ (eq-eqb s s refl)))) h.0, valued-printed es (λ x e. f x (or-two (eqb s x) _ e)) h.1)

  pub whole-lines : (value : ℕ → List ℕ) (es : List Entry) → ((s : ℕ) → has F.header s ≡ true → value_number (F.slot_of s) (head_line F value s) ≡ 0) → Sheet F.tree es → Valued F es
      → Whole (map (head_line F value) F.header ++ lines_in es)
  unfolding head_line
  whole-lines value es g l v =
      let head = map (head_line F value) F.header in
      let (ls, e, k) = laid-ends (bytes "-") l L.ends_at L.last-is in
      record {
        closed =
            record {
              body = head ++ ls;
              split = ap (λ (y : List (List ℕ)). head ++ y) e ∙ sym (append_assoc head ls (bytes "-" ∷ []));
              early = plain-none (head ++ ls) (none_both (bytes "-") head ls (heads-miss F.slot_of value (bytes "-") F.header (no-dash F L) g) k);
            };
        printing =
            printable-append head (lines_in es)
            (heads-printed F.slot_of value F.header (λ s i. slot-printed s (head_line F value s) (in-header s i) (g s i)))
            (laid-printed l L.texts-are (valued-printed es (λ s i. inside s l i) v));
      }

  -- ---- the layout filled in with a message's values

  module _ (value : ℕ → List ℕ) (h : Held F value) where
    abbrev sheet : List Entry
    sheet = filled (behind_in F value) F.tree

    good-value : (s : ℕ) (v : List ℕ) → has (slots_of F.tree) s ≡ true → some v ≡ true → v ≡ behind_in F value s → value_number (F.slot_of s) v ≡ 0
    unfolding some
    good-value s v i e q = on (behind-filled F L value s (h.each s (in_tree s i)))
      where
        on : ((behind_in F value s ≡ []) × (value s ≡ []) × (optional F s ≡ true))
            ⊎ ((behind_in F value s ≡ (F.slot_of s).fixed ++ value s) × (value_number (F.slot_of s) ((F.slot_of s).fixed ++ value s) ≡ 0)) → value_number (F.slot_of s) v ≡ 0
        on (inl (a, b, o)) = absurd (true≢false (sym e ∙ ap some (q ∙ a)))
        on (inr (a, z)) = ap (value_number (F.slot_of s)) (q ∙ a) ∙ z

    held-worded : worded (behind_in F value) F.tree ≡ true
    held-worded = agree-worded F.slot_of (behind_in F value) F.tree L.words-agree (λ s i e. good-value s (behind_in F value s) i e refl) h.firm

    pub filled-sheet : Sheet F.tree sheet
    filled-sheet = emits (behind_in F value) F.tree L.is-once L.is-apart held-worded h.whole

    all-valued : (es : List Entry) → Fits (behind_in F value) es → full es ≡ true → ((s : ℕ) → has (slots_held es) s ≡ true → has (slots_of F.tree) s ≡ true) → Valued F es
    unfolding Fits full slots_held has Valued
    all-valued [] f k n = tt
    all-valued (edge o ∷ es) f k n = all-valued es f k n
    all-valued (item s x v ∷ es) f k n = (
      good-value s v (n s (or-one (eqb s s) _ (eq-eqb s s refl))) (and_left (some v) _ k) f.0,
      all-valued es f.1 (and_right (some v) _ k) (λ y e. n y (or-two (eqb s y) _ e)),
    )

    pub filled-valued : Valued F sheet
    filled-valued =
        all-valued sheet (fits-filled (behind_in F value) F.tree) (full-filled (behind_in F value) F.tree h.firm) (λ s e. inside s filled-sheet e)

    -- what the sheet says of a slot is its value
    pub filled-value : (s : ℕ) → has (slots_of F.tree) s ≡ true → drop (length (F.slot_of s).fixed) (value_in sheet s) ≡ value s
    filled-value s i = rw line-value (on (behind-filled F L value s (h.each s (in_tree s i))))
      where
        line-value : value_in sheet s ≡ behind_in F value s
        line-value = values (behind_in F value) F.tree s h.whole (every-at (has (with_tree [] F.tree)) (slots_of F.tree) s L.are-with i)

        on : ((behind_in F value s ≡ []) × (value s ≡ []) × (optional F s ≡ true))
            ⊎ ((behind_in F value s ≡ (F.slot_of s).fixed ++ value s) × (value_number (F.slot_of s) ((F.slot_of s).fixed ++ value s) ≡ 0))
            → drop (length (F.slot_of s).fixed) (behind_in F value s) ≡ value s
        on (inl (a, b, o)) = ap (λ (x : List ℕ). drop (length (F.slot_of s).fixed) x) a ∙ drop-nil (length (F.slot_of s).fixed) ∙ sym b
        on (inr (a, z)) = ap (λ (x : List ℕ). drop (length (F.slot_of s).fixed) x) a ∙ drop-append_seam (F.slot_of s).fixed (value s)

    -- the header's lines are of their slots
    pub head-lines : (s : ℕ) → has F.header s ≡ true → value_number (F.slot_of s) (head_line F value s) ≡ 0
    unfolding head_line
    head-lines s i = on (h.each s (in-header s i))
      where
        on : Filled F s (value s) → value_number (F.slot_of s) ((F.slot_of s).fixed ++ value s) ≡ 0
        on (inl (e, o)) = absurd (no-option s i o)
        on (inr z) = z

  -- ---- the message of a record

  module _ (W : Laws F) (r : F.Held) (good : judge_of F r ≡ 0) where
    form : F.in_form r ≡ true
    form = (judge-zero F r good).0

    held_in : Held F (F.value_of r)
    held_in = W.values-held r form

    abbrev es : List Entry
    es = filled (behind_in F (F.value_of r)) F.tree

    pub whole : Whole (lines_for F r)
    unfolding lines_for
    whole = whole-lines (F.value_of r) es (head-lines (F.value_of r) held_in) (filled-sheet (F.value_of r) held_in) (filled-valued (F.value_of r) held_in)

    lines_are : lines_of (message_of F r) ≡ lines_for F r
    unfolding message_of
    lines_are = lines-joined (lines_for F r) whole.printing

    text-passes : (lines_pass (message_of F r)).number ≡ 0
    unfolding message_of pass refused
    text-passes =
        let n = W.most r good in
        let k = L.short in
        ap (λ (v : Verdict). v.number) (passes-joined (lines_for F r) whole (omega arith))

    head-passes : (head_pass F.slot_of F.header (message_of F r)).number ≡ 0
    unfolding head_pass lines_for head_line pass refused
    head-passes =
        rw lines_are
        (ap (λ (v : Verdict). v.number)
        (heads-pass F.slot_of 1 F.header (lines_for F r) (heads-written F.slot_of (F.value_of r) F.header (lines_in es) (head-lines (F.value_of r) held_in))))

    said : (s : ℕ) → has (every_slot F) s ≡ true → said_in F (message_of F r) es s ≡ F.value_of r s
    unfolding said_in lines_for head_line
    said s i = on (has F.header s) refl (every-slot F L s i)
      where
        on : (b : Bool) → has F.header s ≡ b → (b || has (slots_of F.tree) s) ≡ true
            → cond b (head_value F.slot_of [] F.header (lines_of (message_of F r)) s) (drop (length (F.slot_of s).fixed) (value_in es s)) ≡ F.value_of r s
        on true e k = rw lines_are (value_written F.slot_of (F.value_of r) [] F.header (lines_in es) s L.heads-distinct e)
        on false e k = filled-value (F.value_of r) held_in s k

    record-back : F.record_of (said_in F (message_of F r) es) ≡ r
    record-back = (W.rests (said_in F (message_of F r) es) (F.value_of r) said).0 ∙ W.record-back r form

    rules-kept : (rules_of F (said_in F (message_of F r) es)).number ≡ 0
    unfolding rules_of
    rules-kept =
        ap (λ (x : F.Held). (F.read_rules (said_in F (message_of F r) es) x).number) record-back
        ∙ ap (λ (v : Verdict). v.number) ((W.rests (said_in F (message_of F r) es) (F.value_of r) said).1 r)
        ∙ W.rules-back r form (judge-zero F r good).1

    body-lines : drop 4 (lines_of (message_of F r)) ≡ lines_in es
    unfolding lines_for
    body-lines =
        let n : length (map (head_line F (F.value_of r)) F.header) ≡ 4 = length-map F.header (head_line F (F.value_of r)) ∙ L.four in
        ap (drop 4) lines_are ∙ drop_at (map (head_line F (F.value_of r)) F.header) (lines_in es) 4 n

    pub written-lawful : Lawful F (message_of F r)
    written-lawful =
        record {
          text = text-passes;
          head = head-passes;
          sheet = es;
          laid = filled-sheet (F.value_of r) held_in;
          lines = body-lines;
          valued = filled-valued (F.value_of r) held_in;
          rules = rules-kept;
        }

    pub written_read : read_of F (message_of F r) ≡ record { number = 0; line = 0; held = r }
    written_read =
        let z = lawful-accepted F L W (message_of F r) written-lawful in
        let l = filled-sheet (F.value_of r) held_in in
        record-said F L W (message_of F r) es l (body-taken F L (message_of F r) es l body-lines) z ∙ rw (record-back, accepted-line F L W (message_of F r) z)
