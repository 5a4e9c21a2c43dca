-- What a glance takes is the piece at the front of its text, and the passes take it so; and the tables of a format with the tests of
-- proofs/Laws are such as a glance asks for.
-- Assumes nothing.
use Prim.Native.Nat.{ℕ, ◌≤◌}
use mathlib.Core.Path.{◌≡◌, refl, sym, ap, ◌∙◌}
use mathlib.Core.Bool.{true}
use mathlib.Core.List.{List, [], ◌∷◌}
use lib.ListN.{length, take, drop, take-append-drop}
use lib.Seq.{length-take-le}
use Rattle.text.proofs.Laws.{and_left, and_right, and_both}
use Rattle.text.proofs.Printed.{printed}
use Rattle.lines.specs.Verdicts.{pass, refused, then}
use Rattle.lines.specs.Lines.{lines_pass}
use Rattle.lines.specs.declared.Verdict.{Verdict}
use Rattle.lines.proofs.Laws.{go}
use Rattle.blocks.specs.Blocks.{nest_pass}
use Rattle.pieces.specs.Pieces.{piece_of}
use Rattle.pieces.proofs.Pieces.{piece-message, message-passed}
use Rattle.layout.specs.Rows.{Row, back}
use Rattle.sheets.specs.Trees.{Field, Member, Tree, last, line, block, group, barred, field_rows, member_rows, rows_in, table_of}
use Rattle.walk.specs.Walk.{body_pass, walk_of}
use Rattle.walk.specs.declared.Body.{Body}
use Rattle.reader.specs.Header.{head_pass, head_starts, head_ends}
use Rattle.reader.specs.Take.{take_of}
use Rattle.reader.proofs.Laws.{taken_is}
use Rattle.measure.specs.Measure.{clean_slot}
use Rattle.fitting.specs.Fitting.{bar_text, row_text, clean_rows}
use Rattle.glance.specs.Glance.{Clean}
use Rattle.format.specs.Format.{Format}
use Rattle.format.specs.Reading.{body_of}
use Rattle.format.specs.Glancing.{GlancedIn, GlanceTakes}
use Rattle.format.proofs.Laws.{Layout}
use Rattle.format.proofs.Prints.{field_texts, member_texts, texts}
use Rattle.format.proofs.Rows.{rows-body}
use Rattle.format.proofs.Passing.{taken-passes}

-- ---- the rows of a tree whose texts are of 20 to 7E hex

field-rows-clean : (fs : List Field) (rows : List Row) → field_texts fs ≡ true → clean_rows rows ≡ true → clean_rows (field_rows fs rows) ≡ true
unfolding field_texts field_rows clean_rows row_text
field-rows-clean [] rows h e = e
field-rows-clean (f ∷ fs) rows h e = and_both {a = printed f.key} (and_left _ _ h) (field-rows-clean fs rows (and_right (printed f.key) _ h) e)

member-rows-clean : (c : List ℕ) (ms : List Member) (rows : List Row) → printed c ≡ true → member_texts ms ≡ true → clean_rows rows ≡ true → clean_rows (member_rows c ms rows) ≡ true
unfolding member_texts member_rows clean_rows row_text printed
member-rows-clean c [] rows p h e = e
member-rows-clean c (m ∷ ms) rows p h e =
    let k = and_right (printed m.key) _ h in
    let rest = member-rows-clean c ms rows p (and_right (field_texts m.inside) _ k) e in
    and_both {a = printed m.key} (and_left _ _ h)
    (field-rows-clean m.inside (back c ∷ member_rows c ms rows) (and_left _ _ k) (and_both {a = printed c} p rest))

rows-in-clean : (t : Tree) (rows : List Row) → texts t ≡ true → clean_rows rows ≡ true → clean_rows (rows_in t rows) ≡ true
unfolding texts rows_in clean_rows row_text
rows-in-clean (last c) rows h e = and_both {a = printed c} h e
rows-in-clean (line f t) rows h e = and_both {a = printed f.key} (and_left _ _ h) (rows-in-clean t rows (and_right (printed f.key) _ h) e)
rows-in-clean (block m o t u) rows h e =
    let k = and_right (printed o) _ h in
    and_both {a = printed o} (and_left _ _ h) (rows-in-clean t (rows_in u rows) (and_left _ _ k) (rows-in-clean u rows (and_right (texts t) _ k) e))
rows-in-clean (group n a o c ms t) rows h e =
    let k = and_right (printed o) _ h in
    let j = and_right (printed c) _ k in
    and_both {a = printed o} (and_left _ _ h)
    (member-rows-clean c ms (rows_in t rows) (and_left _ _ k) (and_left _ _ j) (rows-in-clean t rows (and_right (member_texts ms) _ j) e))
rows-in-clean (barred b t) rows h e = and_both {a = printed (bar_text b)} (and_left _ _ h) (rows-in-clean t rows (and_right (printed (bar_text b)) _ h) e)

pub rows-clean : (t : Tree) → texts t ≡ true → clean_rows (table_of t) ≡ true
unfolding table_of clean_rows
rows-clean t h = rows-in-clean t [] h refl

module _ (F : Format) (L : Layout F) where
  pub tables-clean : ((s : ℕ) → clean_slot (F.slot_of s) ≡ true) → Clean (table_of F.tree) F.slot_of F.header
  tables-clean h = record { four = L.four; rows = rows-clean F.tree L.texts-are; slots = h }

  -- ---- what a glance takes

  module _ (s starts ends : List ℕ) (n : ℕ) (g : GlancedIn F s starts ends n) where
    m : List ℕ
    m = take n s

    zero_of : (v : Verdict) → v ≡ pass → v.number ≡ 0
    unfolding pass refused
    zero_of v e = ap (λ (w : Verdict). w.number) e

    head-good : (head_pass F.slot_of F.header m).number ≡ 0
    unfolding m
    head-good = zero_of _ g.head

    body-good : (body_pass F.slot_of (body_of F m)).number ≡ 0
    unfolding m walk_of
    body-good = rw (← (rows-body F L.good m)) (zero_of _ (ap (λ (b : Body). b.verdict) g.body))

    -- nothing wrong in 1, 2 and 3, nor in 5, 6 and 7
    passes : ((lines_pass m).number ≡ 0) × ((nest_pass m).number ≡ 0)
    unfolding m
    passes =
        let short : length m ≤ 4096 = rw (length-take-le n s g.within) g.short in
        taken-passes F L m g.early short g.closed g.last head-good body-good

    first_good : (then (lines_pass m) (then (head_pass F.slot_of F.header m) (nest_pass m))).number ≡ 0
    first_good =
        ap (λ (v : Verdict). v.number)
        (sym (go (head_pass F.slot_of F.header m) _ (nest_pass m) refl head-good ∙ go (lines_pass m) _ _ refl passes.0))
        ∙ passes.1

    pub glanced-taken : take_of (table_of F.tree) F.slot_of F.header (take n s) ≡ record { verdict = pass; starts = starts; ends = ends }
    unfolding m head_starts head_ends
    glanced-taken = sym (taken_is (table_of F.tree) F.slot_of F.header m first_good) ∙ g.body

    pub glanced-piece : piece_of s ≡ take n s
    unfolding m
    glanced-piece = ap piece_of (sym (take-append-drop n s)) ∙ piece-message (take n s) (drop n s) (message-passed m passes.0)

  pub glance-takes : GlanceTakes F
  glance-takes s starts ends n g = (glanced-taken s starts ends n g, glanced-piece s starts ends n g)
