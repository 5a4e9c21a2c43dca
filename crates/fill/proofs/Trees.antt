-- Over the rows of a tree the walk puts the lines of the tree filled in, for any tree.
-- Assumes nothing.
use Prim.Native.Nat.{ℕ, zero, suc}
use mathlib.Core.Path.{◌≡◌, refl, sym, ap, ◌∙◌}
use mathlib.Core.Bool.{Bool, true, false, ◌||◌, cond, or_assoc, or-false}
use mathlib.Core.List.{List, [], ◌∷◌, ◌++◌, append_assoc, append-nil, flatten}
use Rattle.text.specs.Bytes.{bytes}
use Rattle.lines.specs.Lines.{joined}
use Rattle.layout.specs.Rows.{Row, field, mark, back}
use Rattle.sheets.specs.Trees.{Field, Member, Tree, last, line, block, group, barred, field_rows, member_rows, rows_in, table_of}
use Rattle.sheets.specs.Sheets.{Entry, edge, item, line_of, lines_in}
use Rattle.sheets.specs.Filled.{some, any_field, any_member, any_in, filled_fields, filled_members, filled}
use Rattle.sheets.proofs.Order.{lines-both}
use Rattle.fill.specs.Filling.{with_ending, held_parts, lower, deeper, has_value, any_rows, stands, opener, puts, walk}
use Rattle.fill.proofs.Runs.{flat_append}

-- ---- lines joined

pub joined-append : (ls ks : List (List ℕ)) → joined (ls ++ ks) ≡ joined ls ++ joined ks
unfolding joined
joined-append [] ks = refl
joined-append (l ∷ ls) ks = rw (joined-append ls ks) (rw (append_assoc l (bytes "\r\n" ++ joined ls) (joined ks), append_assoc (bytes "\r\n") (joined ls) (joined ks)))

abbrev text : List Entry → List ℕ
text es = joined (lines_in es)

text-append : (es ds : List Entry) → text (es ++ ds) ≡ text es ++ text ds
text-append es ds = rw (lines-both es ds) (joined-append (lines_in es) (lines_in ds))

module _ (value : ℕ → List ℕ) where
  -- ---- one of the slots of a block has a value

  pub any_none : (rows : List Row) → any_rows value zero rows ≡ false
  unfolding any_rows
  any_none [] = refl
  any_none (r ∷ rows) = refl

  any-fields : (fs : List Field) (d : ℕ) (rows : List Row) → any_rows value (suc d) (field_rows fs rows) ≡ (any_field value fs || any_rows value (suc d) rows)
  unfolding field_rows any_rows has_value deeper any_field
  any-fields [] d rows = refl
  any-fields (f ∷ fs) d rows = rw (any-fields fs d rows) (sym (or_assoc (some (value f.slot)) (any_field value fs) (any_rows value (suc d) rows)))

  any-members : (c : List ℕ) (ms : List Member) (d : ℕ) (rows : List Row)
      → any_rows value (suc d) (member_rows c ms rows) ≡ (any_member value ms || any_rows value (suc d) rows)
  unfolding member_rows any_rows has_value deeper lower any_member
  any-members c [] d rows = refl
  any-members c (m ∷ ms) d rows =
      let rest = any_rows value (suc d) rows in
      rw (any-fields m.inside (suc d) (back c ∷ member_rows c ms rows), any-members c ms d rows)
      (rw (or_assoc (some (value m.slot)) (any_field value m.inside || any_member value ms) rest, or_assoc (any_field value m.inside) (any_member value ms) rest))

  any-rows : (t : Tree) (d : ℕ) (rows : List Row) → any_rows value (suc d) (rows_in t rows) ≡ (any_in value t || any_rows value d rows)
  unfolding rows_in any_rows has_value deeper lower any_in
  any-rows (last c) d rows = refl
  any-rows (line f t) d rows = rw (any-rows t d rows) (sym (or_assoc (some (value f.slot)) (any_in value t) (any_rows value d rows)))
  any-rows (block m o t u) d rows =
      rw (any-rows t (suc d) (rows_in u rows), any-rows u d rows) (sym (or_assoc (any_in value t) (any_in value u) (any_rows value d rows)))
  any-rows (group n a o c ms t) d rows =
      rw (any-members c ms d (rows_in t rows), any-rows t d rows) (sym (or_assoc (any_member value ms) (any_in value t) (any_rows value d rows)))
  any-rows (barred b t) d rows = any-rows t d rows

-- the first line of the last many blocks of a tree
unfoldable pub opener_in : List ℕ → Tree → List ℕ
opener_in first (last c) = first
opener_in first (line f t) = opener_in first t
opener_in first (block m o t u) = opener_in (opener_in first t) u
opener_in first (group n a o c ms t) = opener_in o t
opener_in first (barred b t) = opener_in first t

module _ (value : ℕ → List ℕ) (parts : ℕ → List (List ℕ)) (same : (s : ℕ) → flatten (parts s) ≡ value s) where
  -- ---- what does not stand is passed over

  skip-fields : (fs : List Field) (first : List ℕ) (d : ℕ) (rows : List Row) → walk value parts first (suc d) (field_rows fs rows) ≡ walk value parts first (suc d) rows
  unfolding field_rows walk opener deeper
  skip-fields [] first d rows = refl
  skip-fields (f ∷ fs) first d rows = skip-fields fs first d rows

  skip-members : (c : List ℕ) (ms : List Member) (first : List ℕ) (d : ℕ) (rows : List Row)
      → walk value parts first (suc d) (member_rows c ms rows) ≡ walk value parts first (suc d) rows
  unfolding member_rows walk opener deeper lower
  skip-members c [] first d rows = refl
  skip-members c (m ∷ ms) first d rows = skip-fields m.inside first (suc d) (back c ∷ member_rows c ms rows) ∙ skip-members c ms first d rows

  skip : (t : Tree) (first : List ℕ) (d : ℕ) (rows : List Row) → walk value parts first (suc d) (rows_in t rows) ≡ walk value parts (opener_in first t) d rows
  unfolding rows_in walk opener deeper lower opener_in
  skip (last c) first d rows = refl
  skip (line f t) first d rows = skip t first d rows
  skip (block m o t u) first d rows = skip t first (suc d) (rows_in u rows) ∙ skip u (opener_in first t) d rows
  skip (group n a o c ms t) first d rows = skip-members c ms o d (rows_in t rows) ∙ skip t o d rows
  skip (barred b t) first d rows = skip t first d rows

  -- ---- what stands is put as its lines

  abbrev out : List ℕ → ℕ → List Row → List ℕ
  out first off rows = flatten (walk value parts first off rows)

  edge-flat : (o : List ℕ) (rest : List (List ℕ)) → flatten (with_ending o ++ rest) ≡ o ++ (bytes "\r\n" ++ flatten rest)
  unfolding flatten
  edge-flat o rest = refl

  held-flat : (s : ℕ) (k : List ℕ) (rest : List (List ℕ)) → flatten (held_parts parts s k ++ rest) ≡ (k ++ value s) ++ (bytes "\r\n" ++ flatten rest)
  unfolding flatten
  held-flat s k rest =
      rw (append_assoc (parts s) (bytes "\r\n" ∷ []) rest, flat_append (parts s) (bytes "\r\n" ∷ rest), same s)
      (sym (append_assoc k (value s) (bytes "\r\n" ++ flatten rest)))

  -- a field's row, where a block that holds it is written
  line-out : (m : Bool) (s : ℕ) (k first : List ℕ) (rows : List Row)
      → out first zero (field m s k ∷ rows) ≡ cond (m || some (value s)) ((k ++ value s) ++ (bytes "\r\n" ++ out first zero rows)) (out first zero rows)
  unfolding walk stands opener puts deeper
  line-out m s k first rows = go (m || some (value s))
    where
      go : (b : Bool) → flatten (cond b (held_parts parts s k ++ walk value parts first zero rows) (walk value parts first zero rows))
          ≡ cond b ((k ++ value s) ++ (bytes "\r\n" ++ out first zero rows)) (out first zero rows)
      go true = held-flat s k (walk value parts first zero rows)
      go false = refl

  -- the same of the sheet: its line in front of what is left, and other bytes behind
  line-text : (b : Bool) (s : ℕ) (k : List ℕ) (es : List Entry) (rest : List ℕ)
      → text (cond b (item s k (value s) ∷ es) es) ++ rest ≡ cond b ((k ++ value s) ++ (bytes "\r\n" ++ (text es ++ rest))) (text es ++ rest)
  unfolding joined lines_in line_of
  line-text true s k es rest = rw (append_assoc (k ++ value s) (bytes "\r\n" ++ text es) rest, append_assoc (bytes "\r\n") (text es) rest)
  line-text false s k es rest = refl

  edge-text : (o : List ℕ) (es : List Entry) (rest : List ℕ) → text (edge o ∷ es) ++ rest ≡ o ++ (bytes "\r\n" ++ (text es ++ rest))
  unfolding joined lines_in line_of
  edge-text o es rest = rw (append_assoc o (bytes "\r\n" ++ text es) rest, append_assoc (bytes "\r\n") (text es) rest)

  fields_out : (fs : List Field) (c first : List ℕ) (rows : List Row)
      → out first zero (field_rows fs (back c ∷ rows)) ≡ text (filled_fields value fs c) ++ out first zero rows
  unfolding field_rows filled_fields walk stands opener puts flatten joined lines_in
  fields_out [] c first rows = sym (edge-text c [] (out first zero rows))
  fields_out (f ∷ fs) c first rows =
      line-out f.must f.slot f.key first (field_rows fs (back c ∷ rows))
      ∙ rw (fields_out fs c first rows) (sym (line-text (f.must || some (value f.slot)) f.slot f.key (filled_fields value fs c) (out first zero rows)))

  -- one of many blocks, where those behind it are put
  member-out : (m : Member) (c first : List ℕ) (rows : List Row) (ds : List Entry) (rest : List ℕ) → out first zero rows ≡ text ds ++ rest
      → out first zero (mark m.slot m.key ∷ field_rows m.inside (back c ∷ rows))
      ≡ text (cond (some (value m.slot)) (edge first ∷ item m.slot m.key (value m.slot) ∷ (filled_fields value m.inside c ++ ds)) ds) ++ rest
  unfolding walk stands opener puts deeper lower flatten
  member-out m c first rows ds rest h = go (some (value m.slot))
    where
      inner : List Row
      inner = field_rows m.inside (back c ∷ rows)

      es : List Entry
      es = filled_fields value m.inside c

      inside : out first zero inner ≡ text (es ++ ds) ++ rest
      inside = fields_out m.inside c first rows ∙ rw (h, text-append es ds) (sym (append_assoc (text es) (text ds) rest))

      stood : flatten ((first ∷ bytes "\r\n" ∷ held_parts parts m.slot m.key) ++ walk value parts first zero inner)
          ≡ text (edge first ∷ item m.slot m.key (value m.slot) ∷ (es ++ ds)) ++ rest
      stood =
          ap (λ (l : List ℕ). first ++ (bytes "\r\n" ++ l))
          (held-flat m.slot m.key (walk value parts first zero inner) ∙ rw inside (sym (line-text true m.slot m.key (es ++ ds) rest)))
          ∙ sym (edge-text first (item m.slot m.key (value m.slot) ∷ (es ++ ds)) rest)

      go : (b : Bool)
          → flatten (cond b ((first ∷ bytes "\r\n" ∷ held_parts parts m.slot m.key) ++ walk value parts first zero inner) (walk value parts first 1 inner))
          ≡ text (cond b (edge first ∷ item m.slot m.key (value m.slot) ∷ (es ++ ds)) ds) ++ rest
      go true = stood
      go false = ap flatten (skip-fields m.inside first 0 (back c ∷ rows)) ∙ h

  members-out : (c : List ℕ) (ms : List Member) (first : List ℕ) (rows : List Row)
      → out first zero (member_rows c ms rows) ≡ text (filled_members value first c ms) ++ out first zero rows
  unfolding member_rows filled_members walk stands opener puts joined lines_in
  members-out c [] first rows = refl
  members-out c (m ∷ ms) first rows =
      member-out m c first (member_rows c ms rows) (filled_members value first c ms) (out first zero rows) (members-out c ms first rows)

  -- a block, where what it holds and what is left behind it are put
  block_out : (b : Bool) (o : List ℕ) (t : Tree) (first : List ℕ) (rows : List Row) (es ds : List Entry) (rest : List ℕ)
      → out first zero (rows_in t rows) ≡ text es ++ out (opener_in first t) zero rows → out (opener_in first t) zero rows ≡ text ds ++ rest
      → flatten (cond b (with_ending o ++ walk value parts first zero (rows_in t rows)) (walk value parts first 1 (rows_in t rows)))
      ≡ text (cond b (edge o ∷ (es ++ ds)) ds) ++ rest
  block_out true o t first rows es ds rest h k =
      edge-flat o (walk value parts first zero (rows_in t rows))
      ∙ rw (h, k, ← append_assoc (text es) (text ds) rest, ← text-append es ds) (sym (edge-text o (es ++ ds) rest))
  block_out false o t first rows es ds rest h k = ap flatten (skip t first 0 rows) ∙ k

  pub rows_out : (t : Tree) (first : List ℕ) (rows : List Row) → out first zero (rows_in t rows) ≡ text (filled value t) ++ out (opener_in first t) zero rows
  unfolding rows_in filled walk stands opener puts deeper opener_in flatten joined lines_in
  rows_out (last c) first rows = sym (edge-text c [] (out first zero rows))
  rows_out (line f t) first rows =
      line-out f.must f.slot f.key first (rows_in t rows)
      ∙ rw (rows_out t first rows) (sym (line-text (f.must || some (value f.slot)) f.slot f.key (filled value t) (out (opener_in first t) zero rows)))
  rows_out (block m o t u) first rows =
      rw (any-rows value t 0 (rows_in u rows), any_none value (rows_in u rows), or-false (any_in value t))
      (block_out (m || any_in value t) o t first (rows_in u rows) (filled value t) (filled value u) (out (opener_in (opener_in first t) u) zero rows)
      (rows_out t first (rows_in u rows)) (rows_out u (opener_in first t) rows))
  rows_out (group n a o c ms t) first rows =
      members-out c ms o (rows_in t rows)
      ∙ rw (rows_out t o rows, text-append (filled_members value o c ms) (filled value t)) (sym (append_assoc (text (filled_members value o c ms)) (text (filled value t)) (out (opener_in o t) zero rows)))
  rows_out (barred b t) first rows = rows_out t first rows

  -- so it is for the table of a tree
  pub walk_is : (t : Tree) → flatten (walk value parts [] 0 (table_of t)) ≡ joined (lines_in (filled value t))
  unfolding table_of flatten walk
  walk_is t = rows_out t [] [] ∙ append-nil (text (filled value t))
