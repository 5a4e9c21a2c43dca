-- The code walks rows: the run over the rows of a tree is how the tree takes the lines.
-- Assumes nothing.
use Prim.Native.Nat.{ℕ, suc, ◌+◌, ◌-◌, ◌≤◌, ◌<◌}
use mathlib.Core.Path.{◌≡◌, refl, sym, ap, ◌∙◌}
use mathlib.Core.Bool.{Bool, true, false, ◌&&◌, ◌||◌, cond}
use mathlib.Core.List.{List, [], ◌∷◌}
use native.Mathlib.Nat.{not-suc-le-zero}
use native.Mathlib.Omega.{arith}
use lib.Dec.{eqb, leb}
use lib.ListN.{length, drop, get_or, set, replicate, length-set, length-replicate, get_or-replicate}
use lib.Seq.{drop-drop, get_or-set_same, get_or-set_other}
use borrow.Author.Tests.{leb-true, ltb-true, ne_eqb, eqb-true, eqb-false}
use Rattle.text.specs.Bytes.{begins, same}
use Rattle.text.proofs.Laws.{and_left, and_right}
use Rattle.bars.specs.Bars.{stops, bar_number}
use Rattle.layout.specs.Rows.{Row, field, opens, closes, many, mark, back, ends, bar, next_key}
use Rattle.layout.specs.Layout.{wrong, moves, fits_or9, is_seen, lacks, beneath, against, look, onward, scan, step_of, with_taken, marked, behind, run_of, layout_of}
use Rattle.layout.specs.declared.Place.{Place}
use Rattle.layout.specs.declared.Step.{Step}
use Rattle.layout.specs.declared.Look.TheVariants.{Decided, Further}
use Rattle.stretches.specs.Stretches.{slot_count}
use Rattle.sheets.specs.Trees.{Field, Member, Tree, last, line, block, group, barred, chain, lead_key, field_rows, member_rows, rows_in, table_of}
use Rattle.sheets.specs.Sheets.{has, lacking}
use Rattle.sheets.specs.Taking.{Spot, within, first, over, Move, no, go, fit, next, seek, later_field, tell, move_of, following, walk, taken_by}
use Rattle.sheets.proofs.Checks.{good_slot, good_fields, good_members, good_tree}
use Rattle.sheets.proofs.Moves.{good_spot, good_trees, GoodMove, good-move}

-- the rows of what is left of the blocks around
unfoldable pub rows_around : List Tree → List Row
rows_around [] = []
rows_around (t ∷ ts) = rows_in t (rows_around ts)

-- ---- where a line stands, and the place in the table

pub data At (table : List Row) : Place → Spot → List Tree → Type 0 where
  in_block : {here : Place} {t : Tree} {ts : List Tree} → drop here.row table ≡ rows_in t (rows_around ts) → At table here (within t) ts
  at_first : {here : Place} {n a : Bool} {o c : List ℕ} {ms : List Member} {t : Tree} {ts : List Tree}
      → drop here.row table ≡ member_rows c ms (rows_in t (rows_around ts))
      → drop here.back table ≡ rows_in (group n a o c ms t) (rows_around ts)
      → At table here (first n a o c ms t) ts
  in-member : {here : Place} (fs : List Field) (c : List ℕ) (rows : List Row) {t : Tree} {ts : List Tree}
      → drop here.row table ≡ field_rows fs (back c ∷ rows)
      → drop here.back table ≡ rows_in t (rows_around ts)
      → At table here (within (chain fs c)) (t ∷ ts)
  at-end : {here : Place} → drop here.row table ≡ [] → At table here over []

-- the slots that have come are those that were seen
abbrev pub Told : List ℕ → List ℕ → Type 0
Told seen slots = (length seen ≡ slot_count) × ((s : ℕ) → good_slot s ≡ true → is_seen seen s ≡ has slots s)

-- a step does what a move does
pub data Does (table : List Row) : Step → Move → Type 0 where
  refuses : {step : Step} {k : ℕ} → step.number ≡ k → 1 ≤ k → Does table step (no k)
  takes-for : {step : Step} {s w : ℕ} {spot : Spot} {ts : List Tree}
      → step.number ≡ 0 → step.slot ≡ s → step.width ≡ w → At table step.place spot ts → Does table step (go s w spot ts)

next_row : (table : List Row) (row : ℕ) (r : Row) (rows : List Row) → drop row table ≡ r ∷ rows → drop (row + 1) table ≡ rows
next_row table row r rows e = sym (drop-drop 1 row table) ∙ ap (λ (l : List Row). drop 1 l) e

-- ---- a choice on both sides

does-cond : (table : List Row) (b : Bool) {x y : Step} {x' y' : Move} → Does table x x' → Does table y y' → Does table (cond b x y) (cond b x' y')
does-cond table true h k = h
does-cond table false h k = k

does-on : (table : List Row) (b : Bool) (d : ℕ) (u p : Bool) (rest : ℕ → Bool → Bool → Step) {x : Step} {x' y' : Move}
    → Does table x x' → Does table (rest d u p) y'
    → Does table (onward (cond b (Decided x) (Further d u p)) rest) (cond b x' y')
unfolding onward
does-on table true d u p rest h k = h
does-on table false d u p rest h k = k

-- one of two tests, or the one and then the other
either : {A : Type 0} (a b : Bool) (x y : A) → cond (a || b) x y ≡ cond a x (cond b x y)
either true b x y = refl
either false b x y = refl

-- ---- what is seen

seen_none : Told (replicate {A = ℕ} slot_count 0) []
unfolding is_seen has good_slot
seen_none = (length-replicate {A = ℕ} slot_count 0, λ s g. rw (get_or-replicate {A = ℕ} slot_count s 0 0 (ltb-true s slot_count (and_right (leb 1 s) _ g))))

-- a slot with a place that comes is seen from then on, and it alone
seen_more : (seen slots : List ℕ) (s : ℕ) → good_slot s ≡ true → Told seen slots → Told (set seen s 1) (s ∷ slots)
unfolding is_seen has good_slot
seen_more seen slots s g t = (length-set seen s 1 ∙ t.0, λ x h. on x h (eqb s x) refl)
  where
    on : (x : ℕ) → good_slot x ≡ true → (b : Bool) → eqb s x ≡ b → eqb (get_or (set seen s 1) x 0) 1 ≡ (b || has slots x)
    on x h true e =
        let q = eqb-true s x e in
        let k : s < length seen = rw t.0 (ltb-true s slot_count (and_right (leb 1 s) _ g)) in
        rw (← q, get_or-set_same seen s 1 0 k)
    on x h false e = rw (get_or-set_other seen s x 1 0 (λ q. eqb-false s x e (sym q))) (t.1 x h)

-- the first or last line of a block is none
seen-edge : (seen slots : List ℕ) → Told seen slots → Told (set seen 0 1) slots
unfolding is_seen good_slot
seen-edge seen slots t =
    (length-set seen 0 1 ∙ t.0, λ x h. rw (get_or-set_other seen 0 x 1 0 (λ q. not-suc-le-zero (rw q at (leb-true 1 x (and_left (leb 1 x) _ h))))) (t.1 x h))

lacks-fields : (seen : List ℕ) (fs : List Field) (rows : List Row) → lacks seen (field_rows fs rows) ≡ lacks seen rows
unfolding lacks field_rows
lacks-fields seen [] rows = refl
lacks-fields seen (f ∷ fs) rows = lacks-fields seen fs rows

lacks-members : (seen slots : List ℕ) → Told seen slots → (c : List ℕ) (ms : List Member) (rows : List Row) → good_members ms ≡ true → lacks seen (member_rows c ms rows) ≡ lacking slots ms
unfolding lacks lacking member_rows good_members
lacks-members seen slots t c [] rows g = refl
lacks-members seen slots t c (m ∷ ms) rows g =
    let k : good_slot m.slot ≡ true = and_left _ _ g in
    let r = lacks-members seen slots t c ms rows (and_right (good_fields m.inside) _ (and_right (good_slot m.slot) _ g)) in
    rw (t.1 m.slot k, lacks-fields seen m.inside (back c ∷ member_rows c ms rows), r)

-- the text of the next row is that of the field that comes next
lead-rows : (t : Tree) (rows : List Row) → next_key (rows_in t rows) ≡ lead_key t
unfolding next_key rows_in lead_key
lead-rows (last c) rows = refl
lead-rows (line f t) rows = refl
lead-rows (block m o t u) rows = refl
lead-rows (group n a o c ms t) rows = refl
lead-rows (barred b t) rows = refl

-- ---- a line against the rows of a tree, at one place

module _ (table : List Row) (here : Place) (seen slots l : List ℕ) (told : Told seen slots) where
  abbrev from : ℕ → List Row → ℕ → Bool → Bool → Step
  from row rows = scan here seen l row rows

  -- rows that are passed over: their place, and the line against what follows them
  abbrev Passed : ℕ → List Row → ℕ → ℕ → List Row → Bool → Bool → Type 0
  Passed d all row deep rest u p = (to : ℕ) × (drop to table ≡ rest) × (from row all deep u p ≡ from to rest d u p)

  deep-false : (d : ℕ) → eqb (suc d) 0 ≡ false
  deep-false d = ne_eqb (suc d) 0 (λ e. omega arith)

  over-row : (row d : ℕ) (u p : Bool) (r : Row) (rows : List Row) (e : ℕ) → look here seen l row rows (suc d) u p r ≡ Further e u p
      → from row (r ∷ rows) (suc d) u p ≡ from (row + 1) rows e u p
  unfolding scan onward
  over-row row d u p r rows e h = rw h

  skip-fields : (fs : List Field) (rows : List Row) (row d : ℕ) (p : Bool) → drop row table ≡ field_rows fs rows → Passed (suc d) (field_rows fs rows) row (suc d) rows false p
  unfolding field_rows look beneath
  skip-fields [] rows row d p e = (row, e, refl)
  skip-fields (f ∷ fs) rows row d p e =
      let q = over-row row d false p (field f.must f.slot f.key) (field_rows fs rows) (suc d) (rw (deep-false d)) in
      let r = skip-fields fs rows (row + 1) d p (next_row table row _ _ e) in
      (r.0, r.1, q ∙ r.2)

  skip-members : (c : List ℕ) (ms : List Member) (rows : List Row) (row d : ℕ) (p : Bool) → drop row table ≡ member_rows c ms rows → Passed d (member_rows c ms rows) row (suc d) rows false p
  unfolding member_rows look beneath
  skip-members c [] rows row d p e =
      let q = over-row row d false p ends rows d (rw (deep-false d) (ap (λ k. Further k false p) (omega arith))) in
      (row + 1, next_row table row _ _ e, q)
  skip-members c (m ∷ ms) rows row d p e =
      let q = over-row row d false p (mark m.slot m.key) (field_rows m.inside (back c ∷ member_rows c ms rows)) (suc (suc d)) (rw (deep-false d) (ap (λ k. Further k false p) (omega arith))) in
      let r = skip-fields m.inside (back c ∷ member_rows c ms rows) (row + 1) (suc d) p (next_row table row _ _ e) in
      let s = over-row r.0 (suc d) false p (back c) (member_rows c ms rows) (suc d) (rw (deep-false (suc d)) (ap (λ k. Further k false p) (omega arith))) in
      let t = skip-members c ms rows (r.0 + 1) d p (next_row table r.0 _ _ r.1) in
      (t.0, t.1, q ∙ (r.2 ∙ (s ∙ t.2)))

  skip-tree : (t : Tree) (rows : List Row) (row d : ℕ) (p : Bool) → drop row table ≡ rows_in t rows → Passed d (rows_in t rows) row (suc d) rows false p
  unfolding rows_in look beneath
  skip-tree (last c) rows row d p e =
      let q = over-row row d false p (closes c) rows d (rw (deep-false d) (ap (λ k. Further k false p) (omega arith))) in
      (row + 1, next_row table row _ _ e, q)
  skip-tree (line f t) rows row d p e =
      let q = over-row row d false p (field f.must f.slot f.key) (rows_in t rows) (suc d) (rw (deep-false d)) in
      let r = skip-tree t rows (row + 1) d p (next_row table row _ _ e) in
      (r.0, r.1, q ∙ r.2)
  skip-tree (block m o t u) rows row d p e =
      let q = over-row row d false p (opens m o) (rows_in t (rows_in u rows)) (suc (suc d)) (rw (deep-false d) (ap (λ k. Further k false p) (omega arith))) in
      let r = skip-tree t (rows_in u rows) (row + 1) (suc d) p (next_row table row _ _ e) in
      let s = skip-tree u rows r.0 d p r.1 in
      (s.0, s.1, q ∙ (r.2 ∙ s.2))
  skip-tree (group n a o c ms t) rows row d p e =
      let q = over-row row d false p (many n a o) (member_rows c ms (rows_in t rows)) (suc (suc d)) (rw (deep-false d) (ap (λ k. Further k false p) (omega arith))) in
      let r = skip-members c ms (rows_in t rows) (row + 1) (suc d) p (next_row table row _ _ e) in
      let s = skip-tree t rows r.0 d p r.1 in
      (s.0, s.1, q ∙ (r.2 ∙ s.2))
  skip-tree (barred b t) rows row d p e =
      let q = over-row row d false p (bar b) (rows_in t rows) (suc d) (rw (deep-false d)) in
      let r = skip-tree t rows (row + 1) d p (next_row table row _ _ e) in
      (r.0, r.1, q ∙ r.2)

  -- a line that fits, unless a mandatory row was passed over
  does-fit : (p : Bool) {step : Step} {move : Move} → Does table step move → Does table (fits_or9 here p step) (fit p move)
  unfolding fits_or9 fit
  does-fit p h = does-cond table p (refuses {k = 9} refl (omega arith)) h

  does-8 : Does table (wrong here 8) (no 8)
  does-8 = refuses {k = 8} refl (omega arith)

  does-next : (row : ℕ) (ts : List Tree) → drop row table ≡ rows_around ts → Does table (moves here row) (next ts)
  unfolding next rows_around
  does-next row [] e = takes-for refl refl refl (at-end e)
  does-next row (t ∷ ts) e = takes-for refl refl refl (in_block e)

  -- in a block
  does-block : (t : Tree) (ts : List Tree) (row : ℕ) (p : Bool) → good_tree t ≡ true → drop row table ≡ rows_in t (rows_around ts)
      → Does table (from row (rows_in t (rows_around ts)) 0 false p) (seek slots l p ts t)
  unfolding rows_in scan look against seek good_tree onward rows_around
  does-block (last c) ts row p g e = does-cond table (same c l) (does-fit p (does-next (row + 1) ts (next_row table row _ _ e))) does-8
  does-block (line f t) ts row p g e =
      let e' = next_row table row _ _ e in
      does-on table (begins f.key l) 0 false (p || f.must) (from (row + 1) (rows_in t (rows_around ts)))
      (does-fit p (takes-for refl refl refl (in_block e')))
      (does-block t ts (row + 1) (p || f.must) (and_right (good_slot f.slot) _ g) e')
  does-block (block m o t u) ts row p g e =
      let e' = next_row table row _ _ e in
      let s = skip-tree t (rows_in u (rows_around ts)) (row + 1) 0 (p || m) e' in
      does-on table (same o l) 1 false (p || m) (from (row + 1) (rows_in t (rows_in u (rows_around ts))))
      (does-fit p (takes-for refl refl refl (in_block e')))
      (rw s.2 (does-block u ts s.0 (p || m) (and_right (good_tree t) _ g) s.1))
  does-block (group n a o c ms t) ts row p g e =
      let e' = next_row table row _ _ e in
      let k = lacks-members seen slots told c ms (rows_in t (rows_around ts)) (and_left _ _ g) in
      let q = p || (n && lacking slots ms) in
      let s = skip-members c ms (rows_in t (rows_around ts)) (row + 1) 0 q e' in
      rw k
      (does-on table (same o l && (a || lacking slots ms)) 1 false q (from (row + 1) (member_rows c ms (rows_in t (rows_around ts))))
      (does-fit p (takes-for refl refl refl (at_first e' e)))
      (rw s.2 (does-block t ts s.0 q (and_right (good_members ms) _ g) s.1)))
  does-block (barred b t) ts row p g e =
      let e' = next_row table row _ _ e in
      rw (lead-rows t (rows_around ts))
      (does-on table (stops b (lead_key t) l) 0 false p (from (row + 1) (rows_in t (rows_around ts)))
      (refuses {k = bar_number b} refl (leb-true 1 (bar_number b) (and_left _ _ g)))
      (does-block t ts (row + 1) p (and_right (leb 1 (bar_number b)) _ g) e'))

  -- in one of many blocks, behind its first field
  does-inside : (fs : List Field) (c : List ℕ) (rows : List Row) (t : Tree) (ts : List Tree) (row : ℕ) (u p : Bool)
      → drop row table ≡ field_rows fs (back c ∷ rows) → drop here.back table ≡ rows_in t (rows_around ts)
      → Does table (from row (field_rows fs (back c ∷ rows)) 0 u p) (seek slots l p (t ∷ ts) (chain fs c))
  unfolding field_rows chain scan look against seek onward next
  does-inside [] c rows t ts row u p e b = does-cond table (same c l) (does-fit p (takes-for refl refl refl (in_block b))) does-8
  does-inside (f ∷ fs) c rows t ts row u p e b =
      let e' = next_row table row _ _ e in
      does-on table (begins f.key l) 0 u (p || f.must) (from (row + 1) (field_rows fs (back c ∷ rows)))
      (does-fit p (takes-for refl refl refl (in-member fs c rows e' b)))
      (does-inside fs c rows t ts (row + 1) u (p || f.must) e' b)

  -- past the later fields of one of many blocks, and on behind them
  does-later : (fs : List Field) (rows : List Row) (row : ℕ) {move : Move} → drop row table ≡ field_rows fs rows
      → ((to : ℕ) → drop to table ≡ rows → Does table (from to rows 1 true false) move)
      → Does table (from row (field_rows fs rows) 1 true false) (cond (later_field fs l) (no 9) move)
  unfolding field_rows scan look beneath later_field onward
  does-later [] rows row e h = h row e
  does-later (f ∷ fs) rows row {move = move} e h =
      rw (either (begins f.key l) (later_field fs l) (no 9) move)
      (does-on table (begins f.key l) 1 true false (from (row + 1) (field_rows fs rows)) (refuses {k = 9} refl (omega arith))
      (does-later fs rows (row + 1) (next_row table row _ _ e) h))

  -- first in one of many blocks
  does-first : (ms : List Member) (c : List ℕ) (rows : List Row) (t : Tree) (ts : List Tree) (row : ℕ) (u : Bool) → good_members ms ≡ true
      → drop row table ≡ member_rows c ms rows → drop here.back table ≡ rows_in t (rows_around ts)
      → Does table (from row (member_rows c ms rows) 0 u false) (tell slots l c t ts ms)
  unfolding member_rows scan look against beneath tell onward good_members fits_or9
  does-first [] c rows t ts row u g e b = does-8
  does-first (m ∷ ms) c rows t ts row u g e b =
      let e' = next_row table row _ _ e in
      let k : good_slot m.slot ≡ true = and_left _ _ g in
      rw (told.1 m.slot k)
      (does-on table (begins m.key l) 1 true false (from (row + 1) (field_rows m.inside (back c ∷ member_rows c ms rows)))
      (does-cond table (has slots m.slot) does-8 (takes-for refl refl refl (in-member m.inside c (member_rows c ms rows) e' b)))
      (rw (either (later_field m.inside l) (same c l) (no 9) (tell slots l c t ts ms))
      (does-later m.inside (back c ∷ member_rows c ms rows) (row + 1) e'
      (λ to q. does-on table (same c l) 0 true false (from (to + 1) (member_rows c ms rows))
      (refuses {k = 9} refl (omega arith))
      (does-first ms c rows t ts (to + 1) true (and_right (good_fields m.inside) _ (and_right (good_slot m.slot) _ g)) (next_row table to _ _ q) b)))))

-- ---- a step is a move

step_move : (table : List Row) (here : Place) (seen slots l : List ℕ) (spot : Spot) (ts : List Tree)
    → Told seen slots → At table here spot ts → good_spot spot ≡ true → Does table (step_of table here seen l) (move_of slots l spot ts)
unfolding step_of move_of good_spot good_tree scan
step_move table here seen slots l _ ts told (in_block {t = t} e) g = rw e (does-block table here seen slots l told t ts here.row false g e)
step_move table here seen slots l _ ts told (at_first {n = n} {a = a} {o = o} {c = c} {ms = ms} {t = t} e b) g =
    rw e (does-first table here seen slots l told ms c (rows_in t (rows_around ts)) (group n a o c ms t) ts here.row false (and_left _ _ g) e b)
step_move table here seen slots l _ _ told (in-member fs c rows {t = t} {ts = ts} e b) g =
    rw e (does-inside table here seen slots l told fs c rows t ts here.row false false e b)
step_move table here seen slots l _ _ told (at-end e) g = rw e (refuses {k = 8} refl (omega arith))

-- ---- the run is the walk

-- from any place on, these lines run as they walk
Alike : List Row → ℕ → List (List ℕ) → Type 0
Alike table n ls =
    (here : Place) (seen slots : List ℕ) (spot : Spot) (ts : List Tree)
    → Told seen slots → At table here spot ts → good_spot spot ≡ true → good_trees ts ≡ true
    → run_of table here seen n ls ≡ walk slots n spot ts ls

one_line : (table : List Row) (l : List ℕ) (ls : List (List ℕ)) (n : ℕ) (seen slots : List ℕ) (step : Step) (move : Move)
    → Alike table (suc n) ls → Told seen slots → Does table step move → GoodMove move
    → behind n l step (run_of table step.place (marked seen step) (suc n) ls)
    ≡ following n l slots move (λ slots' spot' ts'. walk slots' (suc n) spot' ts' ls)
unfolding Alike behind following GoodMove marked
one_line table l ls n seen slots step _ ih told (refuses {k = k} e h) m = rw (e, ne_eqb k 0 (λ q. not-suc-le-zero (rw q at h)))
one_line table l ls n seen slots step _ ih told (takes-for {s = s} {w = w} {spot = spot} {ts = ts} e f q at) m =
    rw (e, f, q) (on (eqb s 0) refl)
  where
    on : (b : Bool) → eqb s 0 ≡ b
        → cond b (run_of table step.place (set seen s 1) (suc n) ls)
        (with_taken (record { slot = s; line = n; value = drop w l }) (run_of table step.place (set seen s 1) (suc n) ls))
        ≡ cond b (walk slots (suc n) spot ts ls)
        (with_taken (record { slot = s; line = n; value = drop w l }) (walk (s ∷ slots) (suc n) spot ts ls))
    on true z =
        let t : Told (set seen s 1) slots = rw (eqb-true s 0 z) (seen-edge seen slots told) in
        ih step.place (set seen s 1) slots spot ts t at m.1 m.2
    on false z = ap (with_taken _) (ih step.place (set seen s 1) (s ∷ slots) spot ts (seen_more seen slots s (m.0 z) told) at m.1 m.2)

run-walk : (table : List Row) (ls : List (List ℕ)) (n : ℕ) → Alike table n ls
unfolding Alike run_of walk
run-walk table [] n here seen slots spot ts told at g h = refl
run-walk table (l ∷ ls) n here seen slots spot ts told at g h =
    one_line table l ls n seen slots (step_of table here seen l) (move_of slots l spot ts) (run-walk table ls (suc n)) told
    (step_move table here seen slots l spot ts told at g) (good-move slots l spot ts g h)

-- the lines of a message, held against the rows of a tree, are taken as by the tree
pub rows_take : (t : Tree) (n : ℕ) (ls : List (List ℕ)) → good_tree t ≡ true → layout_of (table_of t) n ls ≡ taken_by t n ls
unfolding layout_of table_of rows_around good_spot good_trees Alike taken_by
rows_take t n ls g = run-walk (rows_in t []) ls n (record { row = 0; back = 0 }) (replicate {A = ℕ} slot_count 0) [] (within t) [] seen_none (in_block refl) g refl
