-- Lines that are taken to the end are the lines of a sheet.
-- Assumes nothing.
use Prim.Native.Nat.{ℕ, suc}
use mathlib.Core.Path.{◌≡◌, refl, sym, ap, ◌∙◌}
use mathlib.Core.Bool.{Bool, true, false, ◌&&◌, ◌||◌, not, cond, true≢false}
use mathlib.Core.List.{List, [], ◌∷◌, ◌++◌, append_assoc, append-nil}
use lib.Dec.{eqb, leb}
use lib.ListN.{length, drop}
use lib.Seq.{drop-append_seam}
use borrow.Author.Tests.{not-true}
use Rattle.text.specs.Bytes.{begins, same}
use Rattle.text.proofs.Bools.{of-both}
use Rattle.text.proofs.Laws.{and_left, and_right, and_both, same-eq, begins-is}
use Rattle.bars.specs.Bars.{stops, bar_number}
use Rattle.layout.specs.Layout.{Taken, Run, refused_at, taken, with_taken}
use Rattle.sheets.specs.Trees.{Field, Member, Tree, last, line, block, group, barred, chain, lead_key}
use Rattle.sheets.specs.Sheets.{Entry, edge, item, line_of, lines_in, foremost, come, has, lacking, Among, front, later, Laid, shut, given, absent, opened, passed, member, done, unstopped, Sheet}
use Rattle.sheets.specs.Taking.{Spot, within, first, over, Move, no, go, fit, next, seek, later_field, tell, move_of, following, walk, taken_by}
use Rattle.sheets.proofs.Checks.{good_slot, good_fields, good_members, good_tree, free_fields, free_members, free}
use Rattle.sheets.proofs.Moves.{good_spot, good_trees, GoodMove, good-move}
use Rattle.sheets.proofs.Accepts.{taken_on, come-append, not-zero, Some, some-line}

-- ---- sheets of what is left

-- of a block and of those around it
LaidAll : List ℕ → List Tree → List Entry → Type 0
LaidAll slots [] es = es ≡ []
LaidAll slots (t ∷ ts) es = (ds : List Entry) × (rest : List Entry) × (es ≡ ds ++ rest) × Laid slots t ds × LaidAll (come slots ds) ts rest

-- behind a spot; the first line of one of many blocks has gone before
LaidFrom : List ℕ → Spot → List Tree → List Entry → Type 0
LaidFrom slots (within t) ts es = LaidAll slots (t ∷ ts) es
LaidFrom slots (first n a o c ms t) ts es = LaidAll slots (group n a o c ms t ∷ ts) (edge o ∷ es)
LaidFrom slots over ts es = es ≡ []

-- ---- one line

slots_after : ℕ → List ℕ → List ℕ
slots_after s slots = cond (eqb s 0) slots (s ∷ slots)

-- an entry of a slot, whose text is so long
Stands : ℕ → ℕ → Entry → Type 0
Stands s w (edge o) = s ≡ 0
Stands s w (item i k v) = (s ≡ i) × (w ≡ length k) × (eqb i 0 ≡ false)

module _ (slots l : List ℕ) where
  -- the line is an entry in front of any sheet of what is left behind it
  Found : (List Entry → Type 0) → Move → Type 0
  Found P (no k) = Unit
  Found P (go s w spot ts) =
      (es : List Entry) → LaidFrom (slots_after s slots) spot ts es → (e : Entry) × (line_of e ≡ l) × Stands s w e × P (e ∷ es)

  -- what holds of every sheet whose first line is this one
  Onto : (List Entry → Type 0) → (List Entry → Type 0) → Type 0
  Onto P Q = (e : Entry) (es : List Entry) → line_of e ≡ l → P (e ∷ es) → Q (e ∷ es)

  found_map : (P Q : List Entry → Type 0) (move : Move) → Onto P Q → Found P move → Found Q move
  unfolding Found Onto
  found_map P Q (no k) f h = tt
  found_map P Q (go s w spot ts) f h = λ es m. let r = h es m in (r.0, r.1, r.2, f r.0 es r.1 r.3)

  -- where a mandatory row was passed over nothing is taken
  Never : Move → Type 0
  Never (no k) = Unit
  Never (go s w spot ts) = ⊥

  never-found : (P : List Entry → Type 0) (move : Move) → Never move → Found P move
  unfolding Never Found
  never-found P (no k) h = tt
  never-found P (go s w spot ts) h = absurd h

  never-seek : (t : Tree) (ts : List Tree) → Never (seek slots l true ts t)
  unfolding Never seek fit
  never-seek (last c) ts = of-both Never (same c l) (λ e. tt) (λ e. tt)
  never-seek (line f t) ts = of-both Never (begins f.key l) (λ e. tt) (λ e. never-seek t ts)
  never-seek (block m o t u) ts = of-both Never (same o l) (λ e. tt) (λ e. never-seek u ts)
  never-seek (group n a o c ms t) ts = of-both Never (same o l && (a || lacking slots ms)) (λ e. tt) (λ e. never-seek t ts)
  never-seek (barred b t) ts = of-both Never (stops b (lead_key t) l) (λ e. tt) (λ e. never-seek t ts)

  -- a row that is passed over
  found-past : (P Q : List Entry → Type 0) (t : Tree) (ts : List Tree) (b : Bool)
      → (b ≡ false → Onto P Q) → Found P (seek slots l false ts t) → Found Q (seek slots l b ts t)
  found-past P Q t ts true f h = never-found Q (seek slots l true ts t) (never-seek t ts)
  found-past P Q t ts false f h = found_map P Q (seek slots l false ts t) (f refl) h

  found-next : (c : List ℕ) (ts : List Tree) → same c l ≡ true → Found (LaidAll slots (last c ∷ ts)) (next ts)
  unfolding Found LaidAll LaidFrom next slots_after Stands come line_of
  found-next c [] e = λ es h. (edge c, same-eq c l e, refl, ((edge c ∷ []), es, refl, shut, h))
  found-next c (t ∷ ts) e = λ es h. (edge c, same-eq c l e, refl, ((edge c ∷ []), es, refl, shut, h))

  -- a field's line: its text, and its value
  valued : ℕ → List ℕ → Entry
  valued s k = item s k (drop (length k) l)

  found-line : (f : Field) (t : Tree) (ts : List Tree) → begins f.key l ≡ true → good_slot f.slot ≡ true
      → Found (LaidAll slots (line f t ∷ ts)) (go f.slot (length f.key) (within t) ts)
  unfolding Found LaidAll LaidFrom slots_after Stands come line_of valued
  found-line f t ts e g =
      let z = not-zero f.slot g in
      λ es h.
      let (ds, rest, q, i, r) = rw z at h in
      let v = drop (length f.key) l in (
        valued f.slot f.key,
        sym (begins-is f.key l e),
        (refl, refl, z),
        (item f.slot f.key v ∷ ds, rest, ap (λ (k : List Entry). item f.slot f.key v ∷ k) q, given v i, r),
      )

  -- the first line of a block
  found-open : (m : Bool) (o : List ℕ) (t u : Tree) (ts : List Tree) → same o l ≡ true
      → Found (LaidAll slots (block m o t u ∷ ts)) (go 0 0 (within t) (u ∷ ts))
  unfolding Found LaidAll LaidFrom slots_after Stands come line_of
  found-open m o t u ts e = λ es h.
      let (ds, rest, q, i, (ds', rest', q', i', r)) = h in (
        edge o,
        same-eq o l e,
        refl,
        (edge o ∷ (ds ++ ds'), rest', ap (λ (k : List Entry). edge o ∷ k) (q ∙ (rw q' (sym (append_assoc ds ds' rest')))), opened i i', rw (come-append slots ds ds') r),
      )

  -- the first line of one of many blocks
  found_first : (n a : Bool) (o c : List ℕ) (ms : List Member) (t : Tree) (ts : List Tree) → same o l ≡ true
      → Found (LaidAll slots (group n a o c ms t ∷ ts)) (go 0 0 (first n a o c ms t) ts)
  unfolding Found LaidFrom slots_after Stands line_of
  found_first n a o c ms t ts e = λ es h. (edge o, same-eq o l e, refl, h)

  -- the first line of the first of two sheets, which is not empty
  first-line : (t : Tree) (e : Entry) (es ds rest : List Entry) → Laid slots t ds → e ∷ es ≡ ds ++ rest → foremost ds ≡ line_of e
  unfolding foremost Some
  first-line t e es [] rest i q = absurd (some-line i)
  first-line t e es (x ∷ ds) rest i q = sym (ap foremost q)

  -- what is laid behind a row that is passed over
  laid-past : (t u : Tree) (ts : List Tree) → ((ds : List Entry) → foremost ds ≡ l → Laid slots t ds → Laid slots u ds)
      → Onto (LaidAll slots (t ∷ ts)) (LaidAll slots (u ∷ ts))
  unfolding LaidAll Onto
  laid-past t u ts f e es q h = (h.0, h.1, h.2, f h.0 (first-line t e es h.0 h.1 h.3 h.2 ∙ q) h.3, h.4)

  -- in a block
  found-block : (t : Tree) (ts : List Tree) → good_tree t ≡ true → Found (LaidAll slots (t ∷ ts)) (seek slots l false ts t)
  unfolding seek fit good_tree Found
  found-block (last c) ts g = of-both (Found (LaidAll slots (last c ∷ ts))) (same c l) (found-next c ts) (λ e. tt)
  found-block (line f t) ts g =
      of-both (Found (LaidAll slots (line f t ∷ ts))) (begins f.key l) (λ e. found-line f t ts e (and_left _ _ g))
      (λ e. found-past (LaidAll slots (t ∷ ts)) (LaidAll slots (line f t ∷ ts)) t ts f.must
      (λ m. laid-past t (line f t) ts (λ ds q i. absent m i))
      (found-block t ts (and_right (good_slot f.slot) _ g)))
  found-block (block m o t u) ts g =
      of-both (Found (LaidAll slots (block m o t u ∷ ts))) (same o l) (found-open m o t u ts)
      (λ e. found-past (LaidAll slots (u ∷ ts)) (LaidAll slots (block m o t u ∷ ts)) u ts m
      (λ z. laid-past u (block m o t u) ts (λ ds q i. passed z (rw q e) i))
      (found-block u ts (and_right (good_tree t) _ g)))
  found-block (group n a o c ms t) ts g =
      of-both (Found (LaidAll slots (group n a o c ms t ∷ ts))) (same o l && (a || lacking slots ms)) (λ e. found_first n a o c ms t ts (and_left _ _ e))
      (λ e. found-past (LaidAll slots (t ∷ ts)) (LaidAll slots (group n a o c ms t ∷ ts)) t ts (n && lacking slots ms)
      (λ z. laid-past t (group n a o c ms t) ts (λ ds q i. done (λ y. rw y at z) i))
      (found-block t ts (and_right (good_members ms) _ g)))
  found-block (barred b t) ts g =
      of-both (Found (LaidAll slots (barred b t ∷ ts))) (stops b (lead_key t) l) (λ e. tt)
      (λ e. found_map (LaidAll slots (t ∷ ts)) (LaidAll slots (barred b t ∷ ts)) (seek slots l false ts t)
      (laid-past t (barred b t) ts (λ ds q i. unstopped (rw q e) i))
      (found-block t ts (and_right (leb 1 (bar_number b)) _ g)))

  -- the first field of one of many blocks
  found-member : (n a : Bool) (o c : List ℕ) (ms : List Member) (t : Tree) (ts : List Tree) (m : Member)
      → Among m ms → begins m.key l ≡ true → has slots m.slot ≡ false → good_slot m.slot ≡ true
      → Found (LaidFrom slots (first n a o c ms t) ts) (go m.slot (length m.key) (within (chain m.inside c)) (group n a o c ms t ∷ ts))
  unfolding Found LaidFrom LaidAll slots_after Stands come line_of valued
  found-member n a o c ms t ts m i e h g =
      let z = not-zero m.slot g in
      λ es k.
      let (ds, rest, q, j, (ds', rest', q', j', r)) = rw z at k in
      let v = drop (length m.key) l in
      let x = item m.slot m.key v in (
        valued m.slot m.key,
        sym (begins-is m.key l e),
        (refl, refl, z),
        (
          edge o ∷ x ∷ (ds ++ ds'),
          rest',
          ap (λ (y : List Entry). edge o ∷ x ∷ y) (q ∙ (rw q' (sym (append_assoc ds ds' rest')))),
          member v i h j j',
          rw (come-append (m.slot ∷ slots) ds ds') r,
        ),
      )

  found-tell : (n a : Bool) (o c : List ℕ) (all ms : List Member) (t : Tree) (ts : List Tree)
      → ((m : Member) → Among m ms → Among m all) → good_members ms ≡ true
      → Found (LaidFrom slots (first n a o c all t) ts) (tell slots l c (group n a o c all t) ts ms)
  unfolding tell good_members Found
  found-tell n a o c all [] t ts f g = tt
  found-tell n a o c all (m ∷ ms) t ts f g =
      of-both P (begins m.key l)
      (λ e. of-both P (has slots m.slot) (λ h. tt) (λ h. found-member n a o c all t ts m (f m front) e h (and_left _ _ g)))
      (λ e. of-both P (later_field m.inside l || same c l) (λ h. tt)
      (λ h. found-tell n a o c all ms t ts (λ x i. f x (later i)) (and_right (good_fields m.inside) _ (and_right (good_slot m.slot) _ g))))
    where
      P : Move → Type 0
      P = Found (LaidFrom slots (first n a o c all t) ts)

  found : (spot : Spot) (ts : List Tree) → good_spot spot ≡ true → Found (LaidFrom slots spot ts) (move_of slots l spot ts)
  unfolding move_of good_spot good_tree LaidFrom Found
  found (within t) ts g = found-block t ts g
  found (first n a o c ms t) ts g = found-tell n a o c ms ms t ts (λ m i. i) (and_left _ _ g)
  found over ts g = tt

-- ---- the last line of all ends what is left

module _ (z : List ℕ) where
  bottom : List Tree → Bool
  bottom [] = true
  bottom (t ∷ ts) = false

  safe_trees : List Tree → Bool
  safe_trees [] = true
  safe_trees (t ∷ ts) = free z (bottom ts) t && safe_trees ts

  safe : Spot → List Tree → Bool
  safe (within t) ts = safe_trees (t ∷ ts)
  safe (first n a o c ms t) ts = safe_trees (group n a o c ms t ∷ ts)
  safe over ts = true

  Safe : Move → Type 0
  Safe (no k) = Unit
  Safe (go s w spot ts) = safe spot ts ≡ true

  safe-next : (ts : List Tree) → safe_trees ts ≡ true → Safe (next ts)
  unfolding Safe safe next
  safe-next [] h = refl
  safe-next (t ∷ ts) h = h

  safe-fit : (p : Bool) (x : Move) → Safe x → Safe (fit p x)
  unfolding fit Safe
  safe-fit true x h = tt
  safe-fit false x h = h

  -- the fields of one of many blocks
  free-chain : (fs : List Field) (c : List ℕ) → free_fields z fs c ≡ true → free z false (chain fs c) ≡ true
  unfolding free_fields free chain
  free-chain [] c h = h
  free-chain (f ∷ fs) c h =
      let k = not (begins f.key z) in
      and_both {a = k} (and_left k (free_fields z fs c) h) (free-chain fs c (and_right k _ h))

  module _ (slots l : List ℕ) where
    safe-seek : (t : Tree) (ts : List Tree) (p : Bool) → free z (bottom ts) t ≡ true → safe_trees ts ≡ true → Safe (seek slots l p ts t)
    unfolding seek free Safe safe safe_trees bottom
    safe-seek (last c) ts p h k = of-both Safe (same c l) (λ e. safe-fit p _ (safe-next ts k)) (λ e. tt)
    safe-seek (line f t) ts p h k =
        let r = and_right (not (begins f.key z)) _ h in
        of-both Safe (begins f.key l) (λ e. safe-fit p (go _ _ (within t) ts) (and_both r k)) (λ e. safe-seek t ts (p || f.must) r k)
    safe-seek (block m o t u) ts p h k =
        let r = and_right (not (same o z)) _ h in
        let w = and_right (free z false t) _ r in
        of-both Safe (same o l) (λ e. safe-fit p (go _ _ (within t) (u ∷ ts)) (and_both {a = free z false t} (and_left _ _ r) (and_both {a = free z (bottom ts) u} w k)))
        (λ e. safe-seek u ts (p || m) w k)
    safe-seek (group n a o c ms t) ts p h k =
        let r = and_right (free_members z c ms) _ (and_right (not (same o z)) _ h) in
        of-both Safe (same o l && (a || lacking slots ms)) (λ e. safe-fit p (go _ _ (first n a o c ms t) ts) (and_both {a = free z (bottom ts) (group n a o c ms t)} h k))
        (λ e. safe-seek t ts (p || (n && lacking slots ms)) r k)
    safe-seek (barred b t) ts p h k = of-both Safe (stops b (lead_key t) l) (λ e. tt) (λ e. safe-seek t ts p h k)

    safe-tell : (ms : List Member) (c : List ℕ) (t : Tree) (ts : List Tree) → free_members z c ms ≡ true → safe_trees (t ∷ ts) ≡ true → Safe (tell slots l c t ts ms)
    unfolding tell free_members Safe safe safe_trees bottom
    safe-tell [] c t ts h k = tt
    safe-tell (m ∷ ms) c t ts h k =
        let r = and_right (not (begins m.key z)) _ h in
        let i = free_fields z m.inside c in
        of-both Safe (begins m.key l)
        (λ e. of-both Safe (has slots m.slot) (λ x. tt) (λ x. and_both {a = free z false (chain m.inside c)} (free-chain m.inside c (and_left i _ r)) k))
        (λ e. of-both Safe (later_field m.inside l || same c l) (λ x. tt) (λ x. safe-tell ms c t ts (and_right i _ r) k))

    safe-move : (spot : Spot) (ts : List Tree) → safe spot ts ≡ true → Safe (move_of slots l spot ts)
    unfolding move_of safe Safe safe_trees free
    safe-move (within t) ts h = safe-seek t ts false (and_left _ _ h) (and_right (free z (bottom ts) t) _ h)
    safe-move (first n a o c ms t) ts h =
        let r = and_right (not (same o z)) _ (and_left (free z (bottom ts) (group n a o c ms t)) _ h) in
        safe-tell ms c (group n a o c ms t) ts (and_left (free_members z c ms) _ r) h
    safe-move over ts h = tt

  -- behind it there is nothing
  Ends : Move → Type 0
  Ends (no k) = Unit
  Ends (go s w spot ts) = spot ≡ over

  module _ (slots : List ℕ) where
    ends_last : (c : List ℕ) (ts : List Tree) (p : Bool) → free z (bottom ts) (last c) ≡ true → same c z ≡ true → Ends (fit p (next ts))
    unfolding Ends fit next bottom free
    ends_last c ts true h e = tt
    ends_last c [] false h e = refl
    ends_last c (t ∷ ts) false h e = absurd (true≢false (sym e ∙ not-true (same c z) h))

    ends-seek : (t : Tree) (ts : List Tree) (p : Bool) → free z (bottom ts) t ≡ true → Ends (seek slots z p ts t)
    unfolding seek free Ends
    ends-seek (last c) ts p h = of-both Ends (same c z) (ends_last c ts p h) (λ e. tt)
    ends-seek (line f t) ts p h =
        let k = not (begins f.key z) in
        rw (not-true (begins f.key z) (and_left k _ h)) (ends-seek t ts (p || f.must) (and_right k _ h))
    ends-seek (block m o t u) ts p h =
        let k = not (same o z) in
        rw (not-true (same o z) (and_left k _ h)) (ends-seek u ts (p || m) (and_right (free z false t) _ (and_right k _ h)))
    ends-seek (group n a o c ms t) ts p h =
        let k = not (same o z) in
        rw (not-true (same o z) (and_left k _ h))
        (ends-seek t ts (p || (n && lacking slots ms)) (and_right (free_members z c ms) _ (and_right k _ h)))
    ends-seek (barred b t) ts p h = of-both Ends (stops b (lead_key t) z) (λ e. tt) (λ e. ends-seek t ts p h)

    ends-tell : (ms : List Member) (c : List ℕ) (t : Tree) (ts : List Tree) → free_members z c ms ≡ true → Ends (tell slots z c t ts ms)
    unfolding tell free_members Ends
    ends-tell [] c t ts h = tt
    ends-tell (m ∷ ms) c t ts h =
        let k = not (begins m.key z) in
        rw (not-true (begins m.key z) (and_left k _ h))
        (of-both Ends (later_field m.inside z || same c z) (λ e. tt)
        (λ e. ends-tell ms c t ts (and_right (free_fields z m.inside c) _ (and_right k _ h))))

    ends-move : (spot : Spot) (ts : List Tree) → safe spot ts ≡ true → Ends (move_of slots z spot ts)
    unfolding move_of safe Ends safe_trees free
    ends-move (within t) ts h = ends-seek t ts false (and_left _ _ h)
    ends-move (first n a o c ms t) ts h =
        let r = and_right (not (same o z)) _ (and_left (free z (bottom ts) (group n a o c ms t)) _ h) in
        ends-tell ms c (group n a o c ms t) ts (and_left (free_members z c ms) _ r)
    ends-move over ts h = tt

-- ---- lines that are taken, one after the other

takens_of : Run → List Taken
takens_of (refused_at k n) = []
takens_of (taken ts) = ts

is_taken : Run → Bool
is_taken (refused_at k n) = false
is_taken (taken ts) = true

refused-not : (k n : ℕ) (ts : List Taken) → refused_at k n ≡ taken ts → ⊥
unfolding is_taken
refused-not k n ts e = true≢false (sym (ap is_taken e))

-- what is taken behind a line that is taken
with-taken : (t : Taken) (run : Run) (ts : List Taken) → with_taken t run ≡ taken ts → (us : List Taken) × (run ≡ taken us) × (ts ≡ t ∷ us)
unfolding with_taken takens_of
with-taken t (refused_at k n) ts e = absurd (refused-not k n ts e)
with-taken t (taken us) ts e = (us, refl, sym (ap takens_of e))

-- lines that are those of a sheet
Cut : List ℕ → ℕ → Spot → List Tree → List (List ℕ) → List Taken → Type 0
Cut slots n spot ts ls tk = (es : List Entry) × (ls ≡ lines_in es) × (tk ≡ taken_on n es) × LaidFrom slots spot ts es

module _ (slots l : List ℕ) (n : ℕ) (spot : Spot) (ts : List Tree) (ls : List (List ℕ)) (tk : List Taken) where
  -- a line that is the first or last of a block, and one that is a field's
  cut_edge : (s w : ℕ) (es : List Entry) (e : Entry) → eqb s 0 ≡ true → line_of e ≡ l → Stands s w e → LaidFrom slots spot ts (e ∷ es)
      → ls ≡ lines_in es → tk ≡ taken_on (suc n) es → Cut slots n spot ts (l ∷ ls) tk
  unfolding Cut Stands lines_in taken_on line_of
  cut_edge s w es (edge o) z e i h q r = (edge o ∷ es, (rw (e, q)), r, h)
  cut_edge s w es (item j k v) z e i h q r = absurd (true≢false (sym z ∙ (rw i.0 i.2)))

  cut-held : (s w : ℕ) (us : List Taken) (es : List Entry) (e : Entry) → eqb s 0 ≡ false → line_of e ≡ l → Stands s w e → LaidFrom slots spot ts (e ∷ es)
      → ls ≡ lines_in es → us ≡ taken_on (suc n) es → tk ≡ record { slot = s; line = n; value = drop w l } ∷ us → Cut slots n spot ts (l ∷ ls) tk
  unfolding Cut Stands lines_in taken_on line_of
  cut-held s w us es (edge o) z e i h q r t = absurd (true≢false (rw i at z))
  cut-held s w us es (item j k v) z e i h q r t =
      (item j k v ∷ es, (rw (e, q)), t ∙ (rw (r, i.0, i.1, ← e, drop-append_seam k v)), h)

  cut_line : (move : Move) → Found slots l (LaidFrom slots spot ts) move
      → ((s w : ℕ) (spot' : Spot) (ts' : List Tree) (us : List Taken) → move ≡ go s w spot' ts'
      → walk (slots_after s slots) (suc n) spot' ts' ls ≡ taken us → Cut (slots_after s slots) (suc n) spot' ts' ls us)
      → following n l slots move (λ slots' spot' ts'. walk slots' (suc n) spot' ts' ls) ≡ taken tk → Cut slots n spot ts (l ∷ ls) tk
  unfolding following Found slots_after Cut
  cut_line (no k) f ih e = absurd (refused-not k n tk e)
  cut_line (go s w spot' ts') f ih e = on (eqb s 0) refl e
    where
      on : (b : Bool) → eqb s 0 ≡ b
          → cond b (walk slots (suc n) spot' ts' ls) (with_taken (record { slot = s; line = n; value = drop w l }) (walk (s ∷ slots) (suc n) spot' ts' ls)) ≡ taken tk
          → Cut slots n spot ts (l ∷ ls) tk
      on true z q =
          let (es, a, b, h) = ih s w spot' ts' tk refl (rw z q) in
          let (x, c, d, k) = f es h in
          cut_edge s w es x z c d k a b
      on false z q =
          let (us, a, b) = with-taken _ _ tk q in
          let (es, c, d, h) = ih s w spot' ts' us refl (rw z a) in
          let (x, i, j, k) = f es h in
          cut-held s w us es x z i j k c d b

-- behind the last line of all
cut-end : (slots : List ℕ) (n : ℕ) (spot : Spot) (ts : List Tree) (us : List Taken) → spot ≡ over → taken [] ≡ taken us → Cut slots n spot ts [] us
unfolding Cut LaidFrom lines_in taken_on takens_of
cut-end slots n spot ts us q r = rw q ([], refl, sym (ap takens_of r), refl)

module _ (z : List ℕ) where
  cuts-walk : (init : List (List ℕ)) (slots : List ℕ) (n : ℕ) (spot : Spot) (ts : List Tree) (tk : List Taken)
      → good_spot spot ≡ true → good_trees ts ≡ true → safe z spot ts ≡ true
      → walk slots n spot ts (init ++ z ∷ []) ≡ taken tk → Cut slots n spot ts (init ++ z ∷ []) tk
  unfolding walk GoodMove Safe Ends
  cuts-walk [] slots n spot ts tk g h k e =
      cut_line slots z n spot ts [] tk (move_of slots z spot ts) (found slots z spot ts g)
      (λ s w spot' ts' us q r. cut-end (slots_after s slots) (suc n) spot' ts' us (rw q at (ends-move z slots spot ts k)) r) e
  cuts-walk (l ∷ init) slots n spot ts tk g h k e =
      cut_line slots l n spot ts (init ++ z ∷ []) tk (move_of slots l spot ts) (found slots l spot ts g)
      (λ s w spot' ts' us q r. let m = rw q at (good-move slots l spot ts g h) in
      cuts-walk init (slots_after s slots) (suc n) spot' ts' us m.1 m.2 (rw q at (safe-move z slots l spot ts k)) r) e

-- ---- and a message with them

-- lines up to the last line of all that are taken are those of a sheet
pub cuts : (t : Tree) (z : List ℕ) (ls : List (List ℕ)) (n : ℕ) (tk : List Taken)
    → good_tree t ≡ true → free z true t ≡ true → taken_by t n (ls ++ z ∷ []) ≡ taken tk
    → (es : List Entry) × (ls ++ z ∷ [] ≡ lines_in es) × (tk ≡ taken_on n es) × Sheet t es
unfolding Cut LaidFrom LaidAll good_spot good_trees safe safe_trees bottom taken_by
cuts t z ls n tk g f e =
    let (es, q, r, (ds, rest, a, i, b)) = cuts-walk z ls [] n (within t) [] tk g refl (and_both f refl) e in
    (es, q, r, rw (a, b, append-nil ds) i)
