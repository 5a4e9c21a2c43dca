-- What every sheet of a table has: its mandatory slots. And lines that are changed one by one, where a table is filled in.
-- Assumes nothing.
use Prim.Native.Nat.{ℕ}
use mathlib.Core.Path.{◌≡◌, refl, sym, ap, ◌∙◌}
use mathlib.Core.Bool.{Bool, true, false, ◌||◌, not, cond, true≢false}
use mathlib.Core.List.{List, [], ◌∷◌, ◌++◌, map}
use lib.Dec.{eqb}
use borrow.Author.Tests.{eqb-true, not-false}
use Rattle.text.proofs.Bools.{or_case, or-one, or-two, or_left, or_right}
use Rattle.sheets.specs.Trees.{Field, Member, Tree, last, line, block, group, barred}
use Rattle.sheets.specs.Sheets.{Entry, edge, item, line_of, lines_in, come, has, lacking, Laid, shut, given, absent, opened, passed, member, done, unstopped, Sheet}
use Rattle.sheets.specs.Filled.{some, any_field, any_member, any_in, filled_fields, filled_members, filled}
use Rattle.sheets.proofs.Checks.{first_slots, must_slots}
use Rattle.sheets.proofs.Accepts.{come-append}
use Rattle.sheets.proofs.Emits.{come-more}
use Rattle.sheets.proofs.Once.{has-append, slots_held}
use Rattle.sheets.proofs.Order.{lines-both}

-- ---- what has come is what came before and what the sheet holds

pub come-held : (es : List Entry) (slots : List ℕ) (s : ℕ) → has (come slots es) s ≡ true → (has slots s || has (slots_held es) s) ≡ true
unfolding come has slots_held
come-held [] slots s h = or-one (has slots s) _ h
come-held (edge o ∷ es) slots s h = come-held es slots s h
come-held (item i k v ∷ es) slots s h =
    or_case (eqb i s || has slots s) (has (slots_held es) s) (come-held es (i ∷ slots) s h)
    (λ e. or_case (eqb i s) (has slots s) e
    (λ q. or-two (has slots s) _ (or-one (eqb i s) _ q))
    (λ q. or-one (has slots s) _ q))
    (λ e. or-two (has slots s) _ (or-two (eqb i s) _ e))

none-lacking : (slots : List ℕ) (ms : List Member) (s : ℕ) → lacking slots ms ≡ false → has (first_slots ms) s ≡ true → has slots s ≡ true
unfolding lacking first_slots has
none-lacking slots [] s h e = absurd (true≢false (sym e))
none-lacking slots (m ∷ ms) s h e =
    or_case (eqb m.slot s) (has (first_slots ms) s) e
    (λ q. rw (← (eqb-true m.slot s q)) (not-false (has slots m.slot) (or_left (not (has slots m.slot)) _ h)))
    (λ q. none-lacking slots ms s (or_right (not (has slots m.slot)) _ h) q)

-- a slot of what must come, where that is chosen
must-one : (b : Bool) (xs ys after : List ℕ) (s : ℕ) → (b ≡ true → has xs s ≡ true → has after s ≡ true) → (has ys s ≡ true → has after s ≡ true)
    → has (cond b (xs ++ ys) ys) s ≡ true → has after s ≡ true
must-one true xs ys after s f g h = or_case (has xs s) (has ys s) (sym (has-append xs ys s) ∙ h) (f refl) g
must-one false xs ys after s f g h = g h

pub musts-come : {slots : List ℕ} {t : Tree} {es : List Entry} (s : ℕ) → Laid slots t es → has (must_slots t) s ≡ true → has (come slots es) s ≡ true
unfolding must_slots come has
musts-come s shut h = absurd (true≢false (sym h))
musts-come {slots = slots} s (given {f = f} {t = t} {es = es} v l) h =
    must-one f.must (f.slot ∷ []) (must_slots t) (come (f.slot ∷ slots) es) s
    (λ b e. or_case (eqb f.slot s) false e (λ q. come-more es (f.slot ∷ slots) s (or-one (eqb f.slot s) _ q)) (λ q. absurd (true≢false (sym q))))
    (λ e. musts-come s l e) h
musts-come s (absent {f = f} {t = t} z l) h = musts-come s l (rw z at h)
musts-come {slots = slots} s (opened {m = m} {t = t} {u = u} {es = es} {ds = ds} l r) h =
    rw (come-append slots es ds)
    (must-one m (must_slots t) (must_slots u) (come (come slots es) ds) s (λ b e. come-more ds (come slots es) s (musts-come s l e)) (λ e. musts-come s r e) h)
musts-come s (passed {m = m} z g r) h = musts-come s r (rw z at h)
musts-come {slots = slots} s (member {m = m} {es = es} {ds = ds} v i z l r) h = rw (come-append (m.slot ∷ slots) es ds) (musts-come s r h)
musts-come {slots = slots} {es = es} s (done {n = n} {ms = ms} {t = t} z l) h =
    must-one n (first_slots ms) (must_slots t) (come slots es) s (λ b e. come-more es slots s (none-lacking slots ms s (z b) e)) (λ e. musts-come s l e) h
musts-come s (unstopped z l) h = musts-come s l h

-- a mandatory slot is in every sheet
pub musts : (t : Tree) (es : List Entry) (s : ℕ) → Sheet t es → has (must_slots t) s ≡ true → has (slots_held es) s ≡ true
unfolding has
musts t es s l h = come-held es [] s (musts-come s l h)

-- ---- a table filled in, its lines changed one by one

module _ (g : List ℕ → List ℕ) (v w : ℕ → List ℕ) where
  -- a slot's line changes as its value does, and stands as before
  unfoldable pub Turned : ℕ → List ℕ → Type 0
  Turned s k = (g (k ++ v s) ≡ k ++ w s) × (some (v s) ≡ some (w s))

  unfoldable pub TurnedFields : List Field → Type 0
  TurnedFields [] = Unit
  TurnedFields (f ∷ fs) = Turned f.slot f.key × TurnedFields fs

  unfoldable pub TurnedMembers : List Member → Type 0
  TurnedMembers [] = Unit
  TurnedMembers (m ∷ ms) = Turned m.slot m.key × (TurnedFields m.inside × TurnedMembers ms)

  -- and the first and last lines of blocks stay as they are
  unfoldable pub TurnedTree : Tree → Type 0
  TurnedTree (last c) = g c ≡ c
  TurnedTree (line f t) = Turned f.slot f.key × TurnedTree t
  TurnedTree (block m o t u) = (g o ≡ o) × (TurnedTree t × TurnedTree u)
  TurnedTree (group n a o c ms t) = (g o ≡ o) × ((g c ≡ c) × (TurnedMembers ms × TurnedTree t))
  TurnedTree (barred b t) = TurnedTree t

  lines-map : (es ds : List Entry) → map g (lines_in (es ++ ds)) ≡ map g (lines_in es) ++ map g (lines_in ds)
  unfolding lines_in
  lines-map [] ds = refl
  lines-map (e ∷ es) ds = ap (λ (l : List (List ℕ)). g (line_of e) ∷ l) (lines-map es ds)

  -- two sheets of which one is the other with its lines changed
  Alike : List Entry → List Entry → Type 0
  Alike es ds = map g (lines_in es) ≡ lines_in ds

  alike_both : (es ds fs hs : List Entry) → Alike es ds → Alike fs hs → Alike (es ++ fs) (ds ++ hs)
  unfolding Alike
  alike_both es ds fs hs p q = lines-map es fs ∙ rw (p, q) (sym (lines-both ds hs))

  alike-cond : (b : Bool) (es ds fs hs : List Entry) → Alike es ds → Alike fs hs → Alike (cond b es fs) (cond b ds hs)
  alike-cond true es ds fs hs p q = p
  alike-cond false es ds fs hs p q = q

  alike-held : (s : ℕ) (k : List ℕ) (es ds : List Entry) → g (k ++ v s) ≡ k ++ w s → Alike es ds → Alike (item s k (v s) ∷ es) (item s k (w s) ∷ ds)
  unfolding Alike lines_in line_of
  alike-held s k es ds e p = rw (e, p)

  alike-edge : (o : List ℕ) (es ds : List Entry) → g o ≡ o → Alike es ds → Alike (edge o ∷ es) (edge o ∷ ds)
  unfolding Alike lines_in line_of
  alike-edge o es ds e p = rw (e, p)

  alike-none : Alike [] []
  unfolding Alike lines_in
  alike-none = refl

  turned-fields : (fs : List Field) (c : List ℕ) → g c ≡ c → TurnedFields fs → Alike (filled_fields v fs c) (filled_fields w fs c)
  unfolding filled_fields TurnedFields Turned
  turned-fields [] c e h = alike-edge c [] [] e alike-none
  turned-fields (f ∷ fs) c e h =
      let r = turned-fields fs c e h.1 in
      let x = filled_fields v fs c in
      let y = filled_fields w fs c in
      rw h.0.1
      (alike-cond (f.must || some (w f.slot)) (item f.slot f.key (v f.slot) ∷ x) (item f.slot f.key (w f.slot) ∷ y) x y
      (alike-held f.slot f.key x y h.0.0 r) r)

  turned-members : (o c : List ℕ) (ms : List Member) → g o ≡ o → g c ≡ c → TurnedMembers ms → Alike (filled_members v o c ms) (filled_members w o c ms)
  unfolding filled_members TurnedMembers Turned
  turned-members o c [] e d h = alike-none
  turned-members o c (m ∷ ms) e d h =
      let r = turned-members o c ms e d h.1.1 in
      let x = filled_members v o c ms in
      let y = filled_members w o c ms in
      let p = filled_fields v m.inside c ++ x in
      let q = filled_fields w m.inside c ++ y in
      rw h.0.1
      (alike-cond (some (w m.slot)) (edge o ∷ item m.slot m.key (v m.slot) ∷ p) (edge o ∷ item m.slot m.key (w m.slot) ∷ q) x y
      (alike-edge o _ _ e (alike-held m.slot m.key p q h.0.0 (alike_both _ _ x y (turned-fields m.inside c d h.1.0) r)))
      r)

  any-fields : (fs : List Field) → TurnedFields fs → any_field v fs ≡ any_field w fs
  unfolding any_field TurnedFields Turned
  any-fields [] h = refl
  any-fields (f ∷ fs) h = rw (h.0.1, any-fields fs h.1)

  any-members : (ms : List Member) → TurnedMembers ms → any_member v ms ≡ any_member w ms
  unfolding any_member TurnedMembers Turned
  any-members [] h = refl
  any-members (m ∷ ms) h = rw (h.0.1, any-fields m.inside h.1.0, any-members ms h.1.1)

  any-tree : (t : Tree) → TurnedTree t → any_in v t ≡ any_in w t
  unfolding any_in TurnedTree Turned
  any-tree (last c) h = refl
  any-tree (line f t) h = rw (h.0.1, any-tree t h.1)
  any-tree (block m o t u) h = rw (any-tree t h.1.0, any-tree u h.1.1)
  any-tree (group n a o c ms t) h = rw (any-members ms h.1.1.0, any-tree t h.1.1.1)
  any-tree (barred b t) h = any-tree t h

  pub turned : (t : Tree) → TurnedTree t → map g (lines_in (filled v t)) ≡ lines_in (filled w t)
  unfolding filled TurnedTree Turned Alike
  turned (last c) h = alike-edge c [] [] h alike-none
  turned (line f t) h =
      let r = turned t h.1 in
      let x = filled v t in
      let y = filled w t in
      rw h.0.1
      (alike-cond (f.must || some (w f.slot)) (item f.slot f.key (v f.slot) ∷ x) (item f.slot f.key (w f.slot) ∷ y) x y
      (alike-held f.slot f.key x y h.0.0 r) r)
  turned (block m o t u) h =
      let r = turned u h.1.1 in
      let x = filled v u in
      let y = filled w u in
      rw (any-tree t h.1.0)
      (alike-cond (m || any_in w t) (edge o ∷ (filled v t ++ x)) (edge o ∷ (filled w t ++ y)) x y
      (alike-edge o _ _ h.0 (alike_both _ _ x y (turned t h.1.0) r)) r)
  turned (group n a o c ms t) h =
      alike_both (filled_members v o c ms) (filled_members w o c ms) (filled v t) (filled w t) (turned-members o c ms h.0 h.1.0 h.1.1.0) (turned t h.1.1.1)
  turned (barred b t) h = turned t h
