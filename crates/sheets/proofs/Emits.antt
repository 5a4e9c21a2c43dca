-- A table filled in is a sheet of the table, and it has the values that it was filled with.
-- Assumes nothing.
use Prim.Native.Nat.{ℕ}
use mathlib.Core.Path.{◌≡◌, refl, sym, ap, subst, ◌∙◌}
use mathlib.Core.Bool.{Bool, true, false, ◌&&◌, ◌||◌, not, cond, true≢false}
use mathlib.Core.List.{List, [], ◌∷◌, ◌++◌, append_assoc}
use lib.Dec.{eqb}
use lib.ListN.{length, drop}
use borrow.Author.Tests.{eqb-true, eq-eqb, not-true}
use lib.Seq.{drop-append_seam}
use Rattle.text.specs.Bytes.{begins, same}
use Rattle.text.proofs.Bools.{or-two, or_left, or_right, of-both}
use Rattle.text.proofs.Laws.{and_left, and_right, begins-append}
use Rattle.bars.specs.Bars.{Bar, surplus, only, goes_on, strays, stops}
use Rattle.layout.specs.Layout.{taken}
use Rattle.sheets.specs.Trees.{Field, Member, Tree, last, line, block, group, barred, chain, lead_key}
use Rattle.sheets.specs.Sheets.{Entry, edge, item, line_of, lines_in, foremost, come, has, lacking, Among, front, later, Laid, shut, given, absent, opened, passed, member, done, unstopped, Sheet}
use Rattle.sheets.specs.Taking.{taken_by}
use Rattle.sheets.specs.Filled.{some, value_in, any_field, any_member, any_in, filled_fields, filled_members, filled}
use Rattle.sheets.proofs.Checks.{good_tree, Fit, starts, whole, fits_line, clash, avoids, apart_members, unlike, leads, apart_bar, apart, with_fields, with_members, with_tree, once_members, once, all_members, whole_members, begun, complete, worded_bar, worded}
use Rattle.sheets.proofs.Accepts.{clear-key, clear-line, taken_on, come-append, reads}

-- ---- the slots that come, beside all that might: a relation of the two that holds at the start holds at the end

module _ (value : ℕ → List ℕ) (R : List ℕ → List ℕ → Type 0)
    (both : (x : ℕ) (slots all : List ℕ) → R slots all → R (x ∷ slots) (x ∷ all))
    (skip : (x : ℕ) (slots all : List ℕ) → some (value x) ≡ false → R slots all → R slots (x ∷ all)) where
  -- rows whose slots have no value
  past-fields : (fs : List Field) (slots all : List ℕ) → any_field value fs ≡ false → R slots all → R slots (with_fields all fs)
  unfolding any_field with_fields
  past-fields [] slots all h r = r
  past-fields (f ∷ fs) slots all h r = past-fields fs slots (f.slot ∷ all) (or_right (some (value f.slot)) _ h) (skip f.slot slots all (or_left _ _ h) r)

  past-members : (ms : List Member) (slots all : List ℕ) → any_member value ms ≡ false → R slots all → R slots (with_members all ms)
  unfolding any_member with_members
  past-members [] slots all h r = r
  past-members (m ∷ ms) slots all h r =
      let k = or_right (some (value m.slot)) _ h in
      past-members ms slots (with_fields (m.slot ∷ all) m.inside) (or_right (any_field value m.inside) _ k)
      (past-fields m.inside slots (m.slot ∷ all) (or_left _ _ k) (skip m.slot slots all (or_left _ _ h) r))

  past-tree : (t : Tree) (slots all : List ℕ) → any_in value t ≡ false → R slots all → R slots (with_tree all t)
  unfolding any_in with_tree
  past-tree (last c) slots all h r = r
  past-tree (line f t) slots all h r = past-tree t slots (f.slot ∷ all) (or_right (some (value f.slot)) _ h) (skip f.slot slots all (or_left _ _ h) r)
  past-tree (block m o t u) slots all h r =
      past-tree u slots (with_tree all t) (or_right (any_in value t) _ h) (past-tree t slots all (or_left _ _ h) r)
  past-tree (group n a o c ms t) slots all h r =
      past-tree t slots (with_members all ms) (or_right (any_member value ms) _ h) (past-members ms slots all (or_left _ _ h) r)
  past-tree (barred b t) slots all h r = past-tree t slots all h r

  -- rows that are filled
  through-fields : (fs : List Field) (c slots all : List ℕ) → R slots all → R (come slots (filled_fields value fs c)) (with_fields all fs)
  unfolding filled_fields with_fields come
  through-fields [] c slots all r = r
  through-fields (f ∷ fs) c slots all r =
      of-both (λ es. R (come slots es) (with_fields (f.slot ∷ all) fs)) (f.must || some (value f.slot))
      (λ e. through-fields fs c (f.slot ∷ slots) (f.slot ∷ all) (both f.slot slots all r))
      (λ e. through-fields fs c slots (f.slot ∷ all) (skip f.slot slots all (or_right f.must _ e) r))

  through-members : (o c : List ℕ) (ms : List Member) (slots all : List ℕ) → whole_members value ms ≡ true → R slots all
      → R (come slots (filled_members value o c ms)) (with_members all ms)
  unfolding filled_members with_members whole_members come
  through-members o c [] slots all h r = r
  through-members o c (m ∷ ms) slots all h r =
      let k = and_right (some (value m.slot) || not (any_field value m.inside)) _ h in
      of-both (λ es. R (come slots es) (with_members (with_fields (m.slot ∷ all) m.inside) ms)) (some (value m.slot))
      (λ e. rw (come-append (m.slot ∷ slots) (filled_fields value m.inside c) (filled_members value o c ms))
      (through-members o c ms _ _ k (through-fields m.inside c (m.slot ∷ slots) (m.slot ∷ all) (both m.slot slots all r))))
      (λ e. through-members o c ms slots _ k
      (past-fields m.inside slots (m.slot ∷ all) (not-true _ (rw e at (and_left (some (value m.slot) || not (any_field value m.inside)) _ h)))
      (skip m.slot slots all e r)))

  through-tree : (t : Tree) (slots all : List ℕ) → complete value t ≡ true → R slots all → R (come slots (filled value t)) (with_tree all t)
  unfolding filled with_tree complete come
  through-tree (last c) slots all h r = r
  through-tree (line f t) slots all h r =
      of-both (λ es. R (come slots es) (with_tree (f.slot ∷ all) t)) (f.must || some (value f.slot))
      (λ e. through-tree t (f.slot ∷ slots) (f.slot ∷ all) h (both f.slot slots all r))
      (λ e. through-tree t slots (f.slot ∷ all) h (skip f.slot slots all (or_right f.must _ e) r))
  through-tree (block m o t u) slots all h r =
      let c = not (m || any_in value t) || complete value t in
      let k = and_right ((m || any_in value t) || not (begun o (filled value u))) _ (and_right c _ h) in
      of-both (λ es. R (come slots es) (with_tree (with_tree all t) u)) (m || any_in value t)
      (λ e. rw (come-append slots (filled value t) (filled value u)) (through-tree u _ _ k (through-tree t slots all (rw e at (and_left c _ h)) r)))
      (λ e. through-tree u slots _ k (past-tree t slots all (or_right m _ e) r))
  through-tree (group n a o c ms t) slots all h r =
      let k = and_right (not n || all_members value ms) _ h in
      rw (come-append slots (filled_members value o c ms) (filled value t))
      (through-tree t _ _ (and_right (whole_members value ms) _ k) (through-members o c ms slots all (and_left _ _ k) r))
  through-tree (barred b t) slots all h r = through-tree t slots all h r

-- ---- two such relations

-- what has not come of all has not come
Sub : List ℕ → List ℕ → Type 0
Sub slots all = (s : ℕ) → has all s ≡ false → has slots s ≡ false

sub-both : (x : ℕ) (slots all : List ℕ) → Sub slots all → Sub (x ∷ slots) (x ∷ all)
unfolding Sub has
sub-both x slots all r s h = rw (or_left (eqb x s) _ h) (r s (or_right (eqb x s) _ h))

sub_more : (x : ℕ) (slots all : List ℕ) → Sub slots all → Sub slots (x ∷ all)
unfolding Sub has
sub_more x slots all r s h = r s (or_right (eqb x s) _ h)

-- a slot with a value has come where it is one of all
Met : (ℕ → List ℕ) → ℕ → List ℕ → List ℕ → Type 0
Met value s slots all = some (value s) ≡ true → has all s ≡ true → has slots s ≡ true

met-both : (value : ℕ → List ℕ) (s x : ℕ) (slots all : List ℕ) → Met value s slots all → Met value s (x ∷ slots) (x ∷ all)
unfolding Met has
met-both value s x slots all r v h = on (eqb x s) h
  where
    on : (b : Bool) → (b || has all s) ≡ true → (b || has slots s) ≡ true
    on true k = refl
    on false k = r v k

met-more : (value : ℕ → List ℕ) (s x : ℕ) (slots all : List ℕ) → some (value x) ≡ false → Met value s slots all → Met value s slots (x ∷ all)
unfolding Met has
met-more value s x slots all n r v h = on (eqb x s) refl h
  where
    on : (b : Bool) → eqb x s ≡ b → (b || has all s) ≡ true → has slots s ≡ true
    on true e k = absurd (true≢false (sym v ∙ (rw (eqb-true x s e) at n)))
    on false e k = r v k

-- what has come, has come for good
pub come-more : (es : List Entry) (slots : List ℕ) (s : ℕ) → has slots s ≡ true → has (come slots es) s ≡ true
unfolding come has
come-more [] slots s h = h
come-more (edge o ∷ es) slots s h = come-more es slots s h
come-more (item i k v ∷ es) slots s h = come-more es (i ∷ slots) s (or-two (eqb i s) _ h)

pub has-front : (s : ℕ) (slots : List ℕ) → has (s ∷ slots) s ≡ true
unfolding has
has-front s slots = rw (eq-eqb s s refl)

-- ---- the first line of a sheet is that of a block, or fits none

not-begun : (o : List ℕ) {slots : List ℕ} {t : Tree} {es : List Entry} → Laid slots t es → unlike o t ≡ true → begun o es ≡ false → same o (foremost es) ≡ false
unfolding unlike begun foremost line_of fits_line clash
not-begun o shut h e = e
not-begun o (given {f = f} v l) h e = clear-key (whole o) f.key v (and_left _ _ h)
not-begun o (absent {f = f} z l) h e = not-begun o l (and_right (not (begins f.key o)) _ h) e
not-begun o (opened l r) h e = e
not-begun o (passed z g r) h e = not-begun o r h e
not-begun o (member v i z l r) h e = e
not-begun o (done z l) h e = not-begun o l h e
not-begun o (unstopped z l) h e = not-begun o l h e

pub begun-line : (o : List ℕ) (es : List Entry) → same o (foremost es) ≡ false → begun o es ≡ false
unfolding begun foremost line_of
begun-line o [] h = refl
begun-line o (edge p ∷ es) h = h
begun-line o (item i k v ∷ es) h = refl

-- ---- a table filled in is a sheet

module _ (value : ℕ → List ℕ) where
  abbrev subs : (x : ℕ) (slots all : List ℕ) → some (value x) ≡ false → Sub slots all → Sub slots (x ∷ all)
  subs x slots all n r = sub_more x slots all r

  more-fields : (fs : List Field) (slots all : List ℕ) → Sub slots all → Sub slots (with_fields all fs)
  unfolding with_fields
  more-fields [] slots all r = r
  more-fields (f ∷ fs) slots all r = more-fields fs slots (f.slot ∷ all) (sub_more f.slot slots all r)

  laid-fields : (fs : List Field) (c slots : List ℕ) → Laid slots (chain fs c) (filled_fields value fs c)
  unfolding filled_fields chain
  laid-fields [] c slots = shut
  laid-fields (f ∷ fs) c slots =
      of-both (Laid slots (line f (chain fs c))) (f.must || some (value f.slot))
      (λ e. given (value f.slot) (laid-fields fs c (f.slot ∷ slots)))
      (λ e. absent (or_left f.must _ e) (laid-fields fs c slots))

  laid-members : (n a : Bool) (o c : List ℕ) (every ms : List Member) (t : Tree) (slots all : List ℕ) (ds : List Entry)
      → ((m : Member) → Among m ms → Among m every) → once_members all ms ≡ true → Sub slots all
      → Laid (come slots (filled_members value o c ms)) (group n a o c every t) ds
      → Laid slots (group n a o c every t) (filled_members value o c ms ++ ds)
  unfolding filled_members once_members come Sub
  laid-members n a o c every [] t slots all ds f h r l = l
  laid-members n a o c every (m ∷ ms) t slots all ds f h r l =
      let fields = filled_fields value m.inside c in
      let rest = filled_members value o c ms in
      let k = and_right (not (has all m.slot)) _ h in
      let z = r m.slot (not-true _ (and_left _ _ h)) in
      let w = sub-both m.slot slots all r in
      of-both (λ (es : List Entry). Laid (come slots es) (group n a o c every t) ds → Laid slots (group n a o c every t) (es ++ ds))
      (some (value m.slot))
      (λ e q. rw (append_assoc fields rest ds)
      (member (value m.slot) (f m front) z (laid-fields m.inside c (m.slot ∷ slots))
      (laid-members n a o c every ms t (come (m.slot ∷ slots) fields) (with_fields (m.slot ∷ all) m.inside) ds (λ x i. f x (later i)) k
      (through-fields value Sub sub-both subs m.inside c (m.slot ∷ slots) (m.slot ∷ all) w)
      (rw (come-append (m.slot ∷ slots) fields rest) at q))))
      (λ e q. laid-members n a o c every ms t slots (with_fields (m.slot ∷ all) m.inside) ds (λ x i. f x (later i)) k
      (more-fields m.inside slots (m.slot ∷ all) (sub_more m.slot slots all r)) q)
      l

  -- where each of many blocks has its value, none lacks
  none-lacks : (o c : List ℕ) (ms : List Member) (slots : List ℕ) → all_members value ms ≡ true → lacking (come slots (filled_members value o c ms)) ms ≡ false
  unfolding filled_members all_members lacking come
  none-lacks o c [] slots h = refl
  none-lacks o c (m ∷ ms) slots h =
      let v = and_left (some (value m.slot)) _ h in
      let fields = filled_fields value m.inside c in
      let before = come (m.slot ∷ slots) fields in
      let q = come-more (filled_members value o c ms) before m.slot (come-more fields (m.slot ∷ slots) m.slot (has-front m.slot slots)) in
      let e : come slots (filled_members value o c (m ∷ ms)) ≡ come before (filled_members value o c ms) =
      rw (v, come-append (m.slot ∷ slots) fields (filled_members value o c ms))
      in
      subst (λ (s : List ℕ). lacking s (m ∷ ms) ≡ false) (sym e) (rw q (none-lacks o c ms before (and_right (some (value m.slot)) _ h)))

  -- the first line of a table filled in fits none that the table avoids
  clear-members : (a : Fit) (o c : List ℕ) (ms : List Member) (rest : List Entry) → fits_line a o ≡ false → fits_line a (foremost rest) ≡ false
      → fits_line a (foremost (filled_members value o c ms ++ rest)) ≡ false
  unfolding filled_members foremost line_of
  clear-members a o c [] rest h k = k
  clear-members a o c (m ∷ ms) rest h k =
      of-both (λ (es : List Entry). fits_line a (foremost (es ++ rest)) ≡ false) (some (value m.slot)) (λ e. h) (λ e. clear-members a o c ms rest h k)

  pub clear_filled : (a : Fit) (t : Tree) → avoids a t ≡ true → fits_line a (foremost (filled value t)) ≡ false
  unfolding avoids filled foremost line_of
  clear_filled a (last c) h = clear-line a c h
  clear_filled a (line f t) h =
      of-both (λ (es : List Entry). fits_line a (foremost es) ≡ false) (f.must || some (value f.slot))
      (λ e. clear-key a f.key (value f.slot) (and_left _ _ h)) (λ e. clear_filled a t (and_right (not (clash a (starts f.key))) _ h))
  clear_filled a (block m o t u) h =
      of-both (λ (es : List Entry). fits_line a (foremost es) ≡ false) (m || any_in value t)
      (λ e. clear-line a o (and_left _ _ h)) (λ e. clear_filled a u (and_right (not (clash a (whole o))) _ h))
  clear_filled a (group n b o c ms t) h =
      clear-members a o c ms (filled value t) (clear-line a o (and_left _ _ h)) (clear_filled a t (and_right (not (clash a (whole o))) _ h))
  clear_filled a (barred b t) h = clear_filled a t h

  -- where words stop a line, the one that stands there goes on with one of them
  words-pass : (ws : List ℕ) (t : Tree) → leads t ≡ true → apart t ≡ true → worded_bar value (only ws) t ≡ true
      → strays (lead_key t) ws (foremost (filled value t)) ≡ false
  unfolding leads worded_bar strays lead_key foremost filled line_of apart fits_line
  words-pass ws (last c) h a w = absurd (true≢false (sym h))
  words-pass ws (line f t) h a w = on (f.must || some (value f.slot)) refl
    where
      on : (b : Bool) → (f.must || some (value f.slot)) ≡ b
          → (begins f.key (foremost (cond b (item f.slot f.key (value f.slot) ∷ filled value t) (filled value t)))
          && not (goes_on ws (drop (length f.key) (foremost (cond b (item f.slot f.key (value f.slot) ∷ filled value t) (filled value t)))))) ≡ false
      on true e =
          let g : goes_on ws (value f.slot) ≡ true = rw e at w in
          rw (begins-append f.key (value f.slot), drop-append_seam f.key (value f.slot), g)
      on false e = rw (clear_filled (starts f.key) t (and_left _ _ a))
  words-pass ws (block m o t u) h a w = absurd (true≢false (sym h))
  words-pass ws (group n b o c ms t) h a w = absurd (true≢false (sym h))
  words-pass ws (barred b t) h a w = absurd (true≢false (sym h))

  -- a bar lets the first line pass
  bar-passes : (b : Bar) (t : Tree) → apart_bar b t ≡ true → apart t ≡ true → worded_bar value b t ≡ true → stops b (lead_key t) (foremost (filled value t)) ≡ false
  unfolding stops apart_bar fits_line
  bar-passes (surplus n o) t h a w = clear_filled (whole o) t h
  bar-passes (only ws) t h a w = words-pass ws t h a w

  laid_filled : (t : Tree) (slots all : List ℕ) → once all t ≡ true → apart t ≡ true → worded value t ≡ true → complete value t ≡ true → Sub slots all
      → Laid slots t (filled value t)
  unfolding filled once apart worded complete
  laid_filled (last c) slots all h a w k r = shut
  laid_filled (line f t) slots all h a w k r =
      let a' = and_right (avoids (starts f.key) t) _ a in
      of-both (Laid slots (line f t)) (f.must || some (value f.slot))
      (λ e. given (value f.slot) (laid_filled t (f.slot ∷ slots) (f.slot ∷ all) h a' w k (sub-both f.slot slots all r)))
      (λ e. absent (or_left f.must _ e) (laid_filled t slots (f.slot ∷ all) h a' w k (sub_more f.slot slots all r)))
  laid_filled (block m o t u) slots all h a w k r =
      let h' = and_right (once all t) _ h in
      let at = and_left (apart t) _ (and_right (unlike o u) _ a) in
      let au = and_right (apart t) _ (and_right (unlike o u) _ a) in
      let x = not (m || any_in value t) || worded value t in
      let wu = and_right x _ w in
      let c = not (m || any_in value t) || complete value t in
      let d = (m || any_in value t) || not (begun o (filled value u)) in
      let k' = and_right d _ (and_right c _ k) in
      let gap = and_left d _ (and_right c _ k) in
      of-both (Laid slots (block m o t u)) (m || any_in value t)
      (λ e. opened (laid_filled t slots all (and_left _ _ h) at (rw e at (and_left x _ w)) (rw e at (and_left c _ k)) r)
      (laid_filled u _ (with_tree all t) h' au wu k' (through-tree value Sub sub-both subs t slots all (rw e at (and_left c _ k)) r)))
      (λ e. let l = laid_filled u slots (with_tree all t) h' au wu k' (past-tree value Sub sub-both subs t slots all (or_right m _ e) r) in
      passed (or_left m _ e) (not-begun o l (and_left (unlike o u) _ a) (not-true _ (rw e at gap))) l)
  laid_filled (group n b o c ms t) slots all h a w k r =
      let k' = and_right (not n || all_members value ms) _ k in
      let s = come slots (filled_members value o c ms) in
      laid-members n b o c ms ms t slots all (filled value t) (λ m i. i) (and_left _ _ h) r
      (done (λ e. none-lacks o c ms slots (rw e at (and_left (not n || all_members value ms) _ k)))
      (laid_filled t s (with_members all ms) (and_right (once_members all ms) _ h) (and_right (apart_members c ms) _ (and_right (avoids (whole o) t) _ a)) w
      (and_right (whole_members value ms) _ k') (through-members value Sub sub-both subs o c ms slots all (and_left _ _ k') r)))
  laid_filled (barred b t) slots all h a w k r =
      let a' = and_right (apart_bar b t) _ a in
      let l = laid_filled t slots all h a' (and_right (worded_bar value b t) _ w) k r in
      unstopped (bar-passes b t (and_left (apart_bar b t) _ a) a' (and_left (worded_bar value b t) _ w)) l

-- a table filled in is a sheet of the table
pub emits : (value : ℕ → List ℕ) (t : Tree) → once [] t ≡ true → apart t ≡ true → worded value t ≡ true → complete value t ≡ true → Sheet t (filled value t)
unfolding Sub
emits value t h a w k = laid_filled value t [] [] h a w k (λ s e. e)

-- ---- the values of a table that was filled in

-- every line of a slot has the slot's value
unfoldable pub Fits : (ℕ → List ℕ) → List Entry → Type 0
Fits value [] = Unit
Fits value (edge o ∷ es) = Fits value es
Fits value (item i k v ∷ es) = (v ≡ value i) × Fits value es

fits-append : (value : ℕ → List ℕ) (es ds : List Entry) → Fits value es → Fits value ds → Fits value (es ++ ds)
unfolding Fits
fits-append value [] ds h k = k
fits-append value (edge o ∷ es) ds h k = fits-append value es ds h k
fits-append value (item i j v ∷ es) ds h k = (h.0, fits-append value es ds h.1 k)

module _ (value : ℕ → List ℕ) where
  fits-fields : (fs : List Field) (c : List ℕ) → Fits value (filled_fields value fs c)
  unfolding filled_fields Fits
  fits-fields [] c = tt
  fits-fields (f ∷ fs) c = of-both (Fits value) (f.must || some (value f.slot)) (λ e. (refl, fits-fields fs c)) (λ e. fits-fields fs c)

  fits-members : (o c : List ℕ) (ms : List Member) → Fits value (filled_members value o c ms)
  unfolding filled_members Fits
  fits-members o c [] = tt
  fits-members o c (m ∷ ms) =
      of-both (Fits value) (some (value m.slot))
      (λ e. (refl, fits-append value (filled_fields value m.inside c) _ (fits-fields m.inside c) (fits-members o c ms)))
      (λ e. fits-members o c ms)

  pub fits-filled : (t : Tree) → Fits value (filled value t)
  unfolding filled Fits
  fits-filled (last c) = tt
  fits-filled (line f t) = of-both (Fits value) (f.must || some (value f.slot)) (λ e. (refl, fits-filled t)) (λ e. fits-filled t)
  fits-filled (block m o t u) =
      of-both (Fits value) (m || any_in value t) (λ e. fits-append value (filled value t) _ (fits-filled t) (fits-filled u)) (λ e. fits-filled u)
  fits-filled (group n a o c ms t) = fits-append value (filled_members value o c ms) _ (fits-members o c ms) (fits-filled t)
  fits-filled (barred b t) = fits-filled t

  -- a slot that came has its value, and one that did not has none
  value-come : (es : List Entry) (slots : List ℕ) (s : ℕ) → Fits value es → has slots s ≡ false → has (come slots es) s ≡ true → value_in es s ≡ value s
  unfolding Fits come value_in has
  value-come [] slots s f h k = absurd (true≢false (sym k ∙ h))
  value-come (edge o ∷ es) slots s f h k = value-come es slots s f h k
  value-come (item i j v ∷ es) slots s f h k =
      of-both (λ x. x ≡ value s) (eqb i s) (λ e. f.0 ∙ ap value (eqb-true i s e)) (λ e. value-come es (i ∷ slots) s f.1 (rw e h) k)

  value_none : (es : List Entry) (slots : List ℕ) (s : ℕ) → has (come slots es) s ≡ false → value_in es s ≡ []
  unfolding come value_in
  value_none [] slots s k = refl
  value_none (edge o ∷ es) slots s k = value_none es slots s k
  value_none (item i j v ∷ es) slots s k =
      of-both (λ x. x ≡ []) (eqb i s)
      (λ e. absurd (true≢false (sym (come-more es (i ∷ slots) s (rw (← (eqb-true i s e)) (has-front i slots))) ∙ k)))
      (λ e. value_none es (i ∷ slots) s k)

  pub no_value : (v : List ℕ) → some v ≡ false → v ≡ []
  unfolding some
  no_value [] e = refl
  no_value (b ∷ v) e = absurd (true≢false e)

  -- the values of a table that was filled in are those that it was filled with
  pub values : (t : Tree) (s : ℕ) → complete value t ≡ true → has (with_tree [] t) s ≡ true → value_in (filled value t) s ≡ value s
  unfolding Met has
  values t s k h = on (some (value s)) refl
    where
      absent-is : some (value s) ≡ false → (b : Bool) → has (come [] (filled value t)) s ≡ b → value_in (filled value t) s ≡ value s
      absent-is e true q = value-come (filled value t) [] s (fits-filled t) refl q
      absent-is e false q = value_none (filled value t) [] s q ∙ sym (no_value (value s) e)

      on : (b : Bool) → some (value s) ≡ b → value_in (filled value t) s ≡ value s
      on true e =
          value-come (filled value t) [] s (fits-filled t) refl
          (through-tree value (Met value s) (met-both value s) (met-more value s) t [] [] k (λ v x. x) e h)
      on false e = absent-is e _ refl

-- and a message that is laid out so is taken with them
pub round : (value : ℕ → List ℕ) (t : Tree) (n : ℕ) → good_tree t ≡ true → apart t ≡ true → once [] t ≡ true → worded value t ≡ true → complete value t ≡ true
    → taken_by t n (lines_in (filled value t)) ≡ taken (taken_on n (filled value t))
round value t n g a o w k = reads t (filled value t) n g a (emits value t o a w k)
