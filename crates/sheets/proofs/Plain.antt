-- The lines of a sheet with its blocks put in order are the table filled in with the sheet's values.
-- Assumes nothing.
use Prim.Native.Nat.{ℕ}
use mathlib.Core.Path.{◌≡◌, refl, sym, ap, subst, ◌∙◌}
use mathlib.Core.Bool.{Bool, true, false, ◌&&◌, ◌||◌, not, true≢false}
use mathlib.Core.List.{List, [], ◌∷◌, ◌++◌, append_assoc, append-nil}
use lib.Dec.{eqb}
use borrow.Author.Tests.{eqb-true, not-true}
use Rattle.text.specs.Bytes.{begins, same}
use Rattle.text.proofs.Bools.{is_false, or_case, or-one, or-two, or-none, or_left, or_right}
use Rattle.text.proofs.Laws.{and_left, and_right}
use Rattle.sheets.specs.Trees.{Field, Member, Tree, last, line, block, group, barred}
use Rattle.sheets.specs.Sheets.{Entry, edge, item, line_of, lines_in, has, Laid, shut, given, absent, opened, passed, member, done, unstopped, Sheet}
use Rattle.sheets.specs.Filled.{some, value_in, any_field, any_member, any_in, filled_members, filled}
use Rattle.sheets.specs.Plain.{Group, any_line, arranged, in_order}
use Rattle.sheets.proofs.Checks.{keys_of, groups_of, apart_members, free_members, free, field_slots, own_slots, member_slots, slots_of, disjoint, sole_members, sole, all_free, closed_members, heavy, tellable, full}
use Rattle.sheets.proofs.Accepts.{lines-append}
use Rattle.sheets.proofs.Once.{has-append, apart-lists, slots_held, has-held, inside, outside, comes-once, own-values}
use Rattle.sheets.proofs.Emits.{has-front, Fits}
use Rattle.sheets.proofs.Picking.{none_both, Missing, order-none, missing-append, missing-left, missing-right, missing-all, order-append, key-misses, line-misses, laid-misses, filled-misses}
use Rattle.sheets.proofs.Order.{Right, right-left, right-right, Bare, no-some, Units, split, units-slots, units-misses, units-arranged}

-- ---- a sheet in order

module _ (value : ℕ → List ℕ) where
  pub none-fields : (fs : List Field) → ((s : ℕ) → has (field_slots fs) s ≡ true → value s ≡ []) → any_field value fs ≡ false
  unfolding any_field field_slots has
  none-fields [] h = refl
  none-fields (f ∷ fs) h =
      or-none (some (value f.slot)) _ (no-some value (value f.slot) (h f.slot (has-front f.slot (field_slots fs))))
      (none-fields fs (λ s e. h s (or-two (eqb f.slot s) _ e)))

  pub none-members : (ms : List Member) → ((s : ℕ) → has (member_slots ms) s ≡ true → value s ≡ []) → any_member value ms ≡ false
  unfolding any_member member_slots own_slots has
  none-members [] h = refl
  none-members (m ∷ ms) h =
      let own : (s : ℕ) → has (own_slots m) s ≡ true → value s ≡ [] = λ s e. h s (rw (has-append (own_slots m) (member_slots ms) s) (or-one (has (own_slots m) s) _ e)) in
      or-none (some (value m.slot)) _ (no-some value (value m.slot) (own m.slot (has-front m.slot (field_slots m.inside))))
      (or-none (any_field value m.inside) _ (none-fields m.inside (λ s e. own s (or-two (eqb m.slot s) _ e)))
      (none-members ms (λ s e. h s (rw (has-append (own_slots m) (member_slots ms) s) (or-two (has (own_slots m) s) _ e)))))

  pub none_in : (t : Tree) → ((s : ℕ) → has (slots_of t) s ≡ true → value s ≡ []) → any_in value t ≡ false
  unfolding any_in slots_of has
  none_in (last c) h = refl
  none_in (line f t) h =
      or-none (some (value f.slot)) _ (no-some value (value f.slot) (h f.slot (has-front f.slot (slots_of t))))
      (none_in t (λ s e. h s (or-two (eqb f.slot s) _ e)))
  none_in (block m o t u) h =
      or-none (any_in value t) _ (none_in t (λ s e. h s (rw (has-append (slots_of t) (slots_of u) s) (or-one (has (slots_of t) s) _ e))))
      (none_in u (λ s e. h s (rw (has-append (slots_of t) (slots_of u) s) (or-two (has (slots_of t) s) _ e))))
  none_in (group n a o c ms t) h =
      or-none (any_member value ms) _ (none-members ms (λ s e. h s (rw (has-append (member_slots ms) (slots_of t) s) (or-one (has (member_slots ms) s) _ e))))
      (none_in t (λ s e. h s (rw (has-append (member_slots ms) (slots_of t) s) (or-two (has (member_slots ms) s) _ e))))
  none_in (barred b t) h = none_in t h

  -- of two parts of a sheet each has its own slots
  bare-left : (xs ys : List ℕ) (es ds : List Entry) → disjoint xs ys ≡ true → ((s : ℕ) → has (slots_held ds) s ≡ true → has ys s ≡ true)
      → Bare value (xs ++ ys) (es ++ ds) → Bare value xs es
  unfolding Bare
  bare-left xs ys es ds d f b s w h =
      b s (rw (has-append xs ys s) (or-one (has xs s) _ w))
      (rw (has-held es ds s) (or-none (has (slots_held es) s) _ h (is_false (has (slots_held ds) s) (λ e. true≢false (sym (f s e) ∙ apart-lists xs ys s d w)))))

  bare-right : (xs ys : List ℕ) (es ds : List Entry) → disjoint xs ys ≡ true → ((s : ℕ) → has (slots_held es) s ≡ true → has xs s ≡ true)
      → Bare value (xs ++ ys) (es ++ ds) → Bare value ys ds
  unfolding Bare
  bare-right xs ys es ds d f b s w h =
      b s (rw (has-append xs ys s) (or-two (has xs s) _ w))
      (rw (has-held es ds s) (or-none (has (slots_held es) s) _ (is_false (has (slots_held es) s) (λ e. true≢false (sym w ∙ apart-lists xs ys s d (f s e)))) h))

  -- between lines that are none of its blocks'
  Ordered : Tree → List Entry → Type 0
  Ordered t es = (pre post : List (List ℕ)) → Missing (groups_of t) pre → Missing (groups_of t) post
      → in_order (groups_of t) (pre ++ (lines_in es ++ post)) ≡ pre ++ (lines_in (filled value t) ++ post)

  -- a line in front
  ordered-line : (t u : Tree) (e : Entry) (es : List Entry) (ds : List Entry) → groups_of u ≡ groups_of t → filled value u ≡ e ∷ ds → ds ≡ filled value t
      → Missing (groups_of t) (line_of e ∷ []) → Ordered t es → Ordered u (e ∷ es)
  unfolding Ordered lines_in
  ordered-line t u e es ds q r z m h pre post a b =
      let a' : Missing (groups_of t) pre = rw q at a in
      let b' : Missing (groups_of t) post = rw q at b in
      rw (q, r, z)
      (ap (in_order (groups_of t)) (sym (append_assoc pre (line_of e ∷ []) (lines_in es ++ post)))
      ∙ h (pre ++ (line_of e ∷ [])) post (missing-append (groups_of t) pre (line_of e ∷ []) a' m) b'
      ∙ append_assoc pre (line_of e ∷ []) (lines_in (filled value t) ++ post))

  last-ordered : (c : List ℕ) → Ordered (last c) (edge c ∷ [])
  unfolding Ordered groups_of in_order filled
  last-ordered c pre post a b = refl

  one_line : (x l : List ℕ) → same x l ≡ false → any_line x (l ∷ []) ≡ false
  unfolding any_line
  one_line x l h = or-none (same x l) _ h refl

  other : (t : Tree) (f : Field) (s : ℕ) → has (slots_of t) f.slot ≡ false → has (slots_of t) s ≡ true → eqb f.slot s ≡ false
  other t f s h i = is_false (eqb f.slot s) (λ e. true≢false (sym i ∙ (rw (eqb-true f.slot s e) at h)))

  ordered_same : (t u : Tree) (es : List Entry) → groups_of u ≡ groups_of t → filled value u ≡ filled value t → Ordered t es → Ordered u es
  unfolding Ordered
  ordered_same t u es q r h = rw (q, r) h

  -- a block that stands has a value
  has_value : {slots : List ℕ} {t : Tree} {es : List Entry} → Laid slots t es → heavy t ≡ true → Right value es → any_in value t ≡ true
  unfolding heavy any_in Right
  has_value shut h r = absurd (true≢false (sym h))
  has_value (given {f = f} v l) h r = or-one (some (value f.slot)) _ (rw r.0 at r.1)
  has_value (absent {f = f} z l) h r = or-two (some (value f.slot)) _ (has_value l (rw z at h) r)
  has_value (opened {t = t} {es = es} {ds = ds} l k) h r = or-two (any_in value t) _ (has_value k h (right-right value es ds r))
  has_value (passed {t = t} z g k) h r = or-two (any_in value t) _ (has_value k h r)
  has_value (member {es = es} {ds = ds} v i z l k) h r = has_value k h (right-right value es ds r.2)
  has_value (done {ms = ms} z l) h r = or-two (any_member value ms) _ (has_value l h r)
  has_value (unstopped z l) h r = has_value l h r

  block-opened : (m : Bool) (o : List ℕ) (t u : Tree) (es ds : List Entry) → (m || any_in value t) ≡ true
      → Missing (groups_of t) (o ∷ []) → Missing (groups_of u) (o ∷ [])
      → Missing (groups_of t) (lines_in (filled value u)) → Missing (groups_of u) (lines_in es)
      → Ordered t es → Ordered u ds → Ordered (block m o t u) (edge o ∷ (es ++ ds))
  unfolding Ordered groups_of filled lines_in line_of
  block-opened m o t u es ds q ot ou mu mt ht hu pre post a b =
      let gt = groups_of t in
      let gu = groups_of u in
      let X = lines_in es in
      let U = lines_in (filled value u) in
      let F = lines_in (filled value t) in
      let one = o ∷ [] in
      rw (q, order-append gt gu (pre ++ (o ∷ (lines_in (es ++ ds) ++ post))))
      (ap (λ (y : List (List ℕ)). in_order gt (in_order gu y))
      (ap (λ (y : List (List ℕ)). pre ++ (o ∷ y)) (lines-append es ds post) ∙ sym (append_assoc pre (o ∷ X) (lines_in ds ++ post)))
      ∙ ap (in_order gt)
      (hu (pre ++ (o ∷ X)) post
      (missing-append gu pre (o ∷ X) (missing-right gt gu pre a) (missing-append gu one X ou mt)) (missing-right gt gu post b)
      ∙ append_assoc pre (o ∷ X) (U ++ post) ∙ sym (append_assoc pre one (X ++ (U ++ post))))
      ∙ ht (pre ++ one) (U ++ post) (missing-append gt pre one (missing-left gt gu pre a) ot) (missing-append gt U post mu (missing-left gt gu post b))
      ∙ append_assoc pre one (F ++ (U ++ post))
      ∙ ap (λ (y : List (List ℕ)). pre ++ (o ∷ y)) (sym (lines-append (filled value t) (filled value u) post)))

  block-passed : (m : Bool) (o : List ℕ) (t u : Tree) (ds : List Entry) → (m || any_in value t) ≡ false
      → Missing (groups_of t) (lines_in (filled value u)) → Ordered u ds → Ordered (block m o t u) ds
  unfolding Ordered groups_of filled
  block-passed m o t u ds q mu hu pre post a b =
      let gt = groups_of t in
      let gu = groups_of u in
      let U = lines_in (filled value u) in
      rw (q, order-append gt gu (pre ++ (lines_in ds ++ post)), hu pre post (missing-right gt gu pre a) (missing-right gt gu post b))
      (order-none gt (pre ++ (U ++ post))
      (missing-append gt pre (U ++ post) (missing-left gt gu pre a) (missing-append gt U post mu (missing-left gt gu post b))))

  group-ordered : (n a : Bool) (o c : List ℕ) (ms : List Member) (t : Tree) (us ds : List Entry)
      → sole_members ms ≡ true → apart_members c ms ≡ true → closed_members c ms ≡ true → free_members o c ms ≡ true
      → free o false t ≡ true → free c false t ≡ true → Missing (groups_of t) (lines_in us)
      → Units o c ms us → Right value us → Bare value (member_slots ms) us
      → Ordered t ds → Ordered (group n a o c ms t) (us ++ ds)
  unfolding Ordered groups_of filled Missing in_order
  group-ordered n a o c ms t us ds sm ap' cl fr fo fc mt u r b h pre post x y =
      let g : Group = record { opening = o; closing = c; keys = keys_of ms } in
      let F = lines_in (filled value t) in
      let M = filled_members value o c ms in
      let rest = F ++ post in
      ap (λ (z : List (List ℕ)). arranged g (in_order (groups_of t) z))
      (ap (λ (z : List (List ℕ)). pre ++ z) (lines-append us ds post) ∙ sym (append_assoc pre (lines_in us) (lines_in ds ++ post)))
      ∙ ap (arranged g)
      (h (pre ++ lines_in us) post (missing-append (groups_of t) pre (lines_in us) x.2 mt) y.2 ∙ append_assoc pre (lines_in us) rest)
      ∙ units-arranged value o c ms rest sm ap' cl fr (none_both o F post (filled-misses value o t fo) y.0) us pre u r b x.0 x.1
      (none_both c F post (filled-misses value c t fc) y.1)
      ∙ ap (λ (z : List (List ℕ)). pre ++ z) (sym (lines-append M (filled value t) post))

  ordered : (t : Tree) {slots : List ℕ} {es : List Entry} → Laid slots t es → tellable t ≡ true → sole t ≡ true
      → Right value es → Bare value (slots_of t) es → Ordered t es
  unfolding tellable sole Right Bare slots_of slots_held has groups_of filled line_of
  ordered (last c) shut w q r b = last-ordered c
  ordered (line f t) (given {es = es} v l) w q r b =
      let k = not (has (slots_of t) f.slot) in
      let p = all_free (groups_of t) (λ x. not (begins f.key x)) in
      let bare : Bare value (slots_of t) es =
      λ s i h. b s (or-two (eqb f.slot s) _ i) (or-none (eqb f.slot s) _ (other t f s (not-true _ (and_left k _ q)) i) h) in
      ordered-line t (line f t) (item f.slot f.key v) es (filled value t) refl
      (rw (or-two f.must (some (value f.slot)) (rw r.0 at r.1), ← r.0)) refl
      (missing-all (groups_of t) _ _ (and_left p _ w) (λ x h. one_line x (f.key ++ v) (key-misses x f.key v h)))
      (ordered t l (and_right p _ w) (and_right k _ q) r.2 bare)
  ordered (line f t) (absent {es = es} z l) w q r b =
      let k = not (has (slots_of t) f.slot) in
      let p = all_free (groups_of t) (λ x. not (begins f.key x)) in
      let none = b f.slot (has-front f.slot (slots_of t)) (outside f.slot l (not-true (has (slots_of t) f.slot) (and_left k _ q))) in
      ordered_same t (line f t) es refl (rw (z, no-some value (value f.slot) none))
      (ordered t l (and_right p _ w) (and_right k _ q) r (λ s i h. b s (or-two (eqb f.slot s) _ i) h))
  ordered (block m o t u) (opened {es = es} {ds = ds} l k) w q r b =
      let B = all_free (groups_of t) (λ x. not (same o x) && free x false u) in
      let C = all_free (groups_of u) (λ x. not (same o x) && free x false t) in
      let wb = and_right (m || heavy t) _ w in
      let wc = and_right B _ wb in
      let wd = and_right C _ wc in
      let dj = and_left (disjoint (slots_of t) (slots_of u)) _ q in
      let qt = and_right (disjoint (slots_of t) (slots_of u)) _ q in
      let rl = right-left value es ds r in
      block-opened m o t u es ds
      (or_case m (heavy t) (and_left (m || heavy t) _ w) (or-one m (any_in value t)) (λ e. or-two m (any_in value t) (has_value l e rl)))
      (missing-all (groups_of t) _ _ (and_left B _ wb) (λ x h. one_line x o (line-misses x o (and_left (not (same o x)) _ h))))
      (missing-all (groups_of u) _ _ (and_left C _ wc) (λ x h. one_line x o (line-misses x o (and_left (not (same o x)) _ h))))
      (missing-all (groups_of t) _ _ (and_left B _ wb) (λ x h. filled-misses value x u (and_right (not (same o x)) _ h)))
      (missing-all (groups_of u) _ _ (and_left C _ wc) (λ x h. laid-misses x l (and_right (not (same o x)) _ h)))
      (ordered t l (and_left (tellable t) _ wd) (and_left (sole t) _ qt) rl (bare-left (slots_of t) (slots_of u) es ds dj (λ s e. inside s k e) b))
      (ordered u k (and_right (tellable t) _ wd) (and_right (sole t) _ qt) (right-right value es ds r) (bare-right (slots_of t) (slots_of u) es ds dj (λ s e. inside s l e) b))
  ordered (block m o t u) (passed {ds = ds} z g k) w q r b =
      let B = all_free (groups_of t) (λ x. not (same o x) && free x false u) in
      let C = all_free (groups_of u) (λ x. not (same o x) && free x false t) in
      let wb = and_right (m || heavy t) _ w in
      let wd = and_right C _ (and_right B _ wb) in
      let dj = and_left (disjoint (slots_of t) (slots_of u)) _ q in
      let qt = and_right (disjoint (slots_of t) (slots_of u)) _ q in
      block-passed m o t u ds
      (or-none m (any_in value t) z
      (none_in t (λ s e. b s (rw (has-append (slots_of t) (slots_of u) s) (or-one (has (slots_of t) s) _ e)) (outside s k (apart-lists (slots_of t) (slots_of u) s dj e)))))
      (missing-all (groups_of t) _ _ (and_left B _ wb) (λ x h. filled-misses value x u (and_right (not (same o x)) _ h)))
      (ordered u k (and_right (tellable t) _ wd) (and_right (sole t) _ qt) r
      (λ s i h. b s (rw (has-append (slots_of t) (slots_of u) s) (or-two (has (slots_of t) s) _ i)) h))
  ordered (group n a o c ms t) {es = es} l w q r b =
      let sm = and_left (sole_members ms) _ q in
      let q' = and_right (sole_members ms) _ q in
      let dj = and_left (disjoint (member_slots ms) (slots_of t)) _ q' in
      let (us, ds, e, u, k) = split sm dj l in
      let r' : Right value (us ++ ds) = subst (Right value) e r in
      let b' : Bare value (member_slots ms ++ slots_of t) (us ++ ds) = subst (Bare value (member_slots ms ++ slots_of t)) e b in
      let wa = and_left (free o false t && free c false t) _ w in
      let wr = and_right (free o false t && free c false t) _ w in
      let D = free_members o c ms && (closed_members c ms && (not (same c o) && apart_members c ms)) in
      let wm = and_left D _ wr in
      let E = all_free (groups_of t) (λ x. not (same o x) && free_members x c ms) in
      let we = and_right D _ wr in
      let wc = and_right (free_members o c ms) _ wm in
      subst (Ordered (group n a o c ms t)) (sym e)
      (group-ordered n a o c ms t us ds sm (and_right (not (same c o)) _ (and_right (closed_members c ms) _ wc)) (and_left (closed_members c ms) _ wc) (and_left (free_members o c ms) _ wm)
      (and_left (free o false t) _ wa) (and_right (free o false t) _ wa)
      (missing-all (groups_of t) _ _ (and_left E _ we) (λ x h. units-misses x u (and_left (not (same o x)) _ h) (and_right (not (same o x)) _ h)))
      u (right-left value us ds r') (bare-left (member_slots ms) (slots_of t) us ds dj (λ s i. inside s k i) b')
      (ordered t k (and_right E _ we) (and_right (disjoint (member_slots ms) (slots_of t)) _ q') (right-right value us ds r')
      (bare-right (member_slots ms) (slots_of t) us ds dj (λ s i. units-slots s u i) b')))
  ordered (barred x t) {es = es} (unstopped z l) w q r b = ordered_same t (barred x t) es refl refl (ordered t l w q r b)

-- ---- and its own values

pub value-absent : (es : List Entry) (s : ℕ) → has (slots_held es) s ≡ false → value_in es s ≡ []
unfolding value_in slots_held has
value-absent [] s h = refl
value-absent (edge o ∷ es) s h = value-absent es s h
value-absent (item i k v ∷ es) s h = rw (or_left (eqb i s) _ h) (value-absent es s (or_right (eqb i s) _ h))

right_of : (value : ℕ → List ℕ) (es : List Entry) → Fits value es → full es ≡ true → Right value es
unfolding Fits Right full
right_of value [] f h = tt
right_of value (edge o ∷ es) f h = right_of value es f h
right_of value (item i k v ∷ es) f h = (f.0, and_left (some v) _ h, right_of value es f.1 (and_right (some v) _ h))

missing-nil : (gs : List Group) → Missing gs []
unfolding Missing any_line
missing-nil [] = tt
missing-nil (g ∷ gs) = (refl, refl, missing-nil gs)

-- the lines of a sheet, its blocks put in order, are the table filled in with its values; behind lines that are none of theirs
pub plain-behind : (t : Tree) (es : List Entry) (pre : List (List ℕ)) → tellable t ≡ true → sole t ≡ true → full es ≡ true → Missing (groups_of t) pre → Sheet t es
    → in_order (groups_of t) (pre ++ lines_in es) ≡ pre ++ lines_in (filled (value_in es) t)
unfolding Ordered Bare
plain-behind t es pre w q h m l =
    let value = value_in es in
    let r = ordered value t l w q (right_of value es (own-values es (comes-once l q)) h) (λ s i k. value-absent es s k) pre [] m (missing-nil (groups_of t)) in
    rw (append-nil (lines_in es), append-nil (lines_in (filled value t))) at r

pub plain : (t : Tree) (es : List Entry) → tellable t ≡ true → sole t ≡ true → full es ≡ true → Sheet t es
    → in_order (groups_of t) (lines_in es) ≡ lines_in (filled (value_in es) t)
plain t es w q h l = plain-behind t es [] w q h (missing-nil (groups_of t)) l
