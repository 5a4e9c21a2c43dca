-- In a sheet of a table whose rows each have a slot of their own no slot comes twice, and none that is not the table's.
-- Assumes nothing.
use Prim.Native.Nat.{ℕ}
use mathlib.Core.Path.{◌≡◌, refl, sym, ap, ◌∙◌}
use mathlib.Core.Bool.{Bool, true, false, ◌||◌, not, cond, or_assoc, true≢false}
use mathlib.Core.List.{List, [], ◌∷◌, ◌++◌}
use mathlib.Core.Logic.{◌⊎◌, inl, inr, ⊎_elim}
use lib.Dec.{eqb}
use borrow.Author.Tests.{eqb-true, eqb-false, not-true, eq-eqb, ne_eqb}
use Rattle.text.proofs.Bools.{is_false, or_case, or-one, or-two, or-none, or_left, or_right}
use Rattle.text.proofs.Laws.{and_left, and_right}
use Rattle.sheets.specs.Trees.{Field, Member, Tree, group, chain}
use Rattle.sheets.specs.Sheets.{Entry, edge, item, has, Among, front, later, Laid, shut, given, absent, opened, passed, member, done, unstopped}
use Rattle.sheets.specs.Filled.{value_in}
use Rattle.sheets.proofs.Emits.{has-front, come-more, Fits}
use Rattle.sheets.proofs.Checks.{field_slots, own_slots, member_slots, slots_of, disjoint, distinct, sole_members, sole}

-- ---- lists of slots

pub has-append : (xs ys : List ℕ) (s : ℕ) → has (xs ++ ys) s ≡ (has xs s || has ys s)
unfolding has
has-append [] ys s = refl
has-append (x ∷ xs) ys s = rw (has-append xs ys s) (sym (or_assoc (eqb x s) (has xs s) (has ys s)))

pub apart-lists : (xs ys : List ℕ) (s : ℕ) → disjoint xs ys ≡ true → has xs s ≡ true → has ys s ≡ false
unfolding disjoint has
apart-lists [] ys s d h = absurd (true≢false (sym h))
apart-lists (x ∷ xs) ys s d h =
    or_case (eqb x s) (has xs s) h
    (λ e. rw (← (eqb-true x s e)) (not-true _ (and_left _ _ d)))
    (λ e. apart-lists xs ys s (and_right (not (has ys x)) _ d) e)

-- the slots of a sheet
unfoldable pub slots_held : List Entry → List ℕ
slots_held [] = []
slots_held (edge o ∷ es) = slots_held es
slots_held (item i k v ∷ es) = i ∷ slots_held es

pub held-append : (es ds : List Entry) → slots_held (es ++ ds) ≡ slots_held es ++ slots_held ds
unfolding slots_held
held-append [] ds = refl
held-append (edge o ∷ es) ds = held-append es ds
held-append (item i k v ∷ es) ds = ap (λ (l : List ℕ). i ∷ l) (held-append es ds)

pub has-held : (es ds : List Entry) (s : ℕ) → has (slots_held (es ++ ds)) s ≡ (has (slots_held es) s || has (slots_held ds) s)
has-held es ds s = rw (held-append es ds) (has-append (slots_held es) (slots_held ds) s)

-- ---- they are the table's

pub among-slots : {m : Member} {ms : List Member} (s : ℕ) → Among m ms → has (own_slots m) s ≡ true → has (member_slots ms) s ≡ true
unfolding member_slots
among-slots s (front {m = m} {ms = ms}) h = rw (has-append (own_slots m) (member_slots ms) s) (or-one _ _ h)
among-slots s (later {k = k} {ms = ms} i) h = rw (has-append (own_slots k) (member_slots ms) s) (or-two (has (own_slots k) s) _ (among-slots s i h))

pub chain-slots : (fs : List Field) (c : List ℕ) → slots_of (chain fs c) ≡ field_slots fs
unfolding slots_of chain field_slots
chain-slots [] c = refl
chain-slots (f ∷ fs) c = ap (λ (l : List ℕ). f.slot ∷ l) (chain-slots fs c)

pub inside : {slots : List ℕ} {t : Tree} {es : List Entry} (s : ℕ) → Laid slots t es → has (slots_held es) s ≡ true → has (slots_of t) s ≡ true
unfolding slots_held slots_of has own_slots
inside s (shut) h = h
inside s (given {f = f} {t = t} {es = es} v l) h = or_case (eqb f.slot s) (has (slots_held es) s) h (or-one _ _) (λ e. or-two (eqb f.slot s) _ (inside s l e))
inside s (absent {f = f} m l) h = or-two (eqb f.slot s) _ (inside s l h)
inside s (opened {t = t} {u = u} {es = es} {ds = ds} l r) h =
    rw (has-append (slots_of t) (slots_of u) s)
    (or_case (has (slots_held es) s) (has (slots_held ds) s) (rw (has-held es ds s) at h)
    (λ e. or-one _ _ (inside s l e)) (λ e. or-two (has (slots_of t) s) _ (inside s r e)))
inside s (passed {t = t} {u = u} z g r) h = rw (has-append (slots_of t) (slots_of u) s) (or-two (has (slots_of t) s) _ (inside s r h))
inside s (member {c = c} {ms = ms} {t = t} {m = m} {es = es} {ds = ds} v i z l r) h =
    or_case (eqb m.slot s) (has (slots_held (es ++ ds)) s) h
    (λ e. rw (has-append (member_slots ms) (slots_of t) s) (or-one _ _ (among-slots s i (or-one _ _ e))))
    (λ e. or_case (has (slots_held es) s) (has (slots_held ds) s) (rw (has-held es ds s) at e)
    (λ q. rw (has-append (member_slots ms) (slots_of t) s)
    (or-one _ _ (among-slots s i (or-two (eqb m.slot s) _ (rw (chain-slots m.inside c) at (inside s l q))))))
    (λ q. inside s r q))
inside s (done {ms = ms} {t = t} z l) h = rw (has-append (member_slots ms) (slots_of t) s) (or-two (has (member_slots ms) s) _ (inside s l h))
inside s (unstopped z l) h = inside s l h

-- what is not the table's is not in the sheet
pub outside : {slots : List ℕ} {t : Tree} {es : List Entry} (s : ℕ) → Laid slots t es → has (slots_of t) s ≡ false → has (slots_held es) s ≡ false
outside s l h = is_false _ (λ e. true≢false (sym (inside s l e) ∙ h))

-- ---- two of many blocks are one, or have no slot in common

abbrev pub Disjoint : Member → Member → Type 0
Disjoint m k = (s : ℕ) → has (own_slots m) s ≡ true → has (own_slots k) s ≡ false

turn : (m k : Member) → Disjoint m k → Disjoint k m
turn m k d s h = is_false (has (own_slots m) s) (λ e. true≢false (sym h ∙ d s e))

front-later : (m k : Member) (ms : List Member) → disjoint (own_slots m) (member_slots ms) ≡ true → Among k ms → Disjoint m k
front-later m k ms d i s h =
    let z = apart-lists (own_slots m) (member_slots ms) s d h in
    is_false (has (own_slots k) s) (λ e. true≢false (sym (among-slots s i e) ∙ z))

pub one-or-apart : {m k : Member} {ms : List Member} → sole_members ms ≡ true → Among m ms → Among k ms → (m ≡ k) ⊎ Disjoint m k
unfolding sole_members
one-or-apart h front front = inl refl
one-or-apart h (front {m = m} {ms = ms}) (later {m = k} j) =
    inr (front-later m k ms (and_left (disjoint (own_slots m) (member_slots ms)) _ (and_right (distinct (own_slots m)) _ h)) j)
one-or-apart h (later {m = m} i) (front {m = k} {ms = ms}) =
    inr (turn k m (front-later k m ms (and_left (disjoint (own_slots k) (member_slots ms)) _ (and_right (distinct (own_slots k)) _ h)) i))
one-or-apart h (later {k = x} {ms = ms} i) (later j) =
    one-or-apart (and_right (disjoint (own_slots x) (member_slots ms)) _ (and_right (distinct (own_slots x)) _ h)) i j

-- ---- a block that has come does not come again

-- the slots of one block
pub own_held : {slots : List ℕ} {es : List Entry} (m : Member) (c : List ℕ) (s : ℕ) → Laid slots (chain m.inside c) es → has (slots_held es) s ≡ true → has (own_slots m) s ≡ true
unfolding own_slots has
own_held m c s l h = or-two (eqb m.slot s) _ (rw (chain-slots m.inside c) at (inside s l h))

pub not-again : {slots : List ℕ} {n a : Bool} {o c : List ℕ} {ms : List Member} {t : Tree} {ds : List Entry} (m : Member) (s : ℕ)
    → sole_members ms ≡ true → disjoint (member_slots ms) (slots_of t) ≡ true → Among m ms → has slots m.slot ≡ true → has (own_slots m) s ≡ true
    → Laid slots (group n a o c ms t) ds → has (slots_held ds) s ≡ false
unfolding slots_held has own_slots
not-again {slots = slots} {c = c} m s h d i q w (member {m = k} {es = es} {ds = ds} v j z l r) =
    let y : Disjoint m k = ⊎_elim (λ e. absurd (true≢false (sym q ∙ (rw e z)))) (λ y. y) (one-or-apart h i j) in
    let x = y s w in
    or-none (eqb k.slot s) _ (or_left (eqb k.slot s) _ x)
    (rw (has-held es ds s)
    (or-none (has (slots_held es) s) _ (is_false _ (λ e. true≢false (sym (own_held k c s l e) ∙ x)))
    (not-again m s h d i (come-more es (k.slot ∷ slots) m.slot (or-two (eqb k.slot m.slot) _ q)) w r)))
not-again m s h d i q w (done {ms = ms} {t = t} z l) = outside s l (apart-lists (member_slots ms) (slots_of t) s d (among-slots s i w))

-- ---- no slot comes twice

unfoldable pub Once : List Entry → Type 0
Once [] = Unit
Once (edge o ∷ es) = Once es
Once (item i k v ∷ es) = (has (slots_held es) i ≡ false) × Once es

pub once-append : (es ds : List Entry) → Once es → Once ds → ((s : ℕ) → has (slots_held es) s ≡ true → has (slots_held ds) s ≡ false) → Once (es ++ ds)
unfolding Once slots_held has
once-append [] ds h k f = k
once-append (edge o ∷ es) ds h k f = once-append es ds h k f
once-append (item i j v ∷ es) ds h k f = (
  rw (has-held es ds i) (or-none (has (slots_held es) i) _ h.0 (f i (or-one _ _ (eq-eqb i i refl)))),
  once-append es ds h.1 k (λ s e. f s (or-two (eqb i s) _ e)),
)

distinct-chain : (fs : List Field) (c : List ℕ) → distinct (field_slots fs) ≡ true → sole (chain fs c) ≡ true
unfolding distinct field_slots sole chain
distinct-chain [] c h = refl
distinct-chain (f ∷ fs) c h =
    rw (chain-slots fs c, and_left (not (has (field_slots fs) f.slot)) _ h) (distinct-chain fs c (and_right (not (has (field_slots fs) f.slot)) _ h))

pub own-distinct : {m : Member} {ms : List Member} → Among m ms → sole_members ms ≡ true → distinct (own_slots m) ≡ true
unfolding sole_members
own-distinct (front {m = m}) h = and_left (distinct (own_slots m)) _ h
own-distinct (later {k = k} {ms = ms} i) h = own-distinct i (and_right (disjoint (own_slots k) (member_slots ms)) _ (and_right (distinct (own_slots k)) _ h))

pub comes-once : {slots : List ℕ} {t : Tree} {es : List Entry} → Laid slots t es → sole t ≡ true → Once es
unfolding Once sole own_slots distinct has
comes-once shut h = tt
comes-once (given {f = f} v l) h = (outside f.slot l (not-true _ (and_left _ _ h)), comes-once l (and_right (not (has (slots_of _) f.slot)) _ h))
comes-once (absent {f = f} z l) h = comes-once l (and_right (not (has (slots_of _) f.slot)) _ h)
comes-once (opened {t = t} {u = u} {es = es} {ds = ds} l r) h =
    let k = and_right (disjoint (slots_of t) (slots_of u)) _ h in
    once-append es ds (comes-once l (and_left _ _ k)) (comes-once r (and_right (sole t) _ k))
    (λ s e. outside s r (apart-lists (slots_of t) (slots_of u) s (and_left _ _ h) (inside s l e)))
comes-once (passed {t = t} {u = u} z g r) h = comes-once r (and_right (sole t) _ (and_right (disjoint (slots_of t) (slots_of u)) _ h))
comes-once {slots = slots} (member {c = c} {ms = ms} {t = t} {m = m} {es = es} {ds = ds} v i z l r) h =
    let sm = and_left (sole_members ms) _ h in
    let dj = and_left (disjoint (member_slots ms) (slots_of t)) _ (and_right (sole_members ms) _ h) in
    let own = own-distinct i sm in
    let ne = not-true (has (field_slots m.inside) m.slot) (and_left (not (has (field_slots m.inside) m.slot)) _ own) in
    let again : (s : ℕ) → has (own_slots m) s ≡ true → has (slots_held ds) s ≡ false
    = λ s w. not-again m s sm dj i (come-more es (m.slot ∷ slots) m.slot (has-front m.slot slots)) w r in (
      rw (has-held es ds m.slot)
          (or-none (has (slots_held es) m.slot) _ (outside m.slot l (rw (chain-slots m.inside c) ne))
          (again m.slot (has-front m.slot (field_slots m.inside)))),
      once-append es ds (comes-once l (distinct-chain m.inside c (and_right (not (has (field_slots m.inside) m.slot)) _ own))) (comes-once r h)
          (λ s e. again s (own_held m c s l e)),
    )
comes-once (done {ms = ms} {t = t} z l) h = comes-once l (and_right (disjoint (member_slots ms) (slots_of t)) _ (and_right (sole_members ms) _ h))
comes-once (unstopped z l) h = comes-once l h

-- ---- and so each line has the value of its slot

pub own-values : (es : List Entry) → Once es → Fits (value_in es) es
unfolding Once Fits value_in slots_held has
own-values [] h = tt
own-values (edge o ∷ es) h = own-values es h
own-values (item i k v ∷ es) h = (rw (eq-eqb i i refl), more es h.0 (own-values es h.1))
  where
    more : (ds : List Entry) → has (slots_held ds) i ≡ false → Fits (value_in es) ds → Fits (λ s. cond (eqb i s) v (value_in es s)) ds
    more [] q f = tt
    more (edge o ∷ ds) q f = more ds q f
    more (item j l w ∷ ds) q f =
        let ne = ne_eqb i j (λ e. eqb-false j i (or_left (eqb j i) _ q) (sym e)) in
        (rw ne f.0, more ds (or_right (eqb j i) _ q) f.1)
