-- The places that a reading keeps for the slots. No slot comes twice in a sheet, so that the place which is kept last for a slot is
-- that of the first line that was taken for it; and none is both a line's of the header and of the sheet.
-- Assumes nothing.
use Prim.Native.Nat.{ℕ, zero, suc, ◌+◌, ◌-◌, ◌<◌}
use mathlib.Core.Path.{◌≡◌, refl, sym, ap, ◌∙◌}
use mathlib.Core.Bool.{Bool, true, false, ◌||◌, not, cond, true≢false}
use mathlib.Core.List.{List, [], ◌∷◌}
use native.Mathlib.Nat.{not-suc-le-zero, le_of_suc-le-suc, add-zero, zero-add}
use native.Mathlib.Omega.{arith}
use lib.Dec.{eqb}
use lib.ListN.{length, get_or, set, length-set}
use lib.Seq.{get_or-set_same, get_or-set_other}
use borrow.Author.Tests.{eqb-true, eqb-false, not-true}
use Rattle.text.proofs.Laws.{and_left, and_right}
use Rattle.text.proofs.Bools.{or-two, or_left, or_right}
use Rattle.lines.specs.Lines.{start_behind, end_of}
use Rattle.forms.specs.Forms.{Slot}
use Rattle.layout.specs.Layout.{Taken}
use Rattle.sheets.specs.Sheets.{Entry, edge, item, has}
use Rattle.sheets.proofs.Accepts.{taken_on}
use Rattle.sheets.proofs.Checks.{distinct}
use Rattle.sheets.proofs.Emits.{has-front}
use Rattle.sheets.proofs.Once.{slots_held, Once}
use Rattle.search.specs.Search.{taken_for}
use Rattle.walk.specs.Walk.{starts_of, ends_of}
use Rattle.reader.specs.Header.{starts_from, ends_from}

-- ---- one place

other_place : (l : List ℕ) (i s x : ℕ) → eqb i s ≡ false → get_or (set l i x) s 0 ≡ get_or l s 0
other_place l i s x h = get_or-set_other l i s x 0 (λ e. eqb-false i s h (sym e))

same_place : (l : List ℕ) (i s x : ℕ) → eqb i s ≡ true → s < length l → get_or (set l i x) s 0 ≡ x
same_place l i s x h k = rw (eqb-true i s h) (get_or-set_same l s x 0 k)

-- ---- places kept for the lines of a sheet, by any rule

placed : (Taken → ℕ) → List ℕ → List Taken → List ℕ
placed place l [] = l
placed place l (t ∷ ts) = placed place (set l t.slot (place t)) ts

module _ (slot_of : ℕ → Slot) (m : List ℕ) where
  abbrev begun_on : Taken → ℕ
  begun_on t = end_of m t.line - length t.value + length (slot_of t.slot).fixed

  starts-placed : (ts : List Taken) (l : List ℕ) → starts_of slot_of m l ts ≡ placed begun_on l ts
  unfolding starts_of placed
  starts-placed [] l = refl
  starts-placed (t ∷ ts) l = starts-placed ts _

  ends-placed : (ts : List Taken) (l : List ℕ) → ends_of m l ts ≡ placed (λ t. end_of m t.line) l ts
  unfolding ends_of placed
  ends-placed [] l = refl
  ends-placed (t ∷ ts) l = ends-placed ts _

module _ (place : Taken → ℕ) (s : ℕ) where
  -- a slot that a sheet does not have keeps the place that it had
  placed-none : (es : List Entry) (n : ℕ) (l : List ℕ) → has (slots_held es) s ≡ false → get_or (placed place l (taken_on n es)) s 0 ≡ get_or l s 0
  unfolding placed taken_on slots_held has
  placed-none [] n l h = refl
  placed-none (edge o ∷ es) n l h = placed-none es (suc n) l h
  placed-none (item i k v ∷ es) n l h = placed-none es (suc n) _ (or_right (eqb i s) _ h) ∙ other_place l i s _ (or_left (eqb i s) _ h)

  -- and a slot that it has keeps that of its line
  placed_one : (es : List Entry) (n : ℕ) (l : List ℕ) → Once es → s < length l → has (slots_held es) s ≡ true
      → get_or (placed place l (taken_on n es)) s 0 ≡ place (taken_for s (taken_on n es))
  unfolding placed taken_on taken_for slots_held has Once
  placed_one [] n l o k h = absurd (true≢false (sym h))
  placed_one (edge e ∷ es) n l o k h = placed_one es (suc n) l o k h
  placed_one (item i e v ∷ es) n l o k h =
      let this : Taken = record { slot = i; line = n; value = v } in
      go this (eqb i s) refl h (placed_one es (suc n) (set l i (place this)) o.1 (rw length-set k))
    where
      go : (this : Taken) (b : Bool) → eqb i s ≡ b → (b || has (slots_held es) s) ≡ true
          → (has (slots_held es) s ≡ true → get_or (placed place (set l i (place this)) (taken_on (suc n) es)) s 0 ≡ place (taken_for s (taken_on (suc n) es)))
          → get_or (placed place (set l i (place this)) (taken_on (suc n) es)) s 0 ≡ place (cond b this (taken_for s (taken_on (suc n) es)))
      go this true q u ih =
          let none : has (slots_held es) s ≡ false = rw (eqb-true i s q) at o.0 in
          placed-none es (suc n) _ none ∙ same_place l i s (place this) q k
      go this false q u ih = ih u

-- the line of a slot that a sheet has
taken-slot : (s : ℕ) (es : List Entry) (n : ℕ) → has (slots_held es) s ≡ true → (taken_for s (taken_on n es)).slot ≡ s
unfolding taken_on taken_for slots_held has
taken-slot s [] n h = absurd (true≢false (sym h))
taken-slot s (edge o ∷ es) n h = taken-slot s es (suc n) h
taken-slot s (item i e x ∷ es) n h = go (eqb i s) refl h (taken-slot s es (suc n))
  where
    go : (b : Bool) → eqb i s ≡ b → (b || has (slots_held es) s) ≡ true → (has (slots_held es) s ≡ true → (taken_for s (taken_on (suc n) es)).slot ≡ s)
        → (cond b (record { slot = i; line = n; value = x }) (taken_for s (taken_on (suc n) es))).slot ≡ s
    go true q u ih = eqb-true i s q
    go false q u ih = ih u

module _ (slot_of : ℕ → Slot) (m : List ℕ) (s : ℕ) (es : List Entry) (n : ℕ) (l : List ℕ) where
  pub starts_none : has (slots_held es) s ≡ false → get_or (starts_of slot_of m l (taken_on n es)) s 0 ≡ get_or l s 0
  starts_none h = rw (starts-placed slot_of m (taken_on n es) l) (placed-none _ s es n l h)

  pub ends-none : has (slots_held es) s ≡ false → get_or (ends_of m l (taken_on n es)) s 0 ≡ get_or l s 0
  ends-none h = rw (ends-placed slot_of m (taken_on n es) l) (placed-none _ s es n l h)

  module _ (o : Once es) (k : s < length l) (h : has (slots_held es) s ≡ true) where
    abbrev line : Taken
    line = taken_for s (taken_on n es)

    pub starts-one : get_or (starts_of slot_of m l (taken_on n es)) s 0 ≡ end_of m line.line - length line.value + length (slot_of s).fixed
    starts-one =
        rw (starts-placed slot_of m (taken_on n es) l)
        (placed_one _ s es n l o k h ∙ ap (λ (i : ℕ). end_of m line.line - length line.value + length (slot_of i).fixed) (taken-slot s es n h))

    pub ends-one : get_or (ends_of m l (taken_on n es)) s 0 ≡ end_of m line.line
    ends-one = rw (ends-placed slot_of m (taken_on n es) l) (placed_one _ s es n l o k h)

-- ---- places kept for the lines of a header, by any rule

headed : (ℕ → ℕ → ℕ) → ℕ → List ℕ → List ℕ → List ℕ
headed place n l [] = l
headed place n l (h ∷ hs) = headed place (suc n) (set l h (place n h)) hs

module _ (slot_of : ℕ → Slot) (m : List ℕ) where
  starts-headed : (hs : List ℕ) (n : ℕ) (l : List ℕ) → starts_from slot_of m n l hs ≡ headed (λ i h. start_behind m i + length (slot_of h).fixed) n l hs
  unfolding starts_from headed
  starts-headed [] n l = refl
  starts-headed (h ∷ hs) n l = starts-headed hs (suc n) _

  ends-headed : (hs : List ℕ) (n : ℕ) (l : List ℕ) → ends_from m n l hs ≡ headed (λ i h. end_of m (suc i)) n l hs
  unfolding ends_from headed
  ends-headed [] n l = refl
  ends-headed (h ∷ hs) n l = ends-headed hs (suc n) _

-- the slot of a line is one of the header's
pub has-at : (hs : List ℕ) (j : ℕ) → j < length hs → has hs (get_or hs j 0) ≡ true
unfolding has
has-at [] j h = absurd (not-suc-le-zero h)
has-at (x ∷ hs) zero h = has-front x hs
has-at (x ∷ hs) (suc j) h = or-two (eqb x (get_or hs j 0)) _ (has-at hs j (le_of_suc-le-suc h))

module _ (place : ℕ → ℕ → ℕ) where
  -- a slot that is none of its own keeps the place that it had
  headed-none : (hs : List ℕ) (n : ℕ) (l : List ℕ) (s : ℕ) → has hs s ≡ false → get_or (headed place n l hs) s 0 ≡ get_or l s 0
  unfolding headed has
  headed-none [] n l s h = refl
  headed-none (x ∷ hs) n l s h = headed-none hs (suc n) _ s (or_right (eqb x s) _ h) ∙ other_place l x s _ (or_left (eqb x s) _ h)

  -- and a slot of its own keeps that of its line
  headed-one : (hs : List ℕ) (j n : ℕ) (l : List ℕ) → distinct hs ≡ true → j < length hs → get_or hs j 0 < length l
      → get_or (headed place n l hs) (get_or hs j 0) 0 ≡ place (n + j) (get_or hs j 0)
  unfolding headed distinct
  headed-one [] j n l d h k = absurd (not-suc-le-zero h)
  headed-one (x ∷ hs) zero n l d h k =
      headed-none hs (suc n) _ x (not-true (has hs x) (and_left (not (has hs x)) (distinct hs) d)) ∙ get_or-set_same l x _ 0 k
      ∙ ap (λ (i : ℕ). place i x) (sym (add-zero n))
  headed-one (x ∷ hs) (suc j) n l d h k =
      headed-one hs j (suc n) (set l x (place n x)) (and_right (not (has hs x)) _ d) (le_of_suc-le-suc h) (rw length-set k)
      ∙ ap (λ (i : ℕ). place i (get_or hs j 0)) (omega arith)

  headed-at : (hs : List ℕ) (j : ℕ) (l : List ℕ) → distinct hs ≡ true → j < length hs → get_or hs j 0 < length l
      → get_or (headed place 0 l hs) (get_or hs j 0) 0 ≡ place j (get_or hs j 0)
  headed-at hs j l d h k = headed-one hs j 0 l d h k ∙ ap (λ (i : ℕ). place i (get_or hs j 0)) (zero-add j)

module _ (slot_of : ℕ → Slot) (m : List ℕ) (hs l : List ℕ) where
  pub head-starts-none : (s : ℕ) → has hs s ≡ false → get_or (starts_from slot_of m 0 l hs) s 0 ≡ get_or l s 0
  head-starts-none s h = rw (starts-headed slot_of m hs 0 l) (headed-none _ hs 0 l s h)

  pub head-ends-none : (s : ℕ) → has hs s ≡ false → get_or (ends_from m 0 l hs) s 0 ≡ get_or l s 0
  head-ends-none s h = rw (ends-headed slot_of m hs 0 l) (headed-none _ hs 0 l s h)

  module _ (j : ℕ) (d : distinct hs ≡ true) (h : j < length hs) (k : get_or hs j 0 < length l) where
    pub head-starts-one : get_or (starts_from slot_of m 0 l hs) (get_or hs j 0) 0 ≡ start_behind m j + length (slot_of (get_or hs j 0)).fixed
    head-starts-one = rw (starts-headed slot_of m hs 0 l) (headed-at _ hs j l d h k)

    pub head-ends-one : get_or (ends_from m 0 l hs) (get_or hs j 0) 0 ≡ end_of m (suc j)
    head-ends-one = rw (ends-headed slot_of m hs 0 l) (headed-at _ hs j l d h k)
