-- A table whose values stand together whatever they are, where all that must stand has one: a block that need not stand has one field and
-- is like none that follows, and blocks in any order have no mandatory field behind their first, and none at all where they need not all come.
-- Assumes nothing.
use Prim.Native.Nat.{ℕ}
use mathlib.Core.Path.{◌≡◌, refl, sym, ap, ◌∙◌}
use mathlib.Core.Bool.{Bool, true, false, ◌&&◌, ◌||◌, not, cond, true≢false}
use mathlib.Core.List.{List, [], ◌∷◌, ◌++◌}
use lib.Dec.{eqb}
use Rattle.text.proofs.Bools.{or_case, or-one, or-two}
use Rattle.text.proofs.Laws.{and_left, and_right, and_both}
use Rattle.sheets.specs.Trees.{Field, Member, Tree, last, line, block, group, barred}
use Rattle.sheets.specs.Sheets.{has}
use Rattle.sheets.specs.Slots.{field_slots, own_slots, member_slots, slots_of, first_slots, must_slots}
use Rattle.sheets.specs.Filled.{some, any_field, any_in, filled}
use Rattle.sheets.proofs.Checks.{whole, fits_line, avoids, begun, all_members, whole_members, complete, solid_fields, solid_members, solid}
use Rattle.sheets.proofs.Emits.{begun-line, has-front, clear_filled}
use Rattle.sheets.proofs.Once.{has-append}

-- ---- the test

-- a block of one field
unfoldable pub lone : Tree → Bool
lone (last c) = false
lone (line f (last c)) = true
lone (line f (line g t)) = false
lone (line f (block m o t u)) = false
lone (line f (group n a o c ms t)) = false
lone (line f (barred b t)) = false
lone (block m o t u) = false
lone (group n a o c ms t) = false
lone (barred b t) = false

-- the fields behind the first of one of many blocks, by whether each of these must come
unfoldable pub loose_fields : Bool → List Field → Bool
loose_fields n [] = true
loose_fields n (f ∷ fs) = (n && not f.must) && loose_fields n fs

unfoldable pub loose_members : Bool → List Member → Bool
loose_members n [] = true
loose_members n (m ∷ ms) = loose_fields n m.inside && loose_members n ms

unfoldable pub loose : Tree → Bool
loose (last c) = true
loose (line f t) = loose t
loose (block m o t u) = cond m (loose t) (lone t && avoids (whole o) u) && loose u
loose (group n a o c ms t) = loose_members n ms && loose t
loose (barred b t) = loose t

-- ---- what must stand is one of the slots

chosen : (b : Bool) (xs ys zs ws : List ℕ) (s : ℕ) → (has xs s ≡ true → has zs s ≡ true) → (has ys s ≡ true → has ws s ≡ true)
    → has (cond b (xs ++ ys) ys) s ≡ true → has (zs ++ ws) s ≡ true
chosen b xs ys zs ws s f g h = has-append zs ws s ∙ go b h
  where
    go : (b : Bool) → has (cond b (xs ++ ys) ys) s ≡ true → (has zs s || has ws s) ≡ true
    go true k = or_case (has xs s) (has ys s) (sym (has-append xs ys s) ∙ k) (λ e. or-one (has zs s) _ (f e)) (λ e. or-two (has zs s) _ (g e))
    go false k = or-two (has zs s) _ (g k)

firsts : (ms : List Member) (s : ℕ) → has (first_slots ms) s ≡ true → has (member_slots ms) s ≡ true
unfolding first_slots member_slots own_slots has
firsts [] s h = h
firsts (m ∷ ms) s h =
    or_case (eqb m.slot s) (has (first_slots ms) s) h
    (λ e. or-one (eqb m.slot s) _ e)
    (λ e. or-two (eqb m.slot s) _ (has-append (field_slots m.inside) (member_slots ms) s ∙ or-two (has (field_slots m.inside) s) _ (firsts ms s e)))

pub must-slots : (t : Tree) (s : ℕ) → has (must_slots t) s ≡ true → has (slots_of t) s ≡ true
unfolding must_slots slots_of
must-slots (last c) s h = h
must-slots (line f t) s h = chosen f.must (f.slot ∷ []) (must_slots t) (f.slot ∷ []) (slots_of t) s (λ e. e) (must-slots t s) h
must-slots (block m o t u) s h = chosen m (must_slots t) (must_slots u) (slots_of t) (slots_of u) s (must-slots t s) (must-slots u s) h
must-slots (group n a o c ms t) s h = chosen n (first_slots ms) (must_slots t) (member_slots ms) (slots_of t) s (firsts ms s) (must-slots t s) h
must-slots (barred b t) s h = must-slots t s h

-- ---- values, where what must stand has one

module _ (v : ℕ → List ℕ) where
  abbrev Stands : List ℕ → Type 0
  Stands ss = (s : ℕ) → has ss s ≡ true → some (v s) ≡ true

  -- of what is chosen, both; and where nothing is, the rest
  stands-rest : (b : Bool) (xs ys : List ℕ) → Stands (cond b (xs ++ ys) ys) → Stands ys
  stands-rest true xs ys h s e = h s (has-append xs ys s ∙ or-two (has xs s) _ e)
  stands-rest false xs ys h s e = h s e

  stands-first : (xs ys : List ℕ) → Stands (xs ++ ys) → Stands xs
  stands-first xs ys h s e = h s (has-append xs ys s ∙ or-one (has xs s) _ e)

  -- ---- fields and blocks in any order

  fields-solid : (n : Bool) (fs : List Field) → loose_fields n fs ≡ true → solid_fields v fs ≡ true
  unfolding loose_fields solid_fields
  fields-solid n [] h = refl
  fields-solid n (f ∷ fs) h =
      and_both (or-one (not f.must) _ (and_right n _ (and_left (n && not f.must) _ h))) (fields-solid n fs (and_right (n && not f.must) _ h))

  no_fields : (fs : List Field) → loose_fields false fs ≡ true → any_field v fs ≡ false
  unfolding loose_fields any_field
  no_fields [] h = refl
  no_fields (f ∷ fs) h = absurd (true≢false (sym h))

  members-solid : (n : Bool) (ms : List Member) → loose_members n ms ≡ true → solid_members v ms ≡ true
  unfolding loose_members solid_members
  members-solid n [] h = refl
  members-solid n (m ∷ ms) h =
      and_both (or-two (not (some (v m.slot))) _ (fields-solid n m.inside (and_left _ _ h))) (members-solid n ms (and_right (loose_fields n m.inside) _ h))

  members-whole : (n : Bool) (ms : List Member) → loose_members n ms ≡ true → (n ≡ true → Stands (first_slots ms)) → ((not n || all_members v ms) && whole_members v ms) ≡ true
  unfolding loose_members all_members whole_members first_slots
  members-whole true ms h k = come ms (k refl)
    where
      come : (ms : List Member) → Stands (first_slots ms) → (all_members v ms && whole_members v ms) ≡ true
      come [] k = refl
      come (m ∷ ms) k =
          let e = k m.slot (has-front m.slot (first_slots ms)) in
          rw (e) (come ms (λ s i. k s (has-append (m.slot ∷ []) (first_slots ms) s ∙ or-two (has (m.slot ∷ []) s) _ i)))
  members-whole false [] h k = refl
  members-whole false (m ∷ ms) h k =
      and_both (or-two (some (v m.slot)) _ (ap not (no_fields m.inside (and_left _ _ h)))) (members-whole false ms (and_right (loose_fields false m.inside) _ h) (λ e. absurd (true≢false (sym e))))

  -- ---- a block that need not stand

  lone-stands : (t : Tree) → lone t ≡ true → (complete v t ≡ true) × ((not (any_in v t) || solid v t) ≡ true)
  unfolding lone complete solid any_in
  lone-stands (last c) h = absurd (true≢false (sym h))
  lone-stands (line f (last c)) h = (refl, go (some (v f.slot)) f.must)
    where
      go : (b m : Bool) → (not (b || false) || ((not m || b) && true)) ≡ true
      go true true = refl
      go true false = refl
      go false m = refl
  lone-stands (line f (line g t)) h = absurd (true≢false (sym h))
  lone-stands (line f (block m o t u)) h = absurd (true≢false (sym h))
  lone-stands (line f (group n a o c ms t)) h = absurd (true≢false (sym h))
  lone-stands (line f (barred b t)) h = absurd (true≢false (sym h))
  lone-stands (block m o t u) h = absurd (true≢false (sym h))
  lone-stands (group n a o c ms t) h = absurd (true≢false (sym h))
  lone-stands (barred b t) h = absurd (true≢false (sym h))

  -- where its first line is none that follows, none does
  pub none-begun : (o : List ℕ) (u : Tree) → avoids (whole o) u ≡ true → begun o (filled v u) ≡ false
  unfolding fits_line
  none-begun o u h = begun-line o (filled v u) (clear_filled v (whole o) u h)

  -- ---- the whole

  pub stand-together : (t : Tree) → Stands (must_slots t) → loose t ≡ true → (complete v t ≡ true) × (solid v t ≡ true)
  unfolding loose complete solid must_slots
  stand-together (last c) k h = (refl, refl)
  stand-together (line f t) k h =
      let (a, b) = stand-together t (stands-rest f.must (f.slot ∷ []) (must_slots t) k) h in
      (a, and_both (go f.must refl) b)
    where
      go : (m : Bool) → f.must ≡ m → (not m || some (v f.slot)) ≡ true
      go true e = k f.slot (rw e (has-front f.slot (must_slots t)))
      go false e = refl
  stand-together (block true o t u) k h =
      let (a, b) = stand-together t (stands-first (must_slots t) (must_slots u) k) (and_left _ _ h) in
      let (c, d) = stand-together u (stands-rest true (must_slots t) (must_slots u) k) (and_right (loose t) _ h) in
      (and_both a c, and_both b d)
  stand-together (block false o t u) k h =
      let l = and_left (lone t && avoids (whole o) u) _ h in
      let (a, b) = lone-stands t (and_left (lone t) _ l) in
      let (c, d) = stand-together u k (and_right (lone t && avoids (whole o) u) _ h) in (
        and_both (or-two (not (any_in v t)) _ a) (and_both (or-two (any_in v t) _ (ap not (none-begun o u (and_right (lone t) _ l)))) c),
        and_both b d,
      )
  stand-together (group n a o c ms t) k h =
      let (x, y) = stand-together t (stands-rest n (first_slots ms) (must_slots t) k) (and_right (loose_members n ms) _ h) in
      let w = members-whole n ms (and_left _ _ h) (λ e. stands-first (first_slots ms) (must_slots t) (rw e at k)) in
      (and_both (and_left (not n || all_members v ms) _ w) (and_both (and_right (not n || all_members v ms) _ w) x), and_both (members-solid n ms (and_left _ _ h)) y)
  stand-together (barred b t) k h = stand-together t k h
