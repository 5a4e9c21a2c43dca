-- A table filled in holds no empty value, where what must stand has one.
-- Assumes nothing.
use Prim.Native.Nat.{ℕ}
use mathlib.Core.Path.{◌≡◌, refl}
use mathlib.Core.Bool.{Bool, true, false, ◌||◌, not}
use mathlib.Core.List.{List, [], ◌∷◌, ◌++◌}
use Rattle.text.proofs.Bools.{of-both}
use Rattle.text.proofs.Laws.{and_left, and_right, and_both}
use Rattle.sheets.specs.Trees.{Field, Member, Tree, last, line, block, group, barred}
use Rattle.sheets.specs.Sheets.{Entry, edge, item}
use Rattle.sheets.specs.Filled.{some, any_in, filled_fields, filled_members, filled}
use Rattle.sheets.proofs.Checks.{full, solid_fields, solid_members, solid}

full-append : (es ds : List Entry) → full es ≡ true → full ds ≡ true → full (es ++ ds) ≡ true
unfolding full
full-append [] ds h k = k
full-append (edge o ∷ es) ds h k = full-append es ds h k
full-append (item i j v ∷ es) ds h k = and_both {a = some v} (and_left (some v) _ h) (full-append es ds (and_right (some v) _ h) k)

-- what stands has a value
stands-some : (m b : Bool) → (not m || b) ≡ true → (m || b) ≡ true → b ≡ true
stands-some true b h k = h
stands-some false b h k = k

module _ (value : ℕ → List ℕ) where
  full-fields : (fs : List Field) (c : List ℕ) → solid_fields value fs ≡ true → full (filled_fields value fs c) ≡ true
  unfolding filled_fields solid_fields full
  full-fields [] c h = refl
  full-fields (f ∷ fs) c h =
      let k = not f.must || some (value f.slot) in
      let r = full-fields fs c (and_right k _ h) in
      of-both (λ es. full es ≡ true) (f.must || some (value f.slot))
      (λ e. and_both {a = some (value f.slot)} (stands-some f.must _ (and_left k _ h) e) r) (λ e. r)

  full-members : (o c : List ℕ) (ms : List Member) → solid_members value ms ≡ true → full (filled_members value o c ms) ≡ true
  unfolding filled_members solid_members full
  full-members o c [] h = refl
  full-members o c (m ∷ ms) h =
      let k = not (some (value m.slot)) || solid_fields value m.inside in
      let r = full-members o c ms (and_right k _ h) in
      of-both (λ es. full es ≡ true) (some (value m.slot))
      (λ e. and_both {a = some (value m.slot)} e
      (full-append (filled_fields value m.inside c) _ (full-fields m.inside c (rw e at (and_left k _ h))) r))
      (λ e. r)

  pub full-filled : (t : Tree) → solid value t ≡ true → full (filled value t) ≡ true
  unfolding filled solid full
  full-filled (last c) h = refl
  full-filled (line f t) h =
      let k = not f.must || some (value f.slot) in
      let r = full-filled t (and_right k _ h) in
      of-both (λ es. full es ≡ true) (f.must || some (value f.slot))
      (λ e. and_both {a = some (value f.slot)} (stands-some f.must _ (and_left k _ h) e) r) (λ e. r)
  full-filled (block m o t u) h =
      let k = not (m || any_in value t) || solid value t in
      let r = full-filled u (and_right k _ h) in
      of-both (λ es. full es ≡ true) (m || any_in value t)
      (λ e. full-append (filled value t) (filled value u) (full-filled t (rw e at (and_left k _ h))) r) (λ e. r)
  full-filled (group n a o c ms t) h =
      full-append (filled_members value o c ms) (filled value t) (full-members o c ms (and_left _ _ h)) (full-filled t (and_right (solid_members value ms) _ h))
  full-filled (barred b t) h = full-filled t h
